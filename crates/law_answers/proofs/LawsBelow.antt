-- What the laws below know of a world of a legal history, whatever front of it leads there.
use Rattle.law_answers.proofs.Imports.{AreSteps, Ground, IsSound, IsSteady, List, Record, Script, Setting, State, World, after, chosen_log, firm_in}
use Rattle.law_answers.proofs.Imports.{footing_after, log_steady, prefix_itself, run_of, setting_in, setting_of, start, state_after, world_after}

-- a world with what is known of it, at a steady state from what is chosen on
pub record Stands (setting : Setting) (w : World) : Type 0 where
  pub state : State
  pub steady : IsSteady state
  pub ground : Ground setting state w

pub stands_after : (script : Script) (records : List Record) → IsSound script → AreSteps script records
    → Stands (setting_of script) (world_after (setting_of script) (start (setting_of script)) records)
stands_after script records sound legal =
    let run = run_of script sound records legal in
    let whole = chosen_log (setting_in run) (after run) in
    let plain = (firm_in run).plain in
    let f = footing_after run whole plain (prefix_itself whole) in
    record { state = state_after script.servers whole; steady = log_steady script.servers whole plain; ground = f.footing.ground }

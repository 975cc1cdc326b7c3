-- Each command of the chosen log that carries a request out was asked for: it is that of a line.
use Rattle.law_answers.proofs.Imports.{◌+◌, ◌∙◌, ◌≡◌, AreSteps, Caught, Command, Drained, IsOfLives, IsSound, Join, Leave, Line, List, Moved, Record, Request}
use Rattle.law_answers.proofs.Imports.{Script, Setting, Some, WasWanted, World, ap, asker, chosen_is_called_for, chosen_log, command_of, inl, inr, lines_of}
use Rattle.law_answers.proofs.Imports.{none_some, refl, same_some, setting_of, slice_get, start, subst, sym, world_after, ℕ}
use Rattle.law_answers.specs.AskedCommands.{IsAsked, AreAsked}
use Rattle.script_lines.specs.declared.request.Request.TheVariants as request

-- the command of a request names its client and number
pub asker_of : (client seq : ℕ) (asked : Request) (command : Command) → command_of client seq asked ≡ Some command → asker command ≡ Some (client, seq)
asker_of client seq (request.Disk name tuple) command own = ap asker (sym (same_some own))
asker_of client seq (request.Snap name snap) command own = ap asker (sym (same_some own))
asker_of client seq (request.Move name tuple) command own = ap asker (sym (same_some own))
asker_of client seq _ command own = none_some refl own

-- so a line whose command names this client and number is the one that asks for it
line_asks : (lines : List Line) (client before c seq : ℕ) (line : Line) (command : Command) → slice_get (lines_of lines client) before ≡ Some line
    → command_of client (before + 1) line.request ≡ Some command → asker command ≡ Some (c, seq) → IsAsked lines c seq command
line_asks lines client before c seq line command is own named =
    let same = same_some (sym (asker_of client (before + 1) line.request command own) ∙ named) in
    subst (λ (x : ℕ × ℕ). IsAsked lines x.0 x.1 command) same (record { before = before; line = line; is = is; seq_is = refl; own = own })

-- no server's own command carries a request out
not_of_lives : {B : Type 0} (w : World) (command : Command) (c seq : ℕ) → IsOfLives w command → asker command ≡ Some (c, seq) → B
not_of_lives w (Leave server inc) c seq h named = none_some refl named
not_of_lives w (Join server inc blank) c seq h named = none_some refl named
not_of_lives w _ c seq h named = absurd h

not_wanted : {B : Type 0} (setting : Setting) (w : World) (command : Command) (c seq : ℕ) → WasWanted setting w command → asker command ≡ Some (c, seq) → B
not_wanted setting w (Caught of link holder inc other other_inc) c seq h named = none_some refl named
not_wanted setting w (Drained server inc fence) c seq h named = none_some refl named
not_wanted setting w (Moved of region link) c seq h named = none_some refl named
not_wanted setting w _ c seq h named = absurd h.is

pub commands_are_asked : (script : Script) (records : List Record) → IsSound script → AreSteps script records
    → AreAsked script.lines (chosen_log (setting_of script) (world_after (setting_of script) (start (setting_of script)) records))
commands_are_asked script records sound legal c seq command named there =
    let w = world_after (setting_of script) (start (setting_of script)) records in
    elim (chosen_is_called_for script records sound legal command there) [
      | inr wanted ↦ not_wanted (setting_of script) w command c seq wanted named
      | inl called ↦ elim called [
        | inr lives ↦ not_of_lives w command c seq lives named
        | inl r ↦ elim r.so [
          | inl own ↦ line_asks script.lines r.client r.before c seq r.line command r.is own named
          | inr witness ↦ none_some refl (sym (ap asker witness.1) ∙ named)
        ]
      ]
    ]

-- The names that this crate takes from others, in one place.
pub use Rattle.law_state.specs.Imports.{Record, Server, Setting, World, state_after}
unfoldable pub use Rattle.law_state.specs.Imports.{In}
pub use Rattle.law_steps.specs.Imports.{Acted, Actor, Asked, Blank, Boot, Client, Letter, Line, Reaction, Step, Work, letters_of, lines_of, next_line, stepped}
pub use Rattle.script_lines.specs.Requests.{names}
pub use Rattle.script_lines.specs.declared.script.Script.{Script}
pub use Rattle.spec_history.specs.Controls.{Errand, Obeys, ObeysAs, errand_after, errand_of, no_errand, served}
pub use Rattle.spec_history.specs.Failures.{ComeTo}
pub use Rattle.spec_history.specs.Steps.{InPhase}
pub use Rattle.spec_rules.specs.Clients.{client_sender}
pub use Rattle.spec_rules.specs.Jobs.{operator}
unfoldable pub use Rattle.spec_rules.specs.Lists.{put_at}
pub use Rattle.spec_rules.specs.Log.{state_in}
pub use Rattle.spec_rules.specs.Plans.{Armed, unarmed}
pub use Rattle.spec_rules.specs.State.{is_the}
pub use Rattle.spec_rules.specs.World.{Blanked, Blanks, Booted, Boots, Deed, IsAnswered, IsFree, IsOpenLine, MayGlance, Stopped, Stops, client_step}
pub use Rattle.spec_rules.specs.World.{greatest_u32, greatest_u64, is_spent_server, received, round_of, server_step, setting_of, stamped, start, turn_of}
pub use Rattle.spec_rules.specs.declared.step.Step.TheVariants.{Arm, Call, Deliver, Glance, Stop, StopIn, Tick}

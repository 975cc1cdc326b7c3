-- The names that this crate takes from others, in one place.
pub use Rattle.law_state.specs.Imports.{Record, Setting, World}
unfoldable pub use Rattle.law_state.specs.Imports.{In}
pub use Rattle.law_state.proofs.Imports.{[], if◌then◌else◌, ◌++◌, ◌<◌, ◌==◌, ◌∙◌, ◌∷◌, ◌≡◌, ◌≢◌, ◌≤◌, ◌⊎◌, Bool, List, None, Option, Some, ap, arith, by_bool}
pub use Rattle.law_state.proofs.Imports.{drop, false, in_former, in_later, inl, inr, none_some, number_itself, refl, same_numbers, same_or_apart, same_some}
pub use Rattle.law_state.proofs.Imports.{slice_get, subst, sym, true, true_false, ℕ}
pub use Rattle.law_steps.specs.Imports.{Actor, Answer, Asked, Blank, Body, Boot, Client, Letter, Line, Reaction, Step, Work, lines_of, next_line, stepped}
pub use Rattle.law_steps.proofs.Imports.{AreSteps, AreStepsFrom, Arm, Call, Deliver, Follows, Glance, MayActor, MayClient, MayServer, Script, Stop, StopIn}
pub use Rattle.law_steps.proofs.Imports.{Tick, client_state, client_step, put_apart, put_same, setting_of, start, steps_begin, world_after}
unfoldable pub use Rattle.law_steps.proofs.Imports.{put_at, step}
pub use Rattle.law_merge.specs.Imports.{Armed, ComeTo, Deed, Errand, IsAnswered, Obeys, ObeysAs, errand_after, errand_of, no_errand, operator, served, unarmed}
pub use Rattle.std.proofs.lemmas.Bool.{cases_lt}
pub use Rattle.law_copies.proofs.ChainsRise.{in_kept}
pub use Rattle.law_state.proofs.ListLookups.{get_in}
pub use Rattle.law_steps.proofs.ClientStepKinds.{client_turns, is_call}
pub use Rattle.law_steps.specs.DidClient.{StaysOpen, Turned}
pub use Rattle.spec_history.specs.Controls.{IsLeftAlone, ObeyFrom, ObeysGlance, errand_along, with_given}
pub use Rattle.spec_history.specs.Failures.{UsesAt, UsesWhere}
pub use Rattle.spec_history.specs.Steps.{CallsInPhase}
pub use Rattle.spec_rules.specs.World.{Control, MayStep, controls, next_stamp, with_answer}

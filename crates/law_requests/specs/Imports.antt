-- The names that this crate takes from others, in one place.
pub use Rattle.law_state.specs.Imports.{Cell, Command, DiskView, Drained, IsPrefix, PairState, Setting, State, World, cell_asked, chosen_log, chosen_state}
pub use Rattle.law_state.specs.Imports.{find, held, is_in, is_lead, is_writes_held, state_after}
unfoldable pub use Rattle.law_state.specs.Imports.{In, at}
pub use Rattle.law_steps.specs.Imports.{Actor, Asked, Body, Client, Letter, Line, Pattern, Pending, Wanted, cell_cmp, coming, epoch_for, is_alone_on, lead}
pub use Rattle.law_steps.specs.Imports.{pattern_block, server_state}
pub use Rattle.law_state.specs.Epochs.{epoch_at}
pub use Rattle.law_steps.specs.DidClient.{line_by}
pub use Rattle.law_steps.specs.Operations.{done_to}
pub use Rattle.spec_rules.specs.Writes.{is_clients}

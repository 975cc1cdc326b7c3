-- The names that this crate takes from others, in one place.
pub use Rattle.law_state.specs.Imports.{Cell, Command, IsPrefix, LinkRow, Moved, PairState, Setting, State, World, cell_link, chosen_log, chosen_state, is_in}
pub use Rattle.law_state.specs.Imports.{link_cmp, region_of, source, state_after, target}
unfoldable pub use Rattle.law_state.specs.Imports.{In, at}
pub use Rattle.law_steps.specs.Imports.{Key, Letter, Pending, cell_cmp, cell_of, chain_in, id_of, key_at, stage_at}
pub use Rattle.law_jobs.specs.Imports.{Chain}
pub use Rattle.law_copies.specs.Imports.{is_clients}
pub use Rattle.law_state.specs.LaterStates.{IsServing}
pub use Rattle.spec_history.specs.Claims.{HasNewer, IsFilledFrom}
pub use Rattle.spec_rules.specs.Fills.{comes_before, comes_next, keys_in}
pub use Rattle.spec_rules.specs.State.{is_on}
pub use Rattle.spec_rules.specs.World.{kept}

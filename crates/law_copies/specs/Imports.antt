-- The names that this crate takes from others, in one place.
pub use Rattle.law_state.specs.Imports.{Both, Cell, Command, IsPrefix, LinkRow, Only, PairState, Record, Server, Setting, State, World, cell_link, chosen_log}
pub use Rattle.law_state.specs.Imports.{has_server, is_in, other_of, places_from, serves, start, state_after, tuple_of}
unfoldable pub use Rattle.law_state.specs.Imports.{In, at}
pub use Rattle.law_steps.specs.Imports.{Body, Busy, Copying, JobContext, JobResult, Key, LastCopy, LastOp, Letter, MarkKind, Pending, Post, Stale, Stored}
pub use Rattle.law_steps.specs.Imports.{Table, above, cell_at, cell_cmp, cell_of, chain_in, copying_on, epochs_beyond, epochs_of, has_proposed, holder_of}
pub use Rattle.law_steps.specs.Imports.{id_of, last_copy, last_on, live, pending_on, progress_on, server_state, stage_at, subject_of}
pub use Rattle.law_jobs.specs.Imports.{Chain, is_marked, progress}
pub use Rattle.global_tables.specs.Region.{link_of}
pub use Rattle.law_log.specs.ProposedCommands.{WasStarted}
pub use Rattle.law_state.specs.StartedBallots.{is_flagged}
pub use Rattle.law_state.specs.Steady.{IsSteady}
pub use Rattle.law_steps.specs.DidStep.{is_between}
pub use Rattle.law_steps.specs.Operations.{AtRest}
pub use Rattle.law_steps.specs.Ready.{IsReady, IsRising}
pub use Rattle.law_steps.specs.RestingCopies.{AreResting}
pub use Rattle.petal_msg.specs.Kinds.{about}
pub use Rattle.spec_history.specs.Claims.{IsMarked, IsToBeCopied, one_put_ahead}
pub use Rattle.spec_history.specs.Steps.{world_after}
pub use Rattle.spec_rules.specs.Blanked.{kept_store}
pub use Rattle.spec_rules.specs.Log.{state_in}
pub use Rattle.spec_rules.specs.Progress.{no_progress}
pub use Rattle.spec_rules.specs.Server.{Pairs, no_copies, no_pairs}
pub use Rattle.spec_rules.specs.State.{needs_full_copy, primary, secondary}
pub use Rattle.spec_rules.specs.Store.{Store}
pub use Rattle.spec_rules.specs.World.{blank_joins_in, start as start_world, with_store}
pub use Rattle.spec_rules.specs.Writes.{is_clients}

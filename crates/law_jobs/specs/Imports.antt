-- The names that this crate takes from others, in one place.
pub use Rattle.law_state.specs.Imports.{Both, Cell, Command, IsPrefix, LinkId, LinkRow, PairState, Setting, World, cell_link, chosen_log, is_lead, state_after}
unfoldable pub use Rattle.law_state.specs.Imports.{In, at}
pub use Rattle.law_steps.specs.Imports.{Actor, Block, Body, Busy, Copying, Ending, Entry, Finished, JobContext, Key, LastCopy, LastOp, Letter, MarkKind}
pub use Rattle.law_steps.specs.Imports.{Moving, Named, Pending, Post, Stage, Stale, Stored, Table, Wanted, above, begins_copy, bytes_of, cell_at, cell_cmp}
pub use Rattle.law_steps.specs.Imports.{cell_holder, cell_of, chain_in, coming, copying_on, ended, entry_at, epochs_beyond, epochs_of, fill_operation, first}
pub use Rattle.law_steps.specs.Imports.{free_of, has_stored, holder_of, idle_blocks, in_both, is_alone_on, is_logged, is_second, key_at, last_copy}
pub use Rattle.law_steps.specs.Imports.{last_on, least, link_named, live, marked_blocks, old_lead, operation, origin_by, other_in, page_wanted}
pub use Rattle.law_steps.specs.Imports.{pending_on, progress_on, same_block, second, subject_of, with_copying, with_filled, with_full, with_last}
pub use Rattle.law_steps.specs.Imports.{with_last_copy, with_pending, without_copying, without_entry, without_mark_on, without_pending}
unfoldable pub use Rattle.law_steps.specs.Imports.{next_copy}
pub use Rattle.law_state.specs.Histories.{AreSteps, IsSound, Record, Script, setting_of, start, world_after}
pub use Rattle.law_steps.specs.Did.{IsBusy, IsHeldBack, IsRefusal}
pub use Rattle.law_steps.specs.DidFiller.{IsNextKey, filled_to}
pub use Rattle.law_steps.specs.DidHolder.{IsHeldWith, IsSynced, TakenCopy, first_copy}
pub use Rattle.law_steps.specs.DidLead.{IsFilled, IsNew, IsNewFill, IsNextFill, Taken, other_on}
pub use Rattle.law_steps.specs.DidOther.{IsOfCopy, first_last}
pub use Rattle.law_steps.specs.DidRead.{IsReadable}
pub use Rattle.law_steps.specs.DidSecond.{FoundNoSlot}
pub use Rattle.law_steps.specs.Operations.{copying, progress, putting, waiting}
pub use Rattle.petal_msg.specs.declared.operation.Ending.TheVariants.{Full, Written}
pub use Rattle.petal_msg.specs.declared.operation.OpKind.TheVariants.{Fill, Write}
unfoldable pub use Rattle.petal_table.specs.Table.{put}
pub use Rattle.spec_rules.specs.Copies.{with_copied, with_page}
pub use Rattle.spec_rules.specs.Store.{Chain, chains_with, is_marked, version_of, with_entry, with_mark_on, with_row_of}
pub use Rattle.spec_rules.specs.Writes.{moved_as}

-- The names that this crate takes from others, in one place.
pub use Rattle.law_state.specs.Imports.{Both, Caught, Cell, Command, DiskView, IsPrefix, LinkId, LinkRow, PairState, Record, Server, Setting, State, World}
pub use Rattle.law_state.specs.Imports.{cell_asked, cell_link, chosen_log, chosen_state, find, held, is_in, is_lead, is_writes_held, leads_link, servers_of}
pub use Rattle.law_state.specs.Imports.{state_after, target}
unfoldable pub use Rattle.law_state.specs.Imports.{In, at}
pub use Rattle.busy_marks.specs.Marks.{above}
pub use Rattle.busy_marks.specs.declared.marks.MarkKind.{MarkKind}
pub use Rattle.busy_marks.specs.declared.marks.MarkKind.TheVariants.{Busy, Stale}
pub use Rattle.device_faults.specs.declared.plan.CallKind.{CallKind}
pub use Rattle.device_faults.specs.declared.which.Which.{Which}
pub use Rattle.law_state.specs.Firm.{Firm}
pub use Rattle.law_state.specs.Homes.{stage_at}
pub use Rattle.law_state.specs.LaterStates.{IsBelow}
pub use Rattle.law_state.specs.LinkChanges.{StaysSo}
pub use Rattle.law_state.specs.Plain.{HasProperTuples}
pub use Rattle.petal_base.specs.Cells.{cell_of, key_at}
pub use Rattle.petal_base.specs.Origins.{Named}
pub use Rattle.petal_base.specs.declared.cell.Key.{Key}
pub use Rattle.petal_msg.specs.Kinds.{Copied, Glanced, Paired, Refused, Subject, is_logged, subject_of}
pub use Rattle.petal_msg.specs.declared.body.Body.{Body}
pub use Rattle.petal_msg.specs.declared.copying.Copying.{Copying}
pub use Rattle.petal_msg.specs.declared.copying.LastCopy.{LastCopy}
pub use Rattle.petal_msg.specs.declared.copying.NextCopy.TheVariants.{Block, Nothing}
pub use Rattle.petal_msg.specs.declared.letter.Actor.{Actor}
pub use Rattle.petal_msg.specs.declared.letter.Letter.{Letter}
pub use Rattle.petal_msg.specs.declared.operation.Ending.{Ending}
pub use Rattle.petal_msg.specs.declared.operation.Finished.{Finished}
pub use Rattle.petal_msg.specs.declared.operation.FollowProgress.{FollowProgress}
pub use Rattle.petal_msg.specs.declared.operation.LastOp.{LastOp}
pub use Rattle.petal_msg.specs.declared.operation.Pending.{Pending}
pub use Rattle.petal_msg.specs.declared.operation.Stage.{Stage}
pub use Rattle.petal_msg.specs.declared.retired.Retired.{Retired}
pub use Rattle.petal_table.specs.Table.{Table}
pub use Rattle.script_lines.specs.Pattern.{pattern_block}
pub use Rattle.script_lines.specs.declared.answer.Answer.{Answer}
pub use Rattle.script_lines.specs.declared.request.Line.{Line}
pub use Rattle.script_lines.specs.declared.request.Pattern.{Pattern}
pub use Rattle.spec_history.specs.Steps.{stepped}
pub use Rattle.spec_rules.specs.Boots.{awake, blanked, known_prefix, raised, stays, wakes}
pub use Rattle.spec_rules.specs.Clients.{Asked, Client, Reaction, Sight, answers, command_of, epoch_for, is_read, is_witness, is_write, verdict_for}
pub use Rattle.spec_rules.specs.Clients.{with_sight}
unfoldable pub use Rattle.spec_rules.specs.Clients.{refusal}
pub use Rattle.spec_rules.specs.Copies.{Entry, begins_copy, cell_at, cell_holder, closes, epochs_beyond, has_room, idle_blocks, idle_cells, least}
pub use Rattle.spec_rules.specs.Copies.{marked_blocks, page_wanted, puts_entry, same_block, tells_other, turns_page}
unfoldable pub use Rattle.spec_rules.specs.Copies.{next_copy}
pub use Rattle.spec_rules.specs.Crossing.{crossed, settled_by}
pub use Rattle.spec_rules.specs.Fills.{Moving, fill_operation, link_before, region_to_move, with_filled}
unfoldable pub use Rattle.spec_rules.specs.Fills.{next_fill}
pub use Rattle.spec_rules.specs.Jobs.{Acted, down_posts, here_of}
pub use Rattle.spec_rules.specs.Log.{Log, rev_of}
pub use Rattle.spec_rules.specs.Progress.{copying_on, has_proposed, last_copy, progress_on, with_copying, with_full, with_last_copy, without_copying}
pub use Rattle.spec_rules.specs.Reads.{is_all_held}
pub use Rattle.spec_rules.specs.Returns.{proposed}
pub use Rattle.spec_rules.specs.Server.{JobContext, JobResult, Post, Sender, letters_of, says, says_to, sender, silent, stopped}
pub use Rattle.spec_rules.specs.State.{coming, first, holder_of, id_of, in_both, is_alone_on, is_second, lead, link_named, live, other_in, readable, second}
pub use Rattle.spec_rules.specs.Store.{Stored, bytes_of, cell_cmp, chain_in, entry_at, epochs_of, free_of, has_stored, mark_left, unmark_all_on, without_entry}
pub use Rattle.spec_rules.specs.Store.{without_mark_on}
pub use Rattle.spec_rules.specs.Sweeping.{without_retired}
unfoldable pub use Rattle.spec_rules.specs.Sweeping.{next_retired}
pub use Rattle.spec_rules.specs.World.{before_blanks, lines_of, next_line, reacts, server_state}
pub use Rattle.spec_rules.specs.Writes.{Wanted, acts, ended, ends, finishes, first_stage, follows, gives_back, is_for, is_under_way, last_on, marks}
pub use Rattle.spec_rules.specs.Writes.{next_stage, old_lead, opened, operation, origin_by, pending_on, puts, tells, unmarks, with_last, with_opened}
pub use Rattle.spec_rules.specs.Writes.{with_pending, with_reserved, without_pending}
pub use Rattle.spec_rules.specs.declared.job.Job.{Job}
pub use Rattle.spec_rules.specs.declared.step.CommitEnd.TheVariants.{After}
pub use Rattle.spec_rules.specs.declared.step.Step.{Step}
pub use Rattle.spec_rules.specs.declared.step.Step.TheVariants.{Blank, Boot, Work}
pub use Rattle.spec_state.specs.Settled.{is_settled}
pub use Rattle.spec_state.specs.State.{latest}

-- The names that this crate takes from others, in one place.
pub use Rattle.law_state.specs.Imports.{Both, Caught, Cell, Command, DiskRow, DiskView, Fenced, IsPrefix, LinkId, LinkRow, LinkState, Lost, Move, New, Old}
pub use Rattle.law_state.specs.Imports.{Only, PairState, Progress, Record, RegionState, Server, Setting, State, World, after, cell_asked, cell_link}
pub use Rattle.law_state.specs.Imports.{chosen_log, chosen_state, find, has_server, held, inc_of, is_in, is_lead, is_up, is_writes_held, leads_link, leaving}
pub use Rattle.law_state.specs.Imports.{link_at, link_cmp, move_region, other_of, owner, places_from, region_of, servers_of, serves, source, state_after}
pub use Rattle.law_state.specs.Imports.{target, tuple_of}
unfoldable pub use Rattle.law_state.specs.Imports.{In, at}
pub use Rattle.law_state.proofs.Imports.{[], if◌then◌else◌, ◌&&◌, ◌++◌, ◌+◌, ◌<◌, ◌==◌, ◌||◌, ◌∙◌, ◌∷◌, ◌≡◌, ◌≢◌, ◌≤◌, ◌⊎◌, Bool, List, None, Option, Some}
pub use Rattle.law_state.proofs.Imports.{ap, append_assoc, arith, both_true, by_bool, by_test, cond, false, filter, fold-append, in-append, in_both}
pub use Rattle.law_state.proofs.Imports.{in_former, in_later, inl, inr, is_all_held, is_alone, is_alone_on, is_fenced, is_link, latest, lead, length}
pub use Rattle.law_state.proofs.Imports.{length-append, link_of, list_any, live_new, live_old, live_under, map, mover, nat_le, nat_lt, nat_tests, none_some}
pub use Rattle.law_state.proofs.Imports.{not_true, number_itself, option_and_then, option_map, option_map_or, range_with_len, readable, refl, row_lead}
pub use Rattle.law_state.proofs.Imports.{same_numbers, same_or_apart, same_some, second, slice_get, state_lead, subst, suc, sym, touches, true, true_false}
pub use Rattle.law_state.proofs.Imports.{unwrap_or, zero, ℕ}
pub use Rattle.law_log.proofs.Imports.{Accepted, Acted, Action, Actor, After, Again, Answer, AreSteps, AreStepsFrom, Arm, Ask, Asked, Before, Blank, Block}
pub use Rattle.law_log.proofs.Imports.{Body, Boot, Call, Client, Collecting, CopyAction, Copying, Decided, Deliver, Ending, Entry, Equal, Firm, FollowProgress}
pub use Rattle.law_log.proofs.Imports.{Glance, Grows, HasProperTuple, HasProperTuples, Heard, Idle, Inc, IsSettledState, IsSound, IsTotalOrder, Job}
pub use Rattle.law_log.proofs.Imports.{JobContext, JobResult, Key, LastCopy, LastOp, Learning, Letter, Line, Log, LogDone, MayActor, MayClient, MayServer}
pub use Rattle.law_log.proofs.Imports.{Moving, Named, Newer, NextCopy, Older, OpKind, Pax, Pending, Phase, Post, Promise, Reaction, Refused, Request, Retired}
pub use Rattle.law_log.proofs.Imports.{Script, Send, Sight, StateRecord, Step, Stop, StopIn, Stored, Table, Tick, Voter, Voting, Wait, Wanted, Work, WorkEnd}
pub use Rattle.law_log.proofs.Imports.{about, above, all_put, answered_where, answers, answers_page, applies_known, applies_then, ask_posts, asking}
pub use Rattle.law_log.proofs.Imports.{asks_and_sends, at_other_rev, awaited, awake, ballot_posts, before_known, begins_copy, blanked, boots, called, calls}
pub use Rattle.law_log.proofs.Imports.{catches_up, caught_links, cell_at, cell_holder, cell_of, chain_in, clears_old_marks, client_limit, client_sender}
pub use Rattle.law_log.proofs.Imports.{client_state, client_step, comes_out, command_of, copies_again, copies_with, copy_acts, copy_awaited, copy_posts}
pub use Rattle.law_log.proofs.Imports.{copy_stage, copying_on, crossing, down_posts, draining, ends, entered, epoch_for, eq_by_cmp, fill_of, fill_operation}
pub use Rattle.law_log.proofs.Imports.{fill_posts, fills_row, first_wanted, flat_map, follows_once, free_of, get_within, gives_back, glance_sender, glances}
pub use Rattle.law_log.proofs.Imports.{goes_for, goes_on_with, goes_out, goes_out_where, goes_the_old_way, has_command, has_epoch, has_full_log, has_majority}
pub use Rattle.law_log.proofs.Imports.{has_proposed, hear, hears, hears_any, hears_entry, hears_fill, hears_fill_full, hears_filled, hears_hello, hears_of}
pub use Rattle.law_log.proofs.Imports.{hears_of_ballot, hears_page, hears_pair_full, hears_replicate, hears_replicated, hears_reserve, hears_reserved}
pub use Rattle.law_log.proofs.Imports.{hears_sync, hears_sync_full, hears_synced, hears_trim, hears_trim_of, hears_trimmed, holds_link, id_of, idle_cells}
pub use Rattle.law_log.proofs.Imports.{is_caught, is_due, is_eq, is_flagged, is_from_in, is_kept_back, is_log_job, is_logged, is_next, is_nothing, is_open}
pub use Rattle.law_log.proofs.Imports.{is_overfull, is_pending_for, is_read, is_replicating, is_reserving, is_second, is_settled, is_some, is_syncing}
pub use Rattle.law_log.proofs.Imports.{is_under_way, is_witness, is_write, job_done, judged, judged_by, keeps, key_at, known, known_at, known_inc}
pub use Rattle.law_log.proofs.Imports.{known_prefix, known_run, last_copy, last_on, learns_first, less_by, link_before, link_jobs, link_named, log_plain}
pub use Rattle.law_log.proofs.Imports.{mends_found, moving, nat_cmp, next_entries, next_line, next_place, no_progress, only, opened, opens, opens_fill}
pub use Rattle.law_log.proofs.Imports.{other_in, own_join, own_leave, own_wants, page_asked, page_for, page_posts, page_wanted, pending_on, post_in_turn}
pub use Rattle.law_log.proofs.Imports.{post_of, post_to, posts_for, progress_on, proposed, proposes, put_apart, put_same, puts_entry, raised, reacts}
pub use Rattle.law_log.proofs.Imports.{read_posts, read_posts_at, region_to_move, repairs_row, replies, reserves, rests, returning, rev_of, rounds, said}
pub use Rattle.law_log.proofs.Imports.{same_block, says, sees, sees_for, sees_from, sender, sends_entry, sends_key, sends_moving, sends_or_proposes}
pub use Rattle.law_log.proofs.Imports.{sent_again, server_state, server_step, setting_of, settles, silent, stage_jobs, stamped, start, starts_for, state_in}
pub use Rattle.law_log.proofs.Imports.{stays, stays_open, stepped, steps_begin, stops, subject_of, sweeps_with, takes, takes_all, takes_entries, takes_entry}
pub use Rattle.law_log.proofs.Imports.{takes_marks, takes_newer, tells, then_goes_out, tick_jobs, tick_posts, tied_itself, to_propose, trims_again}
pub use Rattle.law_log.proofs.Imports.{trims_first, trims_for, trims_newly, unknown_from, verdict_for, voter_of, wakes, wanted, wanted_by, way_now}
pub use Rattle.law_log.proofs.Imports.{with_copied, with_full, with_last_copy, with_leave, with_opened, with_page, with_progress, with_sight, without_copying}
pub use Rattle.law_log.proofs.Imports.{without_pending, witnessed, worked, works, world_after, write_posts, wrong_rev}
unfoldable pub use Rattle.law_log.proofs.Imports.{applies, copies_on, does, goes_on, handles, heard, hears_log, learns, log_does, next_copy, next_retired}
unfoldable pub use Rattle.law_log.proofs.Imports.{on_ask, on_down, on_fill, on_fill_full, on_filled, on_hello, on_hello_ask, on_news, on_pair_full, on_pax}
unfoldable pub use Rattle.law_log.proofs.Imports.{on_propose, on_read, on_replicate, on_replicated, on_reserve, on_reserved, on_sync, on_sync_full, on_synced}
unfoldable pub use Rattle.law_log.proofs.Imports.{on_trim, on_trimmed, on_write, put_at, refusal, repairs, starts, step, sweeps, ticked, trims_on}
pub use Rattle.law_steps.specs.Imports.{Busy, Copied, Finished, Glanced, IsBelow, MarkKind, Nothing, Paired, Pattern, Sender, Stage, Stale, StaysSo, Subject}
pub use Rattle.law_steps.specs.Imports.{acts, bytes_of, cell_cmp, coming, crossed, entry_at, epochs_beyond, epochs_of, has_room, has_stored, holder_of, least}
pub use Rattle.law_steps.specs.Imports.{letters_of, live, mark_left, marked_blocks, next_stage, operation, origin_by, pattern_block, settled_by, stage_at}
pub use Rattle.law_steps.specs.Imports.{with_copying, with_pending, with_reserved}
unfoldable pub use Rattle.law_steps.specs.Imports.{next_fill}
pub use Rattle.std.proofs.Common.{fold}
pub use Rattle.std.specs.BTreeMap.{insert_entry, is_at}
pub use Rattle.std.specs.Map.{lookup}
pub use Rattle.std.specs.Ordering.{match_ordering, ordering_reverse}
pub use Rattle.std.specs.Prelude.{is_none, max, not}
pub use Rattle.std.specs.declared.cmp.Ordering.{Ordering}
pub use Rattle.std.specs.declared.cmp.Ordering.TheVariants.{Greater, Less}
pub use Rattle.busy_marks.specs.Marks.{lesser}
pub use Rattle.busy_marks.specs.declared.marks.Mark.{Mark}
pub use Rattle.law_log.proofs.BallotFlags.{caught_put, progress_beside, progress_here, same_caught, same_id}
pub use Rattle.law_log.proofs.CaughtsWanted.{caught_among}
pub use Rattle.law_log.proofs.ClientStepsKeepLog.{newly_asked}
pub use Rattle.law_log.proofs.CopyJobsLeaveLog.{mends_only, only_mend}
pub use Rattle.law_log.proofs.ListPlaces.{among_at, kept_among}
pub use Rattle.law_log.proofs.LogInHistories.{history_agrees, history_grows, history_is_firm, latter, logged, out_has_stopped, who_is_in_has_begun}
pub use Rattle.law_log.proofs.LogInHistories.{world_joins}
pub use Rattle.law_log.proofs.LogJobsInSchedule.{all_leaves, own_leaves, run_known}
pub use Rattle.law_log.proofs.MovedsWanted.{move_among}
pub use Rattle.law_log.proofs.PairJobsLeaveLog.{only_stage}
pub use Rattle.law_log.proofs.ProposersInSchedule.{first_among, said_to_all}
pub use Rattle.law_log.proofs.Queues.{stages_only, tick_only}
pub use Rattle.law_log.proofs.ReportsWanted.{report_among}
pub use Rattle.law_log.proofs.ScheduleTurns.{no_letter, no_posts}
pub use Rattle.law_log.proofs.ServerStepsKeepLog.{join_only}
pub use Rattle.law_state.proofs.Ages.{between, in_once, in_up, up_some}
pub use Rattle.law_state.proofs.CaughtsMadeBoth.{log_alone, log_both}
pub use Rattle.law_state.proofs.CellsByLinkRows.{IsHeldBy}
pub use Rattle.law_state.proofs.EntriesTouchLinks.{entry_stays, same_place}
pub use Rattle.law_state.proofs.Homes.{has_stage}
pub use Rattle.law_state.proofs.ListLookups.{found_at, in_filter}
pub use Rattle.law_state.proofs.LoneHolders.{alone_not_both, alone_row, so_alone, so_both}
pub use Rattle.law_state.proofs.MembershipChanges.{found_itself, linked_at}
pub use Rattle.law_state.proofs.NewMapLinks.{either_false, or_true}
pub use Rattle.law_state.proofs.Owners.{either_of}
pub use Rattle.law_state.proofs.Prefixes.{below_on, one_prefix, prefix_itself, prefix_long, prefix_more, prefix_on, prefix_same}
pub use Rattle.law_state.proofs.Roles.{holder_is_one, log_roles}
pub use Rattle.law_state.proofs.SnapsQueueFences.{none_of}
pub use Rattle.law_state.proofs.Stages.{stage_most}
pub use Rattle.law_state.proofs.Steady.{log_below, log_rev, log_steady, prefix_plain}
pub use Rattle.law_state.proofs.TestFacts.{or_first, same_only, was_true}
pub use Rattle.law_state.specs.Homes.{HasStage, IsRetired, new_stage, old_stage, stage_by}
pub use Rattle.law_state.specs.LaterStates.{HasLater}
pub use Rattle.law_state.specs.LinkChanges.{IsCaughtIn, IsCaughtStill}
pub use Rattle.law_state.specs.LinkRows.{ByBoth, ByNone, ByOne}
pub use Rattle.law_state.specs.StartedBallots.{HasStarted}
pub use Rattle.law_state.specs.Steady.{IsSteady}
pub use Rattle.petal_command.specs.declared.pax.Pax.TheVariants.{Accept, Chosen, Prepare}
pub use Rattle.petal_msg.specs.Kinds.{Filling, Logged, Read_asked, Write_asked, is_asked}
pub use Rattle.petal_msg.specs.declared.copying.Copying.{Copying as Copy}
pub use Rattle.petal_msg.specs.declared.operation.Ending.TheVariants.{Full, Written}
pub use Rattle.petal_table.proofs.Rows.{at-empty, at-where}
unfoldable pub use Rattle.petal_table.specs.Table.{put, without}
pub use Rattle.spec_history.specs.Steps.{Follows}
pub use Rattle.spec_paxos.specs.Chosen.{chosen_log as chosen_by}
pub use Rattle.spec_paxos.specs.Kept.{accept_row, choose_row, empty_row, promise_row, row_after}
pub use Rattle.spec_paxos.specs.declared.record.Row.{Row}
pub use Rattle.spec_rules.proofs.CellTables.{cell_apart, cell_cmp_same, cell_cmp_total, cell_gone, cell_gone_apart, cell_same}
pub use Rattle.spec_rules.proofs.Settled.{by_settled, settling}
pub use Rattle.spec_rules.specs.Ballots.{asks_next, to_all, to_unheard}
pub use Rattle.spec_rules.specs.Copies.{blocks_left, is_kept_on, is_link_under_way, next_block, stored_blocks}
pub use Rattle.spec_rules.specs.Crossing.{dies, ends_cell, ends_link}
pub use Rattle.spec_rules.specs.Fills.{comes_before, comes_next, earlier, fill_left, first_key, keys_in, keys_of, not_noted}
pub use Rattle.spec_rules.specs.Log.{acceptor}
pub use Rattle.spec_rules.specs.Reads.{reply_of}
pub use Rattle.spec_rules.specs.Server.{Copies, Pairs, no_copies}
pub use Rattle.spec_rules.specs.State.{is_on, needs_full_copy}
pub use Rattle.spec_rules.specs.Store.{Chain, Store, version_of, with_entry, with_mark_on, with_ticket}
pub use Rattle.spec_rules.specs.Sweeping.{retired_in, retired_key, retired_mark}
pub use Rattle.spec_rules.specs.World.{clock_of, line_in, received}
pub use Rattle.spec_rules.specs.Writes.{alone_action, both_action, has_slot, standing, with_mark_at, with_paired}
pub use Rattle.spec_state.specs.CellState.{noted, region_leaving, region_on_way}
pub use Rattle.spec_state.specs.Place.{touches_cell}
pub use Rattle.spec_state.specs.Role.{is_the, row_in_both}

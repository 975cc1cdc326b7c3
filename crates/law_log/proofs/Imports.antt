-- The names that this crate takes from others, in one place.
pub use Rattle.law_agreement.proofs.Imports.{[], if◌then◌else◌, ◌&&◌, ◌++◌, ◌+◌, ◌<◌, ◌==◌, ◌||◌, ◌∙◌, ◌∷◌, ◌≡◌, ◌≢◌, ◌≤◌, ◌⊎◌, Acceptor, Ballot, Bool, Boots}
pub use Rattle.law_agreement.proofs.Imports.{Collecting, Command, Event, Goes, Handed, Idle, IsChosen, IsChosenBy, IsWanted, List, None, Option, Pax, Phase}
pub use Rattle.law_agreement.proofs.Imports.{Sent, Some, Starts, StateRecord, Stops, StopsAfter, Vote, Voting, World, accept, ap, arith, begin, cast}
pub use Rattle.law_agreement.proofs.Imports.{chosen_at, collected, collecting, cond, count_below, counted, counts, false, flat_map, handed, has_majority}
pub use Rattle.law_agreement.proofs.Imports.{hear, higher, in_cons, in_here, in_there, inl, inr, is_for, is_open, is_unpromised, keep, learn, length, map}
pub use Rattle.law_agreement.proofs.Imports.{nat_tests, promise, put_at_cases, put_cases, raise, range_with_len, rank, refl, run, send, sent, set, slice_get}
pub use Rattle.law_agreement.proofs.Imports.{started, subst, suc, sym, true, turn, unwrap_or, vote, zero, ℕ, ⊤}
unfoldable pub use Rattle.law_agreement.proofs.Imports.{In, nobody, number, put}
pub use Rattle.law_state.specs.Imports.{Both, Caught, Cell, DiskView, Drained, Fence, IsPrefix, Join, Leave, LinkId, LinkRow, LinkState, Lost, MakeDisk}
pub use Rattle.law_state.specs.Imports.{Moved, Only, PairState, Progress, Record, Server, Setting, Snap, StartMove, State, after, awaits, cell_asked}
pub use Rattle.law_state.specs.Imports.{cell_link, chosen_log, chosen_state, head, is_in, is_lead, is_tuple, is_up, link_at, link_cmp, may_join, other_of}
pub use Rattle.law_state.specs.Imports.{servers_of, state_after, target}
unfoldable pub use Rattle.law_state.specs.Imports.{at}
pub use Rattle.law_state.proofs.Imports.{Witness, append_assoc, both_true, by_bool, by_test, filter, fold, in-append, in_later, is_alone, latest, lead}
pub use Rattle.law_state.proofs.Imports.{length-append, may_catch, nat_le, nat_lt, none_some, not, not_true, number_itself, option_map_or, readable}
pub use Rattle.law_state.proofs.Imports.{same_or_apart, same_some, touches, true_false}
pub use Rattle.std.proofs.Common.{◌-◌, true≢false}
pub use Rattle.std.proofs.lemmas.Cmp.{on_total, then_total}
pub use Rattle.std.specs.Cmp.{Equal-is, IsTotalOrder, nat_cmp_total, ranked, tied_itself, tied_then}
pub use Rattle.std.specs.Ordering.{eq_by_cmp, is_eq, nat_cmp}
pub use Rattle.std.specs.Prelude.{◌↔◌, is_some}
pub use Rattle.std.specs.declared.cmp.Ordering.TheVariants.{Equal}
pub use Rattle.busy_marks.specs.Marks.{above}
pub use Rattle.law_agreement.proofs.ChosenLogGrows.{log_ends, log_has, log_tells, prefix_of_log}
pub use Rattle.law_agreement.proofs.ChosenWasWanted.{run-append}
pub use Rattle.law_agreement.proofs.MajoritiesChoose.{chosen_is_told, told_is_chosen}
pub use Rattle.law_agreement.proofs.MovesKeepFacts.{not_in_nobody}
pub use Rattle.law_agreement.proofs.SchedulesKeepFacts.{begin_holds, one_chosen, run_holds}
pub use Rattle.law_agreement.specs.Single.{IsSingle}
pub use Rattle.law_state.proofs.Ages.{may_by}
pub use Rattle.law_state.proofs.Disks.{log_in, who_is_out}
pub use Rattle.law_state.proofs.EntriesOnlyAdd.{log_plain}
pub use Rattle.law_state.proofs.Incarnations.{who_is_in}
pub use Rattle.law_state.proofs.ListLookups.{get_drop, get_last, get_within}
pub use Rattle.law_state.proofs.TestFacts.{less_by, less_test}
pub use Rattle.law_state.specs.Firm.{Firm}
pub use Rattle.law_state.specs.Plain.{HasProperTuple, HasProperTuples}
pub use Rattle.law_state.specs.StartedBallots.{HasFlag, is_caught, is_flagged}
pub use Rattle.law_state.specs.Tables.{IsSettledState}
pub use Rattle.petal_base.specs.Cells.{cell_of, key_at}
pub use Rattle.petal_base.specs.Limits.{client_limit}
pub use Rattle.petal_base.specs.Origins.{Named}
pub use Rattle.petal_base.specs.declared.cell.Key.{Key}
pub use Rattle.petal_command.specs.Same.{has_command, same_command}
pub use Rattle.petal_msg.specs.Kinds.{about, is_logged, subject_of}
pub use Rattle.petal_msg.specs.declared.body.Body.{Body}
pub use Rattle.petal_msg.specs.declared.copying.CopyAction.{CopyAction}
pub use Rattle.petal_msg.specs.declared.copying.Copying.{Copying}
pub use Rattle.petal_msg.specs.declared.copying.LastCopy.{LastCopy}
pub use Rattle.petal_msg.specs.declared.copying.NextCopy.{NextCopy}
pub use Rattle.petal_msg.specs.declared.copying.NextCopy.TheVariants.{Ask, Block, Wait}
pub use Rattle.petal_msg.specs.declared.letter.Actor.{Actor}
pub use Rattle.petal_msg.specs.declared.letter.Letter.{Letter}
pub use Rattle.petal_msg.specs.declared.operation.Action.{Action}
pub use Rattle.petal_msg.specs.declared.operation.Ending.{Ending}
pub use Rattle.petal_msg.specs.declared.operation.FollowProgress.{FollowProgress}
pub use Rattle.petal_msg.specs.declared.operation.LastOp.{LastOp}
pub use Rattle.petal_msg.specs.declared.operation.OpKind.{OpKind}
pub use Rattle.petal_msg.specs.declared.operation.Pending.{Pending}
pub use Rattle.petal_msg.specs.declared.operation.Reply.{Reply}
pub use Rattle.petal_msg.specs.declared.retired.Retired.{Retired}
pub use Rattle.petal_table.proofs.Rows.{at-put}
pub use Rattle.petal_table.specs.Table.{Table}
pub use Rattle.script_lines.specs.declared.answer.Answer.{Answer}
pub use Rattle.script_lines.specs.declared.request.Line.{Line}
pub use Rattle.script_lines.specs.declared.request.Request.{Request}
pub use Rattle.script_lines.specs.declared.script.Script.{Script}
pub use Rattle.spec_history.proofs.Onwards.{steps_begin}
pub use Rattle.spec_history.specs.Claims.{Agrees, Grows}
pub use Rattle.spec_history.specs.Sound.{IsSound}
pub use Rattle.spec_history.specs.Steps.{AreSteps, AreStepsFrom, stepped, world_after}
pub use Rattle.spec_paxos.proofs.Committed.{accepted_in, acceptor_accepted, acceptor_chosen, acceptor_inc, acceptor_promise, committed_in, inc_accepted}
pub use Rattle.spec_paxos.proofs.Committed.{inc_chosen, inc_committed, inc_promise, known_accepted, known_elsewhere, known_here, known_inc, known_promise}
pub use Rattle.spec_paxos.proofs.Committed.{in_committed as stays_in}
pub use Rattle.spec_paxos.specs.Acceptor.{accept_reply, prepare_reply}
pub use Rattle.spec_paxos.specs.Kept.{acceptor_of, committed, inc_of, known_at, inc_of as told_inc}
pub use Rattle.spec_paxos.specs.declared.phase.Heard.{Heard}
pub use Rattle.spec_paxos.specs.declared.phase.Heard.TheVariants.{Chosen as Decided, Nothing, Refused, Send}
pub use Rattle.spec_paxos.specs.declared.record.StateRecord.TheVariants.{Accepted, Chosen, Inc, Promise}
pub use Rattle.spec_rules.proofs.ListLemmas.{put_apart, put_same}
pub use Rattle.spec_rules.proofs.Tests.{all_put, all_put_apart, only}
pub use Rattle.spec_rules.specs.Agreement.{HasSchedule, IsAbout, IsAnnounced, IsAskedFor, IsProposer}
pub use Rattle.spec_rules.specs.Ballots.{ask_posts, ballot_posts, comes_out, first_wanted, gives_way, greatest_place, hears_of_ballot, is_due, leave_before}
pub use Rattle.spec_rules.specs.Ballots.{next_round, on_accept, on_prepare, own_leave, post_of, proposes, round_of, start_jobs, starts_ballot, starts_for}
pub use Rattle.spec_rules.specs.Ballots.{wanted, with_leave}
unfoldable pub use Rattle.spec_rules.specs.Ballots.{on_down, on_pax, on_propose, starts}
pub use Rattle.spec_rules.specs.Boots.{awake, blanked, boots, known_prefix, raised, read_log, stays, wakes}
pub use Rattle.spec_rules.specs.Clients.{Asked, Client, Learning, Reaction, Sight, Turn, answered_where, answers, asking, asks_and_sends, called}
pub use Rattle.spec_rules.specs.Clients.{client_sender, command_of, epoch_for, first_round, goes_out, goes_out_where, goes_the_old_way, hears, hears_any}
pub use Rattle.spec_rules.specs.Clients.{hears_of, in_turn, is_read, is_witness, is_write, judged, judged_by, next_entries, or_command, post_in_turn}
pub use Rattle.spec_rules.specs.Clients.{posts_for, read_posts, read_posts_at, readers, replies, rests, rounds, sees, sees_for, sees_from, sends_or_proposes}
pub use Rattle.spec_rules.specs.Clients.{settles, stays_open, takes_all, takes_entries, takes_entry, then_goes_out, to_propose, verdict_for, way_now}
pub use Rattle.spec_rules.specs.Clients.{with_sight, witness_where, witnessed, write_posts}
unfoldable pub use Rattle.spec_rules.specs.Clients.{heard, refusal, ticked}
pub use Rattle.spec_rules.specs.Copies.{Entry, answers_page, begins_copy, catches_up, cell_at, cell_holder, clears_old_marks, closes, copies_with, copy_acts}
pub use Rattle.spec_rules.specs.Copies.{copy_awaited, copy_posts, copy_stage, goes_for, hears_entry, hears_hello, hears_page, hears_sync, hears_sync_full}
pub use Rattle.spec_rules.specs.Copies.{hears_synced, hears_trim, hears_trim_of, hears_trimmed, idle_cells, is_syncing, mends_found, page_asked, page_for}
pub use Rattle.spec_rules.specs.Copies.{page_posts, page_wanted, puts_entry, repair_after, repair_jobs, repairs_row, same_block, sends_entry, takes_marks}
pub use Rattle.spec_rules.specs.Copies.{trims_again, trims_first, trims_for, trims_newly, waits_for_job, with_copied, with_page}
unfoldable pub use Rattle.spec_rules.specs.Copies.{copies_on, next_copy, on_hello, on_hello_ask, on_sync, on_sync_full, on_synced, on_trim, on_trimmed}
unfoldable pub use Rattle.spec_rules.specs.Copies.{repairs, trims_on}
pub use Rattle.spec_rules.specs.Crossing.{crossed_by, is_repaired, jobs_by, link_jobs, stage_jobs, touches_cell}
pub use Rattle.spec_rules.specs.Draining.{drained_for, draining, has_held_write}
pub use Rattle.spec_rules.specs.Entries.{applies_known, applies_then, before_known, known_run, learns_first, unknown_from, with_entry}
unfoldable pub use Rattle.spec_rules.specs.Entries.{applies, learns, on_ask, on_news}
pub use Rattle.spec_rules.specs.Fills.{Moving, fill_of, fill_operation, fill_posts, fills_row, goes_after, has_epoch, hears_fill, hears_fill_full}
pub use Rattle.spec_rules.specs.Fills.{hears_filled, is_next, link_before, moved_of, moved_where, moving, opens_fill, region_to_move, sends_key, sends_moving}
pub use Rattle.spec_rules.specs.Fills.{with_filled}
unfoldable pub use Rattle.spec_rules.specs.Fills.{on_fill, on_fill_full, on_filled}
pub use Rattle.spec_rules.specs.Jobs.{Acted, asked_by, at_other_rev, awaited, copies_again, crossing, delivered, down_posts, entered, faults, glance_sender}
pub use Rattle.spec_rules.specs.Jobs.{glances, has_full_log, here_of, is_from_in, is_log_job, is_overfull, job_done, on_letter, own_wants, sent_again, stages}
pub use Rattle.spec_rules.specs.Jobs.{starting, stops, tick_jobs, tick_posts, ticks, voter_of, wanted_by, worked, works, wrong_rev}
unfoldable pub use Rattle.spec_rules.specs.Jobs.{does, handles, hears_log, log_does}
unfoldable pub use Rattle.spec_rules.specs.Lists.{In as Among, put_at}
pub use Rattle.spec_rules.specs.Log.{Log, LogDone, Voter, commits, keeps, known, next_place, rev_of, state_in, with_phase}
pub use Rattle.spec_rules.specs.Posts.{Sender, letters_of}
pub use Rattle.spec_rules.specs.Progress.{copying_on, has_proposed, last_copy, no_progress, progress_on, with_full, with_last_copy, with_progress}
pub use Rattle.spec_rules.specs.Progress.{without_copying}
pub use Rattle.spec_rules.specs.Reads.{reply_to, said}
unfoldable pub use Rattle.spec_rules.specs.Reads.{on_read}
pub use Rattle.spec_rules.specs.Returns.{caught_as, caught_links, caught_of, holds_link, is_nothing, own_join, proposed, returning}
pub use Rattle.spec_rules.specs.Server.{JobContext, JobResult, Life, Post, post_to, says, says_to, sender, silent, stopped}
pub use Rattle.spec_rules.specs.State.{id_of, is_second, link_named, other_in, is_in as seated}
pub use Rattle.spec_rules.specs.Store.{Stored, chain_in, free_of}
pub use Rattle.spec_rules.specs.Sweeping.{sweep_jobs, sweeps_with}
unfoldable pub use Rattle.spec_rules.specs.Sweeping.{next_retired, sweeps}
pub use Rattle.spec_rules.specs.World.{MayActor, MayClient, MayServer, acts, calls, client_state, client_step, devices, lines_of, next_line, reacts}
pub use Rattle.spec_rules.specs.World.{server_state, server_step, setting_of, stamped, start}
unfoldable pub use Rattle.spec_rules.specs.World.{step}
pub use Rattle.spec_rules.specs.Writes.{Again, Newer, Older, Standing, Wanted, ended, ends, finishes, follows_once, gives_back, gives_up, goes_on_with}
pub use Rattle.spec_rules.specs.Writes.{hears_pair_full, hears_replicate, hears_replicated, hears_reserve, hears_reserved, is_kept_back, is_pending_for}
pub use Rattle.spec_rules.specs.Writes.{is_replicating, is_reserving, is_under_way, last_on, moved_as, opened, opens, pending_on, reserves, takes}
pub use Rattle.spec_rules.specs.Writes.{takes_newer, tells, with_opened, without_pending}
unfoldable pub use Rattle.spec_rules.specs.Writes.{goes_on, on_pair_full, on_replicate, on_replicated, on_reserve, on_reserved, on_write}
pub use Rattle.spec_rules.specs.declared.job.Job.{Job}
pub use Rattle.spec_rules.specs.declared.step.CommitEnd.{CommitEnd}
pub use Rattle.spec_rules.specs.declared.step.CommitEnd.TheVariants.{After, Before}
pub use Rattle.spec_rules.specs.declared.step.Step.{Step}
pub use Rattle.spec_rules.specs.declared.step.Step.TheVariants.{Arm, Blank, Boot, Call, Deliver, Glance, Stop, StopIn, Tick, Work}
pub use Rattle.spec_rules.specs.declared.step.WorkEnd.{WorkEnd}
pub use Rattle.spec_state.specs.Settled.{is_settled}

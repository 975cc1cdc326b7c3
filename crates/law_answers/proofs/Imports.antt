-- The names that this crate takes from others, in one place.
pub use Rattle.law_state.specs.Imports.{Both, Caught, Cell, Command, DiskRow, DiskView, Drained, Fence, IsPrefix, Join, Leave, LinkRow, MakeDisk, Moved}
pub use Rattle.law_state.specs.Imports.{PairState, Record, Region, Server, Setting, Snap, Snapshot, StartMove, State, Whole, World, cell_asked, cell_link}
pub use Rattle.law_state.specs.Imports.{chosen_log, chosen_state, disk_at, find, is_in, is_up_as, leads_link, leaving, named, servers_of, serves}
pub use Rattle.law_state.specs.Imports.{snapshot_named, state_after}
unfoldable pub use Rattle.law_state.specs.Imports.{In, at}
pub use Rattle.law_state.proofs.Imports.{[], if◌then◌else◌, ◌&&◌, ◌++◌, ◌+◌, ◌<◌, ◌==◌, ◌||◌, ◌∙◌, ◌∷◌, ◌≡◌, ◌≢◌, ◌≤◌, ◌⊎◌, Bool, FenceKind, Latest, List}
pub use Rattle.law_state.proofs.Imports.{None, Option, Some, Verdict, Witness, act, ap, append-nil, append_assoc, arith, both_true, by_bool, by_test, cond}
pub use Rattle.law_state.proofs.Imports.{confirmed, effect, false, filter, first, fold-append, following, frozen, in-append, in_both, in_former, in_later}
pub use Rattle.law_state.proofs.Imports.{inl, inr, is_new, is_some, is_taken, is_the_one, latest, lead, length, length-append, length-set, map, move_fenced}
pub use Rattle.law_state.proofs.Imports.{nat_le, nat_lists_same, nat_lt, nat_tests, none_some, not, not_true, number_itself, option_map, option_map_or}
pub use Rattle.law_state.proofs.Imports.{passed, range_with_len, readable, refl, replicate, row_fenced, row_frozen, row_moving, same_numbers, same_or_apart}
pub use Rattle.law_state.proofs.Imports.{same_some, second, servers_in, settled, slice_get, slice_get_past, slice_get_within, some_or_none, subst, suc, sym}
pub use Rattle.law_state.proofs.Imports.{told, true, true_false, unwrap_or, view-effect, with_disk, with_fence, with_move, zero, ℕ}
pub use Rattle.law_log.proofs.Imports.{Acted, Actor, After, Answer, AreSteps, AreStepsFrom, Arm, Asked, Before, Blank, Body, Boot, Call, Client, CommitEnd}
pub use Rattle.law_log.proofs.Imports.{Deliver, Ending, Firm, Glance, HasProperTuple, HasProperTuples, IsSettledState, IsSound, Job, JobContext, JobResult}
pub use Rattle.law_log.proofs.Imports.{Key, Learning, Letter, Line, Log, LogDone, MayActor, MayClient, MayServer, Moving, Pending, Post, Reaction, Request}
pub use Rattle.law_log.proofs.Imports.{Script, Sight, Step, Stop, StopIn, Table, Tick, Work, WorkEnd, about, acts, all_put, all_put_apart, answered_where}
pub use Rattle.law_log.proofs.Imports.{answers, asks_and_sends, at_other_rev, awake, blanked, boots, calls, cell_of, chain_in, client_sender, client_state}
pub use Rattle.law_log.proofs.Imports.{client_step, command_of, down_posts, ended, entered, epoch_for, faults, flat_map, free_of, get_last, get_within}
pub use Rattle.law_log.proofs.Imports.{glance_sender, glances, goes_out, goes_out_where, goes_the_old_way, has_full_log, hears, hears_any, hears_of, here_of}
pub use Rattle.law_log.proofs.Imports.{holds_link, is_eq, is_from_in, is_log_job, is_logged, is_overfull, is_read, is_second, is_settled, is_witness}
pub use Rattle.law_log.proofs.Imports.{is_write, job_done, judged, judged_by, known, lines_of, link_named, log_plain, moved_as, nat_cmp, nat_cmp_total}
pub use Rattle.law_log.proofs.Imports.{next_entries, next_line, next_place, pending_on, post_of, proposed, put_apart, put_same, raised, reacts, readers}
pub use Rattle.law_log.proofs.Imports.{replies, rests, rev_of, rounds, sees, sees_for, sees_from, sender, sends_or_proposes, server_state, server_step}
pub use Rattle.law_log.proofs.Imports.{setting_of, settles, silent, stages, stamped, start, stays, stays_open, stepped, stopped, stops, subject_of, takes_all}
pub use Rattle.law_log.proofs.Imports.{takes_entries, takes_entry, then_goes_out, tick_posts, tied_itself, to_propose, verdict_for, voter_of, wakes}
pub use Rattle.law_log.proofs.Imports.{wanted_by, way_now, with_sight, witnessed, worked, works, world_after, wrong_rev}
unfoldable pub use Rattle.law_log.proofs.Imports.{applies, does, goes_on, handles, heard, hears_log, learns, log_does, next_retired, nobody, number, on_ask}
unfoldable pub use Rattle.law_log.proofs.Imports.{on_news, on_pair_full, on_pax, on_propose, on_read, on_replicate, on_replicated, on_reserve, on_reserved}
unfoldable pub use Rattle.law_log.proofs.Imports.{on_write, put_at, refusal, repairs, starts, step, sweeps, ticked}
pub use Rattle.law_steps.specs.Imports.{Finished, Glanced, Paired, Refused, Sender, Subject, bytes_of, cell_cmp, crossed, entry_at, letters_of, live}
pub use Rattle.law_steps.specs.Imports.{settled_by}
pub use Rattle.law_steps.proofs.Imports.{ByBoth, ByNone, ByOne, Copies, Follows, Greater, IsRetired, IsSteady, Less, Pairs, at-empty, between, by_settled}
pub use Rattle.law_steps.proofs.Imports.{clock_of, either_of, found_at, has_stage, history_grows, in_once, in_up, insert_entry, is_at, is_none, log_below}
pub use Rattle.law_steps.proofs.Imports.{log_rev, log_roles, log_steady, logged, lookup, match_ordering, one_prefix, or_true, prefix_itself, prefix_long}
pub use Rattle.law_steps.proofs.Imports.{prefix_on, prefix_plain, settling, was_true}
unfoldable pub use Rattle.law_steps.proofs.Imports.{put, without}
pub use Rattle.law_jobs.specs.Imports.{FoundNoSlot, IsBusy, IsHeldBack, IsNewFill, IsReadable, IsRefusal}
pub use Rattle.law_jobs.proofs.Imports.{◌-◌, A_slot, An_entry_to_move, Asks, By_ballot, By_entry, By_job, By_read, Did, Fails, Goes, Handled, IsMoment}
pub use Rattle.law_jobs.proofs.Imports.{Not_here, Rests, Serving, Shows, Stays, Wakes, Was, Worked, always_firm, at_apart, at_same, is_aside, is_clients}
pub use Rattle.law_jobs.proofs.Imports.{last_moment, moment_more, own_place, prefix_legal, proposed_pairs, retired_second, was_same, with_answer, world_more}
pub use Rattle.law_copies.specs.Imports.{IsRising, no_pairs}
pub use Rattle.law_copies.proofs.Imports.{Asks_slot, At, Effect, Ends_fill, For_a_fill, For_a_write, HasCome, HasEnded, Is_declined, Is_new, May, Moves}
pub use Rattle.law_copies.proofs.Imports.{Moves_on, OneMore, Run, Stood, applied, at_row, before_part, both_row, by_run, cases_lt, did_count, firm_in}
pub use Rattle.law_copies.proofs.Imports.{first_state, in_get, in_map, job_keeps, letters_of_job, longer, more_of, primary_is_one, put_rises, rests_in}
pub use Rattle.law_copies.proofs.Imports.{run_of, said, served_so, setting_in, shown_so, since, stepped_in, stopped_so, turned_asks, without_rev}
pub use Rattle.law_requests.specs.Imports.{line_by}
pub use Rattle.law_requests.proofs.Imports.{A_read, A_write, Anew, Answered, As_it_was, Begins, Blanks_it, By_operation, By_verdict, By_witness, Fails_it}
pub use Rattle.law_requests.proofs.Imports.{Goes_on, Had_no_slot, Has_no_space, Heard, IsFinishedFor, IsJudged, IsReason, IsSame, IsSeatedOrMute, IsSeenAs}
pub use Rattle.law_requests.proofs.Imports.{Is_settled, Is_told, Judges, Of_the_log, Reads, Repeats, Says, Shown, Starts_it, StaysOpen, Stops_at, Stops_it}
pub use Rattle.law_requests.proofs.Imports.{Turned, after, both_leads, did_come, did_finish, is_notice, is_refused, lead_is, names, own_steady, runs_now}
pub use Rattle.law_requests.proofs.Imports.{serves_sent, write_refusal}
pub use Rattle.law_moves.specs.Imports.{IsServing}
pub use Rattle.law_moves.proofs.Imports.{stage_facts, tails}
pub use Rattle.law_answers.specs.Imports.{Event, Look, Read, accepted, asked_by, asker, look_for, old_data, operator, reads_old}
pub use Rattle.std.proofs.Common.{take}
pub use Rattle.std.proofs.Math.Seq.{take-append_seam}
pub use Rattle.std.proofs.lemmas.Bool.{or_cases}
pub use Rattle.std.proofs.lemmas.Grind.{flat_map-append}
pub use Rattle.std.proofs.lemmas.List.{length-map}
pub use Rattle.std.specs.List.{fold}
pub use Rattle.global_tables.specs.View.{queued as with_queued}
pub use Rattle.law_copies.proofs.ChainsRise.{all_left}
pub use Rattle.law_copies.specs.Pair.{owns_of}
pub use Rattle.law_jobs.proofs.LettersWereSent.{WasSent, answers_in, sent_since, stays_sent, was_sent}
pub use Rattle.law_jobs.proofs.OperationsCome.{finished_of}
pub use Rattle.law_jobs.proofs.Runs.{at_moment, firm_then, follows_in, grown_then}
pub use Rattle.law_jobs.specs.Effects.{HearsNone, Is_full}
pub use Rattle.law_jobs.specs.Sayings.{Has_no_slot, to_client, to_server}
pub use Rattle.law_log.proofs.CopyJobsLeaveLog.{calm_mends}
pub use Rattle.law_log.proofs.FillJobsLeaveLog.{calm_sweeps}
pub use Rattle.law_log.proofs.FirstIncarnationsStay.{unbooted}
pub use Rattle.law_log.proofs.LogInHistories.{chosen_is_called_for, who_runs_is_in}
pub use Rattle.law_log.proofs.PairJobsLeaveLog.{IsCalm, IsDated, dated_again}
pub use Rattle.law_log.proofs.PairLettersLeaveLog.{calm_handles, calm_stages, calm_where_in, dated_copies_again}
pub use Rattle.law_log.specs.ProposedCommands.{IsOfLives, NoneBoots, WasWanted}
pub use Rattle.law_requests.proofs.LeadJobsKeepRequests.{job_tells}
pub use Rattle.law_requests.proofs.RequestsInHistories.{asking_after}
pub use Rattle.law_requests.proofs.ServerStepsKeepRequests.{SaysOk, Scene}
pub use Rattle.law_requests.specs.AskedRequests.{IsAsked}
pub use Rattle.law_requests.specs.KnownRequests.{Lives}
pub use Rattle.law_run.proofs.ContentsAsked.{reader_serves, reads_old_is}
pub use Rattle.law_run.proofs.DataLetters.{mute_data}
pub use Rattle.law_run.proofs.GroundInHistories.{footing_after}
pub use Rattle.law_run.proofs.Machine.{or_former}
pub use Rattle.law_run.proofs.OldReads.{same_data, same_seq}
pub use Rattle.law_run.proofs.ReadsLookWhereSent.{is_looked, one_client, some_first}
pub use Rattle.law_run.proofs.RunScenes.{Grounded}
pub use Rattle.law_run.proofs.SearchesFindData.{HasData, in_data, some_data}
pub use Rattle.law_run.specs.MachineTies.{Ground, Named}
pub use Rattle.law_state.proofs.CellsByLinkRows.{both_first, both_reader}
pub use Rattle.law_state.proofs.DiskRowChanges.{here_now}
pub use Rattle.law_state.proofs.Disks.{first_at_start}
pub use Rattle.law_state.proofs.EntriesOnlyAdd.{acting}
pub use Rattle.law_state.proofs.EntryOutcomes.{Makes, Outcome, Queues, Tells, Unchanged, act_make, outcome}
pub use Rattle.law_state.proofs.Fences.{IsRequeued, IsUnsettled, get_after, head_get, ready_by, requeued_awaiting, requeued_itself, requeued_reported}
pub use Rattle.law_state.proofs.FencesPass.{here_row, one_passed, passed_beside, passed_here, passing, region_beside, region_here, settled_keeps}
pub use Rattle.law_state.proofs.ListLookups.{find_after, find_here, find_prefix, get_set_beside, get_set_here, text_itself}
pub use Rattle.law_state.proofs.LoneHolders.{lead_first, second_both}
pub use Rattle.law_state.proofs.Moments.{first_moment, moment_later}
pub use Rattle.law_state.proofs.MovesOfDisks.{act_start}
pub use Rattle.law_state.proofs.NamedCells.{asked_takes}
pub use Rattle.law_state.proofs.Owners.{disk_at_is}
pub use Rattle.law_state.specs.LinkRows.{IsBetween}
pub use Rattle.law_state.specs.Steady.{IsLinked}
pub use Rattle.law_state.specs.Tables.{IsFence, IsForSnapshot, IsGrown, IsLaterDisk, Of_disk, Of_region}
pub use Rattle.law_steps.proofs.ClientLetters.{is_ask}
pub use Rattle.law_steps.proofs.ClientStepKinds.{Turning, client_turns, is_call}
pub use Rattle.law_steps.proofs.KindsInHistories.{firm_after}
pub use Rattle.law_steps.proofs.Letters.{Said, one_post, said as said_in}
pub use Rattle.law_steps.proofs.LettersOfSteps.{asked_aside, logged_notice, notice_aside}
pub use Rattle.law_steps.proofs.LogJobs.{LogFrame, applied_entry, applied_none, ask_logged, ballot_logged, letter_frame_of, start_frame_of}
pub use Rattle.law_steps.proofs.Records.{heads}
pub use Rattle.law_steps.proofs.ServerStepKinds.{server_serves}
pub use Rattle.law_steps.specs.DidClient.{Ends, answer_of}
pub use Rattle.law_steps.specs.DidStep.{IsIdle, Goes as Serves_on, Ends as Stops_so, served}
pub use Rattle.script_lines.specs.Printed.{answer_line}
pub use Rattle.script_lines.specs.Requests.{is_snap}
pub use Rattle.spec_history.specs.Causes.{AreCaused, CauseOf, HasVerdict, HasWitness, WasTold, has_made, is_moving, is_name_taken, lacks_disk, may_answer}
pub use Rattle.spec_history.specs.Events.{NotThere, accepts, data_among, data_line, data_of, delivers, first_data, first_of, goes_old, is_old_way}
pub use Rattle.spec_history.specs.Events.{line_of_data, look_by, look_for_data, look_of, looks, same_actor, same_name, turns}
pub use Rattle.spec_history.specs.Order.{AnsweredComeFirst, AreRising, IsOpenLine, is_answered}
pub use Rattle.spec_history.specs.Text.{answers_of, text_of, with_given}
pub use Rattle.spec_rules.specs.Clients.{Sight as Shown_by, is_unread, read_refusal, read_refusal_at, verdict_answer}
pub use Rattle.spec_rules.specs.Jobs.{shown}
pub use Rattle.spec_rules.specs.World.{Blanked, Booted, Boots, Control, Deed, IsAnswered, IsDone, IsFree, IsGlanceDue, IsSettleGlance, MayDeliver, MayGlance}
pub use Rattle.spec_rules.specs.World.{MayStop, StepResult, Stopped, Stops, controls, glanced_in, state_at}

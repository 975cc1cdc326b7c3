-- The names that this crate takes from others, in one place.
pub use Rattle.law_script.proofs.Imports.{[], ◌&&◌, ◌++◌, ◌+◌, ◌<◌, ◌==◌, ◌>>=◌, ◌||◌, ◌∙◌, ◌∷◌, ◌≡◌, ◌≢◌, ◌⊎◌, BadNumber, BadTuple, Bool, Cause, Err, Line}
pub use Rattle.law_script.proofs.Imports.{List, None, Ok, Option, Pattern, Request, Result, Script, Some, TextLine, Word, a_call, a_name, a_server, ap, arith}
pub use Rattle.law_script.proofs.Imports.{codes, cond, false, flat_map, front_word, inl, inr, is_tuple, is_word, length, no_word, not, numbers_of, pieces}
pub use Rattle.law_script.proofs.Imports.{refl, subst, suc, sym, text_lines, true, words_of, zero, ℕ}
unfoldable pub use Rattle.law_script.proofs.Imports.{a_tuple, boot_of, client_request, fault_of, filled_of, first_line, four_words, halves_of, in_limits}
unfoldable pub use Rattle.law_script.proofs.Imports.{lines_after, move_of, net_line, one_word, operator_request, read_of, script_of, servers_line, snap_of}
unfoldable pub use Rattle.law_script.proofs.Imports.{spread_of, stop_at, stop_of, three_words, two_words, write_of}
pub use Rattle.law_state.specs.Imports.{Both, Caught, Cell, Command, DiskRow, DiskView, Drained, Fenced, IsPrefix, Join, Leave, LinkRow, Lost, MapRow, Move}
pub use Rattle.law_state.specs.Imports.{New, Old, Only, PairState, Record, RegionState, Server, Setting, Snapshot, State, World, blank_joins_from, cell_asked}
pub use Rattle.law_state.specs.Imports.{cell_link, chosen_log, chosen_state, disk_at, find, has_map, has_server, held, inc_of, is_in, is_lead, leads_link}
pub use Rattle.law_state.specs.Imports.{leaves, move_region, named, other_of, owner, region_of, row_blanked, servers_of, serves, snapshot, snapshot_named}
pub use Rattle.law_state.specs.Imports.{source, state_after, tuple_of}
unfoldable pub use Rattle.law_state.specs.Imports.{In, at}
pub use Rattle.law_state.proofs.Imports.{if◌then◌else◌, ◌≤◌, append-nil, append_assoc, authority, blanked_state, both_true, by_bool, by_test, drop, filter}
pub use Rattle.law_state.proofs.Imports.{fold, fold-append, in-append, in_both, in_former, in_later, is_all_held, is_alone_on, is_disk, is_fenced, is_some}
pub use Rattle.law_state.proofs.Imports.{is_the_one, is_the_so, map, map_asked, nat_le, nat_lists_same, nat_tests, none_some, number_itself, option_and_then}
pub use Rattle.law_state.proofs.Imports.{option_map, option_map_or, range_with_len, readable, region_at, same_name, same_numbers, same_or_apart, same_some}
pub use Rattle.law_state.proofs.Imports.{second, slice_get, slice_get_within, some_or_none, source_in, touches, true_false, unwrap_or, view_of}
pub use Rattle.law_log.proofs.Imports.{Acted, Actor, After, Answer, AreSteps, AreStepsFrom, Asked, Before, Blank, Body, Boot, Call, Client, Deliver, Ending}
pub use Rattle.law_log.proofs.Imports.{Equal, Firm, HasProperTuples, IsSettledState, IsSound, Job, JobContext, JobResult, Key, LastCopy, Letter, Log, LogDone}
pub use Rattle.law_log.proofs.Imports.{MayActor, Pending, Post, Reaction, Sight, Step, StopIn, Stored, Table, Work, WorkEnd, about, acts, all_put}
pub use Rattle.law_log.proofs.Imports.{all_put_apart, answers, awake, blanked, boots, cell_of, chain_in, client_sender, client_state, client_step, command_of}
pub use Rattle.law_log.proofs.Imports.{copying_on, crossing, down_posts, ended, entered, epoch_for, first_wanted, get_within, has_full_log, has_proposed}
pub use Rattle.law_log.proofs.Imports.{hears, hears_any, hears_of, here_of, id_of, is_eq, is_flagged, is_log_job, is_logged, is_overfull, is_read, is_second}
pub use Rattle.law_log.proofs.Imports.{is_under_way, is_write, job_done, known, log_plain, nat_cmp, nat_cmp_total, next_line, next_place, put_apart, put_same}
pub use Rattle.law_log.proofs.Imports.{raised, ranked, reacts, rev_of, sender, server_state, server_step, setting_of, stamped, start, state_in, stays}
pub use Rattle.law_log.proofs.Imports.{stepped, stopped, stops, subject_of, voter_of, wakes, wanted_by, worked, works, world_after}
unfoldable pub use Rattle.law_log.proofs.Imports.{applies, does, heard, log_does, refusal, starts, step}
pub use Rattle.law_steps.specs.Imports.{Finished, Glanced, IsBelow, Refused, Sender, Stage, StaysSo, Subject, before_blanks, bytes_of, cell_cmp, coming}
pub use Rattle.law_steps.specs.Imports.{crossed, entry_at, epochs_beyond, letters_of, live, pattern_block, stage_at}
pub use Rattle.law_steps.proofs.Imports.{ByBoth, ByNone, ByOne, Chain, Follows, Greater, HasLater, HasStage, IsCaughtStill, IsHeldBy, IsRetired, IsSteady}
pub use Rattle.law_steps.proofs.Imports.{Less, Ordering, Pairs, Store, alone_not_both, at-empty, cell_cmp_same, cell_same, clock_of, found_at, history_agrees}
pub use Rattle.law_steps.proofs.Imports.{history_grows, history_is_firm, in_filter, in_once, insert_entry, log_alone, log_below, log_rev, log_roles}
pub use Rattle.law_steps.proofs.Imports.{log_steady, lookup, match_ordering, new_stage, old_stage, one_prefix, or_true, out_has_stopped, prefix_itself}
pub use Rattle.law_steps.proofs.Imports.{prefix_long, prefix_more, prefix_on, prefix_plain, said_to_all, same_only, same_place, settling, so_alone, so_both}
pub use Rattle.law_steps.proofs.Imports.{stage_by, version_of, was_true}
unfoldable pub use Rattle.law_steps.proofs.Imports.{put}
pub use Rattle.law_jobs.specs.Imports.{IsReadable, IsRefusal, Taken, chains_with, progress}
pub use Rattle.law_jobs.proofs.Imports.{As_it_is, As_told, Blanks, By_ballot, By_entry, By_job, By_read, Did, Ends, Fails, Goes, Handled, Happens, IsMoment}
pub use Rattle.law_jobs.proofs.Imports.{IsSame, Not_here, Ready, Rests, Serves, Serving, Shows, Stays, Turns, Wakes, Worked, always_firm, at_apart, at_same}
pub use Rattle.law_jobs.proofs.Imports.{happens, is_clients, own_place, own_plain, prefix_legal, rests_after, rests_next, retired_second, same_cell_or_apart}
pub use Rattle.law_jobs.proofs.Imports.{start_rests, taking, world_more}
pub use Rattle.law_copies.specs.Imports.{IsRising, blank_joins_in, kept_store, no_pairs, one_put_ahead}
pub use Rattle.law_copies.proofs.Imports.{AllMayWake, Alone_has, At, BeforeBlank, Both_have, By_caught, By_join, By_leave, Ends_fill, HasJoinedSince, IsLater}
pub use Rattle.law_copies.proofs.Imports.{Is_declined, Is_retired, Moves, Moves_on, OneMore, Run, Says, alone_by, at_row, before_part, both_row, by_run}
pub use Rattle.law_copies.proofs.Imports.{cases_lt, chain_apart, chain_put, chosen_caught_was, counted, counted_by, either_true, firm_in, get_in, grown_in}
pub use Rattle.law_copies.proofs.Imports.{held_as_flag, in_get, in_map, in_none, is_at_work, kept, kept_by, lead_links, letters_of_job, live_stage, log_grown}
pub use Rattle.law_copies.proofs.Imports.{log_lost, log_touched, longer, may_wake, none_before_none, one_before, other_between, places_grow, primary_is_one}
pub use Rattle.law_copies.proofs.Imports.{put_rises, rests_in, row_joined, run_of, said, second_by, secondary_is_one, served_so, setting_in, shown_so}
pub use Rattle.law_copies.proofs.Imports.{stepped_in, stopped_so, turned_asks, without_rev}
pub use Rattle.law_requests.specs.Imports.{done_to, line_by}
pub use Rattle.law_requests.proofs.Imports.{Answered, Begins, Blanks_it, By_operation, By_verdict, By_witness, Fails_it, Goes_on, Had_no_slot, Has_no_space}
pub use Rattle.law_requests.proofs.Imports.{Heard, IsCalled, IsFinishedFor, IsJudged, IsReason, IsSeatedOrMute, IsSeenAs, Is_settled, Is_told, Judges}
pub use Rattle.law_requests.proofs.Imports.{OnlySays, Reads, Shown, Starts_it, StaysOpen, Stops_at, Stops_it, Turned, both_leads, chosen_steady, did_finish}
pub use Rattle.law_requests.proofs.Imports.{disk_on, epoch_at, is_notice, is_refused, leaving, led_by, own_below, own_steady, runs_now, serves_sent}
pub use Rattle.law_requests.proofs.Imports.{write_refusal}
pub use Rattle.law_moves.specs.Imports.{HasNewer, IsFilledFrom, IsServing}
pub use Rattle.law_moves.proofs.Imports.{AliveIn, AreCopies, AreCopying, AreTwins, Good, HasSent, IsAt, IsCaught, IsLast, IsLeft, IsLinked, IsOther, IsOwn}
pub use Rattle.law_moves.proofs.Imports.{IsStaged, IsTold, PairOk, WasThere, Working, alive_on, alone_authority, alone_or_flagged, at_by, ballot_store}
pub use Rattle.law_moves.proofs.Imports.{begins_to_leave, both_authority, both_last, both_since, chain_that_counts, chains_ahead, far, frozen_by, good_after}
pub use Rattle.law_moves.proofs.Imports.{half, half_store, heard_there, held_by, in_counts, in_kept, in_mapped, in_own, is_at, joined_where, lead}
pub use Rattle.law_moves.proofs.Imports.{linked_between, no_home, one_place, one_row, other_apart, other_than, pair_at, pair_of, place_by, place_of_later}
pub use Rattle.law_moves.proofs.Imports.{place_touched, places_up, prefixes_meet, rows_later, source_same, split_prefixes, stage_facts, stage_in, stage_is}
pub use Rattle.law_moves.proofs.Imports.{start_good, step_goes, store_by, unseen_beyond}
pub use Rattle.std.proofs.Math.Seq.{drop-append_seam}
pub use Rattle.std.proofs.lemmas.Cmp.{nat_list_eq_equiv}
pub use Rattle.std.proofs.lemmas.List.{length-append}
pub use Rattle.std.proofs.lemmas.List.Folds.{find-append}
pub use Rattle.std.specs.List.{cons_option, filter_map}
pub use Rattle.std.specs.Option.{option_or}
pub use Rattle.law_copies.proofs.ChainsRise.{all_left}
pub use Rattle.law_copies.proofs.CopiesInHistories.{KeepsOn, KeptAfter, start_visits}
pub use Rattle.law_copies.proofs.LastCopies.{of_last, past_last, past_of}
pub use Rattle.law_copies.proofs.LeftToCopy.{tied}
pub use Rattle.law_copies.proofs.MarksPrecedePuts.{marks_first}
pub use Rattle.law_copies.proofs.OtherIsNotHolder.{held_not_lead}
pub use Rattle.law_copies.proofs.PlacesByPrefixes.{linked_alive, retired_not}
pub use Rattle.law_copies.proofs.RolesOfWorkers.{other_alone}
pub use Rattle.law_copies.proofs.ServedAtLaterPrefixes.{AllStarted, been_below, holder_is_one, holds_since, reached_here}
pub use Rattle.law_copies.proofs.StoreHistories.{always_empty}
pub use Rattle.law_copies.proofs.TwoCopyRules.{copies_after, covered_after}
pub use Rattle.law_copies.specs.CopyProgress.{IsLastCopy, IsTrimming, links_of}
pub use Rattle.law_copies.specs.LoneSteps.{IsLeftBy}
pub use Rattle.law_copies.specs.Pair.{IsAhead, IsPutting, Pair, number_of, owns_of}
pub use Rattle.law_copies.specs.Visits.{Visits}
pub use Rattle.law_jobs.proofs.JobsSay.{IsOfRead, letters_by}
pub use Rattle.law_jobs.proofs.OperationsCome.{finished_of}
pub use Rattle.law_jobs.proofs.Runs.{at_moment, firm_then, follows_in, grown_then}
pub use Rattle.law_jobs.specs.Sayings.{SaysOf, to_client}
pub use Rattle.law_moves.proofs.EpochHistories.{early_after, pending_timely, place_timely, second_timely}
pub use Rattle.law_moves.proofs.FillsAtSeconds.{second_after}
pub use Rattle.law_moves.proofs.JobsChangeOneChain.{A_copy, An_asked, An_own, CopiesSo, Drops, Is_dropped, Is_dropped_first, Is_put, NeverRetired}
pub use Rattle.law_moves.proofs.JobsChangeOneChain.{Nothing_new, Of_the_retired, PutsAsked, PutsCopy, PutsOwn, StoresSo, copied_apart, did_stores, not_ahead}
pub use Rattle.law_moves.proofs.KnownOfMoves.{comes_after, filling_after, over_after, retired_frozen, rule_after}
pub use Rattle.law_moves.proofs.MoveWorlds.{top_last}
pub use Rattle.law_moves.proofs.MovesInHistories.{known_after, none_chosen, none_in}
pub use Rattle.law_moves.proofs.NextFill.{in_flat}
pub use Rattle.law_moves.proofs.NoPutsToLeavingCells.{op_there}
pub use Rattle.law_moves.proofs.PendingAfterJobs.{Is_new, It_was, did_was}
pub use Rattle.law_moves.specs.EntryEpochs.{AreEarly}
pub use Rattle.law_moves.specs.Fills.{Has, IsFrozen}
pub use Rattle.law_moves.specs.InTime.{IsTimely}
pub use Rattle.law_requests.proofs.IncarnationsGoOn.{no_earlier, ran_now}
pub use Rattle.law_requests.proofs.LeadsAtTwoPlaces.{leader_alone, one_lead}
pub use Rattle.law_requests.proofs.OpenBesideRunning.{open_beside}
pub use Rattle.law_requests.proofs.OpenWhileRunning.{open_at_place, open_running, pending_here}
pub use Rattle.law_requests.proofs.OpenedAfterReport.{reports_hold}
pub use Rattle.law_requests.proofs.RequestsInHistories.{AskingAlong, asking_along, first_lives, more_lives, one_more, reports_known, requests_after}
pub use Rattle.law_requests.proofs.RequestsInHistories.{start_along, start_asking, start_lives}
pub use Rattle.law_requests.proofs.RequestsKnownLater.{pending_further}
pub use Rattle.law_requests.proofs.StepsGoOnOrBoot.{worked_grows}
pub use Rattle.law_requests.proofs.StepsKeepRequests.{GoesOn, ended_later, happens_asking, happens_later, proposed_pairs}
pub use Rattle.law_requests.proofs.WritesAtLaterPrefixes.{write_stays}
pub use Rattle.law_requests.specs.AskedRequests.{IsOpen, IsRead, IsWrite}
pub use Rattle.law_requests.specs.KnownRequests.{AskingBy, EndKnownAt, Has_pending, Known, KnowsReports, Lives, PendingFor, ReadKnown, asked_for, lives_after}
pub use Rattle.law_requests.specs.KnownRequests.{seen}
pub use Rattle.law_script.proofs.TakenLines.{is_accepted}
pub use Rattle.law_script.specs.Laws.{Asks, Does, asks, line_at, nets, skipped, waits}
pub use Rattle.law_state.proofs.CaughtsMadeBoth.{log_held_or_both}
pub use Rattle.law_state.proofs.CellsByLinkRows.{lost_authority, read_by, retired_authority, retired_reader}
pub use Rattle.law_state.proofs.Disks.{log_disks}
pub use Rattle.law_state.proofs.ErasRiseAfterReports.{log_unread}
pub use Rattle.law_state.proofs.LaterDisks.{AreFresh, HasRowLater, fresh_rows, known_row, later_place, later_rows, old_or_new, stays_row}
pub use Rattle.law_state.proofs.LinksAreNoted.{log_twins}
pub use Rattle.law_state.proofs.ListLookups.{find_after, find_none, find_prefix, get_prefix, none_find, text_itself}
pub use Rattle.law_state.proofs.Owners.{epoch_in, epoch_is, home_later, map_made}
pub use Rattle.law_state.proofs.Stages.{new_most}
pub use Rattle.law_state.proofs.Steady.{viewed}
pub use Rattle.law_state.specs.Disks.{AreDisks}
pub use Rattle.law_state.specs.Homes.{stage_under}
pub use Rattle.law_state.specs.LaterStates.{HasLaterView, IsSecondary}
pub use Rattle.law_state.specs.LinkRows.{IsBetween}
pub use Rattle.law_state.specs.Tables.{IsGrown, IsLaterDisk, IsRowAt}
pub use Rattle.law_steps.proofs.ClientLetters.{is_ask}
pub use Rattle.law_steps.proofs.ClientStepKinds.{client_turns, is_call}
pub use Rattle.law_steps.proofs.KindsInHistories.{ready_chosen}
pub use Rattle.law_steps.proofs.Letters.{one_post}
pub use Rattle.law_steps.proofs.LettersOfSteps.{logged_notice}
pub use Rattle.law_steps.proofs.LogJobs.{LogFrame, applied_entry, applied_none, letter_frame_of, start_frame_of}
pub use Rattle.law_steps.proofs.ServerStepKinds.{chosen_same, server_serves}
pub use Rattle.law_steps.proofs.TicksAskAgain.{in_flat_map}
pub use Rattle.law_steps.specs.DidClient.{answer_of}
pub use Rattle.law_steps.specs.DidStep.{served}
pub use Rattle.petal_base.specs.Block.{zero_block}
pub use Rattle.petal_script.specs.Fields.{a_block, a_byte, a_device, a_kind}
pub use Rattle.spec_history.specs.Claims.{AreCaughtUp, AreHeld, AreInAsThen, AreSnapshots, CopiesStayEqual, CopiesWaitEqual, HasAppliedNone, HasEqualCopies}
pub use Rattle.spec_history.specs.Claims.{Holds, IsCatching, IsStill, Law, SnapshotsStay, machine_after, place_in}
pub use Rattle.spec_history.specs.Contents.{content_at, content_where, entry_at_home, entry_before, entry_by, entry_of, first_entry, has_at_home}
pub use Rattle.spec_history.specs.Contents.{has_content_at, has_content_where, home_of, old_cell}
pub use Rattle.spec_history.specs.Events.{Change, IsRunOf, NotThere, accepted, accepts, after_step, all_there, asks_old, before_step, begins, begun}
pub use Rattle.spec_history.specs.Events.{blocks_in, blocks_of, change_by, changed_blocks, data_among, data_line, data_of, end_by, end_of, ends, events_at}
pub use Rattle.spec_history.specs.Events.{events_from, events_of, events_with, first_data, first_of, freeze_of, freezes, freezes_on, had_content}
pub use Rattle.spec_history.specs.Events.{has_content_next, is_changed, job_asks_old, joined, look_by, look_for, look_for_data, look_of, make_of, makes}
pub use Rattle.spec_history.specs.Events.{old_data, open_write, reads_old, same_actor, snapshots_of, taken, taker, takes, takes_on, turns, with_first}
pub use Rattle.spec_history.specs.Events.{write_asked, write_by, writes_so}
pub use Rattle.spec_machine.specs.Machine.{Plain, blank, but_of, disk_of, has_content, is_named, is_of, is_snap_named, open_of, remembers, same_bytes, stands}
pub use Rattle.spec_machine.specs.Machine.{with_disk}
unfoldable pub use Rattle.spec_machine.specs.Machine.{content}
pub use Rattle.spec_machine.specs.Run.{IsOpen as IsUnderWay, May, MayEnd, MayLook, Obeys, changed, frozen, replay, written}
unfoldable pub use Rattle.spec_machine.specs.Run.{after}
pub use Rattle.spec_machine.specs.declared.event.Event.{Event}
pub use Rattle.spec_machine.specs.declared.event.Event.TheVariants.{Begin, End, Freeze, Look, Make, Take}
pub use Rattle.spec_machine.specs.declared.event.Write.{Write}
pub use Rattle.spec_machine.specs.declared.event.WriteEnd.{WriteEnd}
pub use Rattle.spec_machine.specs.declared.state.Open.{Open}
pub use Rattle.spec_machine.specs.declared.state.PlainDisk.{PlainDisk}
pub use Rattle.spec_machine.specs.declared.state.PlainSnapshot.{PlainSnapshot}
pub use Rattle.spec_rules.specs.Clients.{counts}
pub use Rattle.spec_rules.specs.Store.{or_else}
pub use Rattle.spec_state.specs.CellState.{named_cell, named_map, old_map, read_cell, read_map}

-- The names that this crate takes from others, in one place.
pub use Rattle.law_state.specs.Imports.{Both, Caught, Cell, Command, DiskRow, IsPrefix, Join, Leave, LinkId, LinkRow, LinkState, Lost, MapRow, Moved, Only}
pub use Rattle.law_state.specs.Imports.{PairState, Progress, Record, Server, Setting, State, World, cell_link, chosen_log, chosen_state, has_server, inc_of}
pub use Rattle.law_state.specs.Imports.{is_in, leads_link, link_at, link_cmp, move_region, other_of, owner, region_of, row_blanked, serves, source}
pub use Rattle.law_state.specs.Imports.{state_after, target, tuple_of}
unfoldable pub use Rattle.law_state.specs.Imports.{In, at}
pub use Rattle.law_state.proofs.Imports.{[], if◌then◌else◌, ◌&&◌, ◌++◌, ◌+◌, ◌<◌, ◌==◌, ◌∙◌, ◌∷◌, ◌≡◌, ◌≢◌, ◌≤◌, ◌⊎◌, Bool, List, None, Option, Some, ap}
pub use Rattle.law_state.proofs.Imports.{append-nil, append_assoc, arith, authority, blanked_state, both_true, by_bool, by_test, cond, false, filter, first}
pub use Rattle.law_state.proofs.Imports.{fold, in_both, in_former, in_later, inl, inr, is_alone, is_alone_on, is_link, is_some, is_the_one, length}
pub use Rattle.law_state.proofs.Imports.{length-append, link_of, links_of, map, nat_lt, nat_tests, none_some, not, number_itself, option_and_then, option_map}
pub use Rattle.law_state.proofs.Imports.{option_map_or, range_with_len, refl, row_authority, row_lead, same_numbers, same_or_apart, same_some, second}
pub use Rattle.law_state.proofs.Imports.{some_or_none, subst, sym, touches, true, true_false, unwrap_or, ℕ}
pub use Rattle.law_log.proofs.Imports.{◌||◌, Acted, AreSteps, Body, Copying, Ending, Entry, Equal, Firm, HasProperTuples, IsSound, JobContext, JobResult, Key}
pub use Rattle.law_log.proofs.Imports.{LastCopy, Letter, Log, Moving, Named, Pending, Post, Script, Step, Stored, Table, about, all_put, awake, blanked}
pub use Rattle.law_log.proofs.Imports.{cell_holder, cell_of, chain_in, copying_on, devices, ended, eq_by_cmp, fill_of, flat_map, has_proposed, holds_link}
pub use Rattle.law_log.proofs.Imports.{id_of, is_eq, is_flagged, is_logged, is_second, key_at, last_copy, last_on, less_test, link_named, log_plain, nat_cmp}
pub use Rattle.law_log.proofs.Imports.{pending_on, proposed, put_apart, put_same, raised, ranked, region_to_move, server_state, setting_of, start, subject_of}
pub use Rattle.law_log.proofs.Imports.{touches_cell, who_is_in}
unfoldable pub use Rattle.law_log.proofs.Imports.{put_at}
pub use Rattle.law_steps.specs.Imports.{IsBelow, Paired, Stage, StaysSo, Subject, cell_cmp, coming, crossed, epochs_beyond, live, stage_at, without_entry}
unfoldable pub use Rattle.law_steps.specs.Imports.{next_fill}
pub use Rattle.law_steps.proofs.Imports.{ByBoth, ByNone, ByOne, Chain, Copies, Filling, Full, Greater, HasStage, IsCaughtIn, IsCaughtStill, IsHeldBy}
pub use Rattle.law_steps.proofs.Imports.{IsSteady, Less, Logged, Ordering, Pairs, Store, Written, alone_not_both, alone_row, at-empty, at-where, by_settled}
pub use Rattle.law_steps.proofs.Imports.{cell_cmp_same, comes_before, comes_next, dies, earlier, ends_cell, fill_left, first_key, found_at, history_grows}
pub use Rattle.law_steps.proofs.Imports.{history_is_firm, holder_is_one, in_filter, is_on, is_the, keys_in, keys_of, log_alone, log_below, log_rev, log_roles}
pub use Rattle.law_steps.proofs.Imports.{log_steady, lookup, max, new_stage, no_copies, not_noted, noted, old_stage, one_prefix, or_true, prefix_itself}
pub use Rattle.law_steps.proofs.Imports.{prefix_long, prefix_more, prefix_on, prefix_plain, prefix_same, region_leaving, same_id, settling, so_both, stage_by}
pub use Rattle.law_steps.proofs.Imports.{stage_most, up_some, version_of}
unfoldable pub use Rattle.law_steps.proofs.Imports.{put}
pub use Rattle.law_jobs.specs.Imports.{IsFilled, IsNextFill, IsNextKey, Taken, chains_with, progress}
pub use Rattle.law_jobs.proofs.Imports.{As_it_is, As_told, Aside, Blanks, By_ballot, By_entry, By_job, Did, Ends, Fails, Goes, Handled, Happens, IsSame}
pub use Rattle.law_jobs.proofs.Imports.{Of_job, Rests, Serves, Serving, Stays, Turns, Wakes, Was_sent, Worked, always_firm, at_apart, at_same, below_itself}
pub use Rattle.law_jobs.proofs.Imports.{happens_sent, is_clients, last_happens, next_comes, own_place, own_plain, proposed_pairs, rests_after}
pub use Rattle.law_jobs.proofs.Imports.{same_cell_or_apart, same_itself, same_on, start_rests, stood, taking}
pub use Rattle.law_copies.specs.Imports.{WasStarted, blank_joins_in, is_between, kept_store, one_put_ahead}
pub use Rattle.law_copies.proofs.Imports.{A_lead, A_new_copy, A_sweep, Alone_has, An_operation, As_operation, At, BeforeBlank, Both_have, By_caught, By_join}
pub use Rattle.law_copies.proofs.Imports.{By_leave, Closes, Drops, Effect, Fills, For_a_fill, For_a_write, Goes_on, HasEnded, HasJoinedSince, IsCaughtBy}
pub use Rattle.law_copies.proofs.Imports.{IsDroppedFor, IsInBoth, IsOpening, IsPutFor, IsSetFor, Is_retired, May, Opens, Puts, Says, Sets, The_last_copy}
pub use Rattle.law_copies.proofs.Imports.{Writes, applied, before_part, by_run, chain_apart, chain_put, chosen_caught_was, counted, counted_by, did_come}
pub use Rattle.law_copies.proofs.Imports.{drop_apart, drop_none, either_true, entry_ahead, first_by, first_state, happened_in, in_none, job_keeps}
pub use Rattle.law_copies.proofs.Imports.{joined_counts, joined_since, kept, kept_by, letters_of_job, link_led_by, live_stage, log_both_place, log_grown}
pub use Rattle.law_copies.proofs.Imports.{log_lost, log_touched, longer, lost_not_both, none_before_none, on_row, one_before, past_link, places_grow}
pub use Rattle.law_copies.proofs.Imports.{prefix_within, primary_is_one, put_with, row_joined, row_named, run_of, running_prefixes, second_by}
pub use Rattle.law_copies.proofs.Imports.{secondary_is_one, setting_in, since, split_last, stage_live, start_plain, stays_alone, stays_both, tuple_on}
pub use Rattle.law_epochs.proofs.Imports.{AliveIn, IsAt, IsLinked, IsTouchedBy, Noted, Stood, WasThere, at_by, at_most_or_above, ballot_store, epoch_at}
pub use Rattle.law_epochs.proofs.Imports.{is_at, is_at_so, log_retired, place_by, place_of_later, place_touched, proper, runs_at, split_prefixes, stage_facts}
pub use Rattle.law_epochs.proofs.Imports.{stands_in}
pub use Rattle.law_moves.specs.Imports.{HasNewer, IsFilledFrom, IsServing}
pub use Rattle.law_copies.proofs.ChainsRise.{in_kept, in_mapped}
pub use Rattle.law_copies.proofs.CopiesInHistories.{good_after, start_good, step_goes}
pub use Rattle.law_copies.proofs.EmptyJoins.{after_prefix, joined_where}
pub use Rattle.law_copies.proofs.NewPlaces.{half_store}
pub use Rattle.law_copies.proofs.OtherIsNotHolder.{IsOther, held_by, other_apart}
pub use Rattle.law_copies.proofs.PlacesByPrefixes.{alive_on, linked_between, one_place, one_row, places_up, prefixes_meet, rows_later, state_next}
pub use Rattle.law_copies.proofs.ServedAtLaterPrefixes.{alone_or_flagged, both_last, both_since, heard_there, other_than, same_only, serves_alone, serves_its}
pub use Rattle.law_copies.proofs.ServedAtLaterPrefixes.{unseen_beyond}
pub use Rattle.law_copies.proofs.StoreHistories.{in_counts, in_own, kept_after, own_by}
pub use Rattle.law_copies.proofs.StoresAlongRecords.{before_last, stays_filled}
pub use Rattle.law_copies.specs.CopyProgress.{AreCopying, HasSent, IsCaught, IsLeft, IsTold}
pub use Rattle.law_copies.specs.GoodCopies.{AreTwins, Good, pair_at}
pub use Rattle.law_copies.specs.Pair.{AreCopies, PairOk, Known as Tells, Working, far, pair_of}
pub use Rattle.law_copies.specs.Visits.{HasReached, IsHere, IsLast, half, store_by}
pub use Rattle.law_copies.specs.WaitingStores.{IsOwn}
pub use Rattle.law_epochs.proofs.EntriesAfterJobs.{did_kept}
pub use Rattle.law_epochs.proofs.EntriesNeverEarly.{IsKnownBy, all_early, before_then, now_then}
pub use Rattle.law_epochs.proofs.EntryPredicates.{AreWithin, IsWithin, OfKey, aside_none, is_of_entries, none_within, of_key_on, of_no_key}
pub use Rattle.law_epochs.proofs.EpochScenes.{OneMore, Run, cut, end_of, ends_of}
pub use Rattle.law_epochs.proofs.EpochsInHistories.{place_timely, running_timely, second_timely}
pub use Rattle.law_epochs.proofs.KeysToldByJobs.{IsMoverOwn, did_said, mover_store}
pub use Rattle.law_epochs.proofs.PendingIsInTime.{opened_by, was_opened}
pub use Rattle.law_epochs.proofs.ReportedHaveNoPending.{resting}
pub use Rattle.law_jobs.proofs.CountsGrow.{did_follow}
pub use Rattle.law_jobs.proofs.EntriesReachComingCells.{comes_after, start_comes}
pub use Rattle.law_jobs.proofs.FilledAsTold.{As_before, Told_of, did_remember}
pub use Rattle.law_jobs.proofs.FillsByJobs.{IsOpenedFill, Is_next, Is_other, did_fills, is_fill}
pub use Rattle.law_jobs.proofs.OperationsCome.{restaged}
pub use Rattle.law_jobs.proofs.Runs.{after}
pub use Rattle.law_jobs.specs.ComingCells.{WasComing}
pub use Rattle.law_jobs.specs.Effects.{chains_ahead}
pub use Rattle.law_log.proofs.FillJobsLeaveLog.{filled_beside, filled_here}
pub use Rattle.law_log.proofs.LogInHistories.{first_incs, join_was_wanted, moved_was_wanted}
pub use Rattle.law_log.specs.ProposedCommands.{WasMoving}
pub use Rattle.law_state.proofs.CellsByLinkRows.{alone_authority, both_authority, led_by}
pub use Rattle.law_state.proofs.EntriesTouchLinks.{map_of}
pub use Rattle.law_state.proofs.Homes.{row_or_none}
pub use Rattle.law_state.proofs.LinksAreNoted.{log_noted}
pub use Rattle.law_state.proofs.Owners.{no_home, stage_in, stage_is}
pub use Rattle.law_state.proofs.Steady.{below}
pub use Rattle.law_state.proofs.TwinsAreOfOneDisk.{IsMoved, cells_same, goal_same, gone_twin, log_comes, log_goes, source_same, start_same, twins_later}
pub use Rattle.law_state.specs.LaterStates.{KeepsRoles}
pub use Rattle.law_state.specs.NotedLinks.{HasMovedIn}
pub use Rattle.law_steps.proofs.MovesAreOfComingCells.{leaves_with, next_on, region_left}
pub use Rattle.law_steps.proofs.Records.{tails}
pub use Rattle.law_steps.specs.DidStep.{IsSeatedOrMute}
pub use Rattle.law_steps.specs.Operations.{A_fill, A_write, IsOpenedFor, IsStaged}
pub use Rattle.law_steps.specs.Ties.{HasOwnCaught}
pub use Rattle.spec_history.specs.Claims.{Matters, Moves}
pub use Rattle.spec_paxos.specs.Chosen.{chosen_from, vote_place}
pub use Rattle.spec_rules.specs.State.{leaving}
pub use Rattle.spec_rules.specs.World.{begins_to_leave, chain_that_counts, frozen_by}
pub use Rattle.spec_state.specs.CellState.{lead}
pub use Rattle.spec_state.specs.Command.{after as entry_after}

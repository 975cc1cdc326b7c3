-- The names that this crate takes from others, in one place.
pub use Rattle.law_state.specs.Imports.{Both, Caught, Cell, Command, IsPrefix, Join, Leave, LinkId, LinkRow, LinkState, Lost, Only, PairState, Progress}
pub use Rattle.law_state.specs.Imports.{Record, Server, Setting, State, World, after, blank_joins_from, cell_link, chosen_log, chosen_state, has_server}
pub use Rattle.law_state.specs.Imports.{inc_of, is_in, is_lead, is_up, leads_link, link_at, link_cmp, may_join, other_of, owner, places_from, row_blanked}
pub use Rattle.law_state.specs.Imports.{row_left, serves, state_after, tuple_of}
unfoldable pub use Rattle.law_state.specs.Imports.{In, at}
pub use Rattle.law_state.proofs.Imports.{[], ◌&&◌, ◌++◌, ◌+◌, ◌<◌, ◌==◌, ◌∙◌, ◌∷◌, ◌≡◌, ◌≢◌, ◌≤◌, ◌⊎◌, Bool, List, None, Option, Some, ap, append-nil}
pub use Rattle.law_state.proofs.Imports.{append_assoc, arith, blanked_state, both, both_true, by_bool, by_test, cond, drop, false, filter, first, fold-append}
pub use Rattle.law_state.proofs.Imports.{in-append, in_both, in_former, in_later, inl, inr, is_alone, is_alone_on, is_link, is_some, is_the, is_the_one}
pub use Rattle.law_state.proofs.Imports.{joins_blank, left_state, length, length-append, link_of, list_any, nat_eq, nat_lt, nat_tests, none_some, not}
pub use Rattle.law_state.proofs.Imports.{not_true, number_itself, option_and_then, option_map, option_map_or, refl, row_lead, same_numbers, same_or_apart}
pub use Rattle.law_state.proofs.Imports.{same_some, second, secondary, slice_get, slice_get-map, slice_get_within, some_or_none, state_lead, subst, sym}
pub use Rattle.law_state.proofs.Imports.{touches, true, true_false, unwrap_or, ℕ}
pub use Rattle.law_log.proofs.Imports.{if◌then◌else◌, ◌||◌, Acted, AreSteps, Ask, Blank, Block, Body, Copying, Ending, Entry, Equal, Firm, HasProperTuple}
pub use Rattle.law_log.proofs.Imports.{HasProperTuples, IsSettledState, IsSound, JobContext, JobResult, Key, LastCopy, LastOp, Letter, Life, Log, Named}
pub use Rattle.law_log.proofs.Imports.{NextCopy, Pending, Post, Reaction, Script, Step, Stored, Table, Wait, about, above, acts, all_put_apart, awake}
pub use Rattle.law_log.proofs.Imports.{begins_copy, blanked, cell_at, cell_holder, cell_of, chain_in, client_sender, copying_on, ended, eq_by_cmp}
pub use Rattle.law_log.proofs.Imports.{fill_operation, has_proposed, holds_link, id_of, is_eq, is_flagged, is_logged, is_second, is_under_way, key_at}
pub use Rattle.law_log.proofs.Imports.{last_copy, last_on, link_named, log_plain, map, moved_as, nat_cmp, nat_cmp_total, no_progress, other_in, pending_on}
pub use Rattle.law_log.proofs.Imports.{post_of, progress_on, proposed, put_apart, put_same, puts_entry, raised, ranked, reacts, same_block, sender}
pub use Rattle.law_log.proofs.Imports.{server_state, setting_of, silent, stamped, start, state_in, stays, subject_of, tied_itself, wakes, with_copied}
pub use Rattle.law_log.proofs.Imports.{with_last_copy, with_page, with_progress, without_copying, world_after}
unfoldable pub use Rattle.law_log.proofs.Imports.{next_copy, put_at}
pub use Rattle.law_steps.specs.Imports.{Busy, IsBelow, MarkKind, Nothing, Paired, Sender, Stage, Stale, StaysSo, Subject, before_blanks, cell_cmp, crossed}
pub use Rattle.law_steps.specs.Imports.{epochs_beyond, epochs_of, follows, holder_of, least, letters_of, live, marked_blocks, marks, operation, settled_by}
pub use Rattle.law_steps.specs.Imports.{stage_at, with_copying, without_entry, without_mark_on}
pub use Rattle.law_steps.proofs.Imports.{ByBoth, ByNone, ByOne, Chain, Copies, Greater, HasStarted, IsCaughtStill, IsRetired, IsSteady, Less, Logged, Mark}
pub use Rattle.law_steps.proofs.Imports.{Ordering, Pairs, Read_asked, Store, Write_asked, alone_row, at-empty, at-where, blocks_left, cell_apart}
pub use Rattle.law_steps.proofs.Imports.{cell_cmp_same, cell_cmp_total, cell_gone, cell_gone_apart, cell_same, dies, either_false, ends_cell, ends_link}
pub use Rattle.law_steps.proofs.Imports.{found_at, history_grows, history_is_firm, in_filter, in_once, is_asked, is_at, is_kept_on, is_link_under_way}
pub use Rattle.law_steps.proofs.Imports.{is_none, is_on, lesser, log_alone, log_below, log_steady, lookup, max, needs_full_copy, next_block, no_copies}
pub use Rattle.law_steps.proofs.Imports.{none_of, one_prefix, out_has_stopped, prefix_itself, prefix_long, prefix_more, prefix_on, prefix_plain}
pub use Rattle.law_steps.proofs.Imports.{progress_beside, progress_here, row_in_both, same_caught, same_id, same_place, settling, so_both, stage_most}
pub use Rattle.law_steps.proofs.Imports.{stored_blocks, touches_cell, up_some, version_of, was_true, who_is_in_has_begun, with_mark_on}
unfoldable pub use Rattle.law_steps.proofs.Imports.{put, without}
pub use Rattle.law_jobs.specs.Imports.{IsHeldWith, IsOfCopy, TakenCopy, chains_with, first_copy, first_last, is_marked, progress, putting}
pub use Rattle.law_jobs.proofs.Imports.{Blanks, By_ballot, By_entry, By_job, Did, Ends, Fails, Goes, Handled, Happens, Rests, Serves, Serving, Stays, Turns}
pub use Rattle.law_jobs.proofs.Imports.{Wakes, Worked, always_firm, at_apart, at_same, below_itself, chains_at, is_clients, is_mark, last_happens, mark_on}
pub use Rattle.law_jobs.proofs.Imports.{own_place, rests_after, same_cell_or_apart, same_mark, start_rests, stood, taking, was_same}
pub use Rattle.law_copies.specs.Imports.{AtRest, IsMarked, IsRising, IsToBeCopied, WasStarted, blank_joins_in, is_between, kept_store, no_pairs}
pub use Rattle.law_copies.specs.Imports.{one_put_ahead, with_store}
pub use Rattle.std.proofs.lemmas.Bool.{cases_lt}
pub use Rattle.std.specs.Ordering.{ordering_then}
pub use Rattle.busy_marks.proofs.Orders.{same_itself}
pub use Rattle.busy_marks.specs.Marks.{has_mark}
pub use Rattle.law_jobs.proofs.ChainsApart.{chain_apart, chain_put, drop_apart, drop_none, gone_apart, gone_chain, page_chains}
pub use Rattle.law_jobs.proofs.CountsGrow.{did_count}
pub use Rattle.law_jobs.proofs.FillsByJobs.{Fills, Writes, did_come}
pub use Rattle.law_jobs.proofs.JobsAreEffects.{job_keeps, under_way}
pub use Rattle.law_jobs.proofs.JobsKeepChains.{chains_keep}
pub use Rattle.law_jobs.proofs.JobsSay.{letters_of_job}
pub use Rattle.law_jobs.proofs.MarksApart.{mark_beside, mark_kept, mark_there, stale_kept, unmark_beside, unmark_none}
pub use Rattle.law_jobs.proofs.OperationsCome.{HasCome, HaveCome, Is_new, Stood, each_come, put_with}
pub use Rattle.law_jobs.proofs.Runs.{At, OneMore, Run, before_part, by_run, firm_in, grown_in, happened_in, longer, more_of, rests_in, run_of, setting_in}
pub use Rattle.law_jobs.proofs.Runs.{since, stepped_in}
pub use Rattle.law_jobs.specs.Effects.{A_copy, A_lead, A_new_copy, A_sweep, Alone_has, An_operation, As_copy, As_operation, As_second, Begins_copy, Both_have}
pub use Rattle.law_jobs.specs.Effects.{By_a_copy, By_its_operation, Closes, CopyGoes, Drops, Effect, Ends_copy, For_a_fill, For_a_write, Found_no_slot}
pub use Rattle.law_jobs.specs.Effects.{Goes_on, HasEnded, Has_put, Has_trimmed, Holds_slots, Idle, IsApart, IsClosedFor, IsDroppedFor, IsIdle, IsNewCopy}
pub use Rattle.law_jobs.specs.Effects.{IsNextPage, IsNotHeld, IsOpening, IsPutFor, IsReserved, IsSetFor, IsToBegin, IsToEnd, IsUnderWay, IsUnmarkedFor}
pub use Rattle.law_jobs.specs.Effects.{Is_copied, Is_declined, Is_off, Is_old, Is_over, Is_retired, Is_whole, Marks, May, Opens, Puts, Reserves, Sets}
pub use Rattle.law_jobs.specs.Effects.{The_last_copy, Turns_page, Unmarks, applied, cell_on, ended_copy, entry_ahead, turned_page}
pub use Rattle.law_jobs.specs.Sayings.{Asks_copy, Asks_slot, Begins, Ends_fill, Has_copy, Has_slot, IsCopying, Is_sync_full, Is_synced, Moves, Moves_on, Says}
pub use Rattle.law_jobs.specs.Sayings.{Syncs, Tells_page, Trims}
pub use Rattle.law_log.proofs.BallotFlags.{flag_put}
pub use Rattle.law_log.proofs.LogInHistories.{chosen_caught_was}
pub use Rattle.law_state.proofs.BlankJoins.{counts_joins, joined_counts, joins_grow, joins_on}
pub use Rattle.law_state.proofs.Caughts.{alone_by}
pub use Rattle.law_state.proofs.CaughtsMadeBoth.{left_not_both, left_row, log_both_place, log_lost, places_later, stays_row}
pub use Rattle.law_state.proofs.CellsByLinkRows.{IsInBoth, first_by, link_led_by, retired_second, second_by}
pub use Rattle.law_state.proofs.EntriesOnlyAdd.{start_plain}
pub use Rattle.law_state.proofs.EntriesTouchLinks.{log_entry_stays, log_touched, places_grow, places_of_both, places_on}
pub use Rattle.law_state.proofs.GrownStates.{alone_not_both, lost_not_both, one_before}
pub use Rattle.law_state.proofs.Incarnations.{joined_in, joined_once, joined_since}
pub use Rattle.law_state.proofs.Joins.{both_before}
pub use Rattle.law_state.proofs.LaterDisks.{past_link}
pub use Rattle.law_state.proofs.Leaves.{either_true, other_between}
pub use Rattle.law_state.proofs.ListLookups.{get_in, in_get}
pub use Rattle.law_state.proofs.LoneHolders.{IsBothRow, both_not_alone, both_row, second_secondary}
pub use Rattle.law_state.proofs.NewMapLinks.{in_map}
pub use Rattle.law_state.proofs.Prefixes.{prefix_within}
pub use Rattle.law_state.proofs.Roles.{primary_is_one, secondary_is_one}
pub use Rattle.law_state.proofs.Steady.{linked, log_grown, tuple_on}
pub use Rattle.law_state.specs.Joins.{HasJoinedSince}
pub use Rattle.law_state.specs.LinkChanges.{By_caught, By_join, By_leave, IsCaughtBy, IsHeldStill, row_joined}
pub use Rattle.law_state.specs.LinkRows.{IsLater}
pub use Rattle.law_steps.proofs.ClientLetters.{turned_asks}
pub use Rattle.law_steps.proofs.CopiesRest.{among_least, cell_left, in_none, on_row, row_named, same_cell}
pub use Rattle.law_steps.proofs.HeldBackForCaughts.{held_as_flag}
pub use Rattle.law_steps.proofs.IdleServers.{logged_apart}
pub use Rattle.law_steps.proofs.InvertLead.{is_copying}
pub use Rattle.law_steps.proofs.Letters.{said}
pub use Rattle.law_steps.proofs.ListPlaces.{parted}
pub use Rattle.law_steps.proofs.LogHistories.{chosen_join_acts, join_has_begun, join_was_wanted}
pub use Rattle.law_steps.proofs.OneWorld.{proposed_as}
pub use Rattle.law_steps.proofs.OperationsRest.{did_ready}
pub use Rattle.law_steps.proofs.Records.{none_before_none, split_last}
pub use Rattle.law_steps.proofs.TablesOfPuts.{at_row, put_rises, without_rises}
pub use Rattle.law_steps.proofs.Ties.{running_prefixes, stays_alone, stays_both}
pub use Rattle.law_steps.proofs.WakingGoesOn.{may_wake}
pub use Rattle.law_steps.proofs.WhoLeads.{lead_links, led_by_link, live_stage, stage_live}
pub use Rattle.law_steps.specs.DidStep.{IsBallotFor, Starts, served_so, shown_so, stopped_so, without_rev}
pub use Rattle.law_steps.specs.ProposedCommands.{WasReturning}
pub use Rattle.law_steps.specs.WakingServers.{AllMayWake}
pub use Rattle.petal_msg.specs.Kinds.{is_paired}
pub use Rattle.petal_msg.specs.declared.operation.FollowProgress.TheVariants.{Replicated, Reserved}
pub use Rattle.spec_history.specs.Claims.{AreCovered, Covered, MarksFirst, TwoCopies, is_at_work}
pub use Rattle.spec_rules.proofs.Applied.{rev_after}
pub use Rattle.spec_rules.specs.Blanked.{BeforeBlank}
pub use Rattle.spec_rules.specs.Crossing.{is_blank_join, touches_link}
pub use Rattle.spec_rules.specs.Store.{empty_store, settled}
pub use Rattle.spec_rules.specs.World.{counted, counted_by, kept, kept_by}
pub use Rattle.spec_state.specs.State.{start as first_state}

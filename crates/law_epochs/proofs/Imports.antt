-- The names that this crate takes from others, in one place.
pub use Rattle.law_state.specs.Imports.{Both, Cell, Command, Drained, IsPrefix, Leave, LinkRow, Moved, PairState, Record, Server, Setting, State, World}
pub use Rattle.law_state.specs.Imports.{after, cell_link, chosen_log, chosen_state, has_server, held, is_in, is_up_as, is_writes_held, leads_link, link_at}
pub use Rattle.law_state.specs.Imports.{places_from, region_of, state_after, tuple_of}
unfoldable pub use Rattle.law_state.specs.Imports.{In, at}
pub use Rattle.law_state.proofs.Imports.{[], ◌++◌, ◌+◌, ◌<◌, ◌==◌, ◌∙◌, ◌∷◌, ◌≡◌, ◌≢◌, ◌≤◌, ◌⊎◌, Bool, List, None, Option, Some, ap, append-nil, append_assoc}
pub use Rattle.law_state.proofs.Imports.{arith, by_bool, by_test, cond, false, fold, fold-append, inl, inr, is_the_one, length, length-append, link_of}
pub use Rattle.law_state.proofs.Imports.{links_of, nat_le, nat_tests, none_some, option_and_then, option_map_or, refl, row_lead, same_or_apart, same_some}
pub use Rattle.law_state.proofs.Imports.{slice_get, some_or_none, subst, suc, sym, touches, true, true_false, unwrap_or, zero, ℕ}
pub use Rattle.law_log.proofs.Imports.{if◌then◌else◌, Acted, AreSteps, Body, Ending, Firm, HasProperTuples, IsSound, JobContext, JobResult, Key, Letter, Log}
pub use Rattle.law_log.proofs.Imports.{Pending, Post, Script, Step, Stored, Table, all_put, blanked, cell_of, chain_in, ended, has_held_write, is_eq}
pub use Rattle.law_log.proofs.Imports.{is_logged, log_plain, moved_as, nat_cmp, nat_cmp_total, server_state, setting_of, start, subject_of, tied_itself}
pub use Rattle.law_steps.specs.Imports.{Copied, Paired, Subject, cell_cmp, crossed, stage_at, without_entry}
pub use Rattle.law_steps.proofs.Imports.{Chain, Filling, Logged, Pairs, Store, at-empty, history_grows, history_is_firm, holder_is_one, log_below, log_rev}
pub use Rattle.law_steps.proofs.Imports.{log_steady, lookup, one_prefix, prefix_itself, prefix_long, prefix_more, prefix_on, prefix_plain, same_place}
pub use Rattle.law_steps.proofs.Imports.{settling, stage_most}
unfoldable pub use Rattle.law_steps.proofs.Imports.{put, without}
pub use Rattle.law_jobs.specs.Imports.{IsNextFill, IsNextKey, chains_with, filled_to}
pub use Rattle.law_jobs.proofs.Imports.{Aside, Blanks, By_ballot, By_entry, By_job, Did, Fails, Goes, Handled, Happens, IsOfJob, Of_job, Rests, Serves}
pub use Rattle.law_jobs.proofs.Imports.{Serving, Stays, Turns, Wakes, Was_sent, Worked, always_firm, at_apart, below_itself, chains_at, happens_sent}
pub use Rattle.law_jobs.proofs.Imports.{is_aside, is_clients, last_happens, next_comes, own_place, own_plain, proposed_pairs, rests_after, same_cell_or_apart}
pub use Rattle.law_jobs.proofs.Imports.{start_rests}
pub use Rattle.law_copies.specs.Imports.{blank_joins_in, kept_store}
pub use Rattle.law_copies.proofs.Imports.{A_copy, A_lead, An_operation, Asks_copy, At, BeforeBlank, By_caught, By_join, By_leave, Ends_fill, Fills, IsPutFor}
pub use Rattle.law_copies.proofs.Imports.{Moves, Moves_on, Says, Syncs, Writes, alone_not_both, before_part, by_run, chain_apart, chain_put, did_come}
pub use Rattle.law_copies.proofs.Imports.{drop_apart, gone_chain, kept, letters_of_job, link_led_by, log_grown, log_touched, places_grow, places_of_both}
pub use Rattle.law_copies.proofs.Imports.{places_on, prefix_within, primary_is_one, run_of, tuple_on}
pub use Rattle.law_requests.proofs.Imports.{Repeats, WasDraining, epoch_at, era_low, log_unheld, report_was_made, runs_at, runs_now}
pub use Rattle.law_copies.proofs.EmptyJoins.{stands_in}
pub use Rattle.law_copies.proofs.PlacesByPrefixes.{at_most_or_above, place_of_later, place_touched}
pub use Rattle.law_copies.proofs.StoreJobs.{ballot_store}
pub use Rattle.law_copies.proofs.VisitsAfterSteps.{IsAt, at_by, is_at_so}
pub use Rattle.law_copies.specs.Visits.{AliveIn, IsLinked, WasThere, is_at, place_by}
pub use Rattle.law_jobs.proofs.FillsByJobs.{Stood}
pub use Rattle.law_jobs.proofs.JobsAreEffects.{effects_of}
pub use Rattle.law_jobs.proofs.JobsKeepChains.{becomes_keeps}
pub use Rattle.law_jobs.specs.Effects.{Becomes, Noted}
pub use Rattle.law_jobs.specs.Sayings.{Ends, Of_the_log, Refuses}
pub use Rattle.law_requests.proofs.LeadsAtTwoPlaces.{seat_stays}
pub use Rattle.law_requests.proofs.OpenWhileRunning.{chosen_prefix, in_between}
pub use Rattle.law_requests.proofs.PendingHoldsReports.{held_write}
pub use Rattle.law_requests.proofs.RequestsInHistories.{AskingAlong, asking_along}
pub use Rattle.law_requests.proofs.RequestsKnownLater.{either_prefix}
pub use Rattle.law_state.proofs.ErasRiseAfterReports.{log_epochs, log_left}
pub use Rattle.law_state.proofs.LinksAreNoted.{log_retired}
pub use Rattle.law_state.proofs.NewMapLinks.{proper}
pub use Rattle.law_state.proofs.TwinsAreOfOneDisk.{twins_epoch}
pub use Rattle.law_state.specs.Epochs.{era_at}
pub use Rattle.law_state.specs.Homes.{era_by}
pub use Rattle.law_state.specs.LinkChanges.{IsTouchedBy}
pub use Rattle.law_steps.proofs.MovesAreOfComingCells.{stage_facts}
pub use Rattle.law_steps.proofs.Records.{split_prefixes}
pub use Rattle.petal_table.proofs.Rows.{gone_apart, gone_same}

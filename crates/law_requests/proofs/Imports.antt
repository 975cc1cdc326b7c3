-- The names that this crate takes from others, in one place.
pub use Rattle.law_state.specs.Imports.{Both, Caught, Cell, Command, DiskView, Drained, IsPrefix, Join, LinkRow, Lost, Only, PairState, Progress, Record}
pub use Rattle.law_state.specs.Imports.{Server, Setting, State, World, cell_asked, cell_link, chosen_log, chosen_state, find, has_server, held, inc_of, is_in}
pub use Rattle.law_state.specs.Imports.{is_lead, is_up, is_writes_held, link_cmp, other_of, places_from, serves, start, state_after}
unfoldable pub use Rattle.law_state.specs.Imports.{In, at}
pub use Rattle.law_state.proofs.Imports.{[], if◌then◌else◌, ◌&&◌, ◌++◌, ◌+◌, ◌<◌, ◌==◌, ◌∙◌, ◌∷◌, ◌≡◌, ◌≢◌, ◌≤◌, ◌⊎◌, All, Bool, List, No, None, Option, Some}
pub use Rattle.law_state.proofs.Imports.{Writes, ap, append-nil, append_assoc, arith, both_true, by_bool, false, in-append, in_both, in_former, in_later, inl}
pub use Rattle.law_state.proofs.Imports.{inr, is_alone_on, is_the_one, is_the_so, lead, length, length-append, nat_le, nat_tests, none_some, number_itself}
pub use Rattle.law_state.proofs.Imports.{option_and_then, option_map, option_map_or, primary, refl, row_lead, same_numbers, same_or_apart, same_some}
pub use Rattle.law_state.proofs.Imports.{secondary, slice_get, some_or_none, subst, sym, true, true_false, ℕ}
pub use Rattle.law_log.proofs.Imports.{◌-◌, Acted, Actor, Answer, AreSteps, Asked, Blank, Body, Client, Ending, Firm, HasProperTuples, IsSound, JobContext}
pub use Rattle.law_log.proofs.Imports.{JobResult, Letter, Line, Log, Pending, Post, Reaction, Request, Script, Sight, Step, Table, Wanted, acts, all_put}
pub use Rattle.law_log.proofs.Imports.{all_put_apart, awake, blanked, client_sender, command_of, ended, has_held_write, has_proposed, here_of, id_of}
pub use Rattle.law_log.proofs.Imports.{is_flagged, is_logged, is_read, is_some, is_write, lines_of, log_plain, nat_cmp, put_apart, put_same, raised, reacts}
pub use Rattle.law_log.proofs.Imports.{rev_of, server_state, setting_of, stamped, state_in, stays, subject_of, who_is_in, world_after}
unfoldable pub use Rattle.law_log.proofs.Imports.{put_at, refusal}
pub use Rattle.law_steps.specs.Imports.{Finished, Glanced, IsBelow, Pattern, Refused, StaysSo, Subject, cell_cmp, coming, crossed, letters_of, live}
pub use Rattle.law_steps.specs.Imports.{pattern_block, settled_by, stage_at}
pub use Rattle.law_steps.proofs.Imports.{ByBoth, ByNone, ByOne, Copies, HasLater, HasStage, IsRetired, IsSteady, Logged, Pairs, Read_asked, Write_asked}
pub use Rattle.law_steps.proofs.Imports.{alone_row, at-empty, between, cell_cmp_same, has_stage, history_is_firm, in_once, in_up, log_alone, log_below}
pub use Rattle.law_steps.proofs.Imports.{log_rev, log_roles, log_steady, one_prefix, prefix_itself, prefix_long, prefix_more, prefix_on, prefix_plain}
pub use Rattle.law_steps.proofs.Imports.{prefix_same, report_among, same_caught, same_only, same_place, settling, so_alone, so_both, up_some}
unfoldable pub use Rattle.law_steps.proofs.Imports.{put}
pub use Rattle.law_jobs.specs.Imports.{IsNew}
pub use Rattle.law_jobs.proofs.Imports.{Blanks, By_ballot, By_entry, By_job, Did, Ends, Fails, Goes, Handled, Happens, Ready, Rests, Serves, Serving, Stays}
pub use Rattle.law_jobs.proofs.Imports.{Turns, Wakes, Was, Worked, at_apart, at_same, below_itself, is_clients, own_place, own_plain, proposed_pairs, was_same}
pub use Rattle.law_requests.specs.Imports.{done_to, line_by}
pub use Rattle.std.proofs.lemmas.Bool.{cases_lt}
pub use Rattle.law_jobs.proofs.JobsSay.{letters_of_job}
pub use Rattle.law_jobs.proofs.OperationsCome.{HasCome, HasFinished, Is_done, Is_new, None_new, Stood, did_come, did_finish}
pub use Rattle.law_jobs.proofs.Runs.{At, OneMore, after, by_run, firm_in, grown_in, happened_in, longer, more_of, ready_in, rests_in, run_of, setting_in}
pub use Rattle.law_jobs.specs.Effects.{Alone_has, Both_have, By_operation, For_a_fill, For_a_write, Had_no_slot, HasEnded, IsFinishedFor, Is_declined}
pub use Rattle.law_jobs.specs.Effects.{Is_retired}
pub use Rattle.law_jobs.specs.Sayings.{Ends_fill, Moves, Moves_on, Repeats, Shows_nothing}
pub use Rattle.law_log.proofs.CaughtsWanted.{kept_proposed}
pub use Rattle.law_log.proofs.LogInHistories.{chosen_caught_was, join_was_wanted, report_was_made}
pub use Rattle.law_log.specs.ProposedCommands.{WasDraining}
pub use Rattle.law_state.proofs.Ages.{age_in, in_age}
pub use Rattle.law_state.proofs.CellsByLinkRows.{alone_leads as alone_leads_link, both_leads, lead_is, led_by, led_so, lost_leads}
pub use Rattle.law_state.proofs.EntriesTouchLinks.{places_grow}
pub use Rattle.law_state.proofs.Eras.{era_low}
pub use Rattle.law_state.proofs.ErasRiseAfterReports.{log_unheld}
pub use Rattle.law_state.proofs.GrownStates.{alone_not_both, alone_not_both as alone_row_not_both, lost_not_alone, lost_not_both}
pub use Rattle.law_state.proofs.Leaves.{both_up, either_true}
pub use Rattle.law_state.proofs.LoneHolders.{alone_left, both_not_alone, both_row, lead_alone}
pub use Rattle.law_state.proofs.NamedCells.{asked_only, found_epoch, made_for, told_settled_at}
pub use Rattle.law_state.proofs.Owners.{disk_on}
pub use Rattle.law_state.proofs.Prefixes.{prefix_within}
pub use Rattle.law_state.proofs.Roles.{primary_is_one, secondary_is_one}
pub use Rattle.law_state.proofs.Steady.{log_grown}
pub use Rattle.law_state.specs.Homes.{epoch_at, era_at}
pub use Rattle.law_state.specs.LaterStates.{HasComeSecond}
pub use Rattle.law_state.specs.LinkChanges.{IsCaughtBy}
pub use Rattle.law_state.specs.LinkRows.{IsServed}
pub use Rattle.law_steps.proofs.ClientStepKinds.{was_open}
pub use Rattle.law_steps.proofs.HeldBackForCaughts.{any_at, held_as_flag}
pub use Rattle.law_steps.proofs.KindsInHistories.{chosen_below, chosen_steady, own_below, own_steady, runs_at, runs_now}
pub use Rattle.law_steps.proofs.Letters.{said}
pub use Rattle.law_steps.proofs.LettersOfSteps.{is_notice, serves_sent}
pub use Rattle.law_steps.proofs.Records.{none_before_none, split_last, split_one}
pub use Rattle.law_steps.proofs.Restages.{was_taken}
pub use Rattle.law_steps.proofs.Subjects.{of_did}
pub use Rattle.law_steps.proofs.Ties.{running_prefixes, stays_both}
pub use Rattle.law_steps.proofs.WakingGoesOn.{may_wake}
pub use Rattle.law_steps.proofs.WhoLeads.{lead_links}
pub use Rattle.law_steps.specs.Did.{is_not_here}
pub use Rattle.law_steps.specs.DidClient.{A_read, A_write, Anew, As_it_was, Begins, Blanks_it, By_verdict, By_witness, Fails_it, Goes_on, Has_no_space}
pub use Rattle.law_steps.specs.DidClient.{IsCalled, IsJudged, IsReason, IsSame, IsSeenAs, Is_settled, Is_told, Judges, Of_the_log, OnlySays, Reads, Says}
pub use Rattle.law_steps.specs.DidClient.{Shown, Starts_it, StaysOpen, Stops_at, Stops_it, Turned, WasSent}
pub use Rattle.law_steps.specs.DidStep.{Heard, IsOnward, IsSeatedOrMute, served_so, stopped_so}
pub use Rattle.law_steps.specs.WakingServers.{AllMayWake}
pub use Rattle.petal_msg.specs.Kinds.{Answered, is_refused}
pub use Rattle.script_lines.specs.Requests.{names}
pub use Rattle.spec_history.specs.Claims.{AreHeldAlong, IsLateAt, IsOver, ReportsHold, Requests, WritesNothingSince}
pub use Rattle.spec_rules.specs.Clients.{write_refusal}
pub use Rattle.spec_rules.specs.Server.{no_pairs}
pub use Rattle.spec_rules.specs.State.{Hold, leaving}

-- The names that this crate takes from others, in one place.
pub use Rattle.law_state.specs.Imports.{Cell, Command, IsPrefix, LinkId, LinkRow, PairState, Record, Server, Setting, State, World, cell_link, chosen_log}
pub use Rattle.law_state.specs.Imports.{chosen_state, link_cmp, state_after}
unfoldable pub use Rattle.law_state.specs.Imports.{In, at}
pub use Rattle.law_state.proofs.Imports.{[], ◌++◌, ◌∙◌, ◌∷◌, ◌≡◌, ◌≢◌, ◌≤◌, ◌⊎◌, Bool, List, None, Option, Some, ap, append-nil, append_assoc, arith, by_bool}
pub use Rattle.law_state.proofs.Imports.{by_test, false, in-append, in_former, in_later, inl, inr, length, none_some, refl, same_or_apart, same_some, subst}
pub use Rattle.law_state.proofs.Imports.{sym, true, true_false, unwrap_or, ℕ}
pub use Rattle.law_log.proofs.Imports.{Acted, Action, Actor, AreStepsFrom, Body, Copying, Ending, Firm, FollowProgress, JobContext, JobResult, Key, LastCopy}
pub use Rattle.law_log.proofs.Imports.{LastOp, Letter, Log, OpKind, Pending, Post, Script, Step, Stored, Table, above, all_put, begins_copy, blanked, cell_at}
pub use Rattle.law_log.proofs.Imports.{cell_holder, cell_of, chain_in, ends, fill_operation, gives_back, gives_up, id_of, is_second, key_at, last_copy}
pub use Rattle.law_log.proofs.Imports.{last_on, nat_cmp, pending_on, post_to, progress_on, stepped, subject_of, tells, with_copied, with_opened, with_page}
pub use Rattle.law_log.proofs.Imports.{with_progress, without_copying, without_pending, world_after}
unfoldable pub use Rattle.law_log.proofs.Imports.{step}
pub use Rattle.law_steps.specs.Imports.{Busy, Finished, IsBelow, MarkKind, Stage, Stale, Subject, acts, cell_cmp, coming, crossed, live, marks, next_stage}
pub use Rattle.law_steps.specs.Imports.{operation, origin_by, puts, with_pending, with_reserved, without_entry, without_mark_on}
pub use Rattle.law_steps.proofs.Imports.{Chain, Filling, Logged, Mark, Pairs, Store, at-empty, cell_apart, cell_gone, cell_gone_apart, cell_same}
pub use Rattle.law_steps.proofs.Imports.{history_grows, history_is_firm, log_rev, prefix_on, settling, version_of, with_mark_at, with_mark_on}
unfoldable pub use Rattle.law_steps.proofs.Imports.{put, without}
pub use Rattle.law_jobs.specs.Imports.{AreSteps, IsNextFill, IsNextKey, IsSound, Taken, TakenCopy, chains_with, first_copy, first_last, is_marked, progress}
pub use Rattle.law_jobs.specs.Imports.{putting, setting_of, start}
pub use Rattle.std.specs.Prelude.{◌+◌, ◌-◌, suc, zero}
pub use Rattle.busy_marks.proofs.Orders.{is_mark}
pub use Rattle.busy_marks.proofs.Sets.{is_set, set_apart, set_keeps, unset_apart, unset_back}
pub use Rattle.busy_marks.specs.Marks.{same_mark, without_mark}
pub use Rattle.law_state.proofs.ListLookups.{in_filter}
pub use Rattle.law_state.proofs.Moments.{last_moment, moment_more}
pub use Rattle.law_state.proofs.Prefixes.{below_itself}
pub use Rattle.law_state.specs.Moments.{IsMoment}
pub use Rattle.law_steps.proofs.KindsInHistories.{firm_now, happens, last_happens, own_plain, prefix_legal, proposed_pairs, ready_after, rests_after}
pub use Rattle.law_steps.proofs.KindsInHistories.{rests_next, start_rests, world_more}
pub use Rattle.law_steps.proofs.CopiesRest.{among_least}
pub use Rattle.law_steps.proofs.LettersOfSteps.{Aside, IsOfJob, Of_job, Was_sent, happens_sent, is_aside}
pub use Rattle.law_steps.proofs.MovesAreOfComingCells.{next_comes}
pub use Rattle.law_steps.proofs.OperationsRest.{same_cell_or_apart}
pub use Rattle.law_steps.proofs.Restages.{IsSame, Was, same_itself, same_on, stood, was_same}
pub use Rattle.law_steps.proofs.Subjects.{of_read, of_sweep}
pub use Rattle.law_steps.proofs.TakenUpAlone.{taking}
pub use Rattle.law_steps.proofs.WhoLeads.{retired_second}
pub use Rattle.law_steps.proofs.WorldsAreFirm.{always_firm}
pub use Rattle.law_steps.specs.Did.{By_filler, By_holder, By_lead, By_other, By_read, By_second, By_sweep, Did, Ignores, Refuses}
pub use Rattle.law_steps.specs.DidFiller.{DidFiller, Is_filled, Is_out_of_slots}
pub use Rattle.law_steps.specs.DidHolder.{Asks_page, Asks_to_trim, Begins_copy, Closes_copy, CopyStep, Copy_as_is, Copy_synced, Copy_trimmed, DidHolder}
pub use Rattle.law_steps.specs.DidHolder.{Finds_it_full, Goes_on_copying, Sends, Tidies, Turns_page, Unmarks_copied}
pub use Rattle.law_steps.specs.DidLead.{A_copied_entry, A_copy, A_page, A_slot, A_trim, An_entry_to_move, As_it_is, As_told, Asks, Asks_for, Closes}
pub use Rattle.law_steps.specs.DidLead.{Closes_alone, DidLead, Gives_up, Goes_on_retired, Has_fill, Has_no_room, Is_full, Marks, Marks_alone, Of_the_log}
pub use Rattle.law_steps.specs.DidLead.{Opens, Opens_alone, Opens_fill, Opens_fill_alone, Puts, Puts_alone, Repeats, Unmarks_alone, told}
pub use Rattle.law_steps.specs.DidOther.{Answers_page, DidOther, Drops_entry, Goes_on_trimming, Has_entry, Has_no_slot, Is_copied_to, Is_trimmed, OtherReply}
pub use Rattle.law_steps.specs.DidOther.{Puts_entry, Replies, TrimStep}
pub use Rattle.law_steps.specs.DidRead.{DidRead, Not_here, Shows}
pub use Rattle.law_steps.specs.DidSecond.{Declines, DidSecond, Follows, Promises, Sets_apart}
pub use Rattle.law_steps.specs.DidStep.{Blanks, By_ballot, By_entry, By_job, Ends, Fails, Goes, Handled, Happens, Serves, Serving, Stays, Turns, Wakes}
pub use Rattle.law_steps.specs.DidStep.{Worked, own_place}
pub use Rattle.law_steps.specs.DidSweep.{DidSweep, Sweeps}
pub use Rattle.law_steps.specs.Operations.{far_of}
pub use Rattle.law_steps.specs.Ready.{AreFirm, Ready, Rests}
pub use Rattle.petal_table.proofs.Rows.{at_apart, at_same}
pub use Rattle.spec_rules.specs.Copies.{idle_blocks, idle_from, next_idle, unmarks_limit}
pub use Rattle.spec_rules.specs.Store.{chains_at, mark_on, unmark_all_on}
pub use Rattle.spec_rules.specs.World.{with_answer}
pub use Rattle.spec_rules.specs.Writes.{is_clients}

-- The names that this crate takes from others, in one place.
pub use Rattle.law_state.specs.Imports.{Cell, Command, IsPrefix, LinkRow, Lost, PairState, Record, Server, Setting, State, World, cell_link, chosen_log}
pub use Rattle.law_state.specs.Imports.{chosen_state, is_in, is_lead, serves, state_after}
unfoldable pub use Rattle.law_state.specs.Imports.{In, at}
pub use Rattle.law_steps.specs.Imports.{Actor, Answer, Asked, Body, Boot, Copying, Entry, Finished, Job, JobContext, Key, LastCopy, Letter, Line, Moving}
pub use Rattle.law_steps.specs.Imports.{Pending, Step, Work, bytes_of, cell_cmp, cell_of, chain_in, coming, command_of, copying_on, entry_at, first, free_of}
pub use Rattle.law_steps.specs.Imports.{has_stored, is_settled, lines_of, pending_on, raised, rev_of, second, server_state, stage_at, stepped}
pub use Rattle.law_jobs.specs.Imports.{FoundNoSlot, IsBusy, IsHeldBack, IsNewFill, IsNextKey, IsOfCopy, IsReadable}
pub use Rattle.law_copies.specs.Imports.{is_clients, world_after}
pub use Rattle.law_requests.specs.Imports.{done_to, line_by}
pub use Rattle.law_state.specs.Moments.{IsMoment}
pub use Rattle.law_state.specs.Plain.{asker}
pub use Rattle.law_steps.specs.DidStep.{Handled, own_place}
pub use Rattle.petal_msg.specs.Kinds.{asked_by}
pub use Rattle.script_lines.specs.declared.answer.Answer.TheVariants.{Data}
pub use Rattle.script_lines.specs.declared.request.Request.{Request}
pub use Rattle.script_lines.specs.declared.request.Request.TheVariants.{Read, Settle}
pub use Rattle.spec_history.specs.Events.{accepted, look_for, old_data, reads_old}
pub use Rattle.spec_history.specs.Examples.{make_moves, read_moves, sevens, write_moves}
pub use Rattle.spec_history.specs.Play.{records_of}
pub use Rattle.spec_machine.specs.declared.event.Event.{Event}
pub use Rattle.spec_machine.specs.declared.event.Event.TheVariants.{Look}
pub use Rattle.spec_rules.specs.Jobs.{has_full_log, has_too_many_marks, job_done, operator}
pub use Rattle.spec_rules.specs.World.{IsOpenLine, client_state, start}
pub use Rattle.spec_rules.specs.declared.step.CommitEnd.{CommitEnd}
pub use Rattle.spec_rules.specs.declared.step.Step.TheVariants.{Call, Deliver, Glance, Stop, StopIn}

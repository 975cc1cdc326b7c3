-- The names that this crate takes from others, in one place.
pub use Rattle.std.proofs.Common.{[], if◌then◌else◌, ◌&&◌, ◌++◌, ◌+◌, ◌<◌, ◌==◌, ◌||◌, ◌∙◌, ◌∷◌, ◌≡◌, ◌≢◌, ◌≤◌, ◌⊎◌, Bool, List, None, Option, Some, ap}
pub use Rattle.std.proofs.Common.{arith, cond, false, fold, get_or, get_or-set_other, inl, inr, length, map, nat_lt, refl, replicate, set, subst, suc, sym}
pub use Rattle.std.proofs.Common.{true, zero, ℕ}
pub use Rattle.std.proofs.lemmas.Bool.{cases_lt}
pub use Rattle.std.proofs.lemmas.Bool.Decides.{nat_tests}
pub use Rattle.std.specs.List.{cons_option, filter_map, flat_map, list_any, range_with_len}
pub use Rattle.std.specs.Prelude.{◌/◌, find, max, not, option_map, slice_get, unwrap_or, ⊤}
pub use Rattle.petal_command.proofs.Equal.{number_is}
pub use Rattle.petal_command.specs.Ballot.{same}
unfoldable pub use Rattle.petal_command.specs.Ballot.{number}
pub use Rattle.petal_command.specs.declared.ballot.Ballot.{Ballot}
pub use Rattle.petal_command.specs.declared.command.Command.{Command}
pub use Rattle.petal_command.specs.declared.pax.Pax.{Pax}
pub use Rattle.petal_command.specs.declared.pax.Pax.TheVariants.{Accept, Accepted, Chosen, Prepare, Promise, Refuse}
pub use Rattle.spec_paxos.proofs.Committed.{acceptance_is, acceptance_self, at_place}
pub use Rattle.spec_paxos.proofs.Members.{in_cons, in_got, in_here, in_nil, in_there, put_at_cases, put_cases}
pub use Rattle.spec_paxos.proofs.standing.Reported.{higher_ranks}
pub use Rattle.spec_paxos.specs.Acceptor.{Acceptor, accept, is_open, is_unpromised, promise, rank, refusal}
pub use Rattle.spec_paxos.specs.Chosen.{Devices, IsChosenBy, acceptance_at, before_first, chosen_at, chosen_from, chosen_log, has_voted, last_place}
pub use Rattle.spec_paxos.specs.Chosen.{vote_place, votes_for, wins}
pub use Rattle.spec_paxos.specs.Kept.{same_acceptance}
unfoldable pub use Rattle.spec_paxos.specs.Member.{In, put, put_at}
pub use Rattle.spec_paxos.specs.Proposer.{collected, collecting, counted, counts, has_majority, hear, higher, is_for, is_in, rank_of, to_propose}
unfoldable pub use Rattle.spec_paxos.specs.Proposer.{nobody}
pub use Rattle.spec_paxos.specs.Quorum.{IsMajority, count_below}
pub use Rattle.spec_paxos.specs.Schedule.{Boots, End, Event, Goes, Handed, IsChosen, IsWanted, Sent, Starts, Stops, StopsAfter, StopsBefore, Vote, World}
pub use Rattle.spec_paxos.specs.Schedule.{arrives, begin, boots, cast, comes_out, ended, handed, happens, keep, learn, raise, run, send, sent, started}
pub use Rattle.spec_paxos.specs.Schedule.{starting, starts, turn, vote}
pub use Rattle.spec_paxos.specs.declared.phase.Phase.{Phase}
pub use Rattle.spec_paxos.specs.declared.phase.Phase.TheVariants.{Collecting, Idle, Voting}
pub use Rattle.spec_paxos.specs.declared.record.StateRecord.{StateRecord}

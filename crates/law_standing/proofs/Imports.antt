-- The names that this crate takes from others, in one place.
pub use Rattle.law_agreement.proofs.Imports.{[], if◌then◌else◌, ◌&&◌, ◌++◌, ◌+◌, ◌<◌, ◌∙◌, ◌∷◌, ◌≡◌, ◌≢◌, ◌≤◌, ◌⊎◌, Ballot, Bool, Command, IsMajority, List}
pub use Rattle.law_agreement.proofs.Imports.{None, Option, Some, ap, arith, cases_lt, counts, false, has_majority, in_cons, in_got, in_here, in_nil, in_there}
pub use Rattle.law_agreement.proofs.Imports.{inl, inr, is_for, is_in, length, nat_lt, nat_tests, not, put_cases, rank, rank_of, refl, same, set, subst, sym}
pub use Rattle.law_agreement.proofs.Imports.{to_propose, true, ℕ, ⊤}
unfoldable pub use Rattle.law_agreement.proofs.Imports.{In, nobody, number, put}
pub use Rattle.std.proofs.Common.{unwrap_or}
pub use Rattle.std.proofs.lemmas.Bool.{and_parts}
pub use Rattle.std.specs.Prelude.{min, nat_le}
pub use Rattle.law_agreement.proofs.MovesKeepFacts.{at_put, not_in_nobody, one_server}
pub use Rattle.law_agreement.proofs.Quorum.{either, majorities_meet}
pub use Rattle.law_agreement.proofs.SchedulesKeepFacts.{at_true, for_them, joined}
pub use Rattle.spec_paxos.proofs.Committed.{in_prefix}
pub use Rattle.spec_paxos.proofs.standing.Committed.{IsFit, IsRising, accepted_in, accepted_stands, committed_in, in_committed, known_stands, pledge_rises}
pub use Rattle.spec_paxos.proofs.standing.Committed.{promise_covers, promise_pledges, promised_rises, rising_committed}
pub use Rattle.spec_paxos.proofs.standing.Listed.{listing}
pub use Rattle.spec_paxos.proofs.standing.Reported.{in_reported, reported_in, reported_rises}
pub use Rattle.spec_paxos.specs.standing.Acceptor.{is_open_at, is_open_from, is_unpromised_from, last_place, listed, promise_of, until_of}
pub use Rattle.spec_paxos.specs.standing.Kept.{Inc, Chosen as Learnt, PromiseFrom, StateRecord, Accepted as Vote, accepted_at, committed, inc_of, least}
pub use Rattle.spec_paxos.specs.standing.Kept.{promised_at, promised_from}
pub use Rattle.spec_paxos.specs.standing.Letters.{Accept, Accepted, Chosen, Letter, Prepare, Promise, Refuse, Report}
pub use Rattle.spec_paxos.specs.standing.Listing.{IsEnd, IsListing, IsRisingFrom}
pub use Rattle.spec_paxos.specs.standing.Proposer.{Ask, Idle, Phase, Standing, Started, Told, asking, collected, counted, hear, is_behind, is_within}
pub use Rattle.spec_paxos.specs.standing.Proposer.{may_propose, reported_at, starting, tells}
pub use Rattle.spec_paxos.specs.standing.Schedule.{Boots, End, Event, Fits, Goes, Handed, IsChosen, IsWanted, Proposes, Sent, Setting, Starts, Stops}
pub use Rattle.spec_paxos.specs.standing.Schedule.{StopsAfter, StopsBefore, World, arrives, begin, boots, comes_out, commit, ended, handed, happens, keep}
pub use Rattle.spec_paxos.specs.standing.Schedule.{proposes, run, send, sent, started, starts, turn}

use Rattle.spec_paxos.proofs.commits.standing_commit_keeps.Goals as goal
use Rattle.spec_paxos.proofs.standing.Committed.{in_committed, accepted_in, promise_covers, known_stays, known_from}

pub returns : goal.returns
returns c = record { records = in_committed; votes = accepted_in; promises = promise_covers; known = known_stays; «from» = known_from }

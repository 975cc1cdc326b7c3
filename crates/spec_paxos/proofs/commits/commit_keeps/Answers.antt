use Rattle.spec_paxos.proofs.commits.commit_keeps.Goals as goal
use Rattle.spec_paxos.proofs.Committed.{in_committed, accepted_in, known_stays, known_from}

pub returns : goal.returns
returns c = record { records = in_committed; votes = accepted_in; known = known_stays; «from» = known_from }

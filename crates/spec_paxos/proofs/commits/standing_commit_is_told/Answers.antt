use Rattle.spec_paxos.proofs.commits.standing_commit_is_told.Goals as goal
use Rattle.spec_paxos.proofs.standing.Committed.{tested_nothing, nothing_tested, commits_is}

pub returns : goal.returns
returns c = record { tested = tested_nothing; untested = nothing_tested; after = commits_is }

use Rattle.spec_paxos.proofs.commits.commit_is_told.Goals as goal
use Rattle.spec_paxos.proofs.Committed.{tested_nothing, nothing_tested, commits_is}

pub returns : goal.returns
returns c = record { tested = tested_nothing; untested = nothing_tested; after = commits_is }

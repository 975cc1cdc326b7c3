use Rattle.spec_paxos.proofs.promises.a_promise_lists_its_range.Goals as goal
use Rattle.spec_paxos.proofs.standing.Listed.{listing}

pub returns : goal.returns
returns c = listing

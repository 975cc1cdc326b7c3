use Rattle.spec_paxos.proofs.promises.next_is_the_least_place.Goals as goal
use Rattle.spec_paxos.proofs.standing.Listed.{next_is}

pub returns : goal.returns
returns c = next_is

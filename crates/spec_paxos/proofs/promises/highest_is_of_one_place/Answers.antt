use Rattle.spec_paxos.proofs.promises.highest_is_of_one_place.Goals as goal
use Rattle.spec_paxos.proofs.standing.Committed.{highest_of_all, highest_of_one}

pub returns : goal.returns
returns c = record { of_all = highest_of_all; of_one = highest_of_one }

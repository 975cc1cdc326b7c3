-- What a server says to a read.
use Rattle.std.proofs.Common.{◌≡◌, ℕ, true, refl}
use Rattle.petal_base.specs.declared.cell.Cell.{Cell}
use Rattle.petal_msg.specs.declared.body.Body.{Body}
use Rattle.petal_msg.specs.declared.letter.Actor.TheVariants as actor
use Rattle.petal_msg.specs.declared.operation.Reply.{Reply}
use Rattle.spec_rules.specs.State.{readable}
use Rattle.spec_rules.specs.Server.{PairState, JobContext, says}
use Rattle.spec_rules.specs.Reads.{on_read, reply_to, said}

-- the reply of a read that the server may answer
pub told_is : (here : JobContext) (own own' : PairState) (client seq : ℕ) (cell : Cell) (epoch : ℕ) (reply : Reply) (said_so : Body) → own ≡ own'
    → readable here.state here.me cell ≡ true → reply ≡ reply_to here own' cell epoch → said_so ≡ said seq reply
    → says own (actor.Client client) said_so ≡ on_read here own' client seq cell epoch
unfolding on_read
told_is here own own' client seq cell epoch reply said_so same may is spelled = rw (spelled, is, same, may) refl

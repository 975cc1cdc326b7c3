use Rattle.std.proofs.Common.{◌≡◌, Some, ap, arith}
use Rattle.state_store.specs.Body.{body_of, HasBody}
use Rattle.spec_paxos.specs.declared.record.StateRecord.{StateRecord}
use Rattle.spec_paxos.specs.declared.record.StateRecord.TheVariants.{Inc}
use Rattle.state_store.proofs.Bodies.{kind_of-body}
use Rattle.state_store.proofs.record.read.Goals as goal

pub returns-in-1 : goal.returns-in-1
returns-in-1 c r = elim r as (λ d. HasBody d → c.args.body.now ≡ body_of d → Some c.read_inc.result ≡ Some d) [
  | Inc inc ↦ λ fits is. ap (λ (d : StateRecord). Some d) (c.read_inc.ensures inc fits is)
  | d ↦ λ fits is. let kind = kind_of-body c.args.body.now d is in absurd (omega arith)
]

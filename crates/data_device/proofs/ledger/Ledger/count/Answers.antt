use Rattle.std.proofs.Common.{arith}
use Rattle.data_device.proofs.ledger.Ledger.count.Goals as goal

pub returns-clause-enough : goal.returns-clause-enough
returns-clause-enough c = rw (← c.self.view_is) (let all = c.self.invariant.0.accounts.all in omega (arith, all))

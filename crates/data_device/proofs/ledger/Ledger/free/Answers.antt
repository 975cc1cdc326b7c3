use Rattle.std.proofs.Common.{arith}
use Rattle.data_device.proofs.ledger.Ledger.free.Goals as goal

pub returns-clause-few : goal.returns-clause-few
returns-clause-few c =
    let sound = c.self.invariant.0 in
    rw (← c.self.view_is) (omega (arith, sound.accounts.all, sound.few))

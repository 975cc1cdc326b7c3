use Rattle.std.proofs.Common.{arith}
use Rattle.std.proofs.lemmas.Result.{on_ok_weaker}
use Rattle.block_journal.proofs.Formatted.{zeros_there}
use Rattle.block_journal.proofs.halves.clear.Goals as goal

pub returns-clause-zeros : goal.returns-clause-zeros
returns-clause-zeros g c = on_ok_weaker c.write_zeros_kept.result
    (λ written observed.
    let whole = (g.met.D.Disk g.world.𝓛 g.world.𝓜 g.world.𝓡 ((λ s x. x), (λ x. x), (λ x. x), λ x. x)).whole c.args.disk.now observed in
    rw (written observed) (zeros_there (g.D.Disk.seen c.args.disk.now) c.args.at c.args.n (omega (arith, whole, c.requires))))
    c.write_zeros_kept.ensures.written

use Rattle.std.proofs.Common.{length}
use Rattle.petal_disk.proofs.Moments.{by_write, by_sync}
use Rattle.petal_disk.proofs.write.write_kept.Goals as goal

pub returns-in_err-write_at-clause-any_moment : goal.returns-in_err-write_at-clause-any_moment
returns-in_err-write_at-clause-any_moment g c =
    let only_now = (g.met.D.Disk g.world.𝓛 g.world.𝓜 g.world.𝓡 ((λ s x. x), (λ x. x), (λ x. x), λ x. x)).only_now c.args.disk.now in
    by_write g.D.Disk.moment g.D.Disk.left_since c.args.disk.now c.write_at.new.self c.args.at (length c.args.bytes.now) _ _ only_now
    c.write_at.ensures.time c.write_at.ensures.crash

pub returns-clause-any_moment : goal.returns-clause-any_moment
returns-clause-any_moment g c =
    let only_now = (g.met.D.Disk g.world.𝓛 g.world.𝓜 g.world.𝓡 ((λ s x. x), (λ x. x), (λ x. x), λ x. x)).only_now c.args.disk.now in
    by_sync g.D.Disk.moment g.D.Disk.left_since c.args.disk.now c.write_at.new.self c.sync.new.self c.args.at (length c.args.bytes.now) _ _ _
    (by_write g.D.Disk.moment g.D.Disk.left_since c.args.disk.now c.write_at.new.self c.args.at
    (length c.args.bytes.now) _ _ only_now c.write_at.ensures.time c.write_at.ensures.crash)
    c.write_at.ensures.crash c.sync.ensures.time c.sync.ensures.crash

use Rattle.std.proofs.Common.{◌+◌, ◌-◌, ◌*◌, arith}
use Rattle.std.proofs.lemmas.Result.{on_ok_weaker}
use Rattle.petal_disk.proofs.Moments.{weaker}
use Rattle.petal_disk.proofs.Tearing.{torn_wider}
use Rattle.petal_disk.specs.Disk.{LeftByWrite}
use Rattle.block_journal.proofs.Groups.{laid_whole, piece_within}
use Rattle.block_journal.proofs.Ranges.{left_wider}
use Rattle.block_journal.proofs.group.write_group.Goals as goal

pub returns-clause-laid : goal.returns-clause-laid
returns-clause-laid g c =
    let requires = c.requires in
    let end = c.piece_bytes-end.ensures in
    on_ok_weaker c.write_kept.result
    (λ written observed.
    let whole = (g.met.D.Disk g.world.𝓛 g.world.𝓜 g.world.𝓡 ((λ s x. x), (λ x. x), (λ x. x), λ x. x)).whole c.args.disk.now observed in
    laid_whole c.args.at c.args.limit c.piece_bytes-end.result c.args.bodies.now _ _ c.lay_out.new.piece c.requires.some c.requires.room
    (omega (arith, whole, c.requires.region))
    (omega (arith, c.lay_out.auto.piece, end.within, c.requires.few)) end.inside end.ends (written observed) c.lay_out.ensures)
    c.write_kept.ensures.written

pub returns-clause-torn : goal.returns-clause-torn
returns-clause-torn g c observed =
    let end = c.piece_bytes-end.ensures in
    torn_wider (c.args.at + 1) _ (c.args.at + 1) (64 * c.args.limit - 1) _ _ (omega arith)
    (omega (arith, piece_within c.args.limit _ _ c.lay_out.new.piece c.requires.some c.requires.room end.inside end.ends)) (c.write_kept.ensures.torn observed)

pub returns-clause-crash : goal.returns-clause-crash
returns-clause-crash g c =
    let end = c.piece_bytes-end.ensures in
    λ file left. left_wider (c.args.at + 1) _ (c.args.at + 1) (64 * c.args.limit - 1) (g.D.Disk.may_leave c.args.disk.now) (omega arith)
    (omega (arith, piece_within c.args.limit _ _ c.lay_out.new.piece c.requires.some c.requires.room end.inside end.ends)) file
    (c.write_kept.ensures.crash file left)

pub returns-clause-any_moment : goal.returns-clause-any_moment
returns-clause-any_moment g c =
    let end = c.piece_bytes-end.ensures in
    let leave = g.D.Disk.may_leave c.args.disk.now in
    weaker g.D.Disk.moment g.D.Disk.left_since c.args.disk.now c.write_kept.new.disk _
    (LeftByWrite (c.args.at + 1) (64 * c.args.limit - 1) leave) c.write_kept.ensures.any_moment
    (left_wider (c.args.at + 1) _ (c.args.at + 1) (64 * c.args.limit - 1) leave (omega arith)
    (omega (arith, piece_within c.args.limit _ _ c.lay_out.new.piece c.requires.some c.requires.room end.inside end.ends)))

use Rattle.std.proofs.Common.{◌+◌, ◌-◌, ◌*◌, ◌∷◌, length, take, arith}
use Rattle.std.proofs.lemmas.Result.{on_ok_weaker}
use Rattle.petal_disk.specs.Disk.{LeftByWrite}
use Rattle.petal_disk.proofs.Moments.{by_write, weaker}
use Rattle.petal_disk.proofs.Tearing.{torn_wider}
use Rattle.block_journal.proofs.Groups.{laid_more, piece_within}
use Rattle.block_journal.proofs.Ranges.{left_wider}
use Rattle.block_journal.proofs.group.write_piece.Goals as goal

pub returns-clause-laid : goal.returns-clause-laid
returns-clause-laid g c =
    let end = c.piece_bytes-end.ensures in
    let requires = c.requires in
    on_ok_weaker c.write_at.result
    (λ written observed laid.
    let whole = (g.met.D.Disk g.world.𝓛 g.world.𝓜 g.world.𝓡 ((λ s x. x), (λ x. x), (λ x. x), λ x. x)).whole c.args.disk.now observed in
    laid_more c.args.at 32768 c.args.first c.args.records c.piece_bytes-end.result (c.args.head.now ∷ g.B.Bodies.bodies c.args.bodies.now) _ _
    c.lay_out_list.new.piece (record {
      some = c.requires.some;
      few = omega (arith, c.requires.within);
      room = omega (arith, c.requires.few);
      fits = omega (arith, whole, c.requires.region);
      has = omega (arith, c.lay_out_list.auto.piece, end.within, c.requires.buffer);
      inside = λ lt. end.inside (omega (arith, lt));
      ends = λ last. end.ends (omega (arith, last, c.requires.some));
      is = written observed;
    }) c.lay_out_list.ensures laid)
    c.write_at.ensures.written

pub returns-clause-torn : goal.returns-clause-torn
returns-clause-torn g c observed =
    let end = c.piece_bytes-end.ensures in
    torn_wider (c.args.at + 64 * c.args.first + 1) _ (c.args.at + 1) 2097151 _ _ (omega arith)
    (omega (
      arith,
      c.requires.some,
      c.requires.within,
      c.requires.few,
      piece_within (32768 - c.args.first) c.args.records _ c.lay_out_list.new.piece
          c.requires.some (omega (arith, c.requires.within, c.requires.few)) end.inside end.ends,
    )) (c.write_at.ensures.torn observed)

pub returns-clause-crash : goal.returns-clause-crash
returns-clause-crash g c =
    let end = c.piece_bytes-end.ensures in
    λ file left. left_wider (c.args.at + 64 * c.args.first + 1) _ (c.args.at + 1) 2097151 (g.D.Disk.may_leave c.args.disk.now) (omega arith)
    (omega (
      arith,
      c.requires.some,
      c.requires.within,
      c.requires.few,
      piece_within (32768 - c.args.first) c.args.records _ c.lay_out_list.new.piece
          c.requires.some (omega (arith, c.requires.within, c.requires.few)) end.inside end.ends,
    )) file (c.write_at.ensures.crash file left)

pub returns-clause-any_moment : goal.returns-clause-any_moment
returns-clause-any_moment g c =
    let end = c.piece_bytes-end.ensures in
    let d = g.D.Disk in
    let laws = g.met.D.Disk g.world.𝓛 g.world.𝓜 g.world.𝓡 ((λ s x. x), (λ x. x), (λ x. x), λ x. x) in
    let leave = d.may_leave c.args.disk.now in
    weaker d.moment d.left_since c.args.disk.now c.write_at.new.self _ (LeftByWrite (c.args.at + 1) 2097151 leave)
    (by_write d.moment d.left_since c.args.disk.now c.write_at.new.self (c.args.at + 64 * c.args.first + 1)
    (length (take c.piece_bytes-end.result c.lay_out_list.new.piece)) leave
    (d.may_leave c.write_at.new.self) (laws.only_now c.args.disk.now) c.write_at.ensures.time c.write_at.ensures.crash)
    (left_wider (c.args.at + 64 * c.args.first + 1) _ (c.args.at + 1) 2097151 leave (omega arith)
    (omega (
      arith,
      c.requires.some,
      c.requires.within,
      c.requires.few,
      piece_within (32768 - c.args.first) c.args.records _ c.lay_out_list.new.piece
          c.requires.some (omega (arith, c.requires.within, c.requires.few)) end.inside end.ends,
    )))

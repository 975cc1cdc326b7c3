use Rattle.std.proofs.Common.{◌∷◌, arith}
use Rattle.block_journal.proofs.Groups.{filled_more, filled_none}
use Rattle.block_journal.proofs.group.lay_out_list.Goals as goal

pub loop-i-init : goal.loop-i-init
loop-i-init g c = filled_none _ c.args.first _

pub loop-i-preserved : goal.loop-i-preserved
loop-i-preserved g c =
    let count = c.count.ensures in
    let room = c.requires.room in
    filled_more (c.args.head.now ∷ g.B.Bodies.bodies c.args.bodies.now) c.args.first c.loop-i.i c.loop-i.piece c.put_next.new.piece c.spell.new.into
    c.gate_behind.result (omega (arith, c.loop-i.auto.piece, c.loop-i-test.true)) c.spell.auto.into c.put_next.ensures c.spell.ensures
    (λ more. c.gate_behind.ensures.opened (omega (arith, more)))
    (λ last. c.gate_behind.ensures.shut (omega (arith, last)))
    c.loop-i.invariant

use Rattle.std.proofs.Common.{◌≡◌, ◌+◌, ℕ, [], get_or, ap, arith}
use Rattle.block_journal.proofs.Groups.{filled_more, filled_none}
use Rattle.block_journal.proofs.group.lay_out.Goals as goal

pub loop-i-init : goal.loop-i-init
loop-i-init c = filled_none _ 0 _

pub loop-i-preserved : goal.loop-i-preserved
loop-i-preserved c =
    let i = c.loop-i.i in
    let room = c.requires in
    let same : 0 + i ≡ i = omega arith in
    filled_more c.args.bodies.now 0 i c.loop-i.piece c.put_next.new.piece (get_or c.args.bodies.now i []) c.gate_behind-gate.result
    (omega (arith, c.loop-i.auto.piece, c.loop-i-test.true)) (c.told-bodies i c.loop-i-test.true) c.put_next.ensures
    (ap (λ (k : ℕ). get_or c.args.bodies.now k []) (let e : i ≡ 0 + i = omega arith in e))
    (λ more. c.gate_behind-gate.ensures.opened (omega (arith, more)))
    (λ last. c.gate_behind-gate.ensures.shut (omega (arith, last)))
    c.loop-i.invariant

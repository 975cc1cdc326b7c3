use Rattle.std.proofs.Common.{◌+◌, arith}
use Rattle.block_journal.proofs.Formatted.{formatted_stored}
use Rattle.block_journal.proofs.Ranges.{torn_more, follows_more, moments_more}
use Rattle.block_journal.proofs.halves.Halves.format.Goals as goal

pub returns-in_err-write_kept-clause-any_moment : goal.returns-in_err-write_kept-clause-any_moment
returns-in_err-write_kept-clause-any_moment g c =
    moments_more c.args.base 4194304 (c.args.base + 1) 63 (omega arith)
    (omega arith) g.D.Disk.moment g.D.Disk.left_since c.args.disk.now c.clear.new.disk c.write_kept.new.disk
    _ _ c.clear.ensures.crash c.clear.ensures.any_moment
    (rw c.head_body.ensures at c.write_kept.ensures.any_moment)

pub returns-in_err-write_kept-clause-outside : goal.returns-in_err-write_kept-clause-outside
returns-in_err-write_kept-clause-outside g c observed =
    torn_more c.args.base 4194304 (c.args.base + 1) 63 (omega arith) (omega arith) _ _ _ (c.clear.ensures.torn observed)
    ((rw c.head_body.ensures at c.write_kept.ensures.torn) observed)

pub returns-in_err-write_kept-2-clause-any_moment : goal.returns-in_err-write_kept-2-clause-any_moment
returns-in_err-write_kept-2-clause-any_moment g c =
    moments_more c.args.base 4194304 c.args.base 1 (omega arith) (omega arith) g.D.Disk.moment g.D.Disk.left_since c.args.disk.now c.write_kept.new.disk
    c.write_kept-2.new.disk _ _ (follows_more c.args.base 4194304 (c.args.base + 1) 63 (omega arith) (omega arith) _ _ _ c.clear.ensures.crash
    (rw c.head_body.ensures at c.write_kept.ensures.crash))
    (moments_more c.args.base 4194304 (c.args.base + 1) 63 (omega arith)
    (omega arith) g.D.Disk.moment g.D.Disk.left_since c.args.disk.now c.clear.new.disk c.write_kept.new.disk
    _ _ c.clear.ensures.crash c.clear.ensures.any_moment
    (rw c.head_body.ensures at c.write_kept.ensures.any_moment))
    c.write_kept-2.ensures.any_moment

pub returns-in_err-write_kept-2-clause-outside : goal.returns-in_err-write_kept-2-clause-outside
returns-in_err-write_kept-2-clause-outside g c observed =
    torn_more c.args.base 4194304 c.args.base 1 (omega arith) (omega arith) _ _ _ (torn_more c.args.base 4194304 (c.args.base + 1) 63
    (omega arith) (omega arith) _ _ _ (c.clear.ensures.torn observed) ((rw c.head_body.ensures at c.write_kept.ensures.torn) observed))
    (c.write_kept-2.ensures.torn observed)

pub returns-clause-any_moment : goal.returns-clause-any_moment
returns-clause-any_moment g c =
    moments_more c.args.base 4194304 c.args.base 1 (omega arith) (omega arith) g.D.Disk.moment g.D.Disk.left_since c.args.disk.now c.write_kept.new.disk
    c.write_kept-2.new.disk _ _ (follows_more c.args.base 4194304 (c.args.base + 1) 63 (omega arith) (omega arith) _ _ _ c.clear.ensures.crash
    (rw c.head_body.ensures at c.write_kept.ensures.crash))
    (moments_more c.args.base 4194304 (c.args.base + 1) 63 (omega arith)
    (omega arith) g.D.Disk.moment g.D.Disk.left_since c.args.disk.now c.clear.new.disk c.write_kept.new.disk
    _ _ c.clear.ensures.crash c.clear.ensures.any_moment
    (rw c.head_body.ensures at c.write_kept.ensures.any_moment))
    c.write_kept-2.ensures.any_moment

pub returns-clause-outside : goal.returns-clause-outside
returns-clause-outside g c observed =
    torn_more c.args.base 4194304 c.args.base 1 (omega arith) (omega arith) _ _ _ (torn_more c.args.base 4194304 (c.args.base + 1) 63
    (omega arith) (omega arith) _ _ _ (c.clear.ensures.torn observed) ((rw c.head_body.ensures at c.write_kept.ensures.torn) observed))
    (c.write_kept-2.ensures.torn observed)

pub returns-clause-stored : goal.returns-clause-stored
returns-clause-stored g c observed =
    let whole = (g.met.D.Disk g.world.𝓛 g.world.𝓜 g.world.𝓡 ((λ s x. x), (λ x. x), (λ x. x), λ x. x)).whole c.args.disk.now observed in
    formatted_stored c.args.base (g.D.Disk.seen c.clear.new.disk) (g.D.Disk.seen c.write_kept.new.disk) (g.D.Disk.seen c.write_kept-2.new.disk)
    (c.in_ok-clear.ensures.zeros observed) (omega (arith, whole, c.requires, (c.clear.ensures.torn observed).size))
    ((rw c.head_body.ensures at c.in_ok-write_kept.ensures.written) observed)
    (c.in_ok-write_kept-2.ensures.written observed) _ (c.in_ok-write_kept-2.ensures.durable observed)

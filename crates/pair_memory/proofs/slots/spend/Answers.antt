use Rattle.std.proofs.Common.{Err, ap, sym}
use Rattle.kept_chains.proofs.Commits.{put_moments}
use Rattle.pair_memory.proofs.Puts.{put_fails}
use Rattle.pair_memory.proofs.Tickets.{spent_is}
use Rattle.pair_memory.proofs.slots.spend.Goals as goal

pub returns-in-Ok-clause-ok : goal.returns-in-Ok-clause-ok
returns-in-Ok-clause-ok g c = λ observed.
    spent_is c.args.store.now c.put.new.self c.args.key c.args.version c.in-Some.ticket c.args.origin c.args.block.now
    (c.requires.out c.in-Some.ticket (sym c.in-Some.ensures.value)) (rw c.block.ensures at (c.in-Ok.ensures.content observed)) c.in-Ok.ensures.rows
    c.put.ensures.rest

pub returns-in-Ok-clause-moments : goal.returns-in-Ok-clause-moments
returns-in-Ok-clause-moments g c = λ observed holds.
    put_moments g.D.Disk c.args.store.now c.put.new.self c.args.key c.args.version c.in-Some.ticket c.args.origin c.args.block.now
    (rw c.block.ensures at (c.put.ensures.committed.any_moment observed holds))

pub returns-in-Err-clause-moments : goal.returns-in-Err-clause-moments
returns-in-Err-clause-moments g c = λ observed holds.
    put_moments g.D.Disk c.args.store.now c.put.new.self c.args.key c.args.version c.in-Some.ticket c.args.origin c.args.block.now
    (rw c.block.ensures at (c.put.ensures.committed.any_moment observed holds))

pub returns-in-Err-clause-cause : goal.returns-in-Err-clause-cause
returns-in-Err-clause-cause g c =
    let commit = c.in-Err.ensures.committed in
    record {
      later = c.put.ensures.committed.cause.later;
      failed = λ _. commit.cause.failed (ap Err (put_fails _ _ c.in-Err.field-0 c.requires.room c.in-Err.ensures.errors c.in-Err.ensures.full));
    }

use Rattle.std.proofs.Common.{Bool, Err, None, sym, ap, false}
use Rattle.std.proofs.lemmas.Result.{err_from_is_err_and}
use Rattle.pair_memory.proofs.Puts.{err_is, no_memory, none_added, none_free, put_fails, put_new_is}
use Rattle.kept_chains.proofs.Commits.{put_moments}
use Rattle.kept_chains.specs.Kept.{store_of}
use Rattle.kept_chains.specs.StoreError.TheVariants.{Failed}
use Rattle.pair_memory.specs.Slots.{with_new}
use Rattle.pair_memory.proofs.slots.put_new.Goals as goal

pub returns-in_err-set_apart-clause-change : goal.returns-in_err-set_apart-clause-change
returns-in_err-set_apart-clause-change g c =
    let law = g.met.D.Disk g.world.𝓛 g.world.𝓜 g.world.𝓡 ((λ s x. x), (λ x. x), (λ x. x), λ x. x) in
    let error = err_from_is_err_and c.from_residual.result c.from_residual.ensures.1 in
    rw (error.1, error.2)
    (no_memory g.D.Disk law.stays law.only_now c.args.store.now c.set_apart.new.store c.in_err-set_apart.ensures.err _)

pub returns-in-None-clause-change : goal.returns-in-None-clause-change
returns-in-None-clause-change g c =
    let law = g.met.D.Disk g.world.𝓛 g.world.𝓜 g.world.𝓡 ((λ s x. x), (λ x. x), (λ x. x), λ x. x) in
    let same = rw c.in-None.is at c.in_ok-set_apart.ensures.none in
    let room = rw c.in-None.is at c.in_ok-set_apart.ensures.room in
    none_free g.D.Disk law.stays law.only_now c.args.store.now c.set_apart.new.store same _ false
    (ap (with_new (store_of c.args.store.now) c.args.key (record { version = c.args.version; bytes = c.args.block.now })) room)

pub returns-in-Ok-clause-change : goal.returns-in-Ok-clause-change
returns-in-Ok-clause-change g c =
    let set = rw c.in-Some.is at c.in_ok-set_apart.ensures.some in
    let other = rw c.in-Some.is at c.in_ok-set_apart.ensures.other in
    let out = rw c.in-Some.is at c.in_ok-set_apart.ensures.out in
    let room = rw c.in-Some.is at c.in_ok-set_apart.ensures.room in
    let mid = c.set_apart.new.store in
    put_new_is g.D.Disk c.args.store.now mid c.put.new.self c.in-Some.ticket c.args.key c.args.version c.args.block.now _ set other
    (record {
      out = out;
      content = rw c.block.ensures at c.in-Ok.ensures.content;
      rows = c.in-Ok.ensures.rows;
      rest = c.put.ensures.rest;
      kept = tt;
      stays = tt;
      errors = tt;
      holds = c.in-Ok.ensures.committed.holds;
      moments = λ observed holds. put_moments g.D.Disk mid c.put.new.self c.args.key c.args.version c.in-Some.ticket None c.args.block.now
          (rw c.block.ensures at (c.put.ensures.committed.any_moment observed holds));
      cause = record { later = c.put.ensures.committed.cause.later; failed = λ no. absurd (cc) };
      run = c.put.ensures.committed.run;
    }) _ (sym room)

pub returns-in-Err-clause-change : goal.returns-in-Err-clause-change
returns-in-Err-clause-change g c =
    let set = rw c.in-Some.is at c.in_ok-set_apart.ensures.some in
    let other = rw c.in-Some.is at c.in_ok-set_apart.ensures.other in
    let out = rw c.in-Some.is at c.in_ok-set_apart.ensures.out in
    let room = rw c.in-Some.is at c.in_ok-set_apart.ensures.room in
    let mid = c.set_apart.new.store in
    put_new_is {T = Bool} g.D.Disk c.args.store.now mid c.put.new.self c.in-Some.ticket c.args.key c.args.version c.args.block.now
    (Err c.in-Err.error) set other
    (record {
      out = out;
      content = tt;
      rows = tt;
      rest = c.put.ensures.rest;
      kept = c.in-Err.ensures.kept;
      stays = c.in-Err.ensures.committed.kept;
      errors = put_fails _ false c.in-Err.error (none_added _) c.in-Err.ensures.errors c.in-Err.ensures.full;
      holds = λ _ _. tt;
      moments = λ observed holds. put_moments g.D.Disk mid c.put.new.self c.args.key c.args.version c.in-Some.ticket None c.args.block.now
          (rw c.block.ensures at (c.put.ensures.committed.any_moment observed holds));
      cause = record {
        later = c.put.ensures.committed.cause.later;
        failed = λ is. c.in-Err.ensures.committed.cause.failed (ap Err (err_is c.in-Err.error Failed is));
      };
      run = c.put.ensures.committed.run;
    }) _ (sym room)

use Rattle.std.proofs.Common.{arith}
use Rattle.std.proofs.lemmas.Grind.{common_steps}
use Rattle.kept_chains.proofs.Commits.{not_full, not_memory, mark_errors, settle_moments}
use Rattle.kept_chains.proofs.store.settle.Goals as goal

pub returns-clause-commit : goal.returns-clause-commit
returns-clause-commit g c =
    let failed = c.settle_fresh.ensures.errors in
    record {
      done = grind (arith, common_steps);
      holds = c.settle_fresh.ensures.committed.holds;
      moments = λ observed holds.
          settle_moments g.D.Disk c.args.store.now c.settle_fresh.new.self (c.settle_fresh.ensures.committed.any_moment observed holds);
      tickets = grind (arith, common_steps);
      kept = c.settle_fresh.ensures.kept;
      stays = c.settle_fresh.ensures.committed.kept;
      errors = mark_errors c.settle_fresh.result failed;
      memory = λ is. absurd (not_memory c.settle_fresh.result failed is);
      full = λ is. absurd (not_full c.settle_fresh.result failed is);
      cause = c.settle_fresh.ensures.committed.cause;
      run = c.settle_fresh.ensures.committed.run;
    }

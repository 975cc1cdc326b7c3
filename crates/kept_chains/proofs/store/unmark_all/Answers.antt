use Rattle.std.proofs.Common.{arith}
use Rattle.std.proofs.lemmas.Grind.{common_steps}
use Rattle.kept_chains.proofs.Commits.{not_full, not_memory, mark_errors, unmarks_moments}
use Rattle.kept_chains.proofs.store.unmark_all.Goals as goal

pub returns-clause-commit : goal.returns-clause-commit
returns-clause-commit g c =
    let failed = c.unmark_all.ensures.errors in
    record {
      done = grind (arith, common_steps);
      holds = c.unmark_all.ensures.committed.holds;
      moments = λ observed holds.
          unmarks_moments g.D.Disk c.args.store.now c.unmark_all.new.self c.args.kind c.args.cells.now (c.unmark_all.ensures.committed.any_moment observed holds);
      tickets = grind (arith, common_steps);
      kept = c.unmark_all.ensures.kept;
      stays = c.unmark_all.ensures.committed.kept;
      errors = mark_errors c.unmark_all.result failed;
      memory = λ is. absurd (not_memory c.unmark_all.result failed is);
      full = λ is. absurd (not_full c.unmark_all.result failed is);
      cause = c.unmark_all.ensures.committed.cause;
      run = c.unmark_all.ensures.committed.run;
    }

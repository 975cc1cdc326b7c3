use Rattle.std.proofs.Common.{arith}
use Rattle.std.proofs.lemmas.Grind.{common_steps}
use Rattle.kept_chains.proofs.Commits.{not_full, not_memory, mark_errors, unmark_moments}
use Rattle.kept_chains.proofs.store.unmark.Goals as goal

pub returns-clause-commit : goal.returns-clause-commit
returns-clause-commit g c =
    let failed = c.unmark.ensures.errors in
    record {
      done = grind (arith, common_steps);
      holds = c.unmark.ensures.committed.holds;
      moments = λ observed holds.
          unmark_moments g.D.Disk c.args.store.now c.unmark.new.self c.args.kind c.args.cell (c.unmark.ensures.committed.any_moment observed holds);
      tickets = grind (arith, common_steps);
      kept = c.unmark.ensures.kept;
      stays = c.unmark.ensures.committed.kept;
      errors = mark_errors c.unmark.result failed;
      memory = λ is. absurd (not_memory c.unmark.result failed is);
      full = λ is. absurd (not_full c.unmark.result failed is);
      cause = c.unmark.ensures.committed.cause;
      run = c.unmark.ensures.committed.run;
    }

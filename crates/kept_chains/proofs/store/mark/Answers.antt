use Rattle.std.proofs.Common.{◌≡◌, ◌+◌, false, not, length, ap, arith}
use Rattle.std.proofs.lemmas.Grind.{common_steps}
use Rattle.busy_marks.specs.Marks.{has_mark}
use Rattle.spec_rules.specs.Store.{mark_on}
use Rattle.kept_chains.proofs.Commits.{mark_moments, marked_more, not_set}
use Rattle.kept_chains.proofs.store.mark.Goals as goal

pub returns : goal.returns
returns g c =
    let old = c.args.store.now in
    record {
      done = grind (arith, common_steps);
      holds = c.mark.ensures.committed.holds;
      moments = λ observed holds.
          mark_moments g.D.Disk old c.mark.new.self c.args.kind c.args.cell (c.mark.ensures.committed.any_moment observed holds);
      tickets = grind (arith, common_steps);
      kept = c.mark.ensures.kept;
      stays = c.mark.ensures.committed.kept;
      errors = c.mark.ensures.errors;
      memory = c.mark.ensures.memory;
      full = λ is.
          let full = c.mark.ensures.full.0 is in
          let more = marked_more (mark_on c.args.kind c.args.cell) old.marks (not_set (has_mark (mark_on c.args.kind c.args.cell) old.marks) full.1) in
          let count = full.0 in
          record { count = count; over = omega (arith, more, count); same = c.mark.ensures.full_rest is };
      cause = c.mark.ensures.committed.cause;
      run = c.mark.ensures.committed.run;
    }

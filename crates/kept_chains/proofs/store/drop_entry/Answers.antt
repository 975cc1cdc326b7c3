use Rattle.std.proofs.Common.{ap}
use Rattle.server_store.specs.Holdings.{Holdings}
use Rattle.kept_chains.proofs.Commits.{drop_moments, mark_errors, not_full, not_memory, when_ok}
use Rattle.kept_chains.proofs.Drops.{dropped_is}
use Rattle.kept_chains.proofs.Walks.{slot_is}
use Rattle.kept_chains.proofs.store.drop_entry.Goals as goal

pub returns-clause-change : goal.returns-clause-change
returns-clause-change g c =
    let order = c.free.ensures.order in
    let old = c.args.store.now in
    let new = c.drop_key.new.self in
    let there = slot_is old.entries c.args.key order c.requires in
    let failed = c.drop_key.ensures.errors in
    record {
      done = when_ok c.drop_key.result _ _
          (λ content observed. dropped_is old new c.args.key order (content observed) c.drop_key.ensures.rest) c.drop_key.ensures.content;
      holds = c.drop_key.ensures.committed.holds;
      moments = λ observed holds. drop_moments g.D.Disk old new c.args.key order there (c.drop_key.ensures.committed.any_moment observed holds);
      tickets = ap (λ (s : Holdings _). s.tickets) c.drop_key.ensures.rest;
      kept = c.drop_key.ensures.kept;
      stays = c.drop_key.ensures.committed.kept;
      errors = mark_errors c.drop_key.result failed;
      memory = λ is. absurd (not_memory c.drop_key.result failed is);
      full = λ is. absurd (not_full c.drop_key.result failed is);
      cause = c.drop_key.ensures.committed.cause;
      run = c.drop_key.ensures.committed.run;
    }

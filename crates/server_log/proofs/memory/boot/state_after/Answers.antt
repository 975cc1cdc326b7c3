use Rattle.std.proofs.Common.{drop, ap, arith}
use Rattle.std.proofs.lemmas.List.{length-drop}
use Rattle.spec_state.specs.State.{State}
use Rattle.server_log.proofs.States.{revs_from, rev_counts}
use Rattle.server_log.proofs.memory.boot.state_after.Goals as goal

-- the revision so far is how many entries it has
pub next-requires : goal.next-requires
next-requires c =
    let left = drop c.loop-entry.entry-index c.args.entries.now in
    omega (
      arith,
      revs_from c.loop-entry.state left,
      ap (λ (s : State). s.rev) c.loop-entry.invariant,
      rev_counts c.args.servers c.args.entries.now,
      length-drop c.loop-entry.entry-index c.args.entries.now,
    )

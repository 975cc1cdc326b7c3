-- Both devices were made to show their stores.
use Rattle.std.proofs.Common.{sym, ap, ◌∙◌}
use Rattle.petal_disk.specs.declared.memory_disk.MemDisk.{MemDisk}
use Rattle.petal_disk.specs.declared.planned.Planned.{Planned}
use Rattle.server_store.specs.Holdings.{Holdings}
use Rattle.memory_server.specs.Armed.{emptied}
use Rattle.memory_server.proofs.memory.MemServer.start.Goals as goal

pub start-requires-clause-formatted : goal.start-requires-clause-formatted
start-requires-clause-formatted c _ =
    let store = c.in_ok-store.ensures in
    let state = c.in_ok-state.ensures in
    record {
      empty = store.blank ∙ sym (ap (λ (it : Holdings (Planned MemDisk)). emptied it) store.blank);
      first = state.records;
      shown = λ _. store.holds;
      state_shown = λ _. state.holds;
      unplanned = store.plan;
      state_unplanned = state.plan;
    }

use Rattle.std.proofs.Common.{length, ◌-◌, ◌≡◌, ◌≤◌, ◌++◌, take}
use Rattle.byte_streams.proofs.stream.write_all.Given as goal

abbrev pub invariant-loop-done : goal.invariant-loop-done
invariant-loop-done g l =
    let s = g.S.Sink in
    record {
      within : l.done ≤ length l.bytes;
      so_far : s.observable → s.taken l.sink ≡ s.taken l.fn.sink ++ take l.done l.bytes;
      later : s.faults l.fn.sink ≤ s.faults l.sink;
    }

abbrev pub decreases-loop-done : goal.decreases-loop-done
decreases-loop-done g l = length l.bytes - l.done

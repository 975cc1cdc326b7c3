use Rattle.std.proofs.Common.{length, ◌-◌, ◌≡◌, ◌≤◌}
use Rattle.byte_streams.proofs.Fronts.{TakenSoFar}
use Rattle.byte_streams.proofs.stream.read_full.Given as goal

abbrev pub invariant-loop-done : goal.invariant-loop-done
invariant-loop-done g l =
    let s = g.S.Source in
    record {
      within : l.done ≤ length l.into;
      same_length : length l.into ≡ length l.fn.into;
      so_far : s.observable → TakenSoFar (s.left l.fn.source) (s.left l.source) l.fn.into l.into l.done;
      later : s.faults l.fn.source ≤ s.faults l.source;
    }

abbrev pub decreases-loop-done : goal.decreases-loop-done
decreases-loop-done g l = length l.initial.into - l.done

use Rattle.std.proofs.Common.{◌≡◌, ℕ, ◌+◌, ◌-◌, ◌^◌, ◌≤◌, ◌<◌, ◌==◌, length, take, slice_get, if◌then◌else◌, Some}
use Rattle.chosen_log.specs.Log.{learnt}
use Rattle.chosen_log.proofs.log.extend.Given as goal

abbrev pub invariant-loop-next : goal.invariant-loop-next
invariant-loop-next l = record {
  front : take (length l.fn.run.items) l.run.items ≡ l.fn.run.items;
  longer : length l.fn.run.items ≤ length l.run.items;
  reached : l.place ≤ length l.run.items;
  there : (k : ℕ) → k < length l.run.items → slice_get l.run.items k ≡ (if k + 1 == l.place then Some l.command else learnt l.places.entries (k + 1));
}

abbrev pub decreases-loop-next : goal.decreases-loop-next
decreases-loop-next l = 2 ^ 64 - length l.run.items

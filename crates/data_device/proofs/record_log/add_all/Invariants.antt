use Rattle.std.proofs.Common.{◌≡◌, ◌++◌, take}
use Rattle.data_device.proofs.record_log.add_all.Given as goal

abbrev pub invariant-loop-entry : goal.invariant-loop-entry
invariant-loop-entry l = l.history.items ≡ l.fn.history.items ++ take l.entry-index l.entries

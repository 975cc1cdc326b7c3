use Rattle.std.proofs.Common.{◌≡◌, ◌++◌, map, take, drop}
use Rattle.spec_machine.specs.Machine.{remembers}
use Rattle.spec_machine.proofs.machine.remember.Given as goal

abbrev pub invariant-loop-own : goal.invariant-loop-own
invariant-loop-own l = l.opened ≡ map (remembers l.disks) (take l.own-index l.initial.opened) ++ drop l.own-index l.initial.opened

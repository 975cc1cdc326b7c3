use Rattle.std.proofs.Common.{◌≡◌, length, take}
use Rattle.data_device.specs.Device.{AreSpelled, bodies_of}
use Rattle.data_device.proofs.record_log.spell_all.Given as goal

abbrev pub invariant-loop-i : goal.invariant-loop-i
invariant-loop-i l = record {
  spelled : take l.i l.into ≡ bodies_of (take l.i l.entries);
  fits : AreSpelled (take l.i l.entries);
  room : length l.into ≡ length l.fn.into;
}

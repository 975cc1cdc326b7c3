use Rattle.std.proofs.Common.{◌≡◌, ◌≤◌, length, take}
use Rattle.server_store.specs.Committing.{unmarks_of}
use Rattle.server_store.proofs.unmarks.spell_unmarks.Given as goal

abbrev pub invariant-loop-i : goal.invariant-loop-i
invariant-loop-i l = record {
  spelled : take l.count l.into ≡ unmarks_of l.kind (take l.i l.cells) l.marks.marks;
  counted : length (unmarks_of l.kind (take l.i l.cells) l.marks.marks) ≡ l.count;
  few : l.count ≤ l.i;
  room : length l.into ≡ length l.fn.into;
}

-- So far the client's lines before this one.
use Rattle.std.proofs.Common.{◌≡◌, take}
use Rattle.spec_rules.specs.World.{lines_of}
use Rattle.petal_world.proofs.copies.lines_of.Given as goal

abbrev pub invariant-loop-line : goal.invariant-loop-line
invariant-loop-line l = l.own ≡ lines_of (take l.line-index l.lines) l.client

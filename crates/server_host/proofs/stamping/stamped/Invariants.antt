-- So far the letters taken have the stamp.
use Rattle.std.proofs.Common.{◌≡◌}
use Rattle.spec_rules.specs.World.{stamped}
use Rattle.server_host.proofs.stamping.stamped.Given as goal

abbrev pub invariant-loop-letter : goal.invariant-loop-letter
invariant-loop-letter l = l.shared ≡ stamped l.stamp l.yielded

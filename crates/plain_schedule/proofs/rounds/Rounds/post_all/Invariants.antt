use Rattle.std.proofs.Common.{◌≡◌}
use Rattle.plain_schedule.proofs.rounds.Rounds.post_all.Given as goal

abbrev pub invariant-loop-letter : goal.invariant-loop-letter
invariant-loop-letter g l = l.self.world ≡ l.fn.self.world

use Rattle.plain_schedule.specs.Going.{WentOn}
use Rattle.plain_schedule.proofs.rounds.Rounds.round.Given as goal

abbrev pub invariant-loop-client : goal.invariant-loop-client
invariant-loop-client g l = WentOn l.fn.self.world l.self.world

abbrev pub invariant-loop-server : goal.invariant-loop-server
invariant-loop-server g l = WentOn l.fn.self.world l.self.world

use Rattle.plain_schedule.specs.Going.{WentOn}
use Rattle.plain_schedule.proofs.rounds.Rounds.get_second_mail.Given as goal

abbrev pub invariant-loop : goal.invariant-loop
invariant-loop g l = WentOn l.fn.self.world l.self.world

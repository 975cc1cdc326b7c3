-- No step was taken.
use Rattle.spec_rules.specs.World.{setting_of}
use Rattle.server_loop.proofs.Growing.{first_seated}
use Rattle.server_loop.proofs.seat.Seat.new.Goals as goal

pub invariant_of-result : goal.invariant_of-result
invariant_of-result g c =
    first_seated (setting_of g.J.Run.script) _ _ c.args.me _ c.requires.among c.requires.first c.requires.unarmed c.new.ensures

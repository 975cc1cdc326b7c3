-- What is kept is a legal history where no step was free.
use Rattle.std.proofs.Common.{◌≡◌, false, subst}
use Rattle.spec_history.specs.Legal.{IsLegal}
use Rattle.petal_world.specs.Play.{Play}
use Rattle.petal_world.proofs.Playing.{legal_of}
use Rattle.petal_world.proofs.world.World.into_history.Goals as goal

pub returns-clause-legal : goal.returns-clause-legal
returns-clause-legal g c =
    subst (λ (p : Play). p.free ≡ false → IsLegal p.script p.records) c.self.view_is
    (legal_of _ c.self.inside.actors c.self.inside.errand c.self.invariant)

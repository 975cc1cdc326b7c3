-- The open settle is that of the world.
use Rattle.std.proofs.Common.{◌≡◌, false, subst}
use Rattle.spec_rules.specs.Jobs.{operator}
use Rattle.client_core.specs.ClientView.{settle_of}
use Rattle.petal_world.specs.Play.{Play, world_of}
use Rattle.petal_world.proofs.world.World.settling.Goals as goal

pub returns : goal.returns
returns g c =
    subst (λ (p : Play). p.over ≡ false → c.settling.result ≡ settle_of ((world_of p).clients operator).asked) c.self.view_is
    (λ on. c.settling.ensures _ _ (c.self.invariant.shows on))

-- So far the servers that were taken.
use Rattle.std.proofs.Common.{◌≡◌, map}
use Rattle.server_host.specs.Desks.{first_desk}
use Rattle.server_host.proofs.desks.Desks.start.Given as goal

abbrev pub invariant-loop-host : goal.invariant-loop-host
invariant-loop-host g l =
    l.desks.items ≡ map (λ host. record { desk = first_desk (g.H.Host.seen host); armed = g.H.Host.armed host }) l.yielded

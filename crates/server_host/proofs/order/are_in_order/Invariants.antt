-- The lines so far are in order, up to the last one's number and phase, and so it depends on the others.
use Rattle.std.proofs.Common.{◌≡◌, take, drop}
use Rattle.server_host.specs.Playable.{climb}
use Rattle.server_host.proofs.Ordering.{AreUpTo}
use Rattle.server_host.proofs.order.are_in_order.Given as goal

abbrev pub invariant-loop-line : goal.invariant-loop-line
invariant-loop-line l = AreUpTo (take l.line-index l.lines) l.number l.phase × (climb 0 0 l.lines ≡ climb l.number l.phase (drop l.line-index l.lines))

use Rattle.std.proofs.Common.{◌≡◌, ◌≤◌, ℕ, List, length, arith}
use Rattle.petal_disk.proofs.Moments.{weaker}
use Rattle.state_store.proofs.Devices.{headed_device, formatted, formatting, left_by_clearing, left_by_header}
use Rattle.state_store.proofs.device.write_format.Goals as goal

pub returns-in_err-journal-clause-any_moment : goal.returns-in_err-journal-clause-any_moment
returns-in_err-journal-clause-any_moment g c observed =
    weaker g.D.Disk.moment g.D.Disk.left_since _ _ _ _ (c.write_first.ensures.any_moment observed) (left_by_clearing _ c.args.inc)

pub returns-in_err-write_header-clause-any_moment : goal.returns-in_err-write_header-clause-any_moment
returns-in_err-write_header-clause-any_moment g c observed =
    let whole = (g.met.D.Disk g.world.𝓛 g.world.𝓜 g.world.𝓡 ((λ s x. x), (λ x. x), (λ x. x), λ x. x)).whole c.write_first.new.disk observed in
    let fits : 64 ≤ length (g.D.Disk.seen c.write_first.new.disk) = omega (arith, whole, c.write_first.ensures.size, c.requires) in
    formatting g.D.Disk.moment g.D.Disk.left_since _ _ _ _ c.args.inc _ c.ranges.inc.fits fits (c.in_ok-journal.ensures.stands observed)
    (c.write_first.ensures.any_moment observed)
    (c.write_header.ensures.any_moment observed (c.in_ok-journal.ensures.durable observed) (c.in_ok-journal.ensures.shut observed))

pub returns-in_err-write_header-clause-either : goal.returns-in_err-write_header-clause-either
returns-in_err-write_header-clause-either g c observed =
    let whole = (g.met.D.Disk g.world.𝓛 g.world.𝓜 g.world.𝓡 ((λ s x. x), (λ x. x), (λ x. x), λ x. x)).whole c.write_first.new.disk observed in
    let fits : 64 ≤ length (g.D.Disk.seen c.write_first.new.disk) = omega (arith, whole, c.write_first.ensures.size, c.requires) in
    left_by_header (λ (file : List ℕ). file ≡ g.D.Disk.seen c.args.disk.now) c.args.inc _ _ c.ranges.inc.fits fits (c.in_ok-journal.ensures.stands observed)
    (c.write_header.ensures.either observed (c.in_ok-journal.ensures.shut observed))

pub returns-clause-any_moment : goal.returns-clause-any_moment
returns-clause-any_moment g c observed =
    let whole = (g.met.D.Disk g.world.𝓛 g.world.𝓜 g.world.𝓡 ((λ s x. x), (λ x. x), (λ x. x), λ x. x)).whole c.write_first.new.disk observed in
    let fits : 64 ≤ length (g.D.Disk.seen c.write_first.new.disk) = omega (arith, whole, c.write_first.ensures.size, c.requires) in
    formatting g.D.Disk.moment g.D.Disk.left_since _ _ _ _ c.args.inc _ c.ranges.inc.fits fits (c.in_ok-journal.ensures.stands observed)
    (c.write_first.ensures.any_moment observed)
    (c.write_header.ensures.any_moment observed (c.in_ok-journal.ensures.durable observed) (c.in_ok-journal.ensures.shut observed))

pub returns-clause-either : goal.returns-clause-either
returns-clause-either g c observed =
    let whole = (g.met.D.Disk g.world.𝓛 g.world.𝓜 g.world.𝓡 ((λ s x. x), (λ x. x), (λ x. x), λ x. x)).whole c.write_first.new.disk observed in
    let fits : 64 ≤ length (g.D.Disk.seen c.write_first.new.disk) = omega (arith, whole, c.write_first.ensures.size, c.requires) in
    left_by_header (λ (file : List ℕ). file ≡ g.D.Disk.seen c.args.disk.now) c.args.inc _ _ c.ranges.inc.fits fits (c.in_ok-journal.ensures.stands observed)
    (c.write_header.ensures.either observed (c.in_ok-journal.ensures.shut observed))

pub returns-clause-holds : goal.returns-clause-holds
returns-clause-holds g c observed =
    let whole = (g.met.D.Disk g.world.𝓛 g.world.𝓜 g.world.𝓡 ((λ s x. x), (λ x. x), (λ x. x), λ x. x)).whole c.write_first.new.disk observed in
    let fits : 64 ≤ length (g.D.Disk.seen c.write_first.new.disk) = omega (arith, whole, c.write_first.ensures.size, c.requires) in
    formatted c.in_ok-journal.journal _ _ _ c.in_ok-journal.ensures.region.2
    (headed_device _ _ c.args.inc c.ranges.inc.fits fits (c.in_ok-journal.ensures.stands observed) (c.in_ok-write_header.ensures.written observed))
    (c.in_ok-write_header.ensures.durable observed)

use Rattle.std.proofs.Common.{◌≡◌, ◌≤◌, ℕ, List, [], length, arith, ap}
use Rattle.petal_disk.proofs.Moments.{weaker}
use Rattle.block_journal.specs.Halves.{HalvesState}
use Rattle.data_device.specs.Device.{IsJournalOf, Log, journal_base}
use Rattle.data_device.proofs.Devices.{formatted_device, formatting, left_by_clearing, left_by_header, list_of_stored}
use Rattle.data_device.proofs.record_log.RecordLog.format.Goals as goal

pub returns-clause-logs : goal.returns-clause-logs
returns-clause-logs g c observed =
    let halves = c.in_ok-halves.halves in
    let at : halves.base ≡ journal_base = ap (λ (s : HalvesState). s.base) c.in_ok-halves.ensures.state in
    let whole = (g.met.D.Disk g.world.𝓛 g.world.𝓜 g.world.𝓡 ((λ s x. x), (λ x. x), (λ x. x), λ x. x)).whole c.format_after_gate.new.disk observed in
    let fits : 64 ≤ length (g.D.Disk.seen c.format_after_gate.new.disk) = omega (arith, whole, c.format_after_gate.ensures.size, c.requires.room) in
    let log : Log = record { fresh = c.args.said.fresh; records = c.new.result.items; halves = halves } in
    formatted_device c.args.said.slots log _ _ _ _ c.requires.few
    at c.new.ensures fits (c.in_ok-halves.ensures.stored observed) ((rw c.spell.ensures at c.in_ok-write_header.ensures.written) observed)
    (c.in_ok-write_header.ensures.durable observed)

pub returns-in_err-halves-clause-any_moment : goal.returns-in_err-halves-clause-any_moment
returns-in_err-halves-clause-any_moment g c observed =
    weaker g.D.Disk.moment g.D.Disk.left_since _ _ _ _ (c.format_after_gate.ensures.any_moment observed)
    (left_by_clearing _ (g.D.Disk.size c.args.disk.now) c.args.said.slots c.args.said.fresh)

pub returns-in_err-halves-clause-either : goal.returns-in_err-halves-clause-either
returns-in_err-halves-clause-either g c observed = left_by_clearing (λ (file : List ℕ). file ≡ g.D.Disk.seen c.args.disk.now)
    (g.D.Disk.size c.args.disk.now) c.args.said.slots c.args.said.fresh _ (c.format_after_gate.ensures.either observed)

pub returns-in_err-write_header-clause-any_moment : goal.returns-in_err-write_header-clause-any_moment
returns-in_err-write_header-clause-any_moment g c observed =
    let halves = c.in_ok-halves.halves in
    let at : halves.base ≡ journal_base = ap (λ (s : HalvesState). s.base) c.in_ok-halves.ensures.state in
    let whole = (g.met.D.Disk g.world.𝓛 g.world.𝓜 g.world.𝓡 ((λ s x. x), (λ x. x), (λ x. x), λ x. x)).whole c.format_after_gate.new.disk observed in
    let fits : 64 ≤ length (g.D.Disk.seen c.format_after_gate.new.disk) = omega (arith, whole, c.format_after_gate.ensures.size, c.requires.room) in
    let empty : IsJournalOf (g.D.Disk.seen c.format_after_gate.new.disk) [] = list_of_stored halves _ _ [] at (c.in_ok-halves.ensures.stored observed) in
    formatting g.D.Disk.moment g.D.Disk.left_since _ _ _ _ (g.D.Disk.size c.args.disk.now) c.args.said.slots c.args.said.fresh _ c.requires.few fits empty
    (c.format_after_gate.ensures.any_moment observed)
    ((rw c.spell.ensures at c.write_header.ensures.any_moment) observed (c.in_ok-halves.ensures.durable observed) (c.in_ok-halves.ensures.shut observed))

pub returns-in_err-write_header-clause-either : goal.returns-in_err-write_header-clause-either
returns-in_err-write_header-clause-either g c observed =
    let halves = c.in_ok-halves.halves in
    let at : halves.base ≡ journal_base = ap (λ (s : HalvesState). s.base) c.in_ok-halves.ensures.state in
    let whole = (g.met.D.Disk g.world.𝓛 g.world.𝓜 g.world.𝓡 ((λ s x. x), (λ x. x), (λ x. x), λ x. x)).whole c.format_after_gate.new.disk observed in
    let fits : 64 ≤ length (g.D.Disk.seen c.format_after_gate.new.disk) = omega (arith, whole, c.format_after_gate.ensures.size, c.requires.room) in
    let empty : IsJournalOf (g.D.Disk.seen c.format_after_gate.new.disk) [] = list_of_stored halves _ _ [] at (c.in_ok-halves.ensures.stored observed) in
    left_by_header (λ (file : List ℕ). file ≡ g.D.Disk.seen c.args.disk.now) (g.D.Disk.size c.args.disk.now) c.args.said.slots c.args.said.fresh _ _
    c.requires.few fits empty ((rw c.spell.ensures at c.write_header.ensures.either) observed (c.in_ok-halves.ensures.shut observed))

pub returns-clause-any_moment : goal.returns-clause-any_moment
returns-clause-any_moment g c observed =
    let halves = c.in_ok-halves.halves in
    let at : halves.base ≡ journal_base = ap (λ (s : HalvesState). s.base) c.in_ok-halves.ensures.state in
    let whole = (g.met.D.Disk g.world.𝓛 g.world.𝓜 g.world.𝓡 ((λ s x. x), (λ x. x), (λ x. x), λ x. x)).whole c.format_after_gate.new.disk observed in
    let fits : 64 ≤ length (g.D.Disk.seen c.format_after_gate.new.disk) = omega (arith, whole, c.format_after_gate.ensures.size, c.requires.room) in
    let empty : IsJournalOf (g.D.Disk.seen c.format_after_gate.new.disk) [] = list_of_stored halves _ _ [] at (c.in_ok-halves.ensures.stored observed) in
    formatting g.D.Disk.moment g.D.Disk.left_since _ _ _ _ (g.D.Disk.size c.args.disk.now) c.args.said.slots c.args.said.fresh _ c.requires.few fits empty
    (c.format_after_gate.ensures.any_moment observed)
    ((rw c.spell.ensures at c.write_header.ensures.any_moment) observed (c.in_ok-halves.ensures.durable observed) (c.in_ok-halves.ensures.shut observed))

pub returns-clause-either : goal.returns-clause-either
returns-clause-either g c observed =
    let halves = c.in_ok-halves.halves in
    let at : halves.base ≡ journal_base = ap (λ (s : HalvesState). s.base) c.in_ok-halves.ensures.state in
    let whole = (g.met.D.Disk g.world.𝓛 g.world.𝓜 g.world.𝓡 ((λ s x. x), (λ x. x), (λ x. x), λ x. x)).whole c.format_after_gate.new.disk observed in
    let fits : 64 ≤ length (g.D.Disk.seen c.format_after_gate.new.disk) = omega (arith, whole, c.format_after_gate.ensures.size, c.requires.room) in
    let empty : IsJournalOf (g.D.Disk.seen c.format_after_gate.new.disk) [] = list_of_stored halves _ _ [] at (c.in_ok-halves.ensures.stored observed) in
    left_by_header (λ (file : List ℕ). file ≡ g.D.Disk.seen c.args.disk.now) (g.D.Disk.size c.args.disk.now) c.args.said.slots c.args.said.fresh _ _
    c.requires.few fits empty ((rw c.spell.ensures at c.write_header.ensures.either) observed (c.in_ok-halves.ensures.shut observed))

use Rattle.std.proofs.Common.{◌+◌, ◌≤◌, length, arith, subst, sym}
use Rattle.petal_disk.proofs.Tearing.{torn_twice}
use Rattle.block_journal.specs.Halves.{HalvesState}
use Rattle.block_journal.proofs.Grouped as grouped
use Rattle.block_journal.proofs.Grouped.{GroupRoom, group_torn, gate_torn}
use Rattle.block_journal.proofs.halves.Halves.append_all.Goals as goal

pub returns-then-free-bodies-clause-any_moment : goal.returns-then-free-bodies-clause-any_moment
returns-then-free-bodies-clause-any_moment g c observed = rw (← c.self.view_is) (λ olds stored.
    let s : HalvesState = record {
      base = c.self.inside.base;
      active = c.self.inside.active;
      generation = c.self.inside.generation;
      count = c.self.inside.count;
      idle_open = c.self.inside.idle_open;
    } in
    grouped.moments_of_none g.D.Disk.moment g.D.Disk.left_since s olds _ c.args.disk.now _ stored.left
    ((g.met.D.Disk g.world.𝓛 g.world.𝓜 g.world.𝓡 ((λ s x. x), (λ x. x), (λ x. x), λ x. x)).only_now c.args.disk.now))

pub returns-in_err-write_group-clause-either : goal.returns-in_err-write_group-clause-either
returns-in_err-write_group-clause-either g c observed = rw (← c.self.view_is) (λ olds stored.
    let s : HalvesState = record {
      base = c.self.inside.base;
      active = c.self.inside.active;
      generation = c.self.inside.generation;
      count = c.self.inside.count;
      idle_open = c.self.inside.idle_open;
    } in
    let room : GroupRoom s olds c.args.bodies.now = record { count = stored.count; some = c.requires.some; fits = omega arith } in
    grouped.list_of s olds c.args.bodies.now room
    _ (grouped.bytes_change s olds c.args.bodies.now room _ _ ((rw c.start.ensures at c.write_group.ensures.torn) observed) stored.now))

pub returns-in_err-write_group-clause-any_moment : goal.returns-in_err-write_group-clause-any_moment
returns-in_err-write_group-clause-any_moment g c observed = rw (← c.self.view_is) (λ olds stored.
    let s : HalvesState = record {
      base = c.self.inside.base;
      active = c.self.inside.active;
      generation = c.self.inside.generation;
      count = c.self.inside.count;
      idle_open = c.self.inside.idle_open;
    } in
    let room : GroupRoom s olds c.args.bodies.now = record { count = stored.count; some = c.requires.some; fits = omega arith } in
    grouped.moments_of_bytes s olds c.args.bodies.now room g.D.Disk.moment g.D.Disk.left_since _ _ _ stored.left
    (rw c.start.ensures at c.write_group.ensures.any_moment))

pub returns-in_err-write_group-clause-outside : goal.returns-in_err-write_group-clause-outside
returns-in_err-write_group-clause-outside g c observed =
    rw (← c.self.view_is) (group_torn c.self.inside.base c.self.inside.active c.self.inside.count (length c.args.bodies.now) c.requires.some (omega arith) _ _
    ((rw c.start.ensures at c.write_group.ensures.torn) observed))

pub returns-in_err-write_kept-clause-either : goal.returns-in_err-write_kept-clause-either
returns-in_err-write_kept-clause-either g c observed = rw (← c.self.view_is) (λ olds stored.
    let s : HalvesState = record {
      base = c.self.inside.base;
      active = c.self.inside.active;
      generation = c.self.inside.generation;
      count = c.self.inside.count;
      idle_open = c.self.inside.idle_open;
    } in
    let room : GroupRoom s olds c.args.bodies.now = record { count = stored.count; some = c.requires.some; fits = omega arith } in
    grouped.gate_changes s olds c.args.bodies.now room _ _ ((rw c.start.ensures at c.write_kept.ensures.torn) observed)
    ((rw c.start.ensures at c.in_ok-write_group.ensures.laid) observed)
    (grouped.bytes_change s olds c.args.bodies.now room _ _ ((rw c.start.ensures at c.write_group.ensures.torn) observed) stored.now))

pub returns-in_err-write_kept-clause-any_moment : goal.returns-in_err-write_kept-clause-any_moment
returns-in_err-write_kept-clause-any_moment g c observed = rw (← c.self.view_is) (λ olds stored.
    let s : HalvesState = record {
      base = c.self.inside.base;
      active = c.self.inside.active;
      generation = c.self.inside.generation;
      count = c.self.inside.count;
      idle_open = c.self.inside.idle_open;
    } in
    let room : GroupRoom s olds c.args.bodies.now = record { count = stored.count; some = c.requires.some; fits = omega arith } in
    grouped.moments_of_gate s olds c.args.bodies.now room g.D.Disk.moment g.D.Disk.left_since _ _ _ _ _ _ stored.left
    (rw c.start.ensures at c.write_group.ensures.crash) (c.in_ok-write_group.ensures.durable observed)
    ((rw c.start.ensures at c.in_ok-write_group.ensures.laid) observed)
    (rw c.start.ensures at c.write_group.ensures.any_moment) (rw c.start.ensures at c.write_kept.ensures.any_moment))

pub returns-in_err-write_kept-clause-outside : goal.returns-in_err-write_kept-clause-outside
returns-in_err-write_kept-clause-outside g c observed =
    rw (← c.self.view_is) (torn_twice _ _ _ _ _
    (group_torn c.self.inside.base c.self.inside.active c.self.inside.count (length c.args.bodies.now) c.requires.some (omega arith) _ _
    ((rw c.start.ensures at c.write_group.ensures.torn) observed))
    (gate_torn c.self.inside.base c.self.inside.active c.self.inside.count (length c.args.bodies.now) c.requires.some (omega arith) _ _
    ((rw c.start.ensures at c.write_kept.ensures.torn) observed)))

pub returns-clause-appended : goal.returns-clause-appended
returns-clause-appended g c observed = rw (← c.self.view_is) (λ olds stored.
    let s : HalvesState = record {
      base = c.self.inside.base;
      active = c.self.inside.active;
      generation = c.self.inside.generation;
      count = c.self.inside.count;
      idle_open = c.self.inside.idle_open;
    } in
    let room : GroupRoom s olds c.args.bodies.now = record { count = stored.count; some = c.requires.some; fits = omega arith } in
    let region : s.base + 4194304 ≤ g.D.Disk.size c.args.disk.now =
    subst (λ (k : HalvesState). k.base + 4194304 ≤ g.D.Disk.size c.args.disk.now) (sym c.self.view_is) c.requires.region in
    let torn = ((rw c.start.ensures at c.write_group.ensures.torn) observed) in
    let fits : s.base + 4194304 ≤ length (g.D.Disk.seen c.write_group.new.disk) =
    omega (arith, (g.met.D.Disk g.world.𝓛 g.world.𝓜 g.world.𝓡 ((λ s x. x), (λ x. x), (λ x. x), λ x. x)).whole c.args.disk.now observed, torn.size, region) in
    grouped.group_stored s olds c.args.bodies.now room _ _ (c.in_ok-write_kept.ensures.durable observed)
    (grouped.gate_opens s olds c.args.bodies.now room _ _ (grouped.gate_fits s olds c.args.bodies.now room _ fits)
    ((rw c.start.ensures at c.in_ok-write_kept.ensures.written) observed) ((rw c.start.ensures at c.in_ok-write_group.ensures.laid) observed)
    (grouped.bytes_change s olds c.args.bodies.now room _ _ ((rw c.start.ensures at c.write_group.ensures.torn) observed) stored.now)))

pub returns-clause-either : goal.returns-clause-either
returns-clause-either g c observed = rw (← c.self.view_is) (λ olds stored.
    let s : HalvesState = record {
      base = c.self.inside.base;
      active = c.self.inside.active;
      generation = c.self.inside.generation;
      count = c.self.inside.count;
      idle_open = c.self.inside.idle_open;
    } in
    let room : GroupRoom s olds c.args.bodies.now = record { count = stored.count; some = c.requires.some; fits = omega arith } in
    grouped.gate_changes s olds c.args.bodies.now room _ _ ((rw c.start.ensures at c.write_kept.ensures.torn) observed)
    ((rw c.start.ensures at c.in_ok-write_group.ensures.laid) observed)
    (grouped.bytes_change s olds c.args.bodies.now room _ _ ((rw c.start.ensures at c.write_group.ensures.torn) observed) stored.now))

pub returns-clause-any_moment : goal.returns-clause-any_moment
returns-clause-any_moment g c observed = rw (← c.self.view_is) (λ olds stored.
    let s : HalvesState = record {
      base = c.self.inside.base;
      active = c.self.inside.active;
      generation = c.self.inside.generation;
      count = c.self.inside.count;
      idle_open = c.self.inside.idle_open;
    } in
    let room : GroupRoom s olds c.args.bodies.now = record { count = stored.count; some = c.requires.some; fits = omega arith } in
    grouped.moments_of_gate s olds c.args.bodies.now room g.D.Disk.moment g.D.Disk.left_since _ _ _ _ _ _ stored.left
    (rw c.start.ensures at c.write_group.ensures.crash) (c.in_ok-write_group.ensures.durable observed)
    ((rw c.start.ensures at c.in_ok-write_group.ensures.laid) observed)
    (rw c.start.ensures at c.write_group.ensures.any_moment) (rw c.start.ensures at c.write_kept.ensures.any_moment))

pub returns-clause-outside : goal.returns-clause-outside
returns-clause-outside g c observed =
    rw (← c.self.view_is) (torn_twice _ _ _ _ _
    (group_torn c.self.inside.base c.self.inside.active c.self.inside.count (length c.args.bodies.now) c.requires.some (omega arith) _ _
    ((rw c.start.ensures at c.write_group.ensures.torn) observed))
    (gate_torn c.self.inside.base c.self.inside.active c.self.inside.count (length c.args.bodies.now) c.requires.some (omega arith) _ _
    ((rw c.start.ensures at c.write_kept.ensures.torn) observed)))

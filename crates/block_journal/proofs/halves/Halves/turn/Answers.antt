use Rattle.std.proofs.Common.{◌+◌, ◌≤◌, [], length, sym, subst, arith}
use Rattle.petal_disk.proofs.Tearing.{torn_twice}
use Rattle.block_journal.specs.Halves.{HalvesState}
use Rattle.block_journal.proofs.Turned as turned
use Rattle.block_journal.proofs.halves.Halves.turn.Goals as goal

pub returns-in_err-shut_gate-clause-either : goal.returns-in_err-shut_gate-clause-either
returns-in_err-shut_gate-clause-either g c observed = rw (← c.self.view_is) (λ olds stored.
    let s : HalvesState = record {
      base = c.self.inside.base;
      active = c.self.inside.active;
      generation = c.self.inside.generation;
      count = c.self.inside.count;
      idle_open = c.self.inside.idle_open;
    } in
    turned.old_list s olds (g.B.Bodies.bodies c.args.bodies.now) c.requires.few _ (turned.gate_shut s olds (g.B.Bodies.bodies c.args.bodies.now)
    c.requires.few _ _ ((rw (c.start-idle.ensures, c.other-half.ensures) at c.shut_gate.ensures.torn) observed) stored.now))

pub returns-in_err-shut_gate-clause-any_moment : goal.returns-in_err-shut_gate-clause-any_moment
returns-in_err-shut_gate-clause-any_moment g c observed = rw (← c.self.view_is) (λ olds stored.
    let s : HalvesState = record {
      base = c.self.inside.base;
      active = c.self.inside.active;
      generation = c.self.inside.generation;
      count = c.self.inside.count;
      idle_open = c.self.inside.idle_open;
    } in
    turned.moments_of_close s olds (g.B.Bodies.bodies c.args.bodies.now) c.requires.few _ stored.left g.D.Disk.moment g.D.Disk.left_since
    _ _ (rw (c.start-idle.ensures, c.other-half.ensures) at c.shut_gate.ensures.any_moment))

pub returns-in_err-shut_gate-clause-outside : goal.returns-in_err-shut_gate-clause-outside
returns-in_err-shut_gate-clause-outside g c observed = rw (← c.self.view_is) (
    let s : HalvesState = record {
      base = c.self.inside.base;
      active = c.self.inside.active;
      generation = c.self.inside.generation;
      count = c.self.inside.count;
      idle_open = c.self.inside.idle_open;
    } in
    turned.gates_within s [] (g.B.Bodies.bodies c.args.bodies.now) c.requires.few
    _ _ ((rw (c.start-idle.ensures, c.other-half.ensures) at c.shut_gate.ensures.torn) observed))

pub returns-in_err-write_list-clause-either : goal.returns-in_err-write_list-clause-either
returns-in_err-write_list-clause-either g c observed = rw (← c.self.view_is) (λ olds stored.
    let s : HalvesState = record {
      base = c.self.inside.base;
      active = c.self.inside.active;
      generation = c.self.inside.generation;
      count = c.self.inside.count;
      idle_open = c.self.inside.idle_open;
    } in
    turned.old_list s olds (g.B.Bodies.bodies c.args.bodies.now) c.requires.few _ (turned.list_behind s olds
    (g.B.Bodies.bodies c.args.bodies.now) c.requires.few _ _ ((rw (c.start-idle.ensures, c.other-half.ensures) at c.write_list.ensures.torn) observed)
    ((rw (c.start-idle.ensures, c.other-half.ensures) at c.in_ok-shut_gate.ensures.now) observed stored.now.shut)
    (turned.gate_shut s olds (g.B.Bodies.bodies c.args.bodies.now) c.requires.few
    _ _ ((rw (c.start-idle.ensures, c.other-half.ensures) at c.shut_gate.ensures.torn) observed) stored.now)))

pub returns-in_err-write_list-clause-any_moment : goal.returns-in_err-write_list-clause-any_moment
returns-in_err-write_list-clause-any_moment g c observed = rw (← c.self.view_is) (λ olds stored.
    let s : HalvesState = record {
      base = c.self.inside.base;
      active = c.self.inside.active;
      generation = c.self.inside.generation;
      count = c.self.inside.count;
      idle_open = c.self.inside.idle_open;
    } in
    turned.moments_of_list s olds (g.B.Bodies.bodies c.args.bodies.now) c.requires.few _ stored.left (g.D.Disk.may_leave c.shut_gate.new.disk)
    (rw (c.start-idle.ensures, c.other-half.ensures) at c.shut_gate.ensures.crash)
    ((rw (c.start-idle.ensures, c.other-half.ensures) at c.in_ok-shut_gate.ensures.left) observed (λ is file here. (stored.left file here).shut is))
    g.D.Disk.moment g.D.Disk.left_since _ _ (rw (c.start-idle.ensures, c.other-half.ensures) at c.shut_gate.ensures.any_moment) _
    (rw (c.start-idle.ensures, c.other-half.ensures) at c.write_list.ensures.any_moment))

pub returns-in_err-write_list-clause-outside : goal.returns-in_err-write_list-clause-outside
returns-in_err-write_list-clause-outside g c observed = rw (← c.self.view_is) (
    let s : HalvesState = record {
      base = c.self.inside.base;
      active = c.self.inside.active;
      generation = c.self.inside.generation;
      count = c.self.inside.count;
      idle_open = c.self.inside.idle_open;
    } in
    torn_twice _ _ _ _ _ (turned.gates_within s []
    (g.B.Bodies.bodies c.args.bodies.now) c.requires.few _ _ ((rw (c.start-idle.ensures, c.other-half.ensures) at c.shut_gate.ensures.torn) observed))
    (turned.within s [] (g.B.Bodies.bodies c.args.bodies.now) c.requires.few _ 2097151 _ _ (omega arith) (omega arith)
    ((rw (c.start-idle.ensures, c.other-half.ensures) at c.write_list.ensures.torn) observed)))

pub returns-in_err-write_kept-clause-either : goal.returns-in_err-write_kept-clause-either
returns-in_err-write_kept-clause-either g c observed = rw (← c.self.view_is) (λ olds stored.
    let s : HalvesState = record {
      base = c.self.inside.base;
      active = c.self.inside.active;
      generation = c.self.inside.generation;
      count = c.self.inside.count;
      idle_open = c.self.inside.idle_open;
    } in
    turned.gate_changes s olds (g.B.Bodies.bodies c.args.bodies.now) c.requires.few
    _ _ ((rw (c.start-idle.ensures, c.other-half.ensures) at c.write_kept.ensures.torn) observed) ((rw (
      c.start-idle.ensures,
      c.other-half.ensures,
      c.head_body.ensures,
      c.next_generation-generation.ensures,
    ) at c.in_ok-write_list.ensures.laid) observed)
    (turned.list_behind s olds
    (g.B.Bodies.bodies c.args.bodies.now) c.requires.few _ _ ((rw (c.start-idle.ensures, c.other-half.ensures) at c.write_list.ensures.torn) observed)
    ((rw (c.start-idle.ensures, c.other-half.ensures) at c.in_ok-shut_gate.ensures.now) observed stored.now.shut)
    (turned.gate_shut s olds (g.B.Bodies.bodies c.args.bodies.now) c.requires.few
    _ _ ((rw (c.start-idle.ensures, c.other-half.ensures) at c.shut_gate.ensures.torn) observed) stored.now)))

pub returns-in_err-write_kept-clause-any_moment : goal.returns-in_err-write_kept-clause-any_moment
returns-in_err-write_kept-clause-any_moment g c observed = rw (← c.self.view_is) (λ olds stored.
    let s : HalvesState = record {
      base = c.self.inside.base;
      active = c.self.inside.active;
      generation = c.self.inside.generation;
      count = c.self.inside.count;
      idle_open = c.self.inside.idle_open;
    } in
    turned.moments_of_gate s olds (g.B.Bodies.bodies c.args.bodies.now) c.requires.few _ stored.left (g.D.Disk.may_leave c.shut_gate.new.disk)
    (rw (c.start-idle.ensures, c.other-half.ensures) at c.shut_gate.ensures.crash)
    ((rw (c.start-idle.ensures, c.other-half.ensures) at c.in_ok-shut_gate.ensures.left) observed (λ is file here. (stored.left file here).shut is))
    g.D.Disk.moment g.D.Disk.left_since _ _ (rw (c.start-idle.ensures, c.other-half.ensures) at c.shut_gate.ensures.any_moment)
    _ _ (g.D.Disk.may_leave c.write_list.new.disk)
    (g.D.Disk.seen c.write_list.new.disk) (rw (c.start-idle.ensures, c.other-half.ensures) at c.write_list.ensures.crash)
    (c.in_ok-write_list.ensures.durable observed)
    ((rw (c.start-idle.ensures, c.other-half.ensures, c.head_body.ensures, c.next_generation-generation.ensures) at c.in_ok-write_list.ensures.laid) observed)
    (rw (c.start-idle.ensures, c.other-half.ensures) at c.write_list.ensures.any_moment)
    (rw (c.start-idle.ensures, c.other-half.ensures) at c.write_kept.ensures.any_moment))

pub returns-in_err-write_kept-clause-outside : goal.returns-in_err-write_kept-clause-outside
returns-in_err-write_kept-clause-outside g c observed = rw (← c.self.view_is) (
    let s : HalvesState = record {
      base = c.self.inside.base;
      active = c.self.inside.active;
      generation = c.self.inside.generation;
      count = c.self.inside.count;
      idle_open = c.self.inside.idle_open;
    } in
    torn_twice _ _ _ _ _ (torn_twice _ _ _ _ _ (turned.gates_within s []
    (g.B.Bodies.bodies c.args.bodies.now) c.requires.few _ _ ((rw (c.start-idle.ensures, c.other-half.ensures) at c.shut_gate.ensures.torn) observed))
    (turned.within s [] (g.B.Bodies.bodies c.args.bodies.now) c.requires.few _ 2097151 _ _ (omega arith) (omega arith)
    ((rw (c.start-idle.ensures, c.other-half.ensures) at c.write_list.ensures.torn) observed)))
    (turned.within s [] (g.B.Bodies.bodies c.args.bodies.now) c.requires.few _ 1 _ _ (omega arith) (omega arith)
    ((rw (c.start-idle.ensures, c.other-half.ensures) at c.write_kept.ensures.torn) observed)))

pub returns-clause-either : goal.returns-clause-either
returns-clause-either g c observed = rw (← c.self.view_is) (λ olds stored.
    let s : HalvesState = record {
      base = c.self.inside.base;
      active = c.self.inside.active;
      generation = c.self.inside.generation;
      count = c.self.inside.count;
      idle_open = c.self.inside.idle_open;
    } in
    turned.gate_changes s olds (g.B.Bodies.bodies c.args.bodies.now) c.requires.few
    _ _ ((rw (c.start-idle.ensures, c.other-half.ensures) at c.write_kept.ensures.torn) observed) ((rw (
      c.start-idle.ensures,
      c.other-half.ensures,
      c.head_body.ensures,
      c.next_generation-generation.ensures,
    ) at c.in_ok-write_list.ensures.laid) observed)
    (turned.list_behind s olds
    (g.B.Bodies.bodies c.args.bodies.now) c.requires.few _ _ ((rw (c.start-idle.ensures, c.other-half.ensures) at c.write_list.ensures.torn) observed)
    ((rw (c.start-idle.ensures, c.other-half.ensures) at c.in_ok-shut_gate.ensures.now) observed stored.now.shut)
    (turned.gate_shut s olds (g.B.Bodies.bodies c.args.bodies.now) c.requires.few
    _ _ ((rw (c.start-idle.ensures, c.other-half.ensures) at c.shut_gate.ensures.torn) observed) stored.now)))

pub returns-clause-any_moment : goal.returns-clause-any_moment
returns-clause-any_moment g c observed = rw (← c.self.view_is) (λ olds stored.
    let s : HalvesState = record {
      base = c.self.inside.base;
      active = c.self.inside.active;
      generation = c.self.inside.generation;
      count = c.self.inside.count;
      idle_open = c.self.inside.idle_open;
    } in
    turned.moments_of_gate s olds (g.B.Bodies.bodies c.args.bodies.now) c.requires.few _ stored.left (g.D.Disk.may_leave c.shut_gate.new.disk)
    (rw (c.start-idle.ensures, c.other-half.ensures) at c.shut_gate.ensures.crash)
    ((rw (c.start-idle.ensures, c.other-half.ensures) at c.in_ok-shut_gate.ensures.left) observed (λ is file here. (stored.left file here).shut is))
    g.D.Disk.moment g.D.Disk.left_since _ _ (rw (c.start-idle.ensures, c.other-half.ensures) at c.shut_gate.ensures.any_moment)
    _ _ (g.D.Disk.may_leave c.write_list.new.disk)
    (g.D.Disk.seen c.write_list.new.disk) (rw (c.start-idle.ensures, c.other-half.ensures) at c.write_list.ensures.crash)
    (c.in_ok-write_list.ensures.durable observed)
    ((rw (c.start-idle.ensures, c.other-half.ensures, c.head_body.ensures, c.next_generation-generation.ensures) at c.in_ok-write_list.ensures.laid) observed)
    (rw (c.start-idle.ensures, c.other-half.ensures) at c.write_list.ensures.any_moment)
    (rw (c.start-idle.ensures, c.other-half.ensures) at c.write_kept.ensures.any_moment))

pub returns-clause-outside : goal.returns-clause-outside
returns-clause-outside g c observed = rw (← c.self.view_is) (
    let s : HalvesState = record {
      base = c.self.inside.base;
      active = c.self.inside.active;
      generation = c.self.inside.generation;
      count = c.self.inside.count;
      idle_open = c.self.inside.idle_open;
    } in
    torn_twice _ _ _ _ _ (torn_twice _ _ _ _ _ (turned.gates_within s []
    (g.B.Bodies.bodies c.args.bodies.now) c.requires.few _ _ ((rw (c.start-idle.ensures, c.other-half.ensures) at c.shut_gate.ensures.torn) observed))
    (turned.within s [] (g.B.Bodies.bodies c.args.bodies.now) c.requires.few _ 2097151 _ _ (omega arith) (omega arith)
    ((rw (c.start-idle.ensures, c.other-half.ensures) at c.write_list.ensures.torn) observed)))
    (turned.within s [] (g.B.Bodies.bodies c.args.bodies.now) c.requires.few _ 1 _ _ (omega arith) (omega arith)
    ((rw (c.start-idle.ensures, c.other-half.ensures) at c.write_kept.ensures.torn) observed)))

pub returns-clause-turned : goal.returns-clause-turned
returns-clause-turned g c observed =
    rw (← c.self.view_is, c.other-half.ensures, c.next_generation-generation.ensures, c.count-self-inside.ensures) (λ olds stored.
    let s : HalvesState = record {
      base = c.self.inside.base;
      active = c.self.inside.active;
      generation = c.self.inside.generation;
      count = c.self.inside.count;
      idle_open = c.self.inside.idle_open;
    } in
    let region : s.base + 4194304 ≤ g.D.Disk.size c.args.disk.now =
    subst (λ (k : HalvesState). k.base + 4194304 ≤ g.D.Disk.size c.args.disk.now) (sym c.self.view_is) c.requires.region in
    let torn = ((rw (c.start-idle.ensures, c.other-half.ensures) at c.shut_gate.ensures.torn) observed) in
    let torn' = ((rw (c.start-idle.ensures, c.other-half.ensures) at c.write_list.ensures.torn) observed) in
    let fits : s.base + 4194304 ≤ length (g.D.Disk.seen c.write_list.new.disk) =
    omega (
      arith,
      (g.met.D.Disk g.world.𝓛 g.world.𝓜 g.world.𝓡 ((λ s x. x), (λ x. x), (λ x. x), λ x. x)).whole c.args.disk.now observed,
      torn.size,
      torn'.size,
      region,
    ) in
    turned.turned_stored s olds (g.B.Bodies.bodies c.args.bodies.now) c.requires.few _ _ (c.in_ok-write_kept.ensures.durable observed)
    (turned.gate_opens s olds (g.B.Bodies.bodies c.args.bodies.now) c.requires.few
    _ _ (turned.gate_fits s olds (g.B.Bodies.bodies c.args.bodies.now) c.requires.few _ fits)
    ((rw (c.start-idle.ensures, c.other-half.ensures) at c.in_ok-write_kept.ensures.written) observed)
    ((rw (c.start-idle.ensures, c.other-half.ensures, c.head_body.ensures, c.next_generation-generation.ensures) at c.in_ok-write_list.ensures.laid) observed)
    (turned.list_behind s olds
    (g.B.Bodies.bodies c.args.bodies.now) c.requires.few _ _ ((rw (c.start-idle.ensures, c.other-half.ensures) at c.write_list.ensures.torn) observed)
    ((rw (c.start-idle.ensures, c.other-half.ensures) at c.in_ok-shut_gate.ensures.now) observed stored.now.shut)
    (turned.gate_shut s olds (g.B.Bodies.bodies c.args.bodies.now) c.requires.few
    _ _ ((rw (c.start-idle.ensures, c.other-half.ensures) at c.shut_gate.ensures.torn) observed) stored.now))))

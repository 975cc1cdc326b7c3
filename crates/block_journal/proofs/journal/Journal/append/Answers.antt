use Rattle.std.proofs.Common.{◌+◌, ◌*◌, ◌≤◌, ◌++◌, [], ◌∷◌, inl, List, ℕ, length, arith, subst, sym, length-append}
use Rattle.petal_disk.proofs.Tearing.{torn_twice}
use Rattle.block_journal.specs.Records.{Stands}
use Rattle.block_journal.specs.Region.{Region}
use Rattle.block_journal.proofs.Append.{Room, body_changes, gate_changes, body_within, gate_within, body_there, counts_then, moments_of_body, moments_of_gate}
use Rattle.block_journal.proofs.journal.Journal.append.Goals as goal

pub returns-in_err-write_kept-clause-either : goal.returns-in_err-write_kept-clause-either
returns-in_err-write_kept-clause-either g c observed = rw (← c.self.view_is) (λ bodies stored.
    let j : Region = record { base = c.self.inside.base; limit = c.self.inside.limit; count = c.self.inside.count } in
    let room : Room g.row.R j bodies c.args.body.now =
    record { wide = c.self.invariant.wide; count = stored.count; room = omega arith; len = c.requires.body } in
    inl (body_changes g.row.R j bodies c.args.body.now room _ _ (c.write_kept.ensures.torn observed) stored.now))

pub returns-in_err-write_kept-clause-any_moment : goal.returns-in_err-write_kept-clause-any_moment
returns-in_err-write_kept-clause-any_moment g c observed = rw (← c.self.view_is) (λ bodies stored.
    let j : Region = record { base = c.self.inside.base; limit = c.self.inside.limit; count = c.self.inside.count } in
    let room : Room g.row.R j bodies c.args.body.now =
    record { wide = c.self.invariant.wide; count = stored.count; room = omega arith; len = c.requires.body } in
    moments_of_body g.row.R j bodies c.args.body.now room g.D.Disk.moment g.D.Disk.left_since _ _ _ stored.left c.write_kept.ensures.any_moment)

pub returns-in_err-write_kept-clause-outside : goal.returns-in_err-write_kept-clause-outside
returns-in_err-write_kept-clause-outside g c observed =
    rw (← c.self.view_is) (body_within g.row.R _ _ _ _ _ _ c.self.invariant.wide (omega arith) c.requires.body (c.write_kept.ensures.torn observed))

pub returns-in_err-write_kept-2-clause-either : goal.returns-in_err-write_kept-2-clause-either
returns-in_err-write_kept-2-clause-either g c observed = rw (← c.self.view_is) (λ bodies stored.
    let j : Region = record { base = c.self.inside.base; limit = c.self.inside.limit; count = c.self.inside.count } in
    let room : Room g.row.R j bodies c.args.body.now =
    record { wide = c.self.invariant.wide; count = stored.count; room = omega arith; len = c.requires.body } in
    let region : j.base + g.row.R * j.limit ≤ g.D.Disk.size c.args.disk.now =
    subst (λ (k : Region). k.base + g.row.R * k.limit ≤ g.D.Disk.size c.args.disk.now) (sym c.self.view_is) c.requires.region in
    let fits : j.base + g.row.R * j.limit ≤ length (g.D.Disk.seen c.args.disk.now) =
    omega (arith, (g.met.D.Disk g.world.𝓛 g.world.𝓜 g.world.𝓡 ((λ s x. x), (λ x. x), (λ x. x), λ x. x)).whole c.args.disk.now observed, region) in
    let there = body_there g.row.R j bodies c.args.body.now room _ _ fits (c.in_ok-write_kept.ensures.written observed) in
    gate_changes g.row.R j bodies c.args.body.now room _ _ (c.write_kept-2.ensures.torn observed) there
    (body_changes g.row.R j bodies c.args.body.now room _ _ (c.write_kept.ensures.torn observed) stored.now))

pub returns-in_err-write_kept-2-clause-any_moment : goal.returns-in_err-write_kept-2-clause-any_moment
returns-in_err-write_kept-2-clause-any_moment g c observed = rw (← c.self.view_is) (λ bodies stored.
    let j : Region = record { base = c.self.inside.base; limit = c.self.inside.limit; count = c.self.inside.count } in
    let room : Room g.row.R j bodies c.args.body.now =
    record { wide = c.self.invariant.wide; count = stored.count; room = omega arith; len = c.requires.body } in
    let region : j.base + g.row.R * j.limit ≤ g.D.Disk.size c.args.disk.now =
    subst (λ (k : Region). k.base + g.row.R * k.limit ≤ g.D.Disk.size c.args.disk.now) (sym c.self.view_is) c.requires.region in
    let fits : j.base + g.row.R * j.limit ≤ length (g.D.Disk.seen c.args.disk.now) =
    omega (arith, (g.met.D.Disk g.world.𝓛 g.world.𝓜 g.world.𝓡 ((λ s x. x), (λ x. x), (λ x. x), λ x. x)).whole c.args.disk.now observed, region) in
    let there = body_there g.row.R j bodies c.args.body.now room _ _ fits (c.in_ok-write_kept.ensures.written observed) in
    moments_of_gate g.row.R j bodies c.args.body.now room g.D.Disk.moment g.D.Disk.left_since _ _ _ _ _ _ stored.left c.write_kept.ensures.crash
    (c.in_ok-write_kept.ensures.durable observed) there c.write_kept.ensures.any_moment c.write_kept-2.ensures.any_moment)

pub returns-in_err-write_kept-2-clause-outside : goal.returns-in_err-write_kept-2-clause-outside
returns-in_err-write_kept-2-clause-outside g c observed = rw (← c.self.view_is) (torn_twice _ _ _ _ _
    (body_within g.row.R _ _ _ _ _ _ c.self.invariant.wide (omega arith) c.requires.body (c.write_kept.ensures.torn observed))
    (gate_within g.row.R _ _ _ _ _ c.self.invariant.wide (omega arith) (c.write_kept-2.ensures.torn observed)))

pub returns-clause-either : goal.returns-clause-either
returns-clause-either g c observed = rw (← c.self.view_is) (λ bodies stored.
    let j : Region = record { base = c.self.inside.base; limit = c.self.inside.limit; count = c.self.inside.count } in
    let room : Room g.row.R j bodies c.args.body.now =
    record { wide = c.self.invariant.wide; count = stored.count; room = omega arith; len = c.requires.body } in
    let region : j.base + g.row.R * j.limit ≤ g.D.Disk.size c.args.disk.now =
    subst (λ (k : Region). k.base + g.row.R * k.limit ≤ g.D.Disk.size c.args.disk.now) (sym c.self.view_is) c.requires.region in
    let fits : j.base + g.row.R * j.limit ≤ length (g.D.Disk.seen c.args.disk.now) =
    omega (arith, (g.met.D.Disk g.world.𝓛 g.world.𝓜 g.world.𝓡 ((λ s x. x), (λ x. x), (λ x. x), λ x. x)).whole c.args.disk.now observed, region) in
    let there = body_there g.row.R j bodies c.args.body.now room _ _ fits (c.in_ok-write_kept.ensures.written observed) in
    gate_changes g.row.R j bodies c.args.body.now room _ _ (c.write_kept-2.ensures.torn observed) there
    (body_changes g.row.R j bodies c.args.body.now room _ _ (c.write_kept.ensures.torn observed) stored.now))

pub returns-clause-any_moment : goal.returns-clause-any_moment
returns-clause-any_moment g c observed = rw (← c.self.view_is) (λ bodies stored.
    let j : Region = record { base = c.self.inside.base; limit = c.self.inside.limit; count = c.self.inside.count } in
    let room : Room g.row.R j bodies c.args.body.now =
    record { wide = c.self.invariant.wide; count = stored.count; room = omega arith; len = c.requires.body } in
    let region : j.base + g.row.R * j.limit ≤ g.D.Disk.size c.args.disk.now =
    subst (λ (k : Region). k.base + g.row.R * k.limit ≤ g.D.Disk.size c.args.disk.now) (sym c.self.view_is) c.requires.region in
    let fits : j.base + g.row.R * j.limit ≤ length (g.D.Disk.seen c.args.disk.now) =
    omega (arith, (g.met.D.Disk g.world.𝓛 g.world.𝓜 g.world.𝓡 ((λ s x. x), (λ x. x), (λ x. x), λ x. x)).whole c.args.disk.now observed, region) in
    let there = body_there g.row.R j bodies c.args.body.now room _ _ fits (c.in_ok-write_kept.ensures.written observed) in
    moments_of_gate g.row.R j bodies c.args.body.now room g.D.Disk.moment g.D.Disk.left_since _ _ _ _ _ _ stored.left c.write_kept.ensures.crash
    (c.in_ok-write_kept.ensures.durable observed) there c.write_kept.ensures.any_moment c.write_kept-2.ensures.any_moment)

pub returns-clause-outside : goal.returns-clause-outside
returns-clause-outside g c observed = rw (← c.self.view_is) (torn_twice _ _ _ _ _
    (body_within g.row.R _ _ _ _ _ _ c.self.invariant.wide (omega arith) c.requires.body (c.write_kept.ensures.torn observed))
    (gate_within g.row.R _ _ _ _ _ c.self.invariant.wide (omega arith) (c.write_kept-2.ensures.torn observed)))

pub returns-clause-appended : goal.returns-clause-appended
returns-clause-appended g c observed = rw (← c.self.view_is) (λ bodies stored.
    let j : Region = record { base = c.self.inside.base; limit = c.self.inside.limit; count = c.self.inside.count } in
    let room : Room g.row.R j bodies c.args.body.now =
    record { wide = c.self.invariant.wide; count = stored.count; room = omega arith; len = c.requires.body } in
    let region : j.base + g.row.R * j.limit ≤ g.D.Disk.size c.args.disk.now =
    subst (λ (k : Region). k.base + g.row.R * k.limit ≤ g.D.Disk.size c.args.disk.now) (sym c.self.view_is) c.requires.region in
    let fits : j.base + g.row.R * j.limit ≤ length (g.D.Disk.seen c.args.disk.now) =
    omega (arith, (g.met.D.Disk g.world.𝓛 g.world.𝓜 g.world.𝓡 ((λ s x. x), (λ x. x), (λ x. x), λ x. x)).whole c.args.disk.now observed, region) in
    let there = body_there g.row.R j bodies c.args.body.now room _ _ fits (c.in_ok-write_kept.ensures.written observed) in
    let fits1 : j.base + g.row.R * j.limit ≤ length (g.D.Disk.seen c.write_kept.new.disk) = omega (arith, (c.write_kept.ensures.torn observed).size, fits) in
    let now = counts_then g.row.R j bodies c.args.body.now room _ _ fits1 there (c.in_ok-write_kept-2.ensures.written observed)
    (body_changes g.row.R j bodies c.args.body.now room _ _ (c.write_kept.ensures.torn observed) stored.now) in
    record {
      count = omega (arith, stored.count, length-append bodies (c.args.body.now ∷ []));
      now = now;
      left = λ f here. subst (λ (file : List ℕ). Stands g.row.R j.base j.limit file (bodies ++ c.args.body.now ∷ []))
          (sym (c.in_ok-write_kept-2.ensures.durable observed f here)) now;
    })

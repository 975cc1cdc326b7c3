use Rattle.std.proofs.Common.{◌≡◌, ◌+◌, ◌∙◌, ℕ, List, length, sym, subst, rules}
use Rattle.std.proofs.lemmas.List.{length-map}
use Rattle.block_journal.specs.Halves.{half_start}
use Rattle.block_journal.specs.Records.{contents, Counts}
use Rattle.block_journal.proofs.Found.{found_list, found_stored}
use Rattle.block_journal.proofs.Lists.{list_once}
use Rattle.block_journal.proofs.halves.Halves.open.Goals as goal

pub returns-clause-stored : goal.returns-clause-stored
returns-clause-stored g c observed =
    let d = g.D.Disk in
    let later = c.in-Some.later in
    let all = contents c.in_ok-bodies.bodies.items in
    let count : c.len.result ≡ length c.in_ok-bodies.bodies.items = search rules in
    let counts : Counts 64 (half_start c.args.base later.half + 64) 32767 (d.seen c.args.disk.now) all =
    subst (λ (file : List ℕ). Counts 64 (half_start c.args.base later.half + 64) 32767 file all) c.find_later.ensures.device.same_seen
    ((rw c.start.ensures at c.in_ok-bodies.ensures.counts) observed) in
    found_stored c.args.base later c.len.result (d.seen c.args.disk.now) (d.seen c.read_bodies.new.disk) (d.may_leave c.read_bodies.new.disk) all
    (c.read_bodies.ensures.seen ∙ c.find_later.ensures.device.same_seen)
    (λ file here. c.in_ok-later.ensures.durable observed file (c.read_bodies.ensures.crash file here) ∙ sym c.read_bodies.ensures.seen)
    ((rw c.in-Some.is at c.in_ok-later.ensures.found) observed) counts
    (count ∙ sym (length-map c.in_ok-bodies.bodies.items _))

pub returns-clause-only : goal.returns-clause-only
returns-clause-only g c observed bodies list =
    let d = g.D.Disk in
    let later = c.in-Some.later in
    let all = contents c.in_ok-bodies.bodies.items in
    let counts : Counts 64 (half_start c.args.base later.half + 64) 32767 (d.seen c.args.disk.now) all =
    subst (λ (file : List ℕ). Counts 64 (half_start c.args.base later.half + 64) 32767 file all) c.find_later.ensures.device.same_seen
    ((rw c.start.ensures at c.in_ok-bodies.ensures.counts) observed) in
    list_once c.args.base (d.seen c.args.disk.now) all bodies (
      later.half,
      (later.generation, found_list c.args.base later (d.seen c.args.disk.now) all ((rw c.in-Some.is at c.in_ok-later.ensures.found) observed) counts),
    )
    list

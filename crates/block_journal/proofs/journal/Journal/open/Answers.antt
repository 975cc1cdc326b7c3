use Rattle.std.proofs.Common.{◌≡◌, ◌∙◌, ℕ, List, length, sym, ap, subst, rules}
use Rattle.std.proofs.lemmas.List.{length-map}
use Rattle.block_journal.specs.Records.{contents, Counts, Stands}
use Rattle.block_journal.proofs.Counting.{only_those, stored_now}
use Rattle.block_journal.proofs.journal.Journal.open.Goals as goal

pub returns-clause-stored : goal.returns-clause-stored
returns-clause-stored g c observed bodies stands =
    let d = g.D.Disk in
    let all = contents c.in_ok-bodies.bodies.items in
    let seen = c.read_bodies.ensures.seen ∙ c.sync.ensures.seen in
    let counts : Counts g.row.R c.args.base c.args.limit (d.seen c.args.disk.now) all =
    subst (λ (file : List ℕ). Counts g.row.R c.args.base c.args.limit file all) c.sync.ensures.seen (c.in_ok-bodies.ensures.counts observed) in
    let same = only_those _ _ _ _ _ _ counts stands in
    let count : c.len.result ≡ length c.in_ok-bodies.bodies.items = search rules in (
      same,
      stored_now g.row.R c.args.base c.args.limit (d.seen c.read_bodies.new.disk) (d.may_leave c.read_bodies.new.disk) bodies c.len.result
          (count ∙ sym (length-map c.in_ok-bodies.bodies.items _) ∙ ap length same)
          (λ f here. c.in_ok-sync.ensures.durable observed f (c.read_bodies.ensures.crash f here) ∙ sym seen)
          (subst (λ (file : List ℕ). Stands g.row.R c.args.base c.args.limit file bodies) (sym seen) stands),
    )

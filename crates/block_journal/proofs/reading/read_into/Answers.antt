use Rattle.std.proofs.Common.{◌≡◌, ◌+◌, true, false, ℕ, subst, arith, rules}
use Rattle.petal_disk.proofs.Keeping.{keeps_on}
use Rattle.block_journal.specs.Records.{contents, Counts}
use Rattle.block_journal.proofs.Counting.{piece_more, counts_stopped}
use Rattle.block_journal.proofs.reading.read_into.Goals as goal

pub loop-first-preserved : goal.loop-first-preserved
loop-first-preserved g c =
    let inv = c.loop-first.invariant in
    let d = g.D.Disk in
    let more : c.in_ok-read_piece.field-0 ≡ true = search rules in
    let laws = g.met.D.Disk g.world.𝓛 g.world.𝓜 g.world.𝓡 ((λ s x. x), (λ x. x), (λ x. x), λ x. x) in
    let next = λ (observed : d.observable).
    piece_more _ _ _ _ _ _ _ _ _ c.requires.wide inv.device.same_seen (inv.all observed) (inv.counts observed) (c.in_ok-read_piece.ensures.took observed) in
    record {
      within = search rules;
      count = search rules;
      counts = λ observed. (next observed).0;
      all = λ observed. (next observed).1 more;
      device = keeps_on d.size d.seen d.may_leave d.moment d.left_since _ _ _ inv.device c.read_piece.ensures.device;
      later = omega (arith, inv.later, c.read_piece.ensures.cause.later);
      run = laws.goes_on _ _ _ inv.run c.read_piece.ensures.run;
    }

pub returns-after-loop-first-clause-counts : goal.returns-after-loop-first-clause-counts
returns-after-loop-first-clause-counts g c observed =
    let inv = c.loop-first.invariant in
    let end : c.loop-first.first ≡ c.args.limit = omega (arith, inv.within, c.loop-first-test.false) in
    subst (λ (n : ℕ). Counts g.row.R c.args.base n (g.D.Disk.seen c.args.disk.now) (contents c.loop-first.all.items)) end (inv.counts observed)

pub returns-then-not-branch-clause-counts : goal.returns-then-not-branch-clause-counts
returns-then-not-branch-clause-counts g c observed =
    let inv = c.loop-first.invariant in
    let stopped : c.in_ok-read_piece.field-0 ≡ false = search rules in
    let here = piece_more _ _ _ _ _ _ _ _ _ c.requires.wide inv.device.same_seen (inv.all observed) (inv.counts observed)
    (c.in_ok-read_piece.ensures.took observed) in
    counts_stopped g.row.R c.args.base (c.loop-first.first + c.min-records.result) c.args.limit (g.D.Disk.seen c.args.disk.now) _ (here.2 stopped)
    (search rules) here.0

pub returns-then-not-branch-clause-device : goal.returns-then-not-branch-clause-device
returns-then-not-branch-clause-device g c =
    let d = g.D.Disk in
    keeps_on d.size d.seen d.may_leave d.moment d.left_since _ _ _ c.loop-first.invariant.device c.read_piece.ensures.device

pub returns-in_err-read_piece-clause-device : goal.returns-in_err-read_piece-clause-device
returns-in_err-read_piece-clause-device g c =
    let d = g.D.Disk in
    keeps_on d.size d.seen d.may_leave d.moment d.left_since _ _ _ c.loop-first.invariant.device c.read_piece.ensures.device

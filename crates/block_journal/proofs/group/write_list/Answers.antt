use Rattle.std.proofs.Common.{◌+◌, ◌∷◌, ◌∙◌, refl, arith, rules}
use Rattle.petal_disk.specs.Disk.{LeftByWrite}
use Rattle.petal_disk.specs.Tears.{torn_nothing}
use Rattle.petal_disk.proofs.Moments.{started}
use Rattle.petal_disk.proofs.Tearing.{torn_twice}
use Rattle.block_journal.proofs.Groups.{laid_none}
use Rattle.block_journal.proofs.Ranges.{follows_more, moments_more}
use Rattle.block_journal.proofs.group.write_list.Goals as goal

pub loop-first-init : goal.loop-first-init
loop-first-init g c =
    let d = g.D.Disk in
    let laws = g.met.D.Disk g.world.𝓛 g.world.𝓜 g.world.𝓡 ((λ s x. x), (λ x. x), (λ x. x), λ x. x) in
    let low = c.args.at + 1 in
    record {
      within = omega arith;
      laid = λ observed. laid_none c.args.at 32768 _ (c.args.head.now ∷ g.B.Bodies.bodies c.args.bodies.now) (omega arith);
      torn = λ observed. torn_nothing low 2097151 _;
      size = refl;
      crash = λ file left. (file, left, torn_nothing low 2097151 file);
      moments = started d.moment d.left_since c.args.disk.now (LeftByWrite low 2097151 (d.may_leave c.args.disk.now))
          (λ file left. (file, laws.only_now c.args.disk.now file left, torn_nothing low 2097151 file));
      later = omega arith;
      run = laws.stays c.args.disk.now;
    }

pub loop-first-preserved : goal.loop-first-preserved
loop-first-preserved g c =
    let d = g.D.Disk in
    let laws = g.met.D.Disk g.world.𝓛 g.world.𝓜 g.world.𝓡 ((λ s x. x), (λ x. x), (λ x. x), λ x. x) in
    let low = c.args.at + 1 in
    let inv = c.loop-first.invariant in
    record {
      within = search rules;
      laid = λ observed. c.in_ok-write_piece.ensures.laid observed (inv.laid observed);
      torn = λ observed. torn_twice low 2097151 _ _ _ (inv.torn observed) (c.write_piece.ensures.torn observed);
      size = c.write_piece.ensures.size ∙ inv.size;
      crash = follows_more low 2097151 low 2097151 (omega arith) (omega arith) _ _ _ inv.crash c.write_piece.ensures.crash;
      moments = moments_more low 2097151 low 2097151 (omega arith) (omega arith) d.moment d.left_since _ _ _ _ _ inv.crash inv.moments
          c.write_piece.ensures.any_moment;
      later = omega (arith, inv.later, c.write_piece.ensures.cause.later);
      run = laws.goes_on _ _ _ inv.run c.write_piece.ensures.run;
    }

pub returns-in_err-write_piece-clause-any_moment : goal.returns-in_err-write_piece-clause-any_moment
returns-in_err-write_piece-clause-any_moment g c =
    let d = g.D.Disk in
    let low = c.args.at + 1 in
    let inv = c.loop-first.invariant in
    moments_more low 2097151 low 2097151 (omega arith) (omega arith) d.moment d.left_since _ _ _ _ _ inv.crash inv.moments c.write_piece.ensures.any_moment

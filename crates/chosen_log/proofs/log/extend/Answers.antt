use Rattle.std.proofs.Common.{◌≡◌, ◌≢◌, ◌+◌, length, Some, None, arith, sym, ◌∙◌, ap}
use Rattle.chosen_log.specs.Log.{learnt}
use Rattle.chosen_log.proofs.Runs.{unchanged_run, begun_run, longer_run, ended_run, pushed_front, begun_front, pushed_length}
use Rattle.chosen_log.proofs.log.extend.Goals as goal

pub returns-then-len-place-clause-ok : goal.returns-then-len-place-clause-ok
returns-then-len-place-clause-ok c =
    let ne : length c.args.run.now.items + 1 ≢ c.args.place = λ is. c.if-len-place.true (omega arith) in
    unchanged_run (learnt c.args.places.now.entries) c.args.place c.args.command.now c.args.run.now.items c.requires.run c.requires.new ne

pub loop-next-init : goal.loop-next-init
loop-next-init c =
    let next : length c.args.run.now.items + 1 ≡ c.args.place = omega arith in
    let longer = pushed_length c.args.run.now.items c.copy.result in
    record {
      front = rw c.in_ok-push.ensures.items (begun_front c.args.run.now.items c.copy.result);
      longer = rw c.in_ok-push.ensures.items (omega arith);
      reached = rw c.in_ok-push.ensures.items (omega arith);
      there = rw (c.in_ok-push.ensures.items, c.copy.ensures)
          (begun_run (learnt c.args.places.now.entries) c.args.place c.args.command.now c.args.run.now.items c.requires.run next);
    }

pub loop-next-preserved : goal.loop-next-preserved
loop-next-preserved c =
    let kept = c.loop-next.invariant in
    let longer = pushed_length c.loop-next.run.items c.copy-in-Some.result in
    let len : c.len-in-loop-next.result ≡ length c.loop-next.run.items = omega arith in
    let there : learnt c.args.places.now.entries (length c.loop-next.run.items + 1) ≡ Some c.in-Some.next.now =
    ap (λ n. learnt c.args.places.now.entries (n + 1)) (sym len) ∙ sym c.in-Some.ensures.value in
    record {
      front = rw c.in_ok-push-2.ensures.items (pushed_front c.args.run.now.items c.loop-next.run.items c.copy-in-Some.result kept.longer kept.front);
      longer = rw c.in_ok-push-2.ensures.items (omega arith);
      reached = rw c.in_ok-push-2.ensures.items (omega arith);
      there = rw (c.in_ok-push-2.ensures.items, c.copy-in-Some.ensures) (longer_run
          (learnt c.args.places.now.entries) c.args.place c.args.command.now c.in-Some.next.now c.loop-next.run.items kept.there kept.reached there);
    }

pub returns-clause-ok : goal.returns-clause-ok
returns-clause-ok c =
    let len : c.len-in-loop-next.result ≡ length c.loop-next.run.items = omega arith in
    let none : learnt c.args.places.now.entries (length c.loop-next.run.items + 1) ≡ None = ap (λ n. learnt c.args.places.now.entries (n + 1)) (sym len)
    ∙ sym c.in_default.ensures.value in
    ended_run (learnt c.args.places.now.entries) c.args.place c.args.command.now c.loop-next.run.items c.loop-next.invariant.there
    c.loop-next.invariant.reached none

use Rattle.std.proofs.Common.{◌≡◌, ◌∙◌, ◌<◌, ℕ, List, [], length, take, get_or, sym, ap, subst, arith}
use Rattle.std.proofs.lemmas.List.{length-map, take_all}
use Rattle.block_journal.specs.Records.{contents}
use Rattle.data_device.specs.Spelling.{spelling}
use Rattle.data_device.specs.Device.{bodies_of}
use Rattle.data_device.specs.Reading.{IsRead, IsBad}
use Rattle.data_device.proofs.Readings.{at_map, next_read, next_same, not_read, is_read}
use Rattle.data_device.proofs.replay.read_records.Goals as goal

pub loop-index-init : goal.loop-index-init
loop-index-init c = record {
  read = record {
    found = ap bodies_of c.in_ok-replay.ensures.none;
    spelled = rw c.in_ok-replay.ensures.none tt;
    fit = rw c.in_ok-replay.ensures.none tt;
    kept = rw c.in_ok-replay.ensures.none c.in_ok-replay.ensures.kept;
    slots_are = c.in_ok-replay.ensures.slots.0;
    tickets = c.in_ok-replay.ensures.slots.1;
  };
  same = λ records sp is. c.in_ok-replay.ensures.none;
}

pub step-requires : goal.step-requires
step-requires c = c.loop-index.invariant.read.tickets

pub returns-then-not-branch-clause-bad : goal.returns-then-not-branch-clause-bad
returns-then-not-branch-clause-bad c index is =
    let i = c.loop-index.index in
    let all = contents c.args.bodies.now in
    let lt : i < length all = omega (arith, length-map c.args.bodies.now (λ body. body.items), c.loop-index-test.true) in
    let here : get_or all i [] ≡ c.deref.result.now =
    at_map (λ body. body.items) c.args.bodies.now i c.index-bodies-index.result [] c.loop-index-test.true c.index-bodies-index.is
    ∙ sym c.deref.ensures.value in
    let refused = rw c.if-not-branch.true at c.in_ok-step.ensures.refused in
    let same : i ≡ index = cc in
    subst (λ (k : ℕ). IsBad c.args.said.slots c.args.said.fresh all k) same
    (not_read c.args.said.slots c.args.said.fresh all i c.loop-index.replay c.deref.result.now lt here c.loop-index.invariant.read refused)

pub loop-index-preserved : goal.loop-index-preserved
loop-index-preserved c =
    let i = c.loop-index.index in
    let all = contents c.args.bodies.now in
    let lt : i < length all = omega (arith, length-map c.args.bodies.now (λ body. body.items), c.loop-index-test.true) in
    let here : get_or all i [] ≡ c.deref.result.now =
    at_map (λ body. body.items) c.args.bodies.now i c.index-bodies-index.result [] c.loop-index-test.true c.index-bodies-index.is
    ∙ sym c.deref.ensures.value in
    let next = rw c.if-not-branch.false at c.in_ok-step.ensures.next in
    record {
      read = next_read c.args.said.slots c.args.said.fresh all i c.loop-index.replay c.step.new.replay c.deref.result.now lt here
          c.loop-index.invariant.read next;
      same = λ records sp is. next_same records all i c.loop-index.replay c.step.new.replay c.deref.result.now sp is lt here
          (c.loop-index.invariant.same records sp is) next;
    }

pub returns-clause-read : goal.returns-clause-read
returns-clause-read c =
    let all = contents c.args.bodies.now in
    let whole : take c.loop-index.index all ≡ all =
    take_all c.loop-index.index all (omega (arith, length-map c.args.bodies.now (λ body. body.items), c.loop-index-test.false)) in
    subst (λ (bs : List (List ℕ)). IsRead c.args.said.slots c.args.said.fresh bs c.loop-index.replay) whole c.loop-index.invariant.read

pub returns-clause-same : goal.returns-clause-same
returns-clause-same c records sp is =
    let all = contents c.args.bodies.now in
    let long : length all ≡ length records = ap length is ∙ length-map records spelling in
    c.loop-index.invariant.same records sp is
    ∙ take_all c.loop-index.index records (omega (arith, long, length-map c.args.bodies.now (λ body. body.items), c.loop-index-test.false))

pub returns-then-not-branch-clause-good : goal.returns-then-not-branch-clause-good
returns-then-not-branch-clause-good c records sp fit is =
    let i = c.loop-index.index in
    let all = contents c.args.bodies.now in
    let lt : i < length all = omega (arith, length-map c.args.bodies.now (λ body. body.items), c.loop-index-test.true) in
    let here : get_or all i [] ≡ c.deref.result.now =
    at_map (λ body. body.items) c.args.bodies.now i c.index-bodies-index.result [] c.loop-index-test.true c.index-bodies-index.is
    ∙ sym c.deref.ensures.value in
    let refused = rw c.if-not-branch.true at c.in_ok-step.ensures.refused in
    absurd (is_read c.args.said.slots c.args.said.fresh records all i c.loop-index.replay c.deref.result.now sp fit is lt here
    (c.loop-index.invariant.same records sp is) c.loop-index.invariant.read refused)

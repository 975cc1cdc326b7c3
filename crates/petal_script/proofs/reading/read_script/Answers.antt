use Rattle.std.proofs.Common.{◌≡◌, Ok, length, sym, ◌∙◌, ap, arith}
use Rattle.std.proofs.lemmas.Bool.{eqb-true}
use Rattle.petal_script.proofs.Following.{begins, taken, refused, at_end}
use Rattle.petal_script.specs.Script.{ended}
use Rattle.petal_script.proofs.reading.read_script.Goals as goal

pub loop-rest-init : goal.loop-rest-init
loop-rest-init c = (begins c.args.bytes.now, tt)

pub returns-in-Err-Bad : goal.returns-in-Err-Bad
returns-in-Err-Bad c =
    c.loop-rest.invariant.0.same ∙ refused c.loop-rest.number (length c.args.bytes.now) c.loop-rest.rest.now c.first_line.result.0.now
    c.first_line.result.1.now c.loop-rest.draft _ c.first_line.ensures.pieces c.first_line.ensures.lengths c.loop-rest.invariant.0.room
    (rw c.in-Err-Bad.cause-is (rw c.in-Err-Bad.field-0-is at c.in-Err-Bad.ensures.rule))

pub loop-rest-preserved : goal.loop-rest-preserved
loop-rest-preserved c = (
  record {
    same = c.loop-rest.invariant.0.same
        ∙ taken c.loop-rest.number (length c.args.bytes.now) c.loop-rest.rest.now c.first_line.result.0.now c.first_line.result.1.now c.loop-rest.draft
        c.in-Ok.next c.first_line.ensures.pieces c.first_line.ensures.lengths c.loop-rest.invariant.0.room c.in-Ok.ensures.rule;
    room = omega (arith, c.first_line.ensures.lengths, c.loop-rest.invariant.0.room);
    few = omega (arith, c.first_line.ensures.lengths, c.first_line.ensures.some, c.loop-rest.invariant.0.few);
    reach = c.in-Ok.ensures.reach;
  },
  c.in-Ok.ensures.phases c.loop-rest.number c.loop-rest.invariant.1,
)

pub returns-in-Some : goal.returns-in-Some
returns-in-Some c =
    let none : length c.loop-rest.rest.now ≡ 0 = eqb-true _ _ (sym c.loop-rest-test.ensures) in
    c.loop-rest.invariant.0.same ∙ at_end c.loop-rest.number (length c.args.bytes.now) c.loop-rest.rest.now c.loop-rest.draft none ∙ ap ended c.in-Some.is
    ∙ ap Ok (sym c.into_script.ensures)

pub returns-in-None : goal.returns-in-None
returns-in-None c =
    let none : length c.loop-rest.rest.now ≡ 0 = eqb-true _ _ (sym c.loop-rest-test.ensures) in
    c.loop-rest.invariant.0.same ∙ at_end c.loop-rest.number (length c.args.bytes.now) c.loop-rest.rest.now c.loop-rest.draft none ∙ ap ended c.in-None.is

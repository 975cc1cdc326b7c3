use Rattle.std.proofs.Common.{◌≡◌, ◌<◌, ◌++◌, length, arith, sym, ap, ◌∙◌, length-append}
use Rattle.std.proofs.lemmas.Bool.{eqb-true}
use Rattle.std.proofs.lemmas.List.{append-nil}
use Rattle.script_lines.specs.Contents.{runs}
use Rattle.petal_script.proofs.Runs.{some_left, none_left, some_bytes}
use Rattle.petal_script.proofs.contents.few_runs.Goals as goal

pub returns-then-len-eq-MOST_RUNS : goal.returns-then-len-eq-MOST_RUNS
returns-then-len-eq-MOST_RUNS c =
    let some : 0 < length c.loop-rest.rest.now = some_bytes _ c.loop-rest-test.ensures in
    let more : 0 < length (runs c.loop-rest.rest.now) = some_left c.loop-rest.rest.now some in
    omega (arith, simp length-append at (ap length c.loop-rest.invariant.0))

pub returns : goal.returns
returns c =
    let none : length c.loop-rest.rest.now ≡ 0 = eqb-true _ _ (sym c.loop-rest-test.ensures) in
    let all : runs c.args.bytes.now ≡ c.loop-rest.few.items = c.loop-rest.invariant.0
    ∙ ap (λ rs. c.loop-rest.few.items ++ rs) (none_left c.loop-rest.rest.now none) ∙ append-nil c.loop-rest.few.items in
    (sym all, omega (arith, ap length all))

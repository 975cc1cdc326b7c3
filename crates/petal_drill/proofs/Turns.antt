-- A drill with one turn more.
use Rattle.std.proofs.Common.{◌≡◌, ◌∙◌, ap, refl, suc, ◌+◌, ℕ, arith}
use Rattle.petal_drill.specs.Drill.{turn, drill_after}

next_turn : (seed i : ℕ) → drill_after seed (suc i) ≡ turn i (drill_after seed i)
unfolding drill_after
next_turn seed i = refl

pub one_turn_more : (seed i : ℕ) → drill_after seed (i + 1) ≡ turn i (drill_after seed i)
one_turn_more seed i =
    let more : i + 1 ≡ suc i = omega arith in
    ap (drill_after seed) more ∙ next_turn seed i

use Rattle.std.proofs.Common.{arith, ℕ, ◌<◌, length, get_or, ◌≢◌, ◌≡◌, [], ◌∷◌}
use Rattle.std.proofs.lemmas.Grind.{common_steps}
use Rattle.std.proofs.lemmas.Bool.{eq-eqb}
use Rattle.petal_script.specs.Text.{pieces}
use Rattle.petal_script.proofs.Pieces.{pieces_none}
use Rattle.petal_script.proofs.text.first_line.Goals as goal

pub returns-in-None-clause-pieces : goal.returns-in-None-clause-pieces
returns-in-None-clause-pieces c =
    let none : (k : ℕ) → k < length c.args.text.now → get_or c.args.text.now k 0 ≢ 10 = λ k below is. c.in-None.ensures k (omega arith) below (eq-eqb _ _ is) in
    let one : pieces c.args.text.now ≡ c.args.text.now ∷ [] = pieces_none c.args.text.now c.requires none in
    grind (arith, common_steps)

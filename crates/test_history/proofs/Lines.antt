-- The operator's open lines, and what is below what.
use Rattle.std.proofs.Common.{◌≡◌, ℕ, ◌<◌, ◌==◌, [], false, true, Some, subst, arith}
use Rattle.std.proofs.lemmas.Bool.Decides.{nat_tests}
use Rattle.std.specs.Prelude.{nat_lt}
use Rattle.script_lines.specs.declared.request.Request.{Request}
use Rattle.script_lines.specs.declared.request.Request.TheVariants as request
use Rattle.spec_rules.specs.Clients.{Asked}
use Rattle.spec_rules.specs.World.{greatest_u32, greatest_u64}
use Rattle.spec_rules.proofs.Tests.{number_itself, same_some, true_false}

-- the operator's request of this number
abbrev pub asks_for : Request → (line seq : ℕ) → Asked
asks_for what line seq =
    record { line = line; seq = seq; request = what; turn = 1; rev = 1; witnesses = 0; saw_missing = false; old_way = false; round = 0; seen = [] }

-- it stops server 1, blanks it, or starts it
abbrev pub asked_for : (line seq : ℕ) → Asked
asked_for line seq = asks_for (request.Stop 1) line seq

abbrev pub blank_of : (line seq : ℕ) → Asked
blank_of line seq = asks_for (request.Blank 1) line seq

abbrev pub start_of : (line seq : ℕ) → Asked
start_of line seq = asks_for (request.Start 1) line seq

pub apart : (line other : ℕ) → (line == other) ≡ false → Some line ≡ Some other → ⊥
apart line other not_same is = let same : line ≡ other = same_some is in true_false (subst (λ n. (line == n) ≡ true) same (number_itself line)) not_same

-- it waits until all is settled, in its first round
abbrev pub settle_of : (line seq : ℕ) → Asked
settle_of line seq =
    let asked : Asked = asks_for request.Settle line seq in
    record asked { rev = 3; round = 1 }

pub none_of_three : 0 < 3
none_of_three = grind (arith, nat_tests)

pub one_of_three : 1 < 3
one_of_three = grind (arith, nat_tests)

pub one_life : 1 < greatest_u32
one_life = grind (arith, nat_tests)

pub none_yet : 0 < greatest_u64
none_yet = grind (arith, nat_tests)

pub one_step : 1 < greatest_u64
one_step = grind (arith, nat_tests)

pub two_steps : 2 < greatest_u64
two_steps = grind (arith, nat_tests)

pub few : (steps : ℕ) → nat_lt steps greatest_u64 ≡ true → steps < greatest_u64
few steps is = grind (arith, nat_tests)

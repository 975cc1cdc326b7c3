-- Tuples of fewer servers are tuples of eight.
use Rattle.std.proofs.Common.{◌≡◌, ℕ, ◌≤◌, true, ◌&&◌, nat_lt, List, [], ◌∷◌, length, refl, arith}
use Rattle.std.proofs.lemmas.Bool.Decides.{nat_tests}
use Rattle.std.specs.List.{list_all}
use Rattle.petal_base.specs.Tuple.{is_tuple}

all_below_eight : (servers : ℕ) (ids : List ℕ) → list_all (λ n. nat_lt n servers && nat_lt n 8) ids ≡ true → list_all (λ n. nat_lt n 8 && nat_lt n 8) ids ≡ true
all_below_eight servers [] all = refl
all_below_eight servers (n ∷ ns) all = grind (arith, nat_tests, all_below_eight servers ns)

-- a tuple has at most eight servers
pub is_tuple-most : (servers : ℕ) (ids : List ℕ) → is_tuple servers ids ≡ true → length ids ≤ 8
is_tuple-most servers ids is = grind (arith, nat_tests)

pub is_tuple-eight : (servers : ℕ) (ids : List ℕ) → is_tuple servers ids ≡ true → is_tuple 8 ids ≡ true
is_tuple-eight servers ids is = grind (arith, nat_tests, all_below_eight servers ids)

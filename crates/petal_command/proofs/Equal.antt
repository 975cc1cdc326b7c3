-- The tests for one ballot and one command tell equality.
use Rattle.std.proofs.Common.{◌≡◌, ℕ, Bool, true, false, ◌==◌, ◌&&◌, List, [], ◌∷◌, refl, ap, subst, ◌∙◌, arith}
use Rattle.std.proofs.lemmas.Bool.Decides.{nat_tests}
use Rattle.petal_command.specs.declared.ballot.Ballot.{Ballot}
use Rattle.petal_command.specs.declared.command.Command.{Command}
use Rattle.petal_command.specs.declared.command.Command.TheVariants.{Join, Leave, Caught, MakeDisk, Snap, StartMove, Drained, Moved, Witness}
use Rattle.petal_command.specs.Ballot.{same}
use Rattle.petal_command.specs.Same.{same_items, same_flag, same_command}

pub both_left : (a b : Bool) → (a && b) ≡ true → a ≡ true
both_left true b e = refl
both_left false b e = absurd (cc)

pub both_right : (a b : Bool) → (a && b) ≡ true → b ≡ true
both_right true b e = e
both_right false b e = absurd (cc)

pub both : (a b : Bool) → a ≡ true → b ≡ true → (a && b) ≡ true
both true b e f = f
both false b e f = absurd (cc)

pub number_is : (m n : ℕ) → (m == n) ≡ true → m ≡ n
number_is m n e = grind (arith, nat_tests)

pub number_self : (n : ℕ) → (n == n) ≡ true
number_self n = grind (arith, nat_tests)

pub items_are : (xs ys : List ℕ) → same_items xs ys ≡ true → xs ≡ ys
items_are [] [] e = refl
items_are [] (y ∷ ys) e = absurd (cc)
items_are (x ∷ xs) [] e = absurd (cc)
items_are (x ∷ xs) (y ∷ ys) e =
    let first : x ≡ y = number_is x y (both_left (x == y) (same_items xs ys) e) in
    let more : xs ≡ ys = items_are xs ys (both_right (x == y) (same_items xs ys) e) in
    cc

pub items_self : (xs : List ℕ) → same_items xs xs ≡ true
items_self [] = refl
items_self (x ∷ xs) = both (x == x) (same_items xs xs) (number_self x) (items_self xs)

pub flag_is : (a b : Bool) → same_flag a b ≡ true → a ≡ b
flag_is true true e = refl
flag_is false false e = refl
flag_is true false e = absurd (cc)
flag_is false true e = absurd (cc)

pub flag_self : (a : Bool) → same_flag a a ≡ true
flag_self true = refl
flag_self false = refl

abbrev ballot_of : ℕ → ℕ → Ballot
ballot_of round server = record { round = round; server = server }

pub ballot_is : (a b : Ballot) → same a b ≡ true → a ≡ b
ballot_is a b e =
    let round : a.round ≡ b.round = number_is a.round b.round (both_left (a.round == b.round) (a.server == b.server) e) in
    let server : a.server ≡ b.server = number_is a.server b.server (both_right (a.round == b.round) (a.server == b.server) e) in
    ap (λ n. ballot_of n a.server) round ∙ ap (λ n. ballot_of b.round n) server

pub ballot_self : (a : Ballot) → same a a ≡ true
ballot_self a = both (a.round == a.round) (a.server == a.server) (number_self a.round) (number_self a.server)

-- two numbers and two lists
record Four (c d s r : ℕ) (n m t u : List ℕ) : Type 0 where
  client : c ≡ d
  seq : s ≡ r
  name : n ≡ m
  rest : t ≡ u

four : (c d s r : ℕ) (n m t u : List ℕ) → ((c == d) && (s == r) && same_items n m && same_items t u) ≡ true → Four c d s r n m t u
four c d s r n m t u e =
    let three = both_left ((c == d) && (s == r) && same_items n m) (same_items t u) e in
    let two = both_left ((c == d) && (s == r)) (same_items n m) three in
    record {
      client = number_is c d (both_left (c == d) (s == r) two);
      seq = number_is s r (both_right (c == d) (s == r) two);
      name = items_are n m (both_right ((c == d) && (s == r)) (same_items n m) three);
      rest = items_are t u (both_right ((c == d) && (s == r) && same_items n m) (same_items t u) e);
    }

four_self : (c s : ℕ) (n t : List ℕ) → ((c == c) && (s == s) && same_items n n && same_items t t) ≡ true
four_self c s n t = both ((c == c) && (s == s) && same_items n n) (same_items t t)
    (both ((c == c) && (s == s)) (same_items n n) (both (c == c) (s == s) (number_self c) (number_self s)) (items_self n)) (items_self t)

pub command_is : (a b : Command) → same_command a b ≡ true → a ≡ b
command_is (Join s i b) (Join t j c) e =
    let l = both_left ((s == t) && (i == j)) (same_flag b c) e in
    let f : b ≡ c = flag_is b c (both_right ((s == t) && (i == j)) (same_flag b c) e) in
    let g : s ≡ t = number_is s t (both_left (s == t) (i == j) l) in
    let h : i ≡ j = number_is i j (both_right (s == t) (i == j) l) in
    cc
command_is (Leave s i) (Leave t j) e =
    let g : s ≡ t = number_is s t (both_left (s == t) (i == j) e) in
    let h : i ≡ j = number_is i j (both_right (s == t) (i == j) e) in
    cc
command_is (Caught m l h i o p) (Caught n k g j q r) e = grind (arith, nat_tests)
command_is (MakeDisk c s n t) (MakeDisk d r m u) e = let f = four c d s r n m t u e in let g = f.client in let h = f.seq in let i = f.name in
    let j = f.rest in cc
command_is (Snap c s n t) (Snap d r m u) e = let f = four c d s r n m t u e in let g = f.client in let h = f.seq in let i = f.name in let j = f.rest in cc
command_is (StartMove c s n t) (StartMove d r m u) e = let f = four c d s r n m t u e in let g = f.client in let h = f.seq in let i = f.name in
    let j = f.rest in cc
command_is (Drained s i f) (Drained t j g) e = grind (arith, nat_tests)
command_is (Moved m r l) (Moved n q k) e = grind (arith, nat_tests)
command_is (Witness c s t) (Witness d r u) e = grind (arith, nat_tests)
command_is a b e = absurd (cc)

pub command_self : (a : Command) → same_command a a ≡ true
command_self (Join s i b) = both ((s == s) && (i == i)) (same_flag b b) (grind (arith, nat_tests)) (flag_self b)
command_self (Leave s i) = grind (arith, nat_tests)
command_self (Caught m l h i o p) = grind (arith, nat_tests)
command_self (MakeDisk c s n t) = four_self c s n t
command_self (Snap c s n t) = four_self c s n t
command_self (StartMove c s n t) = four_self c s n t
command_self (Drained s i f) = grind (arith, nat_tests)
command_self (Moved m r l) = grind (arith, nat_tests)
command_self (Witness c s t) = grind (arith, nat_tests)

pub command_same : (a b : Command) → a ≡ b → same_command a b ≡ true
command_same a b e = subst (λ c. same_command a c ≡ true) e (command_self a)

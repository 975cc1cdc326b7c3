-- The least of a list, and of those of it that pass a test.
use Rattle.std.proofs.Common.{◌≡◌, ◌≢◌, ◌⊎◌, inl, inr, ℕ, ◌^◌, ◌<◌, ◌≤◌, ◌&&◌, ◌||◌, ◌++◌, Bool, true, false, List, [], ◌∷◌, Option}
use Rattle.std.proofs.Common.{Some, None, nat_lt, refl, sym, subst, ap, ◌∙◌, arith}
use Rattle.std.proofs.Math.Bool.{and_comm}
use Rattle.std.proofs.lemmas.Bool.{cases_Bool}
use Rattle.std.proofs.lemmas.Bool.Decides.{nat_tests}
use Rattle.std.specs.Prelude.{filter, nat_eq}
use Rattle.std.specs.List.{list_any}
use Rattle.busy_marks.specs.Marks.{above, lesser}
use Rattle.spec_rules.specs.Copies.{least}
use Rattle.link_blocks.specs.Walks.{room_above}

-- nothing of the list is below this number
abbrev pub IsBelowAll : ℕ → List ℕ → Type 0
IsBelowAll b [] = Unit {0}
IsBelowAll b (x ∷ xs) = (b ≤ x) × IsBelowAll b xs

below_less : (b c : ℕ) (xs : List ℕ) → b ≤ c → IsBelowAll c xs → IsBelowAll b xs
below_less b c [] le below = tt
below_less b c (x ∷ xs) le below = (omega (arith, le, below.0), below_less b c xs le below.1)

same_of : (a b : ℕ) → Some a ≡ Some b → a ≡ b
same_of a b is = cc

-- what the least of a list is
record IsLeast (b : ℕ) (xs : List ℕ) : Type 0 where
  there : list_any (nat_eq b) xs ≡ true
  below : IsBelowAll b xs

eq_itself : (n : ℕ) → nat_eq n n ≡ true
eq_itself n = grind (arith, nat_tests)

joined_none : (n : ℕ) (o : Option ℕ) → lesser (Some n) o ≡ None → ⊥
joined_none n None is = cc
joined_none n (Some m) is = elim (cases_Bool (nat_lt m n)) [
  | inl less ↦ let e : Some m ≡ None = rw less at is in cc
  | inr less ↦ let e : Some n ≡ None = rw less at is in cc
]

least_none : (xs : List ℕ) → least xs ≡ None → xs ≡ []
least_none [] is = refl
least_none (x ∷ xs) is = absurd (joined_none x (least xs) is)

joined_some : (n : ℕ) (o : Option ℕ) (b : ℕ) → lesser (Some n) o ≡ Some b → ((o ≡ Some b) × (b ≤ n)) ⊎ ((b ≡ n) × ((m : ℕ) → o ≡ Some m → n ≤ m))
joined_some n None b is = inr (sym (same_of n b is), λ m none. absurd (cc))
joined_some n (Some m) b is = elim (cases_Bool (nat_lt m n)) [
  | inl less ↦ inl (rw less at is, (let e : m ≡ b = same_of m b (rw less at is) in grind (arith, nat_tests, e, less)))
  | inr less ↦ inr (
    sym (same_of n b (rw less at is)),
    λ k same. (let e : m ≡ k = same_of m k same in grind (arith, nat_tests, e, less)),
  )
]

none_below : (b : ℕ) (xs : List ℕ) → least xs ≡ None → IsBelowAll b xs
none_below b xs none = subst (IsBelowAll b) (sym (least_none xs none)) tt

or_true : (a : Bool) → (a || true) ≡ true
or_true true = refl
or_true false = refl

rest_below : (n : ℕ) (ns : List ℕ) (c : ℕ) → c ≡ n → ((m : ℕ) → least ns ≡ Some m → n ≤ m) → ((m : ℕ) → least ns ≡ Some m → IsBelowAll m ns)
    → (o : Option ℕ) → least ns ≡ o → IsBelowAll c ns
rest_below n ns c same past known None none = none_below c ns none
rest_below n ns c same past known (Some m) some = below_less c m ns (let le = past m some in omega (arith, same, le)) (known m some)

-- the least is there, and nothing is below it
least_is : (xs : List ℕ) (b : ℕ) → least xs ≡ Some b → IsLeast b xs
least_is [] b is = absurd (cc)
least_is (x ∷ xs) b is = elim (joined_some x (least xs) b is) [
  | inl (later, le) ↦
      let rest = least_is xs b later in
      let there : (nat_eq b x || list_any (nat_eq b) xs) ≡ true = rw rest.there (or_true (nat_eq b x)) in
      record { there = there; below = (le, rest.below) }
  | inr (same, past) ↦
      let here : nat_eq b x ≡ true = rw same (eq_itself x) in
      record {
        there = rw here refl;
        below = (omega (arith, same), rest_below x xs b same past (λ m some. (least_is xs m some).below) (least xs) refl);
      }
]

lesser_joins : (x b : ℕ) (o : Option ℕ) → b ≤ x → ((o ≡ Some b) ⊎ ((b ≡ x) × ((m : ℕ) → o ≡ Some m → b ≤ m))) → lesser (Some x) o ≡ Some b
lesser_joins x b None le (inl is) = absurd (cc)
lesser_joins x b None le (inr (same, past)) = ap Some (sym same)
lesser_joins x b (Some m) le (inl is) =
    let e : m ≡ b = same_of m b is in
    elim (cases_Bool (nat_lt m x)) [
      | inl less ↦ rw less is
      | inr less ↦ let same : x ≡ b = grind (arith, nat_tests, e, le, less) in rw less (ap Some same)
    ]
lesser_joins x b (Some m) le (inr (same, past)) =
    let more = past m refl in
    let less : nat_lt m x ≡ false = grind (arith, nat_tests, same, more) in
    rw less (ap Some (sym same))

below_least : (xs : List ℕ) (b : ℕ) → IsBelowAll b xs → (m : ℕ) → least xs ≡ Some m → b ≤ m
below_least [] b below m is = absurd (cc)
below_least (x ∷ xs) b below m is = elim (joined_some x (least xs) m is) [
  | inl (later, le) ↦ below_least xs b below.1 m later
  | inr (same, past) ↦ let le = below.0 in omega (arith, same, le)
]

-- a number that is there, and below which there is nothing, is the least
is_least : (xs : List ℕ) (b : ℕ) → list_any (nat_eq b) xs ≡ true → IsBelowAll b xs → least xs ≡ Some b
is_least [] b there below = absurd (cc)
is_least (x ∷ xs) b there below = elim (cases_Bool (list_any (nat_eq b) xs)) [
  | inl later ↦ lesser_joins x b (least xs) below.0 (inl (is_least xs b later below.1))
  | inr later ↦
      let here : nat_eq b x ≡ true = first_true (nat_eq b x) (rw later at there) in
      let same : b ≡ x = grind (arith, nat_tests, here) in
      lesser_joins x b (least xs) below.0 (inr (same, below_least xs b below.1))
]
  where
    first_true : (a : Bool) → (a || false) ≡ true → a ≡ true
    first_true true is = refl
    first_true false is = is

filter_any : (test : ℕ → Bool) (b : ℕ) (xs : List ℕ) → test b ≡ true → list_any (nat_eq b) xs ≡ true → list_any (nat_eq b) (filter test xs) ≡ true
filter_any test b [] passes there = there
filter_any test b (x ∷ xs) passes there = elim (cases_Bool (nat_eq b x)) [
  | inl same ↦
      let e : b ≡ x = grind (arith, nat_tests, same) in
      let here : test x ≡ true = ap test (sym e) ∙ passes in
      simp (here, same) refl
  | inr same ↦
      let rest = filter_any test b xs passes (rw same at there) in
      elim (cases_Bool (test x)) [
        | inl here ↦ simp (here, same) rest
        | inr here ↦ rw here rest
      ]
]

filter_below : (test : ℕ → Bool) (b : ℕ) (xs : List ℕ) → IsBelowAll b xs → IsBelowAll b (filter test xs)
filter_below test b [] below = tt
filter_below test b (x ∷ xs) below = elim (cases_Bool (test x)) [
  | inl here ↦ rw here (below.0, filter_below test b xs below.1)
  | inr here ↦ rw here (filter_below test b xs below.1)
]

-- where the least of a list passes a test, it is the least of those that do
least_passes : (test : ℕ → Bool) (b : ℕ) (xs : List ℕ) → least xs ≡ Some b → test b ≡ true → least (filter test xs) ≡ Some b
least_passes test b xs is passes =
    let found = least_is xs b is in
    is_least (filter test xs) b (filter_any test b xs passes found.there) (filter_below test b xs found.below)

-- what passes two tests, one after the other, passes both
pub filter_both : (p q : ℕ → Bool) (xs : List ℕ) → filter q (filter p xs) ≡ filter (λ x. p x && q x) xs
filter_both p q [] = refl
filter_both p q (x ∷ xs) =
    let rest = filter_both p q xs in
    elim (cases_Bool (p x)) [
      | inl has ↦ elim (cases_Bool (q x)) [
        | inl also ↦ simp (has, also) (ap (λ (l : List ℕ). x ∷ l) rest)
        | inr also ↦ simp (has, also) rest
      ]
      | inr has ↦ rw has rest
    ]

filter_swap : (p q : ℕ → Bool) (xs : List ℕ) → filter p (filter q xs) ≡ filter q (filter p xs)
filter_swap p q xs = filter_both q p xs ∙ (λ i. filter (λ x. and_comm (q x) (p x) i) xs) ∙ sym (filter_both p q xs)

-- what passes the first test is not below this number
abbrev pub IsPast : (ℕ → Bool) → ℕ → List ℕ → Type 0
IsPast test b [] = Unit {0}
IsPast test b (x ∷ xs) = (test x ≡ true → b ≤ x) × IsPast test b xs

past_of : (test : ℕ → Bool) (b : ℕ) (xs : List ℕ) → IsBelowAll b (filter test xs) → IsPast test b xs
past_of test b [] below = tt
past_of test b (x ∷ xs) below = elim (cases_Bool (test x)) [
  | inl has ↦ let both : (b ≤ x) × IsBelowAll b (filter test xs) = rw has at below in (λ _. both.0, past_of test b xs both.1)
  | inr has ↦ ((λ is. absurd (let e : true ≡ false = sym is ∙ has in cc)), past_of test b xs (rw has at below))
]

any_passes : (test : ℕ → Bool) (b : ℕ) (xs : List ℕ) → list_any (nat_eq b) (filter test xs) ≡ true → test b ≡ true
any_passes test b [] there = absurd (cc)
any_passes test b (x ∷ xs) there = elim (cases_Bool (test x)) [
  | inl has ↦ elim (cases_Bool (nat_eq b x)) [
    | inl same ↦ let e : b ≡ x = grind (arith, nat_tests, same) in ap test e ∙ has
    | inr same ↦ any_passes test b xs (rw same at (rw has at there))
  ]
  | inr has ↦ any_passes test b xs (rw has at there)
]

-- the least above a number is above it
least_above : (after : Option ℕ) (xs : List ℕ) (b : ℕ) → least (filter (above after) xs) ≡ Some b → above after b ≡ true
least_above after xs b is = any_passes (above after) b xs (least_is (filter (above after) xs) b is).there

not_past : (after : Option ℕ) (b x : ℕ) → above after b ≡ true → above after x ≡ false → nat_lt b x ≡ false
not_past None b x over not_over = absurd (cc)
not_past (Some n) b x over not_over = grind (arith, nat_tests, over, not_over)

past_next : (test : ℕ → Bool) (after : Option ℕ) (b : ℕ) (xs : List ℕ) → above after b ≡ true → test b ≡ false → IsPast (above after) b xs
    → filter (above (Some b)) (filter test xs) ≡ filter (above after) (filter test xs)
past_next test after b [] over fails past = refl
past_next test after b (x ∷ xs) over fails past =
    let rest = past_next test after b xs over fails past.1 in
    elim (cases_Bool (test x)) [
      | inl has ↦ elim (cases_Bool (above after x)) [
        | inl passes ↦
            let le = past.0 passes in
            let other : b ≢ x = (λ (same : b ≡ x). (let e : true ≡ false = sym has ∙ ap test (sym same) ∙ fails in cc)) in
            let more : nat_lt b x ≡ true = grind (arith, nat_tests, le, other) in
            simp (has, passes, more) (ap (λ (l : List ℕ). x ∷ l) rest)
        | inr passes ↦ let less = not_past after b x over passes in simp (has, passes, less) rest
      ]
      | inr has ↦ rw has rest
    ]

-- ### A walk from hit to hit

less_room : (after : Option ℕ) (b : ℕ) → above after b ≡ true → b < 2 ^ 64 → room_above (Some b) < room_above after
less_room None b over fits = omega (arith, fits)
less_room (Some n) b over fits = grind (arith, nat_tests, over, fits)

-- of those that pass a test the least one is asked for, and the next of all was found
module _ (test : ℕ → Bool) (after : Option ℕ) (xs : List ℕ) {asked : List ℕ} {found : Option ℕ} (is : asked ≡ filter test xs)
    (next : found ≡ least (filter (above after) xs)) where
  next_asked : filter (above after) asked ≡ filter test (filter (above after) xs)
  next_asked = ap (filter (above after)) is ∙ filter_swap (above after) test xs

  module _ {goal : Option ℕ} (so_far : least (filter (above after) asked) ≡ goal) where
    -- nothing is left
    pub walk_none : found ≡ None → None ≡ goal
    walk_none none = sym (ap least (next_asked ∙ ap (filter test) (least_none (filter (above after) xs) (sym next ∙ none)))) ∙ so_far

    -- the next one passes
    pub walk_hit : (b : ℕ) → found ≡ Some b → test b ≡ true → Some b ≡ goal
    walk_hit b here passes = sym (ap least next_asked ∙ least_passes test b (filter (above after) xs) (sym next ∙ here) passes) ∙ so_far

    -- the next one does not, and the walk goes on above it
    pub walk_on : (b : ℕ) → found ≡ Some b → test b ≡ false → least (filter (above (Some b)) asked) ≡ goal
    walk_on b here fails =
        let first = least_is (filter (above after) xs) b (sym next ∙ here) in
        ap least (ap (filter (above (Some b))) is
        ∙ past_next test after b xs (least_above after xs b (sym next ∙ here)) fails (past_of (above after) b xs first.below)
        ∙ ap (filter (above after)) (sym is)) ∙ so_far

-- fewer numbers are left
pub walk_less : (after found : Option ℕ) (xs : List ℕ) → found ≡ least (filter (above after) xs) → (b : ℕ) → found ≡ Some b → b < 2 ^ 64
    → room_above (Some b) < room_above after
walk_less after found xs next b here fits = less_room after b (least_above after xs b (sym next ∙ here)) fits

-- to walk from the start is to walk above nothing
pub from_start : (xs : List ℕ) → filter (above None) xs ≡ xs
from_start [] = refl
from_start (x ∷ xs) = ap (λ (l : List ℕ). x ∷ l) (from_start xs)

-- the least of two lists
pub least_both : (xs ys : List ℕ) → least (xs ++ ys) ≡ lesser (least xs) (least ys)
least_both [] ys = refl
least_both (x ∷ xs) ys = ap (lesser (Some x)) (least_both xs ys) ∙ sym (lesser_joined x (least xs) (least ys))
  where
    lesser_joined : (n : ℕ) (o p : Option ℕ) → lesser (lesser (Some n) o) p ≡ lesser (Some n) (lesser o p)
    lesser_joined n None None = refl
    lesser_joined n None (Some k) = refl
    lesser_joined n (Some m) None = grind (arith, nat_tests)
    lesser_joined n (Some m) (Some k) = grind (arith, nat_tests)

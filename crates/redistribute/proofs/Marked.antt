-- The least number of marks that pass a test, and how a walk from one least number to the next finds that of marks that pass a stricter one.
use Rattle.std.proofs.Common.{◌≡◌, ℕ, ◌≤◌, ◌<◌, ◌==◌, ◌&&◌, ◌||◌, Bool, true, false, nat_lt, List, [], ◌∷◌, filter, length}
use Rattle.std.proofs.Common.{Option, Some, None, refl, sym, ap, ◌∙◌, arith, inl, inr}
use Rattle.std.proofs.lemmas.Bool.{cases_Bool}
use Rattle.std.proofs.lemmas.Bool.Decides.{nat_tests}
use Rattle.std.specs.Prelude.{if◌then◌else◌}
use Rattle.std.specs.List.{list_any}
use Rattle.busy_marks.specs.declared.marks.Mark.{Mark}
use Rattle.busy_marks.specs.Marks.{above, lesser}
use Rattle.petal_command.proofs.Equal.{both, both_left, both_right}

-- the lesser of two numbers that are not below a third one
lesser_over : (n k : ℕ) (o : Option ℕ) → ((j : ℕ) → lesser (Some k) o ≡ Some j → n ≤ j) → (n ≤ k) × ((j : ℕ) → o ≡ Some j → n ≤ j)
lesser_over n k None past = (past k refl, λ j is. absurd (cc))
lesser_over n k (Some m) past = elim (cases_Bool (nat_lt m k)) [
  | inl less ↦
      let le : n ≤ m = past m (rw less refl) in
      ((grind (arith, nat_tests, le, less)), λ j is. (let same : m ≡ j = cc in omega (arith, le, same)))
  | inr less ↦
      let le : n ≤ k = past k (rw less refl) in
      (le, λ j is. (let same : m ≡ j = cc in grind (arith, nat_tests, le, less, same)))
]

not_above : (after : Option ℕ) (n k : ℕ) → above after n ≡ true → above after k ≡ false → nat_lt n k ≡ false
not_above None n k up out = absurd (cc)
not_above (Some a) n k up out = grind (arith, nat_tests, up, out)

module _ (num : Mark → ℕ) where
  -- the least number above one of the marks that pass
  abbrev pub least : (Mark → Bool) → Option ℕ → List Mark → Option ℕ
  least own after [] = None
  least own after (m ∷ ms) = if own m && above after (num m) then lesser (Some (num m)) (least own after ms) else least own after ms

  -- a mark of this number passes
  abbrev pub hits : (Mark → Bool) → ℕ → List Mark → Bool
  hits own n ms = list_any (λ m. own m && (num m == n)) ms

  -- of the marks that pass none has a number above the first one and below the second
  abbrev pub Past : (Mark → Bool) → Option ℕ → ℕ → List Mark → Type 0
  Past own after n [] = Unit {0}
  Past own after n (m ∷ ms) = ((own m && above after (num m)) ≡ true → n ≤ num m) × Past own after n ms

  past_over : (own : Mark → Bool) (after : Option ℕ) (n : ℕ) (ms : List Mark) → ((j : ℕ) → least own after ms ≡ Some j → n ≤ j) → Past own after n ms
  past_over own after n [] over = tt
  past_over own after n (m ∷ ms) over = elim (cases_Bool (own m && above after (num m))) [
    | inl counts ↦
        let both = lesser_over n (num m) (least own after ms) (λ j is. over j (rw counts is)) in
        ((λ _. both.0), past_over own after n ms both.1)
    | inr out ↦ ((λ is. absurd (let e : true ≡ false = sym is ∙ out in cc)), past_over own after n ms (λ j is. over j (rw out is)))
  ]

  past_least : (own : Mark → Bool) (after : Option ℕ) (n : ℕ) (ms : List Mark) → least own after ms ≡ Some n → Past own after n ms
  past_least own after n ms is =
      past_over own after n ms (λ j also. (let same : n ≡ j = (let e : Some n ≡ Some j = sym is ∙ also in cc) in omega (arith, same)))

  up_joined : (after : Option ℕ) (k n : ℕ) (o : Option ℕ) → above after k ≡ true → ((j : ℕ) → o ≡ Some j → above after j ≡ true)
      → lesser (Some k) o ≡ Some n → above after n ≡ true
  up_joined after k n None here up is = (let same : k ≡ n = cc in ap (above after) (sym same) ∙ here)
  up_joined after k n (Some m) here up is = elim (cases_Bool (nat_lt m k)) [
    | inl less ↦ up n (rw less at is)
    | inr less ↦ (let same : k ≡ n = (let e : Some k ≡ Some n = rw less at is in cc) in ap (above after) (sym same) ∙ here)
  ]

  least_up : (own : Mark → Bool) (after : Option ℕ) (n : ℕ) (ms : List Mark) → least own after ms ≡ Some n → above after n ≡ true
  least_up own after n [] is = absurd (cc)
  least_up own after n (m ∷ ms) is = elim (cases_Bool (own m && above after (num m))) [
    | inl counts ↦ up_joined after (num m) n (least own after ms) (both_right (own m) (above after (num m)) counts)
        (λ j some. least_up own after j ms some) (rw counts at is)
    | inr out ↦ least_up own after n ms (rw out at is)
  ]

  pub or_false : (a b : Bool) → (a || b) ≡ false → (a ≡ false) × (b ≡ false)
  or_false true b is = absurd (cc)
  or_false false b is = (refl, is)

  or_true : (a b : Bool) → b ≡ true → (a || b) ≡ true
  or_true true b is = refl
  or_true false b is = is

  hit_first : (own : Mark → Bool) (n : ℕ) (m : Mark) (ms : List Mark) → own m ≡ true → num m ≡ n → hits own n (m ∷ ms) ≡ true
  hit_first own n m ms counts same =
      let here : (num m == n) ≡ true = grind (arith, nat_tests, same) in
      rw (counts, here) refl

  hit_joined : (own : Mark → Bool) (n : ℕ) (m : Mark) (ms : List Mark) (o : Option ℕ) → own m ≡ true → ((j : ℕ) → o ≡ Some j → hits own j ms ≡ true)
      → lesser (Some (num m)) o ≡ Some n → hits own n (m ∷ ms) ≡ true
  hit_joined own n m ms None counts later is = hit_first own n m ms counts (cc)
  hit_joined own n m ms (Some k) counts later is = elim (cases_Bool (nat_lt k (num m))) [
    | inl less ↦ or_true (own m && (num m == n)) (hits own n ms) (later n (rw less at is))
    | inr less ↦ hit_first own n m ms counts (let e : Some (num m) ≡ Some n = rw less at is in cc)
  ]

  pub hit_least : (own : Mark → Bool) (after : Option ℕ) (n : ℕ) (ms : List Mark) → least own after ms ≡ Some n → hits own n ms ≡ true
  hit_least own after n [] is = absurd (cc)
  hit_least own after n (m ∷ ms) is = elim (cases_Bool (own m && above after (num m))) [
    | inl counts ↦
        hit_joined own n m ms (least own after ms) (both_left (own m) (above after (num m)) counts) (λ j some. hit_least own after j ms some) (rw counts at is)
    | inr out ↦ or_true (own m && (num m == n)) (hits own n ms) (hit_least own after n ms (rw out at is))
  ]

  lesser_first : (n k : ℕ) (o : Option ℕ) → n ≤ k → lesser (Some n) (lesser (Some k) o) ≡ lesser (Some n) o
  lesser_first n k None le = grind (arith, nat_tests)
  lesser_first n k (Some m) le = grind (arith, nat_tests)

  -- a number below which none of the marks that pass has one
  pub low : (own : Mark → Bool) (after : Option ℕ) (n : ℕ) (ms : List Mark) → Past own after n ms → lesser (Some n) (least own after ms) ≡ Some n
  low own after n [] past = refl
  low own after n (m ∷ ms) past = elim (cases_Bool (own m && above after (num m))) [
    | inl counts ↦ rw counts (lesser_first n (num m) (least own after ms) (past.0 counts) ∙ low own after n ms past.1)
    | inr out ↦ rw out (low own after n ms past.1)
  ]

  lesser_last : (n k : ℕ) → n ≤ k → lesser (Some k) (Some n) ≡ Some n
  lesser_last n k le = elim (cases_Bool (nat_lt n k)) [
    | inl less ↦ rw less refl
    | inr less ↦ let same : k ≡ n = grind (arith, nat_tests, le, less) in rw less (ap Some same)
  ]

  least_made : (own : Mark → Bool) (after : Option ℕ) (n : ℕ) (ms : List Mark) → above after n ≡ true → Past own after n ms → hits own n ms ≡ true
      → least own after ms ≡ Some n
  least_made own after n [] up past hit = absurd (cc)
  least_made own after n (m ∷ ms) up past hit = elim (cases_Bool (hits own n ms)) [
    | inl later ↦
        let rest = least_made own after n ms up past.1 later in
        elim (cases_Bool (own m && above after (num m))) [
          | inl counts ↦ rw (counts, rest) (lesser_last n (num m) (past.0 counts))
          | inr out ↦ rw out rest
        ]
    | inr later ↦
        let here : (own m && (num m == n)) ≡ true = only_first (own m && (num m == n)) (hits own n ms) hit later in
        let same : num m ≡ n = (let e = both_right (own m) (num m == n) here in grind (arith, nat_tests, e)) in
        let counts : (own m && above after (num m)) ≡ true =
        both (own m) (above after (num m)) (both_left (own m) (num m == n) here) (ap (above after) same ∙ up) in
        rw counts (ap (λ k. lesser (Some k) (least own after ms)) same ∙ low own after n ms past.1)
  ]
    where
      only_first : (a b : Bool) → (a || b) ≡ true → b ≡ false → a ≡ true
      only_first true b is out = refl
      only_first false b is out = absurd (let e : true ≡ false = sym is ∙ out in cc)

  -- what passes the stricter test passes the other one
  abbrev pub Narrower : (Mark → Bool) → (Mark → Bool) → Type 0
  Narrower few own = (m : Mark) → few m ≡ true → own m ≡ true

  narrow : (few own : Mark → Bool) → Narrower few own → (m : Mark) (b : Bool) → (few m && b) ≡ true → (own m && b) ≡ true
  narrow few own narrower m true is = (let has = narrower m (both_left (few m) true is) in rw has refl)
  narrow few own narrower m false is = absurd (let no : false ≡ true = both_right (few m) false is in cc)

  past_few : (few own : Mark → Bool) → Narrower few own → (after : Option ℕ) (n : ℕ) (ms : List Mark) → Past own after n ms → Past few after n ms
  past_few few own narrower after n [] past = tt
  past_few few own narrower after n (m ∷ ms) past =
      ((λ is. past.0 (narrow few own narrower m (above after (num m)) is)), past_few few own narrower after n ms past.1)

  not_none : (k : ℕ) (o : Option ℕ) → lesser (Some k) o ≡ None → ⊥
  not_none k None is = cc
  not_none k (Some m) is = elim (cases_Bool (nat_lt m k)) [
    | inl less ↦ (let e : Some m ≡ None = rw less at is in cc)
    | inr less ↦ (let e : Some k ≡ None = rw less at is in cc)
  ]

  -- ### A walk from number to number

  module _ (few own : Mark → Bool) (narrower : Narrower few own) (after : Option ℕ) where
    -- nothing is left
    pub walk_none : (ms : List Mark) → least own after ms ≡ None → least few after ms ≡ None
    walk_none [] is = refl
    walk_none (m ∷ ms) is = elim (cases_Bool (own m && above after (num m))) [
      | inl counts ↦ absurd (not_none (num m) (least own after ms) (rw counts at is))
      | inr out ↦
          let few_out : (few m && above after (num m)) ≡ false =
          out_too (few m && above after (num m)) (λ has. narrow few own narrower m (above after (num m)) has) out in
          rw few_out (walk_none ms (rw out at is))
    ]
      where
        out_too : {b : Bool} (a : Bool) → (a ≡ true → b ≡ true) → b ≡ false → a ≡ false
        out_too true goes out = sym (goes refl) ∙ out
        out_too false goes out = refl

    -- a mark of the next number passes
    pub walk_hit : (n : ℕ) (ms : List Mark) → least own after ms ≡ Some n → hits few n ms ≡ true → least few after ms ≡ Some n
    walk_hit n ms is hit = least_made few after n ms (least_up own after n ms is) (past_few few own narrower after n ms (past_least own after n ms is)) hit

    -- none of the next number does, and the walk goes on above it
    pub walk_on : (n : ℕ) (ms : List Mark) → least own after ms ≡ Some n → hits few n ms ≡ false → least few (Some n) ms ≡ least few after ms
    walk_on n ms is miss = on ms (past_few few own narrower after n ms (past_least own after n ms is)) miss
      where
        up : above after n ≡ true
        up = least_up own after n ms is

        on : (ms : List Mark) → Past few after n ms → hits few n ms ≡ false → least few (Some n) ms ≡ least few after ms
        on [] past miss = refl
        on (m ∷ ms) past miss =
            let misses = or_false (few m && (num m == n)) (hits few n ms) miss in
            let rest = on ms past.1 misses.1 in
            elim (cases_Bool (few m)) [
              | inl has ↦
                  let other : (num m == n) ≡ false = rw has at misses.0 in
                  elim (cases_Bool (above after (num m))) [
                    | inl counts ↦
                        let le : n ≤ num m = past.0 (rw (has, counts) refl) in
                        let more : nat_lt n (num m) ≡ true = grind (arith, nat_tests, le, other) in
                        rw (has, counts, more) (ap (lesser (Some (num m))) rest)
                    | inr out ↦ rw (has, out, not_above after n (num m) up out) rest
                  ]
              | inr lacks ↦ rw lacks rest
            ]

  -- ### How many are left

  abbrev pub left : Option ℕ → List Mark → ℕ
  left after ms = length (filter (λ m. above after (num m)) ms)

  left_less : (after : Option ℕ) (n : ℕ) (ms : List Mark) → above after n ≡ true → left (Some n) ms ≤ left after ms
  left_less after n [] up = omega arith
  left_less after n (m ∷ ms) up =
      let rest = left_less after n ms up in
      elim (cases_Bool (above after (num m))) [
        | inl counts ↦ elim (cases_Bool (nat_lt n (num m))) [
          | inl more ↦ rw (counts, more) (omega (arith, rest))
          | inr less ↦ rw (counts, less) (omega (arith, rest))
        ]
        | inr out ↦ rw (out, not_above after n (num m) up out) rest
      ]

  fewer_by : (own : Mark → Bool) (after : Option ℕ) (n : ℕ) (ms : List Mark) → above after n ≡ true → hits own n ms ≡ true → left (Some n) ms < left after ms
  fewer_by own after n [] up hit = absurd (cc)
  fewer_by own after n (m ∷ ms) up hit = elim (cases_Bool (num m == n)) [
    | inl same ↦
        let counts : above after (num m) ≡ true = (let e : num m ≡ n = grind (arith, nat_tests, same) in ap (above after) e ∙ up) in
        let less : nat_lt n (num m) ≡ false = grind (arith, nat_tests, same) in
        let rest = left_less after n ms up in
        rw (counts, less) (omega (arith, rest))
    | inr other ↦
        let later : hits own n ms ≡ true = only_later (own m) (hits own n ms) (rw other at hit) in
        let rest = fewer_by own after n ms up later in
        elim (cases_Bool (above after (num m))) [
          | inl counts ↦ elim (cases_Bool (nat_lt n (num m))) [
            | inl more ↦ rw (counts, more) (omega (arith, rest))
            | inr less ↦ rw (counts, less) (omega (arith, rest))
          ]
          | inr out ↦ rw (out, not_above after n (num m) up out) rest
        ]
  ]
    where
      only_later : (a b : Bool) → ((a && false) || b) ≡ true → b ≡ true
      only_later true b is = is
      only_later false b is = is

  -- after the next number fewer are left
  pub fewer : (own : Mark → Bool) (after : Option ℕ) (n : ℕ) (ms : List Mark) → least own after ms ≡ Some n → left (Some n) ms < left after ms
  fewer own after n ms is = fewer_by own after n ms (least_up own after n ms is) (hit_least own after n ms is)

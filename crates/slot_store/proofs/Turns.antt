-- The slots stay in turn.
use Rattle.std.proofs.Common.{◌≡◌, ◌≢◌, ℕ, zero, suc, ◌+◌, ◌-◌, ◌<◌, ◌^◌, Bool, true, false, nat_lt, List, [], ◌∷◌, length, replicate, set}
use Rattle.std.proofs.Common.{get_or, slice_get, Some, refl, sym, ◌∙◌, ap, subst, arith, inl, inr}
use Rattle.std.proofs.lemmas.Bool.{cases_eq}
use Rattle.std.proofs.lemmas.Bool.Decides.{nat_tests}
use Rattle.std.proofs.lemmas.List.{length-replicate, length-set, get_or-set_same, get_or-set_other}
use Rattle.std.proofs.lemmas.List.FromFn.{length-range_with_len, get_or-range_with_len}
use Rattle.std.specs.List.{range_with_len}
use Rattle.slot_store.specs.Turn.{IsBackBy, IsInTurn, exchanged}
use Rattle.slot_store.proofs.Free.{free_in-take, free_in-give, free_in-replicate}
use Rattle.slot_store.proofs.Exchanges.{length-exchanged, exchanged-other, exchanged-here, exchanged-rest, back-exchanged}

pub get-is : (us : List Bool) (slot : ℕ) (u : Bool) → slot < length us → get_or us slot false ≡ u → slice_get us slot ≡ Some u
get-is [] slot u within is = absurd (omega arith)
get-is (x ∷ us) zero u within is = ap (λ (v : Bool). Some v) is
get-is (x ∷ us) (suc slot) u within is = get-is us slot u (omega arith) is

pub is-get : (us : List Bool) (slot : ℕ) (u : Bool) → slice_get us slot ≡ Some u → get_or us slot false ≡ u
is-get [] slot u is = absurd (cc)
is-get (x ∷ us) zero u is = cc
is-get (x ∷ us) (suc slot) u is = is-get us slot u is

module _ (used : List Bool) (order place : List ℕ) (taken : ℕ) (turn : IsInTurn used order place taken) where
  -- the slot after those in use is free
  pub next-free : taken < length used → slice_get used (get_or order taken 0) ≡ Some false
  next-free more =
      let held = turn.holds taken more in
      let at : nat_lt (get_or place (get_or order taken 0) 0) taken ≡ false = grind (arith, nat_tests, held.1) in
      get-is used (get_or order taken 0) false held.0 (turn.first (get_or order taken 0) held.0 ∙ at)

  -- it is the next one in use
  pub turn-taken : taken < length used → IsInTurn (set used (get_or order taken 0) true) order place (taken + 1)
  turn-taken more =
      let slot = get_or order taken 0 in
      let held = turn.holds taken more in
      let same = length-set used slot true in
      record {
        ordered = turn.ordered ∙ sym same;
        placed = turn.placed ∙ sym same;
        stands = subst (λ (n : ℕ). IsBackBy n place order) (sym same) turn.stands;
        holds = subst (λ (n : ℕ). IsBackBy n order place) (sym same) turn.holds;
        first = λ s within. elim (cases_eq s slot) [
          | inl here ↦
              let stands : nat_lt (get_or place s 0) (taken + 1) ≡ true = rw (here, held.1) (grind (arith, nat_tests)) in
              ap (λ (i : ℕ). get_or (set used slot true) i false) here ∙ get_or-set_same used slot true false held.0 ∙ sym stands
          | inr apart ↦
              let less : s < length used = omega (arith, same) in
              let off : get_or place s 0 ≢ taken = λ is. apart (sym (turn.stands s less).1 ∙ ap (λ (i : ℕ). get_or order i 0) is) in
              let still : nat_lt (get_or place s 0) taken ≡ nat_lt (get_or place s 0) (taken + 1) = grind (arith, nat_tests, off) in
              get_or-set_other used slot s true false apart ∙ turn.first s less ∙ still
        ];
        counted = omega (arith, turn.counted, same, free_in-take used slot (next-free more));
        few = omega (arith, turn.few, same);
      }

  -- the last slot in use
  pub last-used : 0 < taken → slice_get used (get_or order (taken - 1) 0) ≡ Some true
  last-used some =
      let held = turn.holds (taken - 1) (omega (arith, turn.counted)) in
      let at : nat_lt (get_or place (get_or order (taken - 1) 0) 0) taken ≡ true = rw held.1 (grind (arith, nat_tests)) in
      get-is used (get_or order (taken - 1) 0) true held.0 (turn.first (get_or order (taken - 1) 0) held.0 ∙ at)

  -- is the first one that is free
  pub turn-given : 0 < taken → IsInTurn (set used (get_or order (taken - 1) 0) false) order place (taken - 1)
  turn-given some =
      let slot = get_or order (taken - 1) 0 in
      let held = turn.holds (taken - 1) (omega (arith, turn.counted)) in
      let same = length-set used slot false in
      record {
        ordered = turn.ordered ∙ sym same;
        placed = turn.placed ∙ sym same;
        stands = subst (λ (n : ℕ). IsBackBy n place order) (sym same) turn.stands;
        holds = subst (λ (n : ℕ). IsBackBy n order place) (sym same) turn.holds;
        first = λ s within. elim (cases_eq s slot) [
          | inl here ↦
              let stands : nat_lt (get_or place s 0) (taken - 1) ≡ false = rw (here, held.1) (grind (arith, nat_tests)) in
              ap (λ (i : ℕ). get_or (set used slot false) i false) here ∙ get_or-set_same used slot false false held.0 ∙ sym stands
          | inr apart ↦
              let less : s < length used = omega (arith, same) in
              let off : get_or place s 0 ≢ taken - 1 = λ is. apart (sym (turn.stands s less).1 ∙ ap (λ (i : ℕ). get_or order i 0) is) in
              let still : nat_lt (get_or place s 0) taken ≡ nat_lt (get_or place s 0) (taken - 1) = grind (arith, nat_tests, off) in
              get_or-set_other used slot s false false apart ∙ turn.first s less ∙ still
        ];
        counted = omega (arith, turn.counted, same, free_in-give used slot (last-used some));
        few = omega (arith, turn.few, same);
      }

  -- two slots of which both are in use or both are free exchange places
  pub turn-exchanged : (slot at : ℕ) → slot < length used → at < length used → nat_lt (get_or place slot 0) taken ≡ nat_lt at taken
      → IsInTurn used (exchanged order place at slot) (exchanged place order slot at) taken
  turn-exchanged slot at within less alike = record {
    ordered = length-exchanged order place at slot ∙ turn.ordered;
    placed = length-exchanged place order slot at ∙ turn.placed;
    stands = back-exchanged (length used) place order turn.stands turn.holds slot at turn.placed turn.ordered within less;
    holds = back-exchanged (length used) order place turn.holds turn.stands at slot turn.ordered turn.placed less within;
    first = λ s short. turn.first s short ∙ (elim (cases_eq s (get_or order at 0)) [
      | inl other ↦
          let goes = exchanged-other place order slot at s (omega (arith, turn.placed, (turn.holds at less).0)) other in
          let stood : get_or place s 0 ≡ at = ap (λ (i : ℕ). get_or place i 0) other ∙ (turn.holds at less).1 in
          rw (goes, stood) (sym alike)
      | inr apart ↦ elim (cases_eq s slot) [
        | inl here ↦ rw (exchanged-here place order slot at s (omega (arith, turn.placed)) apart here)
            (ap (λ (i : ℕ). nat_lt (get_or place i 0) taken) here ∙ alike)
        | inr nor ↦ rw (exchanged-rest place order slot at s apart nor) refl
      ]
    ]);
    counted = turn.counted;
    few = turn.few;
  }

  -- then the slot stands there
  pub stands-exchanged : (slot at : ℕ) → slot < length used → at < length used → get_or (exchanged order place at slot) at 0 ≡ slot
  stands-exchanged slot at within less = elim (cases_eq at (get_or place slot 0)) [
    | inl other ↦
        exchanged-other order place at slot at (omega (arith, turn.ordered, (turn.stands slot within).0)) other ∙ ap (λ (i : ℕ). get_or order i 0) other
        ∙ (turn.stands slot within).1
    | inr apart ↦ exchanged-here order place at slot at (omega (arith, turn.ordered)) apart refl
  ]

-- a free slot is taken into use once it stands after those in use
pub turn-taken_this : (used : List Bool) (order place : List ℕ) (taken slot : ℕ) → IsInTurn used order place taken → slot < length used
    → get_or used slot false ≡ false → IsInTurn (set used slot true) (exchanged order place taken slot) (exchanged place order slot taken) (taken + 1)
turn-taken_this used order place taken slot turn within free =
    let following : nat_lt (get_or place slot 0) taken ≡ false = sym (turn.first slot within) ∙ free in
    let stood : get_or place slot 0 < length used = (turn.stands slot within).0 in
    let more : taken < length used = grind (arith, nat_tests) in
    let itself : nat_lt taken taken ≡ false = grind (arith, nat_tests) in
    let turned = turn-exchanged used order place taken turn slot taken within more (following ∙ sym itself) in
    subst
    (λ (s : ℕ). IsInTurn (set used s true) (exchanged order place taken slot) (exchanged place order slot taken) (taken + 1))
    (stands-exchanged used order place taken turn slot taken within more)
    (turn-taken used (exchanged order place taken slot) (exchanged place order slot taken) taken turned more)

-- and one in use is free again once it stands last among them
pub turn-given_this : (used : List Bool) (order place : List ℕ) (taken slot : ℕ)
    → IsInTurn used order place taken → slot < length used → get_or used slot false ≡ true
    → IsInTurn (set used slot false) (exchanged order place (taken - 1) slot) (exchanged place order slot (taken - 1)) (taken - 1)
turn-given_this used order place taken slot turn within taking =
    let before : nat_lt (get_or place slot 0) taken ≡ true = sym (turn.first slot within) ∙ taking in
    let some : 0 < taken = grind (arith, nat_tests) in
    let less : taken - 1 < length used = omega (arith, turn.counted) in
    let last : nat_lt (taken - 1) taken ≡ true = grind (arith, nat_tests) in
    let turned = turn-exchanged used order place taken turn slot (taken - 1) within less (before ∙ sym last) in
    subst
    (λ (s : ℕ). IsInTurn (set used s false) (exchanged order place (taken - 1) slot) (exchanged place order slot (taken - 1)) (taken - 1))
    (stands-exchanged used order place taken turn slot (taken - 1) within less)
    (turn-given used (exchanged order place (taken - 1) slot) (exchanged place order slot (taken - 1)) taken turned some)

none-below : (k : ℕ) → nat_lt k 0 ≡ false
none-below k = grind (arith, nat_tests)

get_or-replicate : (n slot : ℕ) (u : Bool) → get_or (replicate n u) slot u ≡ u
get_or-replicate zero slot u = refl
get_or-replicate (suc n) zero u = refl
get_or-replicate (suc n) (suc slot) u = get_or-replicate n slot u

-- at first each slot stands at its own number
numbers-back : (n : ℕ) → IsBackBy n (range_with_len 0 n) (range_with_len 0 n)
numbers-back n k within =
    let is : get_or (range_with_len 0 n) k 0 ≡ k = get_or-range_with_len 0 n k 0 within ∙ (omega arith) in
    (omega (arith, is), ap (λ (i : ℕ). get_or (range_with_len 0 n) i 0) is ∙ is)

pub turn-first : (n : ℕ) → n < 2 ^ 32 → IsInTurn (replicate n false) (range_with_len 0 n) (range_with_len 0 n) 0
turn-first n few =
    let long : length (replicate n false) ≡ n = length-replicate n false in
    record {
      ordered = length-range_with_len 0 n ∙ sym long;
      placed = length-range_with_len 0 n ∙ sym long;
      stands = subst (λ (m : ℕ). IsBackBy m (range_with_len 0 n) (range_with_len 0 n)) (sym long) (numbers-back n);
      holds = subst (λ (m : ℕ). IsBackBy m (range_with_len 0 n) (range_with_len 0 n)) (sym long) (numbers-back n);
      first = λ slot within. get_or-replicate n slot false ∙ sym (none-below (get_or (range_with_len 0 n) slot 0));
      counted = omega (arith, long, free_in-replicate n);
      few = omega (arith, long);
    }

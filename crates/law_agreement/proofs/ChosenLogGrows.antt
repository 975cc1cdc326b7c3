-- The chosen log is the longest run of chosen places, and only grows.
use Rattle.law_agreement.proofs.Imports.{[], ◌++◌, ◌+◌, ◌<◌, ◌∙◌, ◌∷◌, ◌≡◌, ◌≤◌, ◌⊎◌, Command, Devices, In, IsChosenBy, List, None, Option, Some, ap, arith}
use Rattle.law_agreement.proofs.Imports.{before_first, cases_lt, chosen_at, chosen_from, chosen_log, flat_map, fold, inl, inr, last_place, length, map, max}
use Rattle.law_agreement.proofs.Imports.{range_with_len, refl, slice_get, subst, suc, sym, unwrap_or, vote_place, zero, ℕ}
use Rattle.spec_paxos.specs.declared.record.StateRecord.TheVariants.{Accepted}
use Rattle.law_agreement.specs.Single.{IsSingle, IsKept}
use Rattle.law_agreement.proofs.MajoritiesChoose.{in_flat, in_range, one_of_many, told_is_chosen, chosen_is_told, chosen_stays}

-- ### The last place of any vote

fold_low : (a : ℕ) (ns : List ℕ) → a ≤ fold max a ns
fold_low a [] = omega arith
fold_low a (n ∷ ns) = let more = fold_low (max a n) ns in omega arith

fold_high : {X : Type 0} (f : X → ℕ) (xs : List X) (x : X) (a : ℕ) → In x xs → f x ≤ fold max a (map f xs)
unfolding In
fold_high f [] x a h = absurd h
fold_high f (y ∷ xs) x a (inl is) = let low = fold_low (max a (f y)) (map f xs) in let same : f x ≡ f y = ap f is in omega arith
fold_high f (y ∷ xs) x a (inr later) = fold_high f xs x (max a (f y)) later

pub chosen_within : (n : ℕ) (devices : Devices) (place : ℕ) (c : Command) → IsChosenBy n devices place c → place ≤ last_place n devices
chosen_within n devices place c h =
    let one = one_of_many n h.1 (omega arith) in
    fold_high vote_place (flat_map devices (range_with_len 0 n)) (Accepted place h.0 c) 0
    (in_flat devices one.0 (range_with_len 0 n) (Accepted place h.0 c) (in_range 0 n one.0 (omega arith) (omega arith)) (h.3 one.0 one.2))

-- ### Runs of chosen places

at_sum : (n : ℕ) (devices : Devices) (p q : ℕ) (o : Option Command) → p ≡ q → chosen_at n devices p ≡ o → chosen_at n devices q ≡ o
at_sum n devices p q o is e = subst (λ k. chosen_at n devices k ≡ o) is e

run_tells : (n : ℕ) (devices : Devices) (place most i : ℕ) (c : Command) → slice_get (chosen_from n devices place most) i ≡ Some c
    → chosen_at n devices (place + i) ≡ Some c
run_tells n devices place zero i c e = absurd (cc)
run_tells n devices place (suc most) i c e = by (chosen_at n devices place) refl i (λ j. run_tells n devices (place + 1) most j c) e
  where
    by : (o : Option Command) → chosen_at n devices place ≡ o → (i : ℕ)
        → ((j : ℕ) → slice_get (chosen_from n devices (place + 1) most) j ≡ Some c → chosen_at n devices (place + 1 + j) ≡ Some c)
        → slice_get (before_first o (chosen_from n devices (place + 1) most)) i ≡ Some c → chosen_at n devices (place + i) ≡ Some c
    by None at i ih is = absurd (cc)
    by (Some x) at zero ih is = at_sum n devices place (place + 0) (Some c) (omega arith) (at ∙ is)
    by (Some x) at (suc i) ih is = at_sum n devices (place + 1 + i) (place + suc i) (Some c) (omega arith) (ih i is)

run_ends : (n : ℕ) (devices : Devices) (place most : ℕ)
    → (length (chosen_from n devices place most) ≡ most) ⊎ (chosen_at n devices (place + length (chosen_from n devices place most)) ≡ None)
run_ends n devices place zero = inl refl
run_ends n devices place (suc most) = by (chosen_at n devices place) refl (run_ends n devices (place + 1) most)
  where
    later : List Command
    later = chosen_from n devices (place + 1) most

    by : (o : Option Command) → chosen_at n devices place ≡ o → (length later ≡ most) ⊎ (chosen_at n devices (place + 1 + length later) ≡ None)
        → (length (before_first o later) ≡ suc most) ⊎ (chosen_at n devices (place + length (before_first o later)) ≡ None)
    by None at ih = inr (at_sum n devices place (place + 0) None (omega arith) at)
    by (Some x) at (inl is) = inl (omega arith)
    by (Some x) at (inr is) = inr (at_sum n devices (place + 1 + length later) (place + length (x ∷ later)) None (omega arith) is)

-- ### The chosen log

pub log_tells : (n : ℕ) (devices : Devices) (i : ℕ) (c : Command) → slice_get (chosen_log n devices) i ≡ Some c → chosen_at n devices (i + 1) ≡ Some c
log_tells n devices i c e = at_sum n devices (1 + i) (i + 1) (Some c) (omega arith) (run_tells n devices 1 (last_place n devices) i c e)

pub log_ends : (n : ℕ) (devices : Devices) → chosen_at n devices (length (chosen_log n devices) + 1) ≡ None
log_ends n devices = elim (run_ends n devices 1 (last_place n devices)) [
  | inl full ↦ by (chosen_at n devices (length (chosen_log n devices) + 1)) refl full
  | inr is ↦ at_sum n devices (1 + length (chosen_log n devices)) (length (chosen_log n devices) + 1) None (omega arith) is
]
  where
    by : (o : Option Command) → chosen_at n devices (length (chosen_log n devices) + 1) ≡ o → length (chosen_log n devices) ≡ last_place n devices → o ≡ None
    by None e full = refl
    by (Some c) e full = let within = chosen_within n devices (length (chosen_log n devices) + 1) c
        (told_is_chosen n devices (length (chosen_log n devices) + 1) c e) in absurd (omega arith)

got : {X : Type 0} (xs : List X) (i : ℕ) → i < length xs → (x : X) × (slice_get xs i ≡ Some x)
got [] i low = absurd (omega arith)
got (x ∷ xs) zero low = (x, refl)
got (x ∷ xs) (suc i) low = got xs i (omega arith)

within : {X : Type 0} (xs : List X) (i : ℕ) (x : X) → slice_get xs i ≡ Some x → i < length xs
within [] i x e = absurd (cc)
within (y ∷ xs) zero x e = omega arith
within (y ∷ xs) (suc i) x e = let low = within xs i x e in omega arith

pub log_has : (n : ℕ) (devices : Devices) (i : ℕ) (c : Command) → i ≤ length (chosen_log n devices) → chosen_at n devices (i + 1) ≡ Some c
    → slice_get (chosen_log n devices) i ≡ Some c
log_has n devices i c low e = elim (cases_lt i (length (chosen_log n devices))) [
  | inr at ↦ absurd (ended (omega arith))
  | inl below ↦ let g = got (chosen_log n devices) i below in g.1 ∙ sym (log_tells n devices i g.0 g.1) ∙ e
]
  where
    ended : i ≡ length (chosen_log n devices) → ⊥
    ended at = let none = at_sum n devices (length (chosen_log n devices) + 1) (i + 1) None (omega arith) (log_ends n devices) in absurd (cc)

-- a list whose entries all stand in the other is its front
prefix_of : {X : Type 0} (xs ys : List X) → ((i : ℕ) (x : X) → slice_get xs i ≡ Some x → slice_get ys i ≡ Some x) → (later : List X) × (ys ≡ xs ++ later)
prefix_of [] ys h = (ys, refl)
prefix_of (x ∷ xs) [] h = let first = h 0 x refl in absurd (cc)
prefix_of (x ∷ xs) (y ∷ ys) h =
    let first : y ≡ x = ap (λ o. unwrap_or o x) (h 0 x refl) in
    let more = prefix_of xs ys (λ i z e. h (suc i) z e) in
    (more.0, ap (λ z. z ∷ ys) first ∙ ap (λ zs. x ∷ zs) more.1)

-- commands chosen for the places 1, 2, .. are a prefix of the log
pub prefix_of_log : (n : ℕ) (devices : Devices) (run : List Command)
    → ((i : ℕ) (c : Command) → slice_get run i ≡ Some c → chosen_at n devices (i + 1) ≡ Some c) → (later : List Command) × (chosen_log n devices ≡ run ++ later)
prefix_of_log n devices run each = prefix_of run (chosen_log n devices) (λ i c e. log_has n devices i c (reached i c e) (each i c e))
  where
    long : (k : ℕ) → k ≡ length (chosen_log n devices) → k < length run → ⊥
    long k is low =
        let g = got run k low in
        let none = at_sum n devices (length (chosen_log n devices) + 1) (k + 1) None (omega arith) (log_ends n devices) in
        let some = each k g.0 g.1 in
        absurd (cc)

    reached : (i : ℕ) (c : Command) → slice_get run i ≡ Some c → i ≤ length (chosen_log n devices)
    reached i c e = elim (cases_lt (length (chosen_log n devices)) i) [
      | inr low ↦ low
      | inl above ↦ let w = within run i c e in absurd (long (length (chosen_log n devices)) refl (omega arith))
    ]

-- with more records it only grows
pub log_grows : (n : ℕ) (devices later : Devices) → IsKept devices later → IsSingle n later
    → (more : List Command) × (chosen_log n later ≡ chosen_log n devices ++ more)
log_grows n devices later kept single = prefix_of_log n later (chosen_log n devices) each
  where
    each : (i : ℕ) (c : Command) → slice_get (chosen_log n devices) i ≡ Some c → chosen_at n later (i + 1) ≡ Some c
    each i c e = chosen_is_told n later (i + 1) c single
        (chosen_stays n devices later (i + 1) c kept (told_is_chosen n devices (i + 1) c (log_tells n devices i c e)))

-- The first of a list that passes a test, by its place.
use Rattle.std.proofs.Common.{◌≡◌, ℕ, ◌+◌, ◌<◌, List, [], ◌∷◌, Bool, true, false, not, cond, Some, None, zero, suc, length}
use Rattle.std.proofs.Common.{get_or, inl, inr, refl, sym, ap, subst, ◌∙◌, arith}
use Rattle.std.specs.Prelude.{nat_lt, unwrap_or, slice_get, slice_set, position, find, Result, Ok, Err, OnOk, MatchBool}
use Rattle.std.specs.List.{position_or_len}
use Rattle.std.proofs.lemmas.Bool.{ltb-true}
use Rattle.std.proofs.lemmas.List.Folds.{find_at}
use Rattle.std.proofs.lemmas.Option.{slice_get-get_or, slice_get_past, slice_get_cases}
use Rattle.spec_machine.specs.declared.state.PlainDisk.{PlainDisk}
use Rattle.spec_machine.specs.Machine.{is_named, with_disk}

placed : (b : Bool) (n i : ℕ) → Some i ≡ cond b (Some n) None → (b ≡ true) × (i ≡ n)
placed true n i e = (refl, cc)
placed false n i e = cc

unplaced : (b : Bool) (n : ℕ) → None ≡ cond b (Some n) None → b ≡ false
unplaced true n e = cc
unplaced false n e = refl

past : (n m : ℕ) → nat_lt n m ≡ false → m < n + 1
past n m e = grind arith

-- what stands at the place
pub found : {X : Type 0} (p : X → Bool) (xs : List X) (i : ℕ) (d : X) → Some i ≡ position p xs → find p xs ≡ Some (get_or xs i d)
found p xs i d e =
    let at = placed (nat_lt (position_or_len p xs) (length xs)) (position_or_len p xs) i e in
    find_at p xs ∙ ap (slice_get xs) (sym at.1) ∙ slice_get-get_or xs i d (subst (λ k. k < length xs) (sym at.1) (ltb-true _ _ at.0))

pub found_within : {X : Type 0} (p : X → Bool) (xs : List X) (i : ℕ) → Some i ≡ position p xs → i < length xs
found_within p xs i e =
    let at = placed (nat_lt (position_or_len p xs) (length xs)) (position_or_len p xs) i e in
    subst (λ k. k < length xs) (sym at.1) (ltb-true _ _ at.0)

pub not_found : {X : Type 0} (p : X → Bool) (xs : List X) → None ≡ position p xs → find p xs ≡ None
not_found p xs e =
    let at = unplaced (nat_lt (position_or_len p xs) (length xs)) (position_or_len p xs) e in
    let le = past (position_or_len p xs) (length xs) at in
    find_at p xs ∙ slice_get_past xs (position_or_len p xs) (omega arith)

-- the disk of this name is changed at its place
pub with_disk-set : (name : List ℕ) (change : PlainDisk → PlainDisk) (disks : List PlainDisk) (i : ℕ) (d : PlainDisk)
    → i ≡ position_or_len (is_named name) disks
    → i < length disks → with_disk disks name change ≡ slice_set disks i (change (get_or disks i d))
with_disk-set name change [] i d e h = absurd (omega arith)
with_disk-set name change (x ∷ xs) zero d e h = by (is_named name x) e
  where
    by : (b : Bool) → zero ≡ cond (not b) (1 + position_or_len (is_named name) xs) 0 → cond b (change x ∷ xs) (x ∷ with_disk xs name change) ≡ change x ∷ xs
    by true e = refl
    by false e = absurd (omega arith)
with_disk-set name change (x ∷ xs) (suc i) d e h = by (is_named name x) e (λ k. with_disk-set name change xs i d k (omega arith))
  where
    by : (b : Bool) → suc i ≡ cond (not b) (1 + position_or_len (is_named name) xs) 0
        → (i ≡ position_or_len (is_named name) xs → with_disk xs name change ≡ slice_set xs i (change (get_or xs i d)))
        → cond b (change x ∷ xs) (x ∷ with_disk xs name change) ≡ x ∷ slice_set xs i (change (get_or xs i d))
    by true e later = absurd (omega arith)
    by false e later = ap (λ more. x ∷ more) (later (omega arith))

pub changed_at : (name : List ℕ) (change : PlainDisk → PlainDisk) (disks : List PlainDisk) (i : ℕ) (d : PlainDisk) → Some i ≡ position (is_named name) disks
    → with_disk disks name change ≡ slice_set disks i (change (get_or disks i d))
changed_at name change disks i d e =
    let at = placed (nat_lt (position_or_len (is_named name) disks) (length disks)) (position_or_len (is_named name) disks) i e in
    with_disk-set name change disks i d at.1 (found_within (is_named name) disks i e)

pub not_none : {X : Type 0} (p : X → Bool) (xs : List X) (i : ℕ) → Some i ≡ position p xs → find p xs ≡ None → ⊥
not_none p xs i e none =
    let lt = found_within p xs i e in
    let at = placed (nat_lt (position_or_len p xs) (length xs)) (position_or_len p xs) i e in
    elim ((slice_get_cases xs i).1) [
      | inl h ↦ let f : Some h.0 ≡ None = sym h.2 ∙ ap (slice_get xs) at.1 ∙ sym (find_at p xs) ∙ none in cc
      | inr h ↦ let le = h.0 in omega arith
    ]

pub same_some : {X : Type 0} {x y : X} → Some x ≡ Some y → x ≡ y
same_some {x = x} e = ap (λ o. unwrap_or o x) e

pub on_ok_map : {A E : Type 0} {P Q : Type 0} (r : Result A E) → OnOk r P → (P → Q) → OnOk r Q
on_ok_map (Ok x) p f = f p
on_ok_map (Err e) p f = p

pub match_bool_map : {P Q R S : Type 0} (b : Bool) → MatchBool b P Q → (P → R) → (Q → S) → MatchBool b R S
match_bool_map true p f g = f p
match_bool_map false p f g = g p

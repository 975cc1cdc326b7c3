-- Where the first item that passes a test is.
use Rattle.std.proofs.Common.{◌≡◌, ℕ, zero, suc, ◌≤◌, ◌<◌, Bool, true, false, List, [], ◌∷◌, Option, Some, None}
use Rattle.std.proofs.Common.{refl, sym, ap, ◌∙◌, arith, length, get_or}
use Rattle.std.proofs.lemmas.Option.{slice_get-get_or}
use Rattle.std.specs.Prelude.{if◌then◌else◌, filter, slice_get}
use Rattle.std.specs.List.{AllWithin}
use Rattle.history_merge.specs.Recorded.{first_by}

module _ {X A : Type 0} (test : X → Bool) (f : X → Option A) where
  passed : (b : Bool) (x y : Option A) → b ≡ false → (if b then x else y) ≡ y
  passed true x y e = absurd (let k : ⊥ = cc in k)
  passed false x y e = refl

  taken : (b : Bool) (x y : Option A) → b ≡ true → (if b then x else y) ≡ x
  taken true x y e = refl
  taken false x y e = absurd (let k : ⊥ = cc in k)

  -- none passes
  pub none_first : (xs : List X) → AllWithin (λ x. test x ≡ false) xs 0 (length xs) → first_by test f xs ≡ None
  none_first [] none = refl
  none_first (x ∷ xs) none =
      passed (test x) (f x) (first_by test f xs) (none 0 x (omega arith) (omega arith))
      ∙ none_first xs (λ k d le less. none (suc k) d (omega arith) (omega arith))

  -- the one at a place is the first
  pub found_first : (xs : List X) (i : ℕ) (x : X) → AllWithin (λ y. test y ≡ false) xs 0 i → slice_get xs i ≡ Some x → test x ≡ true
      → first_by test f xs ≡ f x
  found_first [] i x none is so = absurd (let k : ⊥ = cc in k)
  found_first (y ∷ ys) zero x none is so =
      let same : y ≡ x = cc in
      taken (test y) (f y) (first_by test f ys) (ap test same ∙ so) ∙ ap f same
  found_first (y ∷ ys) (suc i) x none is so =
      passed (test y) (f y) (first_by test f ys) (none 0 y (omega arith) (omega arith))
      ∙ found_first ys i x (λ k d le less. none (suc k) d (omega arith) (omega arith)) is so

  -- what the test lets pass is all that counts
  first_at : (b : Bool) (x : X) (us : List X) → test x ≡ b → first_by test f (if b then x ∷ us else us) ≡ (if b then f x else first_by test f us)
  first_at true x us e = taken (test x) (f x) (first_by test f us) e
  first_at false x us e = refl

  pub first_filtered : (xs : List X) → first_by test f (filter test xs) ≡ first_by test f xs
  first_filtered [] = refl
  first_filtered (x ∷ xs) =
      first_at (test x) x (filter test xs) refl ∙ ap (λ o. if test x then f x else o) (first_filtered xs)

-- none stands at a place past the end
pub past : {X : Type 0} (xs : List X) (i : ℕ) → slice_get xs i ≡ None → length xs ≤ i
past [] i is = omega arith
past (y ∷ ys) zero is = absurd (let k : ⊥ = cc in k)
past (y ∷ ys) (suc i) is = let le = past ys i is in omega arith

-- what was read at a place stands there
pub at_place : {X : Type 0} (xs : List X) (i : ℕ) (x : X) → i < length xs → x ≡ get_or xs i x → slice_get xs i ≡ Some x
at_place xs i x within is = slice_get-get_or xs i x within ∙ ap Some (sym is)

-- Lists of what a function gives of each number below a bound.
use Rattle.std.proofs.Common.{◌≡◌, ◌≢◌, ℕ, zero, suc, ◌+◌, ◌≤◌, ◌<◌, ◌∷◌, map, Option, Some, None, inl, inr, refl, sym, ap, ◌∙◌, arith}
use Rattle.std.proofs.lemmas.Bool.{cases_lt}
use Rattle.std.specs.Prelude.{slice_get, slice_set}
use Rattle.std.specs.List.{range_with_len}

one_of : {X : Type 0} (o : Option X) (x y : X) → o ≡ Some x → o ≡ Some y → x ≡ y
one_of o x y a b = cc

none_of : {X : Type 0} {P : Type 0} (o : Option X) (x : X) → o ≡ None → o ≡ Some x → P
none_of o x none some = absurd (let h : ⊥ = cc in h)

module _ {A : Type 0} where
  get_from : (f : ℕ → A) (a n i : ℕ) → i < n → slice_get (map f (range_with_len a n)) i ≡ Some (f (a + i))
  get_from f a zero i h = absurd (omega arith)
  get_from f a (suc n) zero h = let e : a ≡ a + 0 = omega arith in ap (λ k. Some (f k)) e
  get_from f a (suc n) (suc i) h =
      let less : i < n = omega arith in
      let e : a + 1 + i ≡ a + suc i = omega arith in
      get_from f (a + 1) n i less ∙ ap (λ k. Some (f k)) e

  -- what stands at a number
  pub get_range : (f : ℕ → A) (n i : ℕ) → i < n → slice_get (map f (range_with_len 0 n)) i ≡ Some (f i)
  get_range f n i h = let e : 0 + i ≡ i = omega arith in get_from f 0 n i h ∙ ap (λ k. Some (f k)) e

  map_same : (f g : ℕ → A) (a n : ℕ) → ((k : ℕ) → a ≤ k → f k ≡ g k) → map f (range_with_len a n) ≡ map g (range_with_len a n)
  map_same f g a zero same = refl
  map_same f g a (suc n) same =
      let here : f a ≡ g a = same a (omega arith) in
      let more : map f (range_with_len (a + 1) n) ≡ map g (range_with_len (a + 1) n) = map_same f g (a + 1) n (λ k le. same k (omega arith)) in
      λ i. here i ∷ more i

  set_from : (f g : ℕ → A) (a n i : ℕ) → i < n → ((k : ℕ) → k ≢ a + i → f k ≡ g k)
      → slice_set (map f (range_with_len a n)) i (g (a + i)) ≡ map g (range_with_len a n)
  set_from f g a zero i h same = absurd (omega arith)
  set_from f g a (suc n) zero h same =
      let e : a + 0 ≡ a = omega arith in
      let here : g (a + 0) ≡ g a = ap g e in
      let more : map f (range_with_len (a + 1) n) ≡ map g (range_with_len (a + 1) n) =
      map_same f g (a + 1) n (λ k le. same k (λ (q : k ≡ a + 0). omega arith)) in
      λ i. here i ∷ more i
  set_from f g a (suc n) (suc i) h same =
      let less : i < n = omega arith in
      let e : a + suc i ≡ a + 1 + i = omega arith in
      let here : f a ≡ g a = same a (λ (q : a ≡ a + suc i). omega arith) in
      let more = set_from f g (a + 1) n i less (λ k ne. same k (λ (q : k ≡ a + suc i). ne (q ∙ e))) in
      let value : g (a + suc i) ≡ g (a + 1 + i) = ap g e in
      (λ j. here j ∷ slice_set (map f (range_with_len (a + 1) n)) i (value j)) ∙ ap (λ rest. g a ∷ rest) more

  -- one of the values is another
  pub set_range : (f g : ℕ → A) (n i : ℕ) (x : A) → i < n → x ≡ g i → ((k : ℕ) → k ≢ i → f k ≡ g k)
      → slice_set (map f (range_with_len 0 n)) i x ≡ map g (range_with_len 0 n)
  set_range f g n i x h is same =
      let e : 0 + i ≡ i = omega arith in
      let value : x ≡ g (0 + i) = is ∙ ap g (sym e) in
      ap (λ y. slice_set (map f (range_with_len 0 n)) i y) value ∙ set_from f g 0 n i h (λ k ne. same k (λ q. ne (q ∙ sym e)))

  -- a function that agrees below gives the same list
  pub same_range : (f g : ℕ → A) (n : ℕ) → ((k : ℕ) → f k ≡ g k) → map f (range_with_len 0 n) ≡ map g (range_with_len 0 n)
  same_range f g n same = map_same f g 0 n (λ k le. same k)

  none_from : (f : ℕ → A) (a n i : ℕ) → n ≤ i → slice_get (map f (range_with_len a n)) i ≡ None
  none_from f a zero i h = refl
  none_from f a (suc n) zero h = absurd (omega arith)
  none_from f a (suc n) (suc i) h = none_from f (a + 1) n i (omega arith)

  -- nothing stands above the bound
  pub no_range : (f : ℕ → A) (n i : ℕ) → n ≤ i → slice_get (map f (range_with_len 0 n)) i ≡ None
  no_range f n i h = none_from f 0 n i h

  -- what stands at a number is the function's value there, and the number is below the bound
  pub record IsAt (f : ℕ → A) (n i : ℕ) (x : A) : Type 0 where
    pub within : i < n
    pub value : x ≡ f i

  pub at_range : (f : ℕ → A) (n i : ℕ) (x : A) → slice_get (map f (range_with_len 0 n)) i ≡ Some x → IsAt f n i x
  at_range f n i x e = elim (cases_lt i n) [
    | inl less ↦ record { within = less; value = one_of _ x (f i) e (get_range f n i less) }
    | inr le ↦ none_of _ x (no_range f n i le) e
  ]

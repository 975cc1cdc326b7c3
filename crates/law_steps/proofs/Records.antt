-- The parts of a list, as of a history's records, before its last member.
use Rattle.law_steps.proofs.Imports.{[], ◌++◌, ◌∙◌, ◌∷◌, ◌≡◌, ◌⊎◌, List, ap, arith, inl, inr, length, length-append, refl, sym}

pub heads : {A : Type 0} {x z : A} {xs zs : List A} → x ∷ xs ≡ z ∷ zs → x ≡ z
heads e = cc

pub tails : {A : Type 0} {x z : A} {xs zs : List A} → x ∷ xs ≡ z ∷ zs → xs ≡ zs
tails e = cc

-- nothing stands before nothing
pub none_before_none : {A : Type 0} (xs zs : List A) → [] ≡ xs ++ zs → xs ≡ []
none_before_none [] zs e = refl
none_before_none (x ∷ xs) zs e = cc

-- a part of a list with one element more is all of it, or a part of the list
pub split_last : {A : Type 0} (xs : List A) (y : A) (before later : List A) → xs ++ y ∷ [] ≡ before ++ later
    → (before ≡ xs ++ y ∷ []) ⊎ ((rest : List A) × (xs ≡ before ++ rest))
split_last xs y [] later e = inr (xs, refl)
split_last [] y (b ∷ before) later e = inl (ap (λ zs. b ∷ zs) (none_before_none before later (tails e)) ∙ ap (λ x. x ∷ []) (sym (heads e)))
split_last (x ∷ xs) y (b ∷ before) later e = elim (split_last xs y before later (tails e)) [
  | inl same ↦ inl (ap (λ zs. b ∷ zs) same ∙ ap (λ z. z ∷ (xs ++ y ∷ [])) (sym (heads e)))
  | inr more ↦ inr (more.0, ap (λ zs. x ∷ zs) more.1 ∙ ap (λ z. z ∷ (before ++ more.0)) (heads e))
]

-- an element of such a list is the last one, or stands in the rest
pub split_one : {A : Type 0} (xs : List A) (y : A) (before : List A) (z : A) (later : List A) → xs ++ y ∷ [] ≡ before ++ z ∷ later
    → (xs ≡ before) ⊎ ((rest : List A) × (xs ≡ before ++ z ∷ rest))
split_one [] y [] z later e = inl refl
split_one [] y (b ∷ before) z later e = absurd (omega (arith, ap length e, length-append before (z ∷ later)))
split_one (x ∷ xs) y [] z later e = inr (xs, ap (λ w. w ∷ xs) (heads e))
split_one (x ∷ xs) y (b ∷ before) z later e = elim (split_one xs y before z later (tails e)) [
  | inl same ↦ inl (λ i. heads e i ∷ same i)
  | inr more ↦ inr (more.0, λ i. heads e i ∷ more.1 i)
]

-- of two prefixes of a list one goes on from the other, and then so does what stands after the other
pub split_prefixes : {A : Type 0} (one rest two later : List A) → one ++ rest ≡ two ++ later
    → ((more : List A) × (two ≡ one ++ more) × (rest ≡ more ++ later)) ⊎ ((more : List A) × (one ≡ two ++ more) × (later ≡ more ++ rest))
split_prefixes [] rest two later e = inl (two, refl, e)
split_prefixes (x ∷ one) rest [] later e = inr (x ∷ one, refl, sym e)
split_prefixes (x ∷ one) rest (y ∷ two) later e = elim (split_prefixes one rest two later (tails e)) [
  | inl past ↦ inl (past.0, (λ i. sym (heads e) i ∷ past.1 i), past.2)
  | inr before ↦ inr (before.0, (λ i. heads e i ∷ before.1 i), before.2)
]

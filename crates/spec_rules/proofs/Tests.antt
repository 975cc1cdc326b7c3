-- Laws of tests, options and changed functions.
use Rattle.std.proofs.Common.{◌≡◌, ◌≢◌, ℕ, List, [], ◌∷◌, Bool, true, false, ◌==◌, ◌&&◌, not, if◌then◌else◌, Some, None}
use Rattle.std.proofs.Common.{Option, refl, sym, subst, ap, ◌∙◌, ◌⊎◌, inl, inr}
use Rattle.std.specs.Prelude.{nat_eq, unwrap_or}
use Rattle.std.specs.Cmp.Lexicographic.{pointwise}
use Rattle.std.proofs.lemmas.Bool.Decides.{Decides-eqb}
use Rattle.spec_rules.specs.Lists.{In, put_at}
use Rattle.spec_rules.specs.State.{is_the}
use Rattle.spec_rules.proofs.ListLemmas.{put_same, put_apart}

-- a test splits what is proved of its outcomes
pub by_test : {A : Type 0} (P : A → Type 0) (t : Bool) (a b : A) → (t ≡ true → P a) → (t ≡ false → P b) → P (if t then a else b)
by_test P true a b on off = on refl
by_test P false a b on off = off refl

pub by_bool : {B : Type 0} (t : Bool) → (t ≡ true → B) → (t ≡ false → B) → B
by_bool true on off = on refl
by_bool false on off = off refl

pub same_or_apart : (k i : ℕ) → (k ≡ i) ⊎ (k ≢ i)
same_or_apart k i = by_bool (k == i) (λ e. inl ((Decides-eqb k i).0 e)) (λ e. inr (λ is. let t : (k == i) ≡ true = (Decides-eqb k i).1 is in cc))

pub some_or_none : {A : Type 0} (o : Option A) → ((x : A) × (o ≡ Some x)) ⊎ (o ≡ None)
some_or_none None = inr refl
some_or_none (Some x) = inl (x, refl)

pub same_some : {A : Type 0} {x y : A} → Some x ≡ Some y → x ≡ y
same_some {x = x} e = ap (λ o. unwrap_or o x) e

pub none_some : {A B : Type 0} {o : Option A} {x : A} → o ≡ None → o ≡ Some x → B
none_some e f = let g : None ≡ Some _ = sym e ∙ f in absurd cc

pub both_true : (a b : Bool) → (a && b) ≡ true → (a ≡ true) × (b ≡ true)
both_true true b e = (refl, e)
both_true false b e = let f : false ≡ true = e in absurd cc

pub not_true : (a : Bool) → not a ≡ true → a ≡ false
not_true true e = let f : false ≡ true = e in absurd cc
not_true false e = refl

pub true_false : {B : Type 0} {b : Bool} → b ≡ true → b ≡ false → B
true_false e f = let g : true ≡ false = sym e ∙ f in absurd cc

pub same_numbers : (a b : ℕ) → (a == b) ≡ true → a ≡ b
same_numbers a b = (Decides-eqb a b).0

pub number_itself : (a : ℕ) → (a == a) ≡ true
number_itself a = (Decides-eqb a a).1 refl

pub is_the_one : (o : Option ℕ) (n : ℕ) → is_the o n ≡ true → o ≡ Some n
is_the_one (Some k) n e = ap Some (same_numbers k n e)
is_the_one None n e = let f : false ≡ true = e in absurd cc

pub is_the_so : (o : Option ℕ) (n : ℕ) → o ≡ Some n → is_the o n ≡ true
is_the_so o n e = ap (λ k. is_the k n) e ∙ number_itself n

-- what holds of each value of a function, and of the new one, holds after the change
pub all_put : {A : Type 0} (f : ℕ → A) (i : ℕ) (x : A) (P : ℕ → A → Type 0) → ((k : ℕ) → P k (f k)) → P i x → (k : ℕ) → P k (put_at f i x k)
all_put f i x P old new k = elim (same_or_apart k i) [
  | inl e ↦ subst (λ (j : ℕ). P j (put_at f i x j)) (sym e) (subst (P i) (sym (put_same f i x)) new)
  | inr ne ↦ subst (P k) (sym (put_apart f i x k ne)) (old k)
]

pub all_put_apart : {A : Type 0} (f : ℕ → A) (i : ℕ) (x : A) (P : ℕ → A → Type 0) → ((k : ℕ) → k ≢ i → P k (f k)) → P i x → (k : ℕ) → P k (put_at f i x k)
all_put_apart f i x P old new k = elim (same_or_apart k i) [
  | inl e ↦ subst (λ (j : ℕ). P j (put_at f i x j)) (sym e) (subst (P i) (sym (put_same f i x)) new)
  | inr ne ↦ subst (P k) (sym (put_apart f i x k ne)) (old k ne)
]

pub only : {A : Type 0} (P : A → Type 0) (x y : A) → In y (x ∷ []) → P x → P y
unfolding In
only P x y (inl e) p = subst P (sym e) p
only P x y (inr h) p = absurd h

-- two texts of the same bytes are one
pub nat_lists_same : (xs ys : List ℕ) → pointwise nat_eq xs ys ≡ true → xs ≡ ys
nat_lists_same [] [] e = refl
nat_lists_same [] (y ∷ ys) e = let f : false ≡ true = e in absurd cc
nat_lists_same (x ∷ xs) [] e = let f : false ≡ true = e in absurd cc
nat_lists_same (x ∷ xs) (y ∷ ys) e =
    let both = both_true (nat_eq x y) (pointwise nat_eq xs ys) e in
    let head : x ≡ y = same_numbers x y both.0 in
    let tail : xs ≡ ys = nat_lists_same xs ys both.1 in
    λ i. head i ∷ tail i

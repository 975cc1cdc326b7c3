-- Places in lists, and functions with one value given again.
use Rattle.law_log.proofs.Imports.{[], ◌++◌, ◌<◌, ◌∙◌, ◌∷◌, ◌≡◌, ◌≢◌, Among, Bool, In, List, Some, ap, arith, cond, false, filter, inl, inr, length}
use Rattle.law_log.proofs.Imports.{none_some, put, put_at_cases, put_cases, refl, same_some, slice_get, suc, sym, true, zero, ℕ}
use Rattle.spec_paxos.specs.Member.{put_at}

-- a member stands at some place
pub placed : {X : Type 0} (x : X) (xs : List X) → In x xs → (i : ℕ) × (slice_get xs i ≡ Some x)
unfolding In
placed x [] h = absurd h
placed x (y ∷ ys) (inl e) = (0, ap Some (sym e))
placed x (y ∷ ys) (inr h) = let rest = placed x ys h in (suc rest.0, rest.1)

pub among_at : {X : Type 0} (xs : List X) (i : ℕ) (x : X) → slice_get xs i ≡ Some x → Among x xs
unfolding Among
among_at [] i x e = none_some refl e
among_at (y ∷ ys) zero x e = inl (sym (same_some e))
among_at (y ∷ ys) (suc i) x e = inr (among_at ys i x e)

pub at_among : {X : Type 0} (x : X) (xs : List X) → Among x xs → (i : ℕ) × (slice_get xs i ≡ Some x)
unfolding Among
at_among x [] h = absurd h
at_among x (y ∷ ys) (inl e) = (0, ap Some (sym e))
at_among x (y ∷ ys) (inr h) = let rest = at_among x ys h in (suc rest.0, rest.1)

-- what stands before it, and after it
pub parted : {X : Type 0} (x : X) (xs : List X) → Among x xs → (prefix : List X) × (back : List X) × (xs ≡ prefix ++ x ∷ back)
unfolding Among
parted x [] h = absurd h
parted x (y ∷ ys) (inl e) = ([], ys, ap (λ z. z ∷ ys) (sym e))
parted x (y ∷ ys) (inr h) = let rest = parted x ys h in (y ∷ rest.0, rest.1, ap (λ zs. y ∷ zs) rest.2)

pub within : {X : Type 0} (xs : List X) (i : ℕ) (x : X) → slice_get xs i ≡ Some x → i < length xs
within [] i x e = none_some refl e
within (y ∷ ys) zero x e = omega arith
within (y ∷ ys) (suc i) x e = let rest = within ys i x e in omega arith

-- what stands after a prefix
pub next_at : {X : Type 0} (prefix later : List X) (x : X) → slice_get (prefix ++ later) (length prefix) ≡ Some x → (rest : List X) × (later ≡ x ∷ rest)
next_at [] [] x e = none_some refl e
next_at [] (y ∷ later) x e = (later, ap (λ z. z ∷ later) (same_some e))
next_at (y ∷ prefix) later x e = next_at prefix later x e

pub at_next : {X : Type 0} (prefix later : List X) (x : X) → slice_get (prefix ++ x ∷ later) (length prefix) ≡ Some x
at_next [] later x = refl
at_next (y ∷ prefix) later x = at_next prefix later x

-- two prefixes of one list that are as long are one
pub one_prefix : {X : Type 0} (a b xs ys : List X) → length a ≡ length b → a ++ xs ≡ b ++ ys → a ≡ b
one_prefix [] [] xs ys many e = refl
one_prefix [] (y ∷ b) xs ys many e = absurd (omega (arith, many))
one_prefix (x ∷ a) [] xs ys many e = absurd (omega (arith, many))
one_prefix (x ∷ a) (y ∷ b) xs ys many e =
    let first : x ≡ y = cc in
    let rest : a ++ xs ≡ b ++ ys = cc in
    let later = one_prefix a b xs ys (omega (arith, many)) rest in
    λ i. first i ∷ later i

-- a list of no member, and of one
pub none_among : {A B : Type 0} (x : A) → Among x [] → B
unfolding Among
none_among x h = absurd h

pub only_among : {A : Type 0} (x y : A) → Among x (y ∷ []) → x ≡ y
unfolding Among
only_among x y (inl e) = e
only_among x y (inr h) = absurd h

-- what a filter keeps was there
pub kept_among : {X : Type 0} (test : X → Bool) (xs : List X) (x : X) → Among x (filter test xs) → Among x xs
unfolding Among
kept_among test [] x h = absurd h
kept_among test (first ∷ xs) x h =
    elim (test first) as (λ b. Among x (cond b (first ∷ filter test xs) (filter test xs)) → Among x (first ∷ xs)) [
      | true ↦ λ i. elim i [ inl e ↦ inl e | inr j ↦ inr (kept_among test xs x j) ]
      | false ↦ λ i. inr (kept_among test xs x i)
    ] h

-- ### Functions with one value given again

pub put_here : {A : Type 0} (f : ℕ → A) (k : ℕ) (x : A) → put f k x k ≡ x
put_here f k x = elim (put_cases f k x k) [ inl c ↦ c.1 | inr c ↦ absurd (c.0 refl) ]

pub put_away : {A : Type 0} (f : ℕ → A) (k : ℕ) (x : A) (j : ℕ) → j ≢ k → put f k x j ≡ f j
put_away f k x j ne = elim (put_cases f k x j) [ inl c ↦ absurd (ne c.0) | inr c ↦ c.1 ]

pub put_at_here : {A : Type 0} (f : ℕ → ℕ → A) (s p : ℕ) (x : A) → put_at f s p x s p ≡ x
put_at_here f s p x = elim (put_at_cases f s p x s p) [ inl c ↦ c.2 | inr c ↦ elim c.0 [ inl ne ↦ absurd (ne refl) | inr ne ↦ absurd (ne refl) ] ]

pub put_at_away : {A : Type 0} (f : ℕ → ℕ → A) (s p : ℕ) (x : A) (i j : ℕ) → i ≢ s → put_at f s p x i j ≡ f i j
put_at_away f s p x i j ne = elim (put_at_cases f s p x i j) [ inl c ↦ absurd (ne c.0) | inr c ↦ c.1 ]

pub put_at_beside : {A : Type 0} (f : ℕ → ℕ → A) (s p : ℕ) (x : A) (i j : ℕ) → j ≢ p → put_at f s p x i j ≡ f i j
put_at_beside f s p x i j ne = elim (put_at_cases f s p x i j) [ inl c ↦ absurd (ne c.1) | inr c ↦ c.1 ]

pub put_at_itself : {A : Type 0} (f : ℕ → ℕ → A) (s p j : ℕ) → put_at f s p (f s p) s j ≡ f s j
put_at_itself f s p j = elim (put_at_cases f s p (f s p) s j) [ inl c ↦ c.2 ∙ ap (f s) (sym c.1) | inr c ↦ c.1 ]

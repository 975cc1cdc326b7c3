-- What stands at a place of a list, and what is found first.
use Rattle.law_state.proofs.Imports.{[], ◌&&◌, ◌++◌, ◌+◌, ◌<◌, ◌∙◌, ◌∷◌, ◌≡◌, ◌≢◌, ◌⊎◌, Bool, In, List, None, Some, ap, arith, by_bool, cond, drop, false}
use Rattle.law_state.proofs.Imports.{filter, find, inl, inr, length, map, nat_eq, none_some, number_itself, option_map, pointwise, refl, replicate, same_some}
use Rattle.law_state.proofs.Imports.{slice_get, slice_set, subst, suc, sym, true, zero, ℕ}

pub get_prefix : {A : Type 0} (xs ys : List A) (i : ℕ) (x : A) → slice_get xs i ≡ Some x → slice_get (xs ++ ys) i ≡ Some x
get_prefix [] ys i x e = none_some refl e
get_prefix (y ∷ xs) ys zero x e = e
get_prefix (y ∷ xs) ys (suc i) x e = get_prefix xs ys i x e

pub get_last : {A : Type 0} (xs : List A) (y : A) (i : ℕ) (x : A) → slice_get (xs ++ y ∷ []) i ≡ Some x
    → (slice_get xs i ≡ Some x) ⊎ ((i ≡ length xs) × (x ≡ y))
get_last [] y zero x e = inr (refl, sym (same_some e))
get_last [] y (suc i) x e = none_some refl e
get_last (z ∷ xs) y zero x e = inl e
get_last (z ∷ xs) y (suc i) x e = elim (get_last xs y i x e) [ inl h ↦ inl h | inr h ↦ inr (ap suc h.0, h.1) ]

pub get_within : {A : Type 0} (xs : List A) (i : ℕ) → i < length xs → (x : A) × (slice_get xs i ≡ Some x)
get_within [] i lt = absurd (omega arith)
get_within (x ∷ xs) zero lt = (x, refl)
get_within (x ∷ xs) (suc i) lt = get_within xs i (omega arith)

pub get_in : {A : Type 0} (xs : List A) (x : A) → In x xs → (i : ℕ) × (slice_get xs i ≡ Some x)
unfolding In
get_in [] x h = absurd h
get_in (y ∷ xs) x (inl e) = (zero, ap Some (sym e))
get_in (y ∷ xs) x (inr h) = let found = get_in xs x h in (suc found.0, found.1)

pub in_get : {A : Type 0} (xs : List A) (i : ℕ) (x : A) → slice_get xs i ≡ Some x → In x xs
unfolding In
in_get [] i x e = none_some refl e
in_get (y ∷ xs) zero x e = inl (sym (same_some e))
in_get (y ∷ xs) (suc i) x e = inr (in_get xs i x e)

pub find_here : {A : Type 0} (p : A → Bool) (xs : List A) (i : ℕ) (x : A) → slice_get xs i ≡ Some x → p x ≡ true
    → ((j : ℕ) (y : A) → slice_get xs j ≡ Some y → p y ≡ true → j ≡ i) → find p xs ≡ Some x
find_here p [] i x e t only = none_some refl e
find_here p (y ∷ xs) zero x e t only =
    let same : y ≡ x = same_some e in
    (λ k. cond (p (same k)) (Some (same k)) (find p xs)) ∙ ap (λ b. cond b (Some x) (find p xs)) t
find_here p (y ∷ xs) (suc i) x e t only =
    by_bool (p y) (λ is. let z : 0 ≡ suc i = only 0 y refl is in absurd (omega arith))
    (λ no. ap (λ b. cond b (Some y) (find p xs)) no
    ∙ find_here p xs i x e t (λ j z g h. let s : suc j ≡ suc i = only (suc j) z g h in omega arith))

pub find_none : {A : Type 0} (p : A → Bool) (xs : List A) → ((j : ℕ) (y : A) → slice_get xs j ≡ Some y → p y ≡ false) → find p xs ≡ None
find_none p [] none = refl
find_none p (y ∷ xs) none = ap (λ b. cond b (Some y) (find p xs)) (none 0 y refl) ∙ find_none p xs (λ j. none (suc j))

pub none_find : {A : Type 0} (p : A → Bool) (xs : List A) (i : ℕ) (x : A) → find p xs ≡ None → slice_get xs i ≡ Some x → p x ≡ false
none_find p [] i x none e = none_some refl e
none_find p (y ∷ xs) zero x none e = by_bool (p y)
    (λ is. none_some none (ap (λ b. cond b (Some y) (find p xs)) is))
    (λ no. subst (λ z. p z ≡ false) (same_some e) no)
none_find p (y ∷ xs) (suc i) x none e = by_bool (p y)
    (λ is. none_some none (ap (λ b. cond b (Some y) (find p xs)) is))
    (λ no. none_find p xs i x (sym (ap (λ b. cond b (Some y) (find p xs)) no) ∙ none) e)

pub found_at : {A : Type 0} (p : A → Bool) (xs : List A) (x : A) → find p xs ≡ Some x → (i : ℕ) × (slice_get xs i ≡ Some x) × (p x ≡ true)
found_at p [] x e = none_some refl e
found_at {A} p (y ∷ ys) x e = by_bool (p y)
    (λ is. let same : y ≡ x = same_some (sym (ap (λ b. cond b (Some y) (find p ys)) is) ∙ e) in (zero, ap Some same, subst (λ z. p z ≡ true) same is))
    (λ no. let l = found_at p ys x (sym (ap (λ b. cond b (Some y) (find p ys)) no) ∙ e) in (suc l.0, l.1, l.2))

pub find_prefix : {A : Type 0} (p : A → Bool) (xs ys : List A) (x : A) → find p xs ≡ Some x → find p (xs ++ ys) ≡ Some x
find_prefix p [] ys x e = none_some refl e
find_prefix p (y ∷ xs) ys x e = by_bool (p y)
    (λ is. ap (λ b. cond b (Some y) (find p (xs ++ ys))) is ∙ sym (ap (λ b. cond b (Some y) (find p xs)) is) ∙ e)
    (λ no. ap (λ b. cond b (Some y) (find p (xs ++ ys))) no ∙ find_prefix p xs ys x (sym (ap (λ b. cond b (Some y) (find p xs)) no) ∙ e))

pub find_after : {A : Type 0} (p : A → Bool) (xs ys : List A) → find p xs ≡ None → find p (xs ++ ys) ≡ find p ys
find_after p [] ys e = refl
find_after p (y ∷ xs) ys e = by_bool (p y)
    (λ is. none_some e (ap (λ b. cond b (Some y) (find p xs)) is))
    (λ no. ap (λ b. cond b (Some y) (find p (xs ++ ys))) no ∙ find_after p xs ys (sym (ap (λ b. cond b (Some y) (find p xs)) no) ∙ e))

pub find_map : {A B : Type 0} (p : B → Bool) (q : A → Bool) (f : A → B) (xs : List A) → ((x : A) → p (f x) ≡ q x) → find p (map f xs) ≡ option_map f (find q xs)
find_map p q f [] same = refl
find_map p q f (x ∷ xs) same = by_bool (q x)
    (λ is. ap (λ b. cond b (Some (f x)) (find p (map f xs))) (same x ∙ is) ∙ sym (ap (λ b. option_map f (cond b (Some x) (find q xs))) is))
    (λ no. ap (λ b. cond b (Some (f x)) (find p (map f xs))) (same x ∙ no) ∙ find_map p q f xs same
    ∙ sym (ap (λ b. option_map f (cond b (Some x) (find q xs))) no))

pub get_set_here : {A : Type 0} (xs : List A) (i : ℕ) (x : A) → i < length xs → slice_get (slice_set xs i x) i ≡ Some x
get_set_here [] i x lt = absurd (omega arith)
get_set_here (y ∷ xs) zero x lt = refl
get_set_here (y ∷ xs) (suc i) x lt = get_set_here xs i x (omega arith)

pub get_set_beside : {A : Type 0} (xs : List A) (i j : ℕ) (x : A) → j ≢ i → slice_get (slice_set xs i x) j ≡ slice_get xs j
get_set_beside [] i j x ne = refl
get_set_beside (y ∷ xs) zero zero x ne = absurd (ne refl)
get_set_beside (y ∷ xs) zero (suc j) x ne = refl
get_set_beside (y ∷ xs) (suc i) zero x ne = refl
get_set_beside (y ∷ xs) (suc i) (suc j) x ne = get_set_beside xs i j x (λ e. ne (ap suc e))

pub get_replicate : {A : Type 0} (n i : ℕ) (x : A) → i < n → slice_get (replicate n x) i ≡ Some x
get_replicate zero i x lt = absurd (omega arith)
get_replicate (suc n) zero x lt = refl
get_replicate (suc n) (suc i) x lt = get_replicate n i x (omega arith)

pub text_itself : (xs : List ℕ) → pointwise nat_eq xs xs ≡ true
text_itself [] = refl
text_itself (x ∷ xs) = ap (λ b. b && pointwise nat_eq xs xs) (number_itself x) ∙ text_itself xs

pub get_drop : {A : Type 0} (n : ℕ) (xs : List A) (i : ℕ) (x : A) → slice_get (drop n xs) i ≡ Some x → slice_get xs (n + i) ≡ Some x
get_drop zero xs i x e = subst (λ k. slice_get xs k ≡ Some x) (let f : i ≡ 0 + i = omega arith in f) e
get_drop (suc n) [] i x e = none_some refl e
get_drop (suc n) (y ∷ xs) i x e =
    subst (λ k. slice_get (y ∷ xs) k ≡ Some x) (let f : suc (n + i) ≡ suc n + i = omega arith in f) (get_drop n xs i x e)

pub in_filter : {A : Type 0} (q : A → Bool) (xs : List A) (x : A) → In x (filter q xs) → In x xs × (q x ≡ true)
unfolding In
in_filter q [] x h = absurd h
in_filter {A} q (y ∷ xs) x h = by_bool (q y)
    (λ t. elim (subst (λ b. In x (cond b (y ∷ filter q xs) (filter q xs))) t h) [
      | inl e ↦ (inl e, ap q e ∙ t)
      | inr old ↦ (let k = in_filter q xs x old in (inr k.0, k.1))
    ])
    (λ f. let k = in_filter q xs x (subst (λ b. In x (cond b (y ∷ filter q xs) (filter q xs))) f h) in (inr k.0, k.1))

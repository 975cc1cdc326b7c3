-- What stands in lists that are made of others, and in tables.
use Rattle.law_run.proofs.Imports.{[], ◌++◌, ◌+◌, ◌<◌, ◌∙◌, ◌∷◌, ◌≡◌, ◌≤◌, Bool, Equal, In, List, None, Option, Ordering, Some, Table, ap, arith, at}
use Rattle.law_run.proofs.Imports.{at_apart, at_same, cond, cons_option, false, filter_map, flat_map, fold, in_mapped, inl, inr, is_eq, lookup, map, nat_cmp}
use Rattle.law_run.proofs.Imports.{none_some, put, range_with_len, ranked, refl, same_or_apart, subst, suc, sym, tied, true, zero, ℕ}
use Rattle.std.specs.BTreeMap.{is_at}
use Rattle.std.specs.Prelude.{find}

pub into_range : (start n i : ℕ) → start ≤ i → i < start + n → In i (range_with_len start n)
unfolding In
into_range start zero i low high = absurd (omega arith)
into_range start (suc n) i low high = elim (same_or_apart i start) [ inl e ↦ inl e | inr ne ↦ inr (into_range (start + 1) n i (omega arith) (omega arith)) ]

pub all_empty : {A B : Type 0} (f : A → List B) (xs : List A) → ((x : A) → In x xs → f x ≡ []) → flat_map f xs ≡ []
unfolding In
all_empty f [] h = refl
all_empty f (x ∷ xs) h = ap (λ ys. ys ++ flat_map f xs) (h x (inl refl)) ∙ all_empty f xs (λ y i. h y (inr i))

pub into_filter_map : {A B : Type 0} (f : A → Option B) (xs : List A) (x : A) (y : B) → In x xs → f x ≡ Some y → In y (filter_map f xs)
unfolding In
into_filter_map f [] x y h e = absurd h
into_filter_map f (z ∷ zs) x y (inl is) e = subst (λ o. In y (cons_option o (filter_map f zs))) (sym (ap f (sym is) ∙ e)) (inl refl)
into_filter_map {B = B} f (z ∷ zs) x y (inr h) e =
    let later = into_filter_map f zs x y h e in
    elim (f z) as (λ o. In y (cons_option o (filter_map f zs))) [ None ↦ later | Some v ↦ inr later ]

pub of_filter_map : {A B : Type 0} (f : A → Option B) (xs : List A) (y : B) → In y (filter_map f xs) → (x : A) × (f x ≡ Some y)
unfolding In
of_filter_map f [] y h = absurd h
of_filter_map {A} {B} f (z ∷ zs) y h =
    elim (f z) as (λ o. f z ≡ o → (In y (filter_map f zs) → (x : A) × (f x ≡ Some y)) → In y (cons_option o (filter_map f zs)) → (x : A) × (f x ≡ Some y)) [
      | None ↦ λ is later i. later i
      | Some v ↦ λ is later i. elim i [ inl e ↦ (z, is ∙ ap Some (sym e)) | inr j ↦ later j ]
    ] refl (of_filter_map f zs y) h

-- where one passes, the first that passes is found
pub found_one : {A : Type 0} (p : A → Bool) (xs : List A) (x : A) → In x xs → p x ≡ true → (y : A) × (find p xs ≡ Some y) × In y xs × (p y ≡ true)
unfolding In
found_one p [] x h e = absurd h
found_one {A} p (z ∷ zs) x h e =
    elim (p z) as (λ b. p z ≡ b → (In x zs → (y : A) × (find p zs ≡ Some y) × In y zs × (p y ≡ true))
    → (y : A) × (cond b (Some z) (find p zs) ≡ Some y) × In y (z ∷ zs) × (p y ≡ true)) [
      | true ↦ λ is later. (z, refl, inl refl, is)
      | false ↦ λ is later. elim h [
        | inl same ↦ absurd (let f : true ≡ false = sym (ap p (sym same) ∙ e) ∙ is in cc)
        | inr i ↦ let l = later i in (l.0, l.1, inr l.2, l.3)
      ]
    ] refl (λ i. found_one p zs x i e)

-- what stands at a key is a row
pub row_at : {K X : Type 0} (R : K → K → Ordering) (t : Table K X) (k : K) (x : X) → at R t k ≡ Some x → (row : K × X) × In row t × (R k row.0 ≡ Equal)
unfolding at In
row_at R [] k x e = none_some refl e
row_at {K} {X} R (e ∷ es) k x h =
    elim (is_eq (R k e.0)) as (λ b. is_eq (R k e.0) ≡ b → (lookup (is_at (R k)) es ≡ Some x → (row : K × X) × In row es × (R k row.0 ≡ Equal))
    → cond b (Some e.1) (lookup (is_at (R k)) es) ≡ Some x → (row : K × X) × In row (e ∷ es) × (R k row.0 ≡ Equal)) [
      | true ↦ λ is later i. (e, inl refl, tied _ is)
      | false ↦ λ is later i. let l = later i in (l.0, inr l.1, l.2)
    ] refl (row_at R es k x) h

pub key_at : {X : Type 0} (t : Table ℕ X) (k : ℕ) (x : X) → at nat_cmp t k ≡ Some x → In k (map (λ row. row.0) t)
key_at t k x e =
    let r = row_at nat_cmp t k x e in
    subst (λ i. In i (map (λ row. row.0) t)) (sym (ranked k r.0.0 Equal (sym r.2))) (in_mapped (λ row. row.0) t r.0 r.1)

-- the keys of a table that numbers were put into
kept_key : (bs : List ℕ) (t : Table ℕ ℕ) (b : ℕ) → at nat_cmp t b ≡ Some b → at nat_cmp (fold (λ (t : Table ℕ ℕ) b. put nat_cmp t b b) t bs) b ≡ Some b
kept_key [] t b e = e
kept_key (x ∷ xs) t b e = kept_key xs (put nat_cmp t x x) b (elim (same_or_apart b x) [
  | inl is ↦ subst (λ i. at nat_cmp (put nat_cmp t x x) i ≡ Some i) (sym is) (at_same t x x)
  | inr ne ↦ at_apart t x x b ne ∙ e
])

pub put_key : (bs : List ℕ) (t : Table ℕ ℕ) (b : ℕ) → In b bs → at nat_cmp (fold (λ (t : Table ℕ ℕ) b. put nat_cmp t b b) t bs) b ≡ Some b
unfolding In
put_key [] t b h = absurd h
put_key (x ∷ xs) t b (inl e) = kept_key xs (put nat_cmp t x x) b (subst (λ i. at nat_cmp (put nat_cmp t x x) i ≡ Some i) (sym e) (at_same t x x))
put_key (x ∷ xs) t b (inr h) = put_key xs (put nat_cmp t x x) b h

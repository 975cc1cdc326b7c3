-- Rows of a table that was made by puts: each row is what stands at its key.
use Rattle.law_steps.proofs.Imports.{[], ◌∙◌, ◌∷◌, ◌≡◌, ◌⊎◌, Bool, Equal, Greater, In, IsTotalOrder, Less, Ordering, Some, Table, ap, at, cond, false, filter}
use Rattle.law_steps.proofs.Imports.{in_filter, inl, inr, insert_entry, is_at, is_eq, lookup, match_ordering, not, ordering_reverse, put, refl, subst, sym}
use Rattle.law_steps.proofs.Imports.{tied_itself, true, without}
use Rattle.law_steps.specs.Ready.{IsRising}

-- a row of this key stands in the table
abbrev HasKey : {K X : Type 0} → Table K X → K → Type 0
HasKey {K} {X} t k = (x : X) × In (k, x) t

key_later : {K X : Type 0} (e : K × X) (t : Table K X) (k : K) → HasKey t k → HasKey (e ∷ t) k
unfolding In
key_later e t k h = (h.0, inr h.1)

key_first : {K X : Type 0} (e row : K × X) (t : Table K X) → row ≡ e → HasKey (e ∷ t) row.0
unfolding In
key_first e row t h = (row.1, inl h)

keys_put : {K X : Type 0} (R : K → K → Ordering) (t : Table K X) (k : K) (x : X) (row : K × X) → In row (insert_entry R t k x) → (row.0 ≡ k) ⊎ HasKey t row.0
unfolding In
keys_put R [] k x row (inl e) = inl (ap (λ r. r.0) e)
keys_put R [] k x row (inr h) = absurd h
keys_put {K} {X} R (e ∷ es) k x row h =
    elim (R k e.0) as (λ o. In row (match_ordering o ((k, x) ∷ e ∷ es) ((e.0, x) ∷ es) (e ∷ insert_entry R es k x))
    → (In row (insert_entry R es k x) → (row.0 ≡ k) ⊎ HasKey es row.0) → (row.0 ≡ k) ⊎ HasKey (e ∷ es) row.0) [
      | Less ↦ λ i ih. less i
      | Equal ↦ λ i ih. equal i
      | Greater ↦ λ i ih. greater i ih
    ] h (keys_put R es k x row)
  where
    less : In row ((k, x) ∷ e ∷ es) → (row.0 ≡ k) ⊎ HasKey (e ∷ es) row.0
    less (inl f) = inl (ap (λ r. r.0) f)
    less (inr i) = inr (row.1, i)

    equal : In row ((e.0, x) ∷ es) → (row.0 ≡ k) ⊎ HasKey (e ∷ es) row.0
    equal (inl f) = inr (subst (λ (q : K). HasKey (e ∷ es) q) (sym (ap (λ r. r.0) f)) (key_first e e es refl))
    equal (inr i) = inr (row.1, inr i)

    greater : In row (e ∷ insert_entry R es k x) → (In row (insert_entry R es k x) → (row.0 ≡ k) ⊎ HasKey es row.0) → (row.0 ≡ k) ⊎ HasKey (e ∷ es) row.0
    greater (inl f) ih = inr (key_first e row es f)
    greater (inr i) ih = elim (ih i) [ inl f ↦ inl f | inr g ↦ inr (key_later e es row.0 g) ]

greater_less : {K : Type 0} {R : K → K → Ordering} → IsTotalOrder R → (a b : K) → R a b ≡ Greater → R b a ≡ Less
greater_less o a b e = o.antisymm b a ∙ ap ordering_reverse e

less_greater : {K : Type 0} {R : K → K → Ordering} → IsTotalOrder R → (a b : K) → R a b ≡ Less → R b a ≡ Greater
less_greater o a b e = o.antisymm b a ∙ ap ordering_reverse e

pub rising_put : {K X : Type 0} {R : K → K → Ordering} → IsTotalOrder R → (t : Table K X) (k : K) (x : X) → IsRising R t → IsRising R (insert_entry R t k x)
unfolding In
rising_put o [] k x h = ((λ other i. absurd i), tt)
rising_put {K} {X} {R} o (e ∷ es) k x h =
    let later = rising_put o es k x h.1 in
    elim (R k e.0) as (λ r. R k e.0 ≡ r → IsRising R (match_ordering r ((k, x) ∷ e ∷ es) ((e.0, x) ∷ es) (e ∷ insert_entry R es k x))) [
      | Less ↦ λ is. ((λ other i. elim i [ inl f ↦ subst (λ (r : K × X). R k r.0 ≡ Less) (sym f) is | inr j ↦ o.trans k e.0 other.0 is (h.0 other j) ]), h)
      | Equal ↦ λ is. (h.0, h.1)
      | Greater ↦ λ is. (
        (λ other i. elim (keys_put R es k x other i) [
          | inl f ↦ subst (λ (q : K). R e.0 q ≡ Less) (sym f) (greater_less o k e.0 is)
          | inr g ↦ h.0 (other.0, g.0) g.1
        ]),
        later,
      )
    ] refl

pub rising_filter : {K X : Type 0} (R : K → K → Ordering) (p : K × X → Bool) (t : Table K X) → IsRising R t → IsRising R (filter p t)
rising_filter R p [] h = tt
rising_filter R p (e ∷ es) h =
    let later = rising_filter R p es h.1 in
    elim (p e) as (λ b. IsRising R (cond b (e ∷ filter p es) (filter p es))) [
      | true ↦ ((λ other i. h.0 other (in_filter p es other i).0), later)
      | false ↦ later
    ]

pub put_rises : {K X : Type 0} {R : K → K → Ordering} → IsTotalOrder R → (t : Table K X) (k : K) (x : X) → IsRising R t → IsRising R (put R t k x)
unfolding put
put_rises o t k x h = rising_put o t k x h

pub without_rises : {K X : Type 0} (R : K → K → Ordering) (t : Table K X) (k : K) → IsRising R t → IsRising R (without R t k)
unfolding without
without_rises R t k h = rising_filter R _ t h

-- what was put at a key goes with what stood there
insert_gone : {K X : Type 0} {R : K → K → Ordering} → IsTotalOrder R → (t : Table K X) (k : K) (x : X)
    → filter (λ row. not (is_at (R k) row.0)) (insert_entry R t k x) ≡ filter (λ row. not (is_at (R k) row.0)) t
insert_gone {R = R} o [] k x = ap (λ r. cond (not (is_eq r)) ((k, x) ∷ []) []) (tied_itself o k)
insert_gone {K} {X} {R} o (e ∷ es) k x =
    elim (R k e.0) as (λ r. R k e.0 ≡ r → left (match_ordering r ((k, x) ∷ e ∷ es) ((e.0, x) ∷ es) (e ∷ insert_entry R es k x))
    ≡ cond (not (is_eq r)) (e ∷ left es) (left es)) [
      | Less ↦ λ is. at_key (k, x) (e ∷ es) (tied_itself o k) ∙ ap (λ r. cond (not (is_eq r)) (e ∷ left es) (left es)) is
      | Equal ↦ λ is. at_key (e.0, x) es is
      | Greater ↦ λ is.
          let more = insert_entry R es k x in
          ap (λ r. cond (not (is_eq r)) (e ∷ left more) (left more)) is ∙ ap (λ rows. e ∷ rows) (insert_gone o es k x)
    ] refl
  where
    left : Table K X → Table K X
    left t = filter (λ row. not (is_at (R k) row.0)) t

    at_key : (row : K × X) (rows : Table K X) → R k row.0 ≡ Equal → left (row ∷ rows) ≡ left rows
    at_key row rows is = ap (λ r. cond (not (is_eq r)) (row ∷ left rows) (left rows)) is

pub without_put : {K X : Type 0} {R : K → K → Ordering} → IsTotalOrder R → (t : Table K X) (k : K) (x : X) → without R (put R t k x) k ≡ without R t k
unfolding put without
without_put o t k x = insert_gone o t k x

-- a row is what stands at its key
pub at_row : {K X : Type 0} {R : K → K → Ordering} → IsTotalOrder R → (t : Table K X) (row : K × X) → IsRising R t → In row t → at R t row.0 ≡ Some row.1
unfolding In at
at_row o [] row h i = absurd i
at_row {K} {X} {R} o (e ∷ es) row h (inl f) =
    subst (λ (r : K × X). lookup (is_at (R r.0)) (e ∷ es) ≡ Some r.1) (sym f)
    (ap (λ r. cond (is_eq r) (Some e.1) (lookup (is_at (R e.0)) es)) (tied_itself o e.0))
at_row {R = R} o (e ∷ es) row h (inr i) =
    ap (λ r. cond (is_eq r) (Some e.1) (lookup (is_at (R row.0)) es)) (less_greater o e.0 row.0 (h.0 row i)) ∙ at_row o es row h.1 i

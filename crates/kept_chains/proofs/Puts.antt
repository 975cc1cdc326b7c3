-- Tables after two changes.
use Rattle.std.proofs.Common.{◌≡◌, ◌≢◌, inl, inr, Bool, true, false, not, cond, T, [], ◌∷◌, Option, Some, None, refl, sym, subst, ap, ◌∙◌}
use Rattle.std.proofs.lemmas.Bool.{cases_Bool}
use Rattle.std.specs.Prelude.{filter}
use Rattle.std.specs.declared.cmp.Ordering.{Ordering}
use Rattle.std.specs.declared.cmp.Ordering.TheVariants.{Less, Equal, Greater}
use Rattle.std.specs.Ordering.{is_eq, eq_by_cmp, match_ordering}
use Rattle.std.specs.Cmp.{IsTotalOrder, tied_itself}
use Rattle.std.specs.List.{AllByRecursion}
use Rattle.std.specs.List.Sorted.{IsStrictlySortedBy}
use Rattle.std.specs.BTreeMap.{insert_entry, is_at}
use Rattle.std.specs.Map.{lookup, keys_of}
use Rattle.std.specs.FinMap.Entries as rows
use Rattle.petal_table.specs.Table.{Table, at, put, without}
use Rattle.petal_table.proofs.Rows.{at-put}

module _ {K X : Type 0} (R : K → K → Ordering) where
  -- the later of two puts at one key stays
  pub put_over : IsTotalOrder R → (t : Table K X) (k : K) (x y : X) → put R (put R t k x) k y ≡ put R t k y
  unfolding put
  put_over o [] k x y = ap (λ r. match_ordering r ((k, y) ∷ (k, x) ∷ []) ((k, y) ∷ []) ((k, x) ∷ (k, y) ∷ [])) (tied_itself o k)
  put_over o (e ∷ es) k x y =
      let rest = put_over o es k x y in
      elim (R k e.0) as (λ r. R k e.0 ≡ r → insert_entry R (match_ordering r ((k, x) ∷ e ∷ es) ((e.0, x) ∷ es) (e ∷ insert_entry R es k x)) k y
      ≡ match_ordering r ((k, y) ∷ e ∷ es) ((e.0, y) ∷ es) (e ∷ insert_entry R es k y)) [
        | Less ↦ λ is. ap (λ r. match_ordering r ((k, y) ∷ (k, x) ∷ e ∷ es) ((k, y) ∷ e ∷ es) ((k, x) ∷ insert_entry R (e ∷ es) k y)) (tied_itself o k)
        | Equal ↦ λ is. ap (λ r. match_ordering r ((k, y) ∷ (e.0, x) ∷ es) ((e.0, y) ∷ es) ((e.0, x) ∷ insert_entry R es k y)) is
        | Greater ↦ λ is. ap (λ r. match_ordering r ((k, y) ∷ e ∷ insert_entry R es k x) ((e.0, y) ∷ insert_entry R es k x)
            (e ∷ insert_entry R (insert_entry R es k x) k y)) is ∙ ap (λ more. e ∷ more) rest
      ] refl

  -- what is put and taken out again was never there
  pub without_put : IsTotalOrder R → (t : Table K X) (k : K) (x : X) → without R (put R t k x) k ≡ without R t k
  unfolding put without
  without_put o [] k x = ap (λ r. cond (not (is_eq r)) ((k, x) ∷ []) []) (tied_itself o k)
  without_put o (e ∷ es) k x =
      let left : Table K X → Table K X = filter (λ (row : K × X). not (is_at (R k) row.0)) in
      let rest = without_put o es k x in
      elim (R k e.0) as (λ r. R k e.0 ≡ r → filter (λ row. not (is_at (R k) row.0))
      (match_ordering r ((k, x) ∷ e ∷ es) ((e.0, x) ∷ es) (e ∷ insert_entry R es k x)) ≡ filter (λ row. not (is_at (R k) row.0)) (e ∷ es)) [
        | Less ↦ λ is. ap (λ r. cond (not (is_eq r)) ((k, x) ∷ left (e ∷ es)) (left (e ∷ es))) (tied_itself o k)
        | Equal ↦ λ is. ap (λ r. cond (not (is_eq r)) ((e.0, x) ∷ left es) (left es)) is ∙ sym (ap (λ r. cond (not (is_eq r)) (e ∷ left es) (left es)) is)
        | Greater ↦ λ is. ap (λ r. cond (not (is_eq r)) (e ∷ left (insert_entry R es k x)) (left (insert_entry R es k x))) is ∙ ap (λ more. e ∷ more) rest
            ∙ sym (ap (λ r. cond (not (is_eq r)) (e ∷ left es) (left es)) is)
      ] refl

  -- where nothing stands at a key, nothing is taken out
  pub without_none : (t : Table K X) (k : K) → at R t k ≡ None → without R t k ≡ t
  unfolding at without
  without_none [] k none = refl
  without_none (e ∷ es) k none =
      let rest = without_none es k in
      elim (is_eq (R k e.0)) as (λ b. cond b (Some e.1) (lookup (is_at (R k)) es) ≡ None
      → cond (not b) (e ∷ filter (λ row. not (is_at (R k) row.0)) es) (filter (λ row. not (is_at (R k) row.0)) es) ≡ e ∷ es) [
        | true ↦ λ found. absurd (cc)
        | false ↦ λ found. ap (λ more. e ∷ more) (rest found)
      ] none

  pub without_new : IsTotalOrder R → (t : Table K X) (k : K) (x : X) → at R t k ≡ None → without R (put R t k x) k ≡ t
  without_new o t k x none = without_put o t k x ∙ without_none t k none

  -- a key before the first row is at none
  none_before : IsTotalOrder R → (k e : K) → R k e ≡ Less → (es : Table K X) → AllByRecursion (λ y. R e y ≡ Less) (keys_of es) → lookup (is_at (R k)) es ≡ None
  none_before o k e less [] h = refl
  none_before o k e less (d ∷ es) h =
      ap (λ r. cond (is_eq r) (Some d.1) (lookup (is_at (R k)) es)) (o.trans k e d.0 less h.0) ∙ none_before o k e less es h.1

  same_value : (x y : X) → Some x ≡ Some y → x ≡ y
  same_value x y e = cc

  -- to put what stands there changes nothing
  pub put_same : IsTotalOrder R → (t : Table K X) (k : K) (x : X) → IsStrictlySortedBy R (keys_of t) → at R t k ≡ Some x → put R t k x ≡ t
  unfolding at put IsStrictlySortedBy
  put_same o [] k x sorted is = absurd (cc)
  put_same o (e ∷ es) k x sorted is =
      let rest = put_same o es k x sorted.1 in
      elim (R k e.0) as (λ r. R k e.0 ≡ r → cond (is_eq r) (Some e.1) (lookup (is_at (R k)) es) ≡ Some x
      → match_ordering r ((k, x) ∷ e ∷ es) ((e.0, x) ∷ es) (e ∷ insert_entry R es k x) ≡ e ∷ es) [
        | Less ↦ λ less found. absurd (let none = none_before o k e.0 less es sorted.0 in let h = sym none ∙ found in cc)
        | Equal ↦ λ same found. ap (λ v. (e.0, v) ∷ es) (sym (same_value e.1 x found))
        | Greater ↦ λ more found. ap (λ rows. e ∷ rows) (rest found)
      ] refl is

pub tied : (r : Ordering) → is_eq r ≡ true → r ≡ Equal
tied Less e = cc
tied Equal e = refl
tied Greater e = cc

-- the rows rise by key
abbrev pub IsSorted : {K X : Type 0} → (K → K → Ordering) → Table K X → Type 0
IsSorted R t = T (rows.is_sorted R t)

module _ {K X : Type 0} (R : K → K → Ordering) where
  insert_is_put : (t : Table K X) (k : K) (x : X) → insert_entry R t k x ≡ rows.put R k x t
  insert_is_put [] k x = refl
  insert_is_put (e ∷ es) k x =
      let later = insert_is_put es k x in
      elim (R k e.0) as (λ o. match_ordering o ((k, x) ∷ e ∷ es) ((e.0, x) ∷ es) (e ∷ insert_entry R es k x)
      ≡ rows.by_order o ((k, x) ∷ e ∷ es) ((e.0, x) ∷ es) (e ∷ rows.put R k x es)) [
        | Less ↦ refl
        | Equal ↦ refl
        | Greater ↦ ap (λ more. e ∷ more) later
      ]

  pub sorted_put : IsTotalOrder R → (t : Table K X) (k : K) (x : X) → IsSorted R t → IsSorted R (put R t k x)
  unfolding put
  sorted_put o t k x h = subst (IsSorted R) (sym (insert_is_put t k x)) (rows.is_sorted-put R o k x t h)

  pub at_is_find : (q : K) (t : Table K X) → rows.find R q t ≡ at R t q
  unfolding at
  at_is_find q [] = refl
  at_is_find q (e ∷ es) = ap (cond (is_eq (R q e.0)) (Some e.1)) (at_is_find q es)

  -- to put what stands there changes nothing
  pub put_stays : IsTotalOrder R → ((a b : K) → R a b ≡ Equal → a ≡ b) → (t : Table K X) (k : K) (x : X) → IsSorted R t → at R t k ≡ Some x
      → put R t k x ≡ t
  put_stays o same t k x h is =
      rows.same_entries R o same (put R t k x) t (sorted_put o t k x h) h
      (λ q. at_is_find q _ ∙ at-put o t k x q ∙ there q ∙ sym (at_is_find q t))
    where
      there : (q : K) → cond (eq_by_cmp R q k) (Some x) (at R t q) ≡ at R t q
      there q = elim (cases_Bool (eq_by_cmp R q k)) [
        | inl tie ↦ rw tie (sym (ap (at R t) (same q k (tied _ tie)) ∙ is))
        | inr apart ↦ rw apart refl
      ]

  swapped : (a b : Bool) (x y z : Option X) → (a ≡ true → b ≡ true → ⊥) → cond a x (cond b y z) ≡ cond b y (cond a x z)
  swapped true true x y z apart = absurd (apart refl refl)
  swapped true false x y z apart = refl
  swapped false b x y z apart = refl

  -- puts at two keys may come in either order
  pub put_swap : IsTotalOrder R → ((a b : K) → R a b ≡ Equal → a ≡ b) → (t : Table K X) (k j : K) (x y : X) → k ≢ j → IsSorted R t
      → put R (put R t k x) j y ≡ put R (put R t j y) k x
  put_swap o same t k j x y apart h =
      rows.same_entries R o same (put R (put R t k x) j y) (put R (put R t j y) k x) (sorted_put o _ j y (sorted_put o t k x h))
      (sorted_put o _ k x (sorted_put o t j y h))
      (λ q. at_is_find q _ ∙ at-put o _ j y q ∙ ap (cond (eq_by_cmp R q j) (Some y)) (at-put o t k x q)
      ∙ swapped (eq_by_cmp R q j) (eq_by_cmp R q k) (Some y) (Some x) (at R t q) (λ a b. apart (sym (same q k (tied _ b)) ∙ same q j (tied _ a)))
      ∙ sym (ap (cond (eq_by_cmp R q k) (Some x)) (at-put o t j y q)) ∙ sym (at-put o _ k x q) ∙ sym (at_is_find q _))

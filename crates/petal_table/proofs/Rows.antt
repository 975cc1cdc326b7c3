-- What stands in a table after a change.
use Rattle.std.proofs.Common.{◌≡◌, ◌≢◌, ℕ, [], ◌∷◌, Bool, true, false, not, cond, Some, None, refl, sym, ap, ◌∙◌, arith}
use Rattle.std.proofs.lemmas.Bool.Decides.{nat_tests}
use Rattle.std.specs.Prelude.{filter}
use Rattle.std.specs.declared.cmp.Ordering.{Ordering}
use Rattle.std.specs.declared.cmp.Ordering.TheVariants.{Less, Equal, Greater}
use Rattle.std.specs.Ordering.{nat_cmp, is_eq, eq_by_cmp, match_ordering}
use Rattle.std.specs.Cmp.{IsTotalOrder, nat_cmp_total, alike_right}
use Rattle.std.specs.List.{AllByRecursion}
use Rattle.std.specs.List.Sorted.{IsStrictlySortedBy}
use Rattle.std.specs.BTreeMap.{insert_entry, is_at}
use Rattle.std.specs.Map.{lookup, remove_entry, keys_of}
use Rattle.std.specs.FinMap.Entries as rows
use Rattle.petal_table.specs.Table.{Table, at, put, without}

insert_is_put : {K X : Type 0} (R : K → K → Ordering) (t : Table K X) (k : K) (x : X) → insert_entry R t k x ≡ rows.put R k x t
insert_is_put R [] k x = refl
insert_is_put R (e ∷ es) k x =
    let later = insert_is_put R es k x in
    elim (R k e.0) as (λ o. match_ordering o ((k, x) ∷ e ∷ es) ((e.0, x) ∷ es) (e ∷ insert_entry R es k x)
    ≡ rows.by_order o ((k, x) ∷ e ∷ es) ((e.0, x) ∷ es) (e ∷ rows.put R k x es)) [
      | Less ↦ refl
      | Equal ↦ refl
      | Greater ↦ ap (λ more. e ∷ more) later
    ]

lookup_is_find : {K X : Type 0} (R : K → K → Ordering) (q : K) (t : Table K X) → lookup (is_at (R q)) t ≡ rows.find R q t
lookup_is_find R q [] = refl
lookup_is_find R q (e ∷ es) = ap (cond (is_eq (R q e.0)) (Some e.1)) (lookup_is_find R q es)

turned : {A : Type 0} (b : Bool) (x y : A) → cond (not b) x y ≡ cond b y x
turned true x y = refl
turned false x y = refl

-- what stands at a key after a put
pub at-put : {K X : Type 0} {R : K → K → Ordering} → IsTotalOrder R → (t : Table K X) (k : K) (x : X) (q : K)
    → at R (put R t k x) q ≡ cond (eq_by_cmp R q k) (Some x) (at R t q)
unfolding at put
at-put {R = R} o t k x q =
    ap (lookup (is_at (R q))) (insert_is_put R t k x) ∙ lookup_is_find R q (rows.put R k x t) ∙ rows.find-put R o q k x t
    ∙ ap (cond (eq_by_cmp R q k) (Some x)) (sym (lookup_is_find R q t))

pub at_same : {X : Type 0} (t : Table ℕ X) (k : ℕ) (x : X) → at nat_cmp (put nat_cmp t k x) k ≡ Some x
at_same t k x = let e = at-put nat_cmp_total t k x k in grind (arith, nat_tests, e)

pub at_apart : {X : Type 0} (t : Table ℕ X) (k : ℕ) (x : X) (q : ℕ) → q ≢ k → at nat_cmp (put nat_cmp t k x) q ≡ at nat_cmp t q
at_apart t k x q ne = let e = at-put nat_cmp_total t k x q in grind (arith, nat_tests, e)

-- the rows above a key's own are not at that key
none_above : {K X : Type 0} {R : K → K → Ordering} → IsTotalOrder R → (k e : K) → R k e ≡ Equal → (es : Table K X)
    → AllByRecursion (λ y. R e y ≡ Less) (keys_of es) → filter (λ row. not (is_at (R k) row.0)) es ≡ es
none_above o k e tie [] h = refl
none_above {R = R} o k e tie (d ∷ es) h =
    let less : R k d.0 ≡ Less = o.congr k e d.0 tie ∙ h.0 in
    ap (λ r. cond (not (is_eq r)) (d ∷ filter (λ row. not (is_at (R k) row.0)) es) (filter (λ row. not (is_at (R k) row.0)) es)) less
    ∙ ap (λ more. d ∷ more) (none_above o k e tie es h.1)

tied : (r : Ordering) → is_eq r ≡ true → r ≡ Equal
tied Less e = cc
tied Equal e = refl
tied Greater e = cc

-- to remove a row of a table is to leave out what is at its key
pub remove_is_without : {K X : Type 0} {R : K → K → Ordering} → IsTotalOrder R → (t : Table K X) (k : K) → IsStrictlySortedBy R (keys_of t)
    → remove_entry (is_at (R k)) t ≡ without R t k
unfolding without IsStrictlySortedBy
remove_is_without o [] k h = refl
remove_is_without {R = R} o (e ∷ es) k h =
    let rest = remove_is_without o es k h.1 in
    elim (is_eq (R k e.0)) as (λ b. is_eq (R k e.0) ≡ b → cond b es (e ∷ remove_entry (is_at (R k)) es)
    ≡ cond (not b) (e ∷ filter (λ row. not (is_at (R k) row.0)) es) (filter (λ row. not (is_at (R k) row.0)) es)) [
      | true ↦ λ is. sym (none_above o k e.0 (tied _ is) es h.0)
      | false ↦ λ is. ap (λ more. e ∷ more) rest
    ] refl

-- what stands at a key among the rows whose keys a test takes
pub at-where : {K X : Type 0} (R : K → K → Ordering) (t : Table K X) (test : K → Bool) (q : K) → ((k : K) → R q k ≡ Equal → test k ≡ test q)
    → at R (filter (λ row. test row.0) t) q ≡ cond (test q) (at R t q) None
unfolding at
at-where R t test q same =
    lookup_is_find R q _ ∙ rows.find-where_key R test q same t ∙ ap (λ found. cond (test q) found None) (sym (lookup_is_find R q t))

-- what stands at a key after a removal
pub at-without : {K X : Type 0} {R : K → K → Ordering} → IsTotalOrder R → (t : Table K X) (k q : K)
    → at R (without R t k) q ≡ cond (eq_by_cmp R k q) None (at R t q)
unfolding at without
at-without {R = R} o t k q =
    lookup_is_find R q _ ∙ rows.find-where_key R (λ x. not (is_eq (R k x))) q (λ x tie. ap (λ r. not (is_eq r)) (sym (alike_right o q x k tie))) t
    ∙ turned (is_eq (R k q)) (rows.find R q t) None ∙ ap (cond (is_eq (R k q)) None) (sym (lookup_is_find R q t))

pub gone_same : {X : Type 0} (t : Table ℕ X) (k : ℕ) → at nat_cmp (without nat_cmp t k) k ≡ None
gone_same t k = let e = at-without nat_cmp_total t k k in grind (arith, nat_tests, e)

pub gone_apart : {X : Type 0} (t : Table ℕ X) (k q : ℕ) → q ≢ k → at nat_cmp (without nat_cmp t k) q ≡ at nat_cmp t q
gone_apart t k q ne = let e = at-without nat_cmp_total t k q in grind (arith, nat_tests, e)

pub at-empty : {K X : Type 0} (R : K → K → Ordering) (q : K) → at {X = X} R [] q ≡ None
unfolding at
at-empty R q = refl

-- What changes of a table of pending operations keep.
use Rattle.std.proofs.Common.{ℕ, arith, ◌≡◌, Bool, true, false, cond, List, [], ◌∷◌, Option, Some, None, IfSome, refl, sym, ap, ◌∙◌}
use Rattle.std.specs.declared.cmp.Ordering.{Ordering}
use Rattle.std.specs.declared.cmp.Ordering.TheVariants.{Less, Equal, Greater}
use Rattle.std.specs.Ordering.{is_eq, eq_by_cmp, match_ordering}
use Rattle.std.specs.Cmp.{IsTotalOrder}
use Rattle.std.specs.List.{AllByRecursion}
use Rattle.std.specs.List.Sorted.{IsStrictlySortedBy}
use Rattle.std.specs.BTreeMap.{insert_entry, is_at}
use Rattle.std.specs.Map.{lookup, set_value, remove_entry, keys_of}
use Rattle.petal_base.specs.declared.cell.Cell.{Cell}
use Rattle.petal_msg.specs.declared.operation.Pending.{Pending}
use Rattle.petal_msg.specs.declared.operation.Stage.{Stage}
use Rattle.petal_table.specs.Table.{Table, at, put, without}
use Rattle.petal_table.proofs.Rows.{at-put, at-without, at-empty, remove_is_without}
use Rattle.spec_rules.specs.Store.{cell_cmp}
use Rattle.spec_rules.proofs.CellTables.{cell_cmp_total, cell_cmp_same}
use Rattle.pair_lock.specs.Pairs.{EachAtItsCell, at_stage, staged, at_version, versioned}

tied : (r : Ordering) → is_eq r ≡ true → r ≡ Equal
tied Less e = cc
tied Equal e = refl
tied Greater e = cc

pub kept_by_none : EachAtItsCell []
kept_by_none cell op is = absurd (let e = sym (at-empty cell_cmp cell) ∙ is in cc)

one_of : (b : Bool) (cell : Cell) (x op : Pending) (t : Table Cell Pending) → EachAtItsCell t → (b ≡ true → x.cell ≡ cell)
    → cond b (Some x) (at cell_cmp t cell) ≡ Some op → op.cell ≡ cell
one_of true cell x op t each same is = let e : x ≡ op = cc in ap (λ (p : Pending). p.cell) (sym e) ∙ same refl
one_of false cell x op t each same is = each cell op is

pub kept_by_put : (t : Table Cell Pending) (k : Cell) (x : Pending) → x.cell ≡ k → EachAtItsCell t → EachAtItsCell (put cell_cmp t k x)
kept_by_put t k x own each cell op is =
    one_of (eq_by_cmp cell_cmp cell k) cell x op t each (λ tie. own ∙ sym (cell_cmp_same cell k (tied _ tie))) (sym (at-put cell_cmp_total t k x cell) ∙ is)

not_gone : (b : Bool) (cell : Cell) (op : Pending) (t : Table Cell Pending) → EachAtItsCell t → cond b None (at cell_cmp t cell) ≡ Some op → op.cell ≡ cell
not_gone true cell op t each is = absurd (cc)
not_gone false cell op t each is = each cell op is

pub kept_by_without : (t : Table Cell Pending) (k : Cell) → EachAtItsCell t → EachAtItsCell (without cell_cmp t k)
kept_by_without t k each cell op is = not_gone (eq_by_cmp cell_cmp k cell) cell op t each (sym (at-without cell_cmp_total t k cell) ∙ is)

-- a key before the first row is at none
none_before : {K X : Type 0} {R : K → K → Ordering} → IsTotalOrder R → (k e : K) → R k e ≡ Less → (es : List (K × X))
    → AllByRecursion (λ y. R e y ≡ Less) (keys_of es) → lookup (is_at (R k)) es ≡ None
none_before o k e less [] h = refl
none_before {R = R} o k e less (d ∷ es) h =
    ap (λ r. cond (is_eq r) (Some d.1) (lookup (is_at (R k)) es)) (o.trans k e d.0 less h.0) ∙ none_before o k e less es h.1

-- where a row stands, to write its value is to put it
pub set_is_put : {K X : Type 0} {R : K → K → Ordering} → IsTotalOrder R → (t : Table K X) (k : K) (x w : X) → IsStrictlySortedBy R (keys_of t)
    → at R t k ≡ Some x → set_value (is_at (R k)) t w ≡ put R t k w
unfolding at put IsStrictlySortedBy
set_is_put o [] k x w sorted is = absurd (cc)
set_is_put {R = R} o (e ∷ es) k x w sorted is =
    let rest = set_is_put o es k x w sorted.1 in
    elim (R k e.0) as (λ r. R k e.0 ≡ r → cond (is_eq r) (Some e.1) (lookup (is_at (R k)) es) ≡ Some x
    → cond (is_eq r) ((e.0, w) ∷ es) (e ∷ set_value (is_at (R k)) es w) ≡ match_ordering r ((k, w) ∷ e ∷ es) ((e.0, w) ∷ es) (e ∷ insert_entry R es k w)) [
      | Less ↦ λ less found. absurd (let none = none_before o k e.0 less es sorted.0 in let h = sym none ∙ found in cc)
      | Equal ↦ λ same found. refl
      | Greater ↦ λ more found. ap (λ rows. e ∷ rows) (rest found)
    ] refl is

pub kept_by_remove : (t : Table Cell Pending) (k : Cell) → IsStrictlySortedBy cell_cmp (keys_of t) → EachAtItsCell t
    → EachAtItsCell (remove_entry (is_at (cell_cmp k)) t)
kept_by_remove t k sorted each = rw (remove_is_without cell_cmp_total t k sorted) (kept_by_without t k each)

pub kept_by_insert : (t : Table Cell Pending) (x : Pending) → EachAtItsCell t → EachAtItsCell (insert_entry cell_cmp t x.cell x)
unfolding put
kept_by_insert t x each = kept_by_put t x.cell x refl each

pub kept_by_set : (t : Table Cell Pending) (k : Cell) (x w : Pending) → IsStrictlySortedBy cell_cmp (keys_of t) → at cell_cmp t k ≡ Some x
    → w.cell ≡ x.cell → EachAtItsCell t → EachAtItsCell (set_value (is_at (cell_cmp k)) t w)
kept_by_set t k x w sorted is same each = rw (set_is_put cell_cmp_total t k x w sorted is) (kept_by_put t k w (same ∙ each k x is) each)

pub set_is_staged : (t : Table Cell Pending) (k : Cell) (x : Pending) (stage : Stage) → IsStrictlySortedBy cell_cmp (keys_of t) → at cell_cmp t k ≡ Some x
    → set_value (is_at (cell_cmp k)) t (at_stage x stage) ≡ staged t k stage (at cell_cmp t k)
set_is_staged t k x stage sorted is = set_is_put cell_cmp_total t k x (at_stage x stage) sorted is ∙ ap (staged t k stage) (sym is)

own_found : (t : Table Cell Pending) (k : Cell) (found : Option Pending) → EachAtItsCell t → at cell_cmp t k ≡ found → IfSome found (λ op. op.cell ≡ k)
own_found t k None each is = grind arith
own_found t k (Some op) each is = each k op is

-- what stands at a cell is of that cell
pub own_cell : (t : Table Cell Pending) (k : Cell) → EachAtItsCell t → IfSome (at cell_cmp t k) (λ op. op.cell ≡ k)
own_cell t k each = own_found t k (at cell_cmp t k) each refl

pub set_is_versioned : (t : Table Cell Pending) (k : Cell) (x : Pending) (version : ℕ) (stage : Stage) → IsStrictlySortedBy cell_cmp (keys_of t)
    → at cell_cmp t k ≡ Some x → set_value (is_at (cell_cmp k)) t (at_version x version stage) ≡ versioned t k version stage (at cell_cmp t k)
set_is_versioned t k x version stage sorted is = set_is_put cell_cmp_total t k x (at_version x version stage) sorted is
    ∙ ap (versioned t k version stage) (sym is)

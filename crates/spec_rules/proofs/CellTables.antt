-- What stands in a table of cells after a change.
use Rattle.std.proofs.Common.{◌≡◌, ◌≢◌, Bool, true, false, cond, Some, None, refl, sym, ap, ◌∙◌}
use Rattle.std.specs.declared.cmp.Ordering.{Ordering}
use Rattle.std.specs.declared.cmp.Ordering.TheVariants.{Less, Equal, Greater}
use Rattle.std.specs.Ordering.{nat_cmp, is_eq, eq_by_cmp, ordering_then}
use Rattle.std.specs.Cmp.{IsTotalOrder, nat_cmp_total, ranked, tied_itself}
use Rattle.std.proofs.lemmas.Cmp.{on_total, then_total}
use Rattle.petal_base.specs.declared.cell.Cell.{Cell}
use Rattle.petal_table.specs.Table.{Table, at, put, without}
use Rattle.petal_table.proofs.Rows.{at-put, at-without}
use Rattle.spec_rules.specs.Store.{cell_cmp}

pub cell_cmp_total : IsTotalOrder cell_cmp
cell_cmp_total = then_total (on_total (λ (c : Cell). c.map) nat_cmp_total) (on_total (λ (c : Cell). c.block) nat_cmp_total)

tied : (r : Ordering) → is_eq r ≡ true → r ≡ Equal
tied Less e = cc
tied Equal e = refl
tied Greater e = cc

both_tied : (r s : Ordering) → ordering_then r s ≡ Equal → (r ≡ Equal) × (s ≡ Equal)
both_tied Less s e = cc
both_tied Equal s e = (refl, e)
both_tied Greater s e = cc

-- cells that tie are one cell
pub cell_cmp_same : (a b : Cell) → cell_cmp a b ≡ Equal → a ≡ b
cell_cmp_same a b e =
    let both = both_tied (nat_cmp a.map b.map) (nat_cmp a.block b.block) e in
    let map = ranked a.map b.map Equal (sym both.0) in
    let block = ranked a.block b.block Equal (sym both.1) in
    λ i. record { map = map i; block = block i }

apart : (b : Bool) → (b ≡ true → ⊥) → b ≡ false
apart true h = absurd (h refl)
apart false h = refl

cell_itself : (c : Cell) → eq_by_cmp cell_cmp c c ≡ true
cell_itself c = ap is_eq (tied_itself cell_cmp_total c)

other_cell : (a b : Cell) → a ≢ b → eq_by_cmp cell_cmp a b ≡ false
other_cell a b ne = apart (eq_by_cmp cell_cmp a b) (λ e. ne (cell_cmp_same a b (tied (cell_cmp a b) e)))

pub cell_same : {X : Type 0} (t : Table Cell X) (c : Cell) (x : X) → at cell_cmp (put cell_cmp t c x) c ≡ Some x
cell_same t c x = at-put cell_cmp_total t c x c ∙ ap (λ b. cond b (Some x) (at cell_cmp t c)) (cell_itself c)

pub cell_apart : {X : Type 0} (t : Table Cell X) (c : Cell) (x : X) (q : Cell) → q ≢ c → at cell_cmp (put cell_cmp t c x) q ≡ at cell_cmp t q
cell_apart t c x q ne = at-put cell_cmp_total t c x q ∙ ap (λ b. cond b (Some x) (at cell_cmp t q)) (other_cell q c ne)

pub cell_gone : {X : Type 0} (t : Table Cell X) (c : Cell) → at cell_cmp (without cell_cmp t c) c ≡ None
cell_gone t c = at-without cell_cmp_total t c c ∙ ap (λ b. cond b None (at cell_cmp t c)) (cell_itself c)

pub cell_gone_apart : {X : Type 0} (t : Table Cell X) (c q : Cell) → q ≢ c → at cell_cmp (without cell_cmp t c) q ≡ at cell_cmp t q
cell_gone_apart t c q ne = at-without cell_cmp_total t c q ∙ ap (λ b. cond b None (at cell_cmp t q)) (other_cell c q (λ e. ne (sym e)))

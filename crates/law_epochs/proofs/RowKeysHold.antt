-- The key of each row of a table has something.
use Rattle.law_epochs.proofs.Imports.{[], ◌∙◌, ◌∷◌, ◌≡◌, Some, Table, ap, at, by_bool, cond, is_eq, lookup, nat_cmp, nat_cmp_total, none_some, refl}
use Rattle.law_epochs.proofs.Imports.{same_some, slice_get, subst, suc, tied_itself, zero, ℕ}
use Rattle.std.specs.BTreeMap.{is_at}

-- something stands at the key of each row
pub at_key : {X : Type 0} (t : Table ℕ X) (i : ℕ) (row : ℕ × X) → slice_get t i ≡ Some row → (x : X) × (at nat_cmp t row.0 ≡ Some x)
unfolding at
at_key [] i row is = none_some refl is
at_key {X} (e ∷ es) zero row is =
    let same : e ≡ row = same_some is in
    subst (λ (r : ℕ × X). (x : X) × (lookup (is_at (nat_cmp r.0)) (e ∷ es) ≡ Some x)) same
    (e.1, ap (λ r. cond (is_eq r) (Some e.1) (lookup (is_at (nat_cmp e.0)) es)) (tied_itself nat_cmp_total e.0))
at_key {X} (e ∷ es) (suc i) row is =
    let later = at_key es i row is in
    by_bool (is_eq (nat_cmp row.0 e.0))
    (λ here. (e.1, ap (λ b. cond b (Some e.1) (lookup (is_at (nat_cmp row.0)) es)) here))
    (λ following. (later.0, ap (λ b. cond b (Some e.1) (lookup (is_at (nat_cmp row.0)) es)) following ∙ later.1))

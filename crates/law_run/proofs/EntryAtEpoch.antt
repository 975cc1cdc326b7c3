-- Which entry of a chain that rises is that of an epoch: after a put, and where no entry is of a later epoch.
use Rattle.law_run.proofs.Imports.{[], ◌<◌, ◌∙◌, ◌∷◌, ◌≡◌, ◌≤◌, Bool, Chain, Equal, Greater, In, IsRising, Less, None, Option, Some, Stored, ap, arith, cond}
use Rattle.law_run.proofs.Imports.{entry_at, false, inl, inr, insert_entry, match_ordering, nat_cmp, nat_le, nat_tests, or_else, put, ranked, refl, sym, true}
use Rattle.law_run.proofs.Imports.{ℕ}

over : (a b : ℕ) → b < a → nat_le a b ≡ false
over a b lt = grind (arith, nat_tests, lt)

pub within : (a b : ℕ) → a ≤ b → nat_le a b ≡ true
within a b le = grind (arith, nat_tests, le)

-- the entry of an epoch, by the first row
abbrev pub first_so : Bool → Chain → (epoch : ℕ) → Stored → Option Stored
first_so b later epoch entry = cond b (Some (or_else (entry_at later epoch) entry)) None

-- where the rows are of later epochs there is none
none_yet : (chain : Chain) (epoch : ℕ) → ((row : ℕ × Stored) → In row chain → epoch < row.0) → entry_at chain epoch ≡ None
unfolding In
none_yet [] epoch h = refl
none_yet (row ∷ later) epoch h = ap (λ b. first_so b later epoch row.1) (over row.0 epoch (h row (inl refl)))

below : (a b : ℕ) → nat_cmp a b ≡ Less → a < b
below a b e = ranked a b Less (sym e)

-- an entry that is put is that of its epoch
pub entry_put : (chain : Chain) (epoch : ℕ) (entry : Stored) → IsRising nat_cmp chain → entry_at (put nat_cmp chain epoch entry) epoch ≡ Some entry
unfolding put
entry_put [] epoch entry rises = ap (λ b. first_so b [] epoch entry) (within epoch epoch (omega arith))
entry_put (row ∷ later) epoch entry rises =
    let on = entry_put later epoch entry rises.1 in
    elim (nat_cmp epoch row.0) as (λ o. nat_cmp epoch row.0 ≡ o
    → entry_at (match_ordering o ((epoch, entry) ∷ row ∷ later) ((row.0, entry) ∷ later) (row ∷ insert_entry nat_cmp later epoch entry)) epoch ≡ Some entry) [
      | Less ↦ λ e. ap (λ b. first_so b (row ∷ later) epoch entry) (within epoch epoch (omega arith))
          ∙ ap (λ o. Some (or_else o entry)) (ap (λ b. first_so b later epoch row.1) (over row.0 epoch (below epoch row.0 e)))
      | Equal ↦ λ e.
          let same : epoch ≡ row.0 = ranked epoch row.0 Equal (sym e) in
          ap (λ b. first_so b later epoch entry) (within row.0 epoch (omega arith))
          ∙ ap (λ o. Some (or_else o entry)) (none_yet later epoch (λ other h. let lt = below row.0 other.0 (rises.0 other h) in omega arith))
      | Greater ↦ λ e.
          let lt : row.0 < epoch = ranked epoch row.0 Greater (sym e) in
          ap (λ b. first_so b (insert_entry nat_cmp later epoch entry) epoch row.1) (within row.0 epoch (omega arith))
          ∙ ap (λ o. Some (or_else o row.1)) on
    ] refl

-- and leaves those of the epochs below
pub entry_below : (chain : Chain) (epoch : ℕ) (entry : Stored) (low : ℕ) → low < epoch
    → entry_at (put nat_cmp chain epoch entry) low ≡ entry_at chain low
unfolding put
entry_below [] epoch entry low lt = ap (λ b. first_so b [] low entry) (over epoch low lt)
entry_below (row ∷ later) epoch entry low lt =
    let on = entry_below later epoch entry low lt in
    elim (nat_cmp epoch row.0) as (λ o. nat_cmp epoch row.0 ≡ o
    → entry_at (match_ordering o ((epoch, entry) ∷ row ∷ later) ((row.0, entry) ∷ later) (row ∷ insert_entry nat_cmp later epoch entry)) low
    ≡ entry_at (row ∷ later) low) [
      | Less ↦ λ e.
          let up = below epoch row.0 e in
          ap (λ b. first_so b (row ∷ later) low entry) (over epoch low lt) ∙ sym (ap (λ b. first_so b later low row.1) (over row.0 low (omega arith)))
      | Equal ↦ λ e.
          let same : epoch ≡ row.0 = ranked epoch row.0 Equal (sym e) in
          ap (λ b. first_so b later low entry) (over row.0 low (omega arith)) ∙ sym (ap (λ b. first_so b later low row.1) (over row.0 low (omega arith)))
      | Greater ↦ λ e. ap (λ o. cond (nat_le row.0 low) (Some (or_else o row.1)) None) on
    ] refl

-- no row is of an epoch above this one
abbrev pub AreUpTo : Chain → ℕ → Type 0
AreUpTo chain top = (row : ℕ × Stored) → In row chain → row.0 ≤ top

-- where none is, each later epoch has the same entry
pub entry_later : (chain : Chain) (low high : ℕ) → AreUpTo chain low → low ≤ high → entry_at chain high ≡ entry_at chain low
unfolding In
entry_later [] low high up le = refl
entry_later (row ∷ later) low high up le =
    let here = up row (inl refl) in
    let on = entry_later later low high (λ other h. up other (inr h)) le in
    ap (λ b. first_so b later high row.1) (within row.0 high (omega arith)) ∙ ap (λ o. Some (or_else o row.1)) on
    ∙ sym (ap (λ b. first_so b later low row.1) (within row.0 low here))

-- Two majorities share a server.
use Rattle.law_agreement.proofs.Imports.{if◌then◌else◌, ◌+◌, ◌<◌, ◌≡◌, ◌⊎◌, Bool, IsMajority, arith, count_below, false, inl, inr, refl, suc, true, zero, ℕ}

-- a test that is true or false
pub either : (b : Bool) → (b ≡ true) ⊎ (b ≡ false)
either true = inl refl
either false = inr refl

abbrev Shared : ℕ → (ℕ → Bool) → (ℕ → Bool) → Type 0
Shared n p q = (s : ℕ) × (s < n) × (p s ≡ true) × (q s ≡ true)

wider : (n : ℕ) (p q : ℕ → Bool) → Shared n p q → Shared (suc n) p q
wider n p q h = (h.0, omega arith, h.2, h.3)

mutual_step : (n : ℕ) (p q : ℕ → Bool) (a b : Bool) → p n ≡ a → q n ≡ b → (n < count_below n p + count_below n q → Shared n p q)
    → suc n < (if a then 1 else 0) + count_below n p + ((if b then 1 else 0) + count_below n q) → Shared (suc n) p q
mutual_step n p q true true ep eq ih h = (n, omega arith, ep, eq)
mutual_step n p q true false ep eq ih h = wider n p q (ih (omega arith))
mutual_step n p q false true ep eq ih h = wider n p q (ih (omega arith))
mutual_step n p q false false ep eq ih h = wider n p q (ih (omega arith))

-- more tests passed than there are servers: one server passed both
pub meet : (n : ℕ) (p q : ℕ → Bool) → n < count_below n p + count_below n q → Shared n p q
meet zero p q h = absurd (omega arith)
meet (suc n) p q h = mutual_step n p q (p n) (q n) refl refl (meet n p q) h

pub majorities_meet : (n : ℕ) (p q : ℕ → Bool) → IsMajority n p → IsMajority n q → Shared n p q
majorities_meet n p q hp hq = meet n p q (omega arith)

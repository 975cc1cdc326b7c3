-- How many slots are free after one is taken or given.
use Rattle.std.proofs.Common.{◌≡◌, ℕ, zero, suc, ◌+◌, ◌<◌, Bool, true, false, List, [], ◌∷◌, length, replicate, Some, refl, arith, slice_get, slice_set}
use Rattle.slot_store.specs.Slots.{free_in}

pub free_in-take : (us : List Bool) (slot : ℕ) → slice_get us slot ≡ Some false → free_in (slice_set us slot true) + 1 ≡ free_in us
free_in-take [] slot is = absurd (cc)
free_in-take (false ∷ us) zero is = omega arith
free_in-take (true ∷ us) zero is = absurd (cc)
free_in-take (false ∷ us) (suc slot) is = omega (arith, free_in-take us slot is)
free_in-take (true ∷ us) (suc slot) is = free_in-take us slot is

pub free_in-give : (us : List Bool) (slot : ℕ) → slice_get us slot ≡ Some true → free_in (slice_set us slot false) ≡ free_in us + 1
free_in-give [] slot is = absurd (cc)
free_in-give (false ∷ us) zero is = absurd (cc)
free_in-give (true ∷ us) zero is = omega arith
free_in-give (false ∷ us) (suc slot) is = omega (arith, free_in-give us slot is)
free_in-give (true ∷ us) (suc slot) is = free_in-give us slot is

pub within : (us : List Bool) (slot : ℕ) (u : Bool) → slice_get us slot ≡ Some u → slot < length us
within [] slot u is = absurd (cc)
within (x ∷ us) zero u is = omega arith
within (x ∷ us) (suc slot) u is = omega (arith, within us slot u is)

pub free_in-replicate : (n : ℕ) → free_in (replicate n false) ≡ n
free_in-replicate zero = refl
free_in-replicate (suc n) = omega (arith, free_in-replicate n)

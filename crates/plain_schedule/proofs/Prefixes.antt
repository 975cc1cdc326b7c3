-- Prefixes of records.
use Rattle.std.proofs.Common.{◌≡◌, ◌≤◌, ℕ, List, [], ◌∷◌, ◌++◌, length, take, drop, refl, sym, ap, ◌∙◌, subst, arith, length-append}
use Rattle.std.proofs.lemmas.List.{take-append-drop, length-take-le}
use Rattle.std.proofs.Math.Seq.{take-append_seam}
use Rattle.spec_history.specs.declared.record.Record.{Record}
use Rattle.spec_history.specs.Order.{IsRecordPrefix}
use Rattle.plain_schedule.specs.Going.{GoesOn}

pub append_nil : (records : List Record) → records ++ [] ≡ records
append_nil [] = refl
append_nil (own ∷ later) = ap (λ more. own ∷ more) (append_nil later)

-- all records are a prefix of themselves, and so of what goes on from them
pub goes_prefix : (old new : List Record) → GoesOn old new → IsRecordPrefix old new
goes_prefix old new on = on old (record { following = []; is = sym (append_nil old) })

-- the first so many records stay
pub record IsStill (told : ℕ) (old new : List Record) : Type 0 where
  pub within : told ≤ length new
  pub same : take told new ≡ take told old

pub still : (told : ℕ) (old new : List Record) → told ≤ length old → GoesOn old new → IsStill told old new
still told old new le on =
    let f = on (take told old) (record { following = drop told old; is = sym (take-append-drop told old) }) in
    let many : length (take told old) ≡ told = length-take-le told old le in
    record {
      within = omega (arith, ap length f.is, length-append (take told old) f.following);
      same = ap (take told) f.is ∙ subst (λ (n : ℕ). take n (take told old ++ f.following) ≡ take told old) many (take-append_seam (take told old) f.following);
    }

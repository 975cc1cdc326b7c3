-- A moment of a history is one of each longer history.
use Rattle.law_state.proofs.Imports.{[], ◌++◌, ◌∙◌, ◌∷◌, List, Record, ap, append_assoc, refl}
use Rattle.law_state.specs.Moments.{IsMoment}

abbrev pub last_moment : (records : List Record) (own : Record) → IsMoment (records ++ own ∷ [])
last_moment records own = record { prefix = records; own = own; following = []; is = refl }

abbrev pub first_moment : (own : Record) (later : List Record) → IsMoment (own ∷ later)
first_moment own later = record { prefix = []; own = own; following = later; is = refl }

-- with one record more after
abbrev pub moment_more : (records : List Record) (next : Record) → IsMoment records → IsMoment (records ++ next ∷ [])
moment_more records next m = record {
  prefix = m.prefix;
  own = m.own;
  following = m.following ++ next ∷ [];
  is = ap (λ xs. xs ++ next ∷ []) m.is ∙ append_assoc m.prefix (m.own ∷ m.following) (next ∷ []);
}

-- with one record more before
abbrev pub moment_later : (first : Record) (records : List Record) → IsMoment records → IsMoment (first ∷ records)
moment_later first records m = record { prefix = first ∷ m.prefix; own = m.own; following = m.following; is = ap (λ xs. first ∷ xs) m.is }

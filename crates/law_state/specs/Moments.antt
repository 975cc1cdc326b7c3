-- A moment of a history: one of its records, with those before it and those after it.
use Rattle.law_state.specs.Imports.{Record}
use Rattle.std.specs.Prelude.{◌++◌, ◌∷◌, ◌≡◌, List}

pub record IsMoment (records : List Record) : Type 0 where
  pub prefix : List Record
  pub own : Record
  pub following : List Record
  pub is : records ≡ prefix ++ own ∷ following

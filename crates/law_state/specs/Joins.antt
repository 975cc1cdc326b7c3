-- Joins between a prefix of a log and the whole of it.
use Rattle.law_state.specs.Imports.{Command, IsPrefix, Join, blank_joins_from, may_join, start, state_after}
use Rattle.std.specs.Prelude.{[], ◌++◌, ◌+◌, ◌∷◌, ◌≡◌, ◌⊎◌, Bool, List, slice_get, true, ℕ}

-- after this prefix of the log the server, which was Out, joins as this incarnation
pub record HasJoinedSince (servers : ℕ) (prefix whole : List Command) (n inc : ℕ) (blank : Bool) : Type 0 where
  pub until : List Command
  pub following : IsPrefix prefix until
  pub stands : IsPrefix (until ++ Join n inc blank ∷ []) whole
  pub may : may_join (slice_get (state_after servers until).view.members n) inc ≡ true

-- the entry after these is a Join of the server with an empty store that acts: one more
pub record IsBlankJoin (servers : ℕ) (prefix : List Command) (entry : Command) (n : ℕ) : Type 0 where
  pub inc : ℕ
  pub is : entry ≡ Join n inc true
  pub may : may_join (slice_get (state_after servers prefix).view.members n) inc ≡ true
  pub counts : blank_joins_from (start servers) (prefix ++ entry ∷ []) n ≡ blank_joins_from (start servers) prefix n + 1

-- so many Joins with an empty store stand there after the entry as before it, or it is one more
abbrev pub CountsJoins : (servers : ℕ) (prefix : List Command) (entry : Command) (n : ℕ) → Type 0
CountsJoins servers prefix entry n =
    (blank_joins_from (start servers) (prefix ++ entry ∷ []) n ≡ blank_joins_from (start servers) prefix n) ⊎ IsBlankJoin servers prefix entry n

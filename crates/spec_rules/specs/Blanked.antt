-- Stores that were blanked, for laws to speak of: no rule reads this. Others may still rest on what a server had before its device was
-- made blank, until they know of its Join with an empty store.
use Rattle.std.specs.Prelude.{ℕ, ◌+◌, ◌==◌, ◌&&◌, Bool, true, false, List, [], ◌∷◌, slice_get, if◌then◌else◌, Option, Some, None}
use Rattle.petal_command.specs.declared.command.Command.{Command}
use Rattle.petal_command.specs.declared.command.Command.TheVariants.{Join}
use Rattle.spec_state.specs.Command.{after, may_join}
use Rattle.spec_rules.specs.State.{State}
use Rattle.spec_rules.specs.Store.{Store}

-- with the entry the server is In, with an empty store
abbrev pub joins_blank : State → Command → ℕ → Bool
joins_blank state (Join server inc true) n = (server == n) && may_join (slice_get state.view.members server) inc
joins_blank state _ n = false

-- how many of the entries that follow on a state do so
abbrev pub blank_joins_from : State → List Command → ℕ → ℕ
blank_joins_from state [] n = 0
blank_joins_from state (entry ∷ entries) n =
    if joins_blank state entry n then blank_joins_from (after state entry) entries n + 1 else blank_joins_from (after state entry) entries n

-- the store that a server had before it was blanked, and how many of its Joins with an empty store were chosen at that time
pub record BeforeBlank : Type 0 where
  pub joins : ℕ
  pub store : Store

-- the store that counts, where so many of the server's Joins with an empty store are chosen: until one more is, the store from before
-- the blank
abbrev pub kept_store : (joins : ℕ) → Option BeforeBlank → Store → Store
kept_store joins None store = store
kept_store joins (Some before) store = if before.joins == joins then before.store else store

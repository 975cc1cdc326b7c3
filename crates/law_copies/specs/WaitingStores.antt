-- Stores that wait to be filled by others, and whose own store counts.
use Rattle.law_copies.specs.Imports.{Setting, Store, World, blank_joins_in, chosen_log, kept_store}
use Rattle.std.specs.Prelude.{[], ◌≡◌, true, ℕ}

-- the store has neither entries nor marks
pub record IsEmpty (store : Store) : Type 0 where
  pub chains : store.chains ≡ []
  pub marks : store.marks ≡ []

-- each store that waits to be filled is empty
abbrev pub AreEmpty : World → Type 0
AreEmpty w = (n : ℕ) → (w.servers n).own.store.fresh ≡ true → IsEmpty (w.servers n).own.store

-- by what is chosen the server's own store counts, and not the one from before a blank
abbrev pub IsOwn : Setting → World → ℕ → Type 0
IsOwn setting w n = (store : Store) → kept_store (blank_joins_in setting (chosen_log setting w) n) (w.before_blank n) store ≡ store

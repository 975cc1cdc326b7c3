-- The stores that count: each server's own, or the one from before its device was made blank.
use Rattle.law_run.proofs.Imports.{if◌then◌else◌, ◌&&◌, ◌==◌, ◌∙◌, ◌≡◌, BeforeBlank, Bool, Cell, None, Option, Setting, Some, Store, World, ap}
use Rattle.law_run.proofs.Imports.{begins_to_leave, by_test, chain_that_counts, chosen_log, chosen_state, false, frozen_by, kept_store, leaving, not, refl}
use Rattle.law_run.proofs.Imports.{state_after, true, ℕ}

-- what is so of a server's store, and of the one from before its blank, is so of the one that counts
pub of_kept : (So : Store → Type 0) (joins : ℕ) (before : Option BeforeBlank) (store : Store) → So store
    → ((b : BeforeBlank) → before ≡ Some b → So b.store) → So (kept_store joins before store)
of_kept So joins None store now past = now
of_kept So joins (Some b) store now past = by_test So (b.joins == joins) b.store store (λ t. past b refl) (λ f. now)

-- where the server's store has the same chains, the one that counts has
pub same_kept : (joins : ℕ) (before : Option BeforeBlank) (one other : Store) → one.chains ≡ other.chains
    → (kept_store joins before one).chains ≡ (kept_store joins before other).chains
same_kept joins None one other same = same
same_kept joins (Some b) one other same =
    elim (b.joins == joins) as (λ t. (if t then b.store else one).chains ≡ (if t then b.store else other).chains) [ true ↦ refl | false ↦ same ]

-- what is frozen stays where nothing is chosen
pub frozen_stays : (setting : Setting) (w next : World) → chosen_log setting next ≡ chosen_log setting w → (cell : Cell)
    → frozen_by setting w next cell ≡ w.frozen cell
frozen_stays setting w next same cell =
    let leaves : leaving (chosen_state setting next) cell ≡ leaving (chosen_state setting w) cell =
    ap (λ log. leaving (state_after setting.servers log) cell) same in
    let never : begins_to_leave setting w next cell ≡ false =
    ap (λ b. b && not (leaving (chosen_state setting w) cell)) leaves ∙ not_both (leaving (chosen_state setting w) cell) in
    ap (λ b. if b then chain_that_counts setting next cell else w.frozen cell) never
  where
    not_both : (b : Bool) → (b && not b) ≡ false
    not_both true = refl
    not_both false = refl

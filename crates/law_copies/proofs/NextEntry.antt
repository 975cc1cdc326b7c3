-- The chosen log has one entry more: what is known of the log then, how far cells are in it, and the stores that count by it.
use Rattle.law_copies.proofs.Imports.{[], if◌then◌else◌, ◌==◌, ◌∙◌, ◌∷◌, ◌≡◌, ◌≤◌, Bool, Caught, Cell, Command, HasProperTuple, HasProperTuples, In, IsLater}
use Rattle.law_copies.proofs.Imports.{IsPrefix, IsSteady, Join, Leave, LinkRow, List, None, PairState, Some, State, Store, after, ap, arith, blank_joins_in}
use Rattle.law_copies.proofs.Imports.{by_bool, cell_link, chain_in, false, in_later, inl, inr, joins_blank, joins_grow, log_entry_stays, log_steady}
use Rattle.law_copies.proofs.Imports.{none_some, number_itself, prefix_itself, prefix_more, prefix_on, prefix_plain, refl, same_numbers, same_some}
use Rattle.law_copies.proofs.Imports.{some_or_none, stage_at, subst, sym, touches, true, ℕ}
use Rattle.law_copies.specs.Visits.{AliveIn, IsLinked, place_by, store_by}
use Rattle.law_copies.proofs.AtNext.{AtNext, next_of}
use Rattle.law_copies.proofs.PlacesByPrefixes.{alive_on, linked_between, place_of_later, place_touched, place_untouched, places_up, rows_later, state_next}
use Rattle.law_copies.proofs.PlacesByPrefixes.{unborn}
use Rattle.law_copies.proofs.BlankJoinsRenewLinks.{counts_more, no_blank_join, no_chains}

module _ (it : AtNext) where
  open it use {setting, top, entry, old, new, good, following, all, recounts}
  open next_of it use {next, here, then_state, stores}

  pub plain_top : HasProperTuples setting.servers top
  plain_top = prefix_plain setting.servers top next all (prefix_more top entry)

  pub plain_entry : HasProperTuple setting.servers entry
  unfolding In
  plain_entry = all entry (in_later entry top (entry ∷ []) (inl refl))

  pub steady_top : IsSteady here
  steady_top = log_steady setting.servers top plain_top

  -- the row after the entry
  pub row_then : (cell : Cell) (now : LinkRow) → IsLinked setting next cell now → cell_link (after here entry) cell ≡ Some now
  row_then cell now end = ap (λ (s : State). cell_link s cell) (sym (state_next setting top entry)) ∙ end

  pub later_then : (cell : Cell) (row now : LinkRow) → IsLinked setting top cell row → IsLinked setting next cell now → IsLater row now
  later_then cell row now is end = rows_later setting next all top next cell row now (prefix_more top entry) (prefix_itself next) is end

  -- who was at a place of a cell that has a link then knew its link
  been_linked : (n place : ℕ) (cell : Cell) (own : PairState) → good.visits n place cell ≡ Some own → (now : LinkRow) → IsLinked setting next cell now
      → (row : LinkRow) × IsLinked setting top cell row
  been_linked n place cell own visited now end =
      let b = good.been n place cell own visited in
      linked_between setting next all b.prefix top next cell b.row now (prefix_on b.prefix _ top b.within (following.now n)) (prefix_more top entry)
      (prefix_itself next) b.linked end

  -- and the place is not past that by the entries so far
  been_below : (n place : ℕ) (cell : Cell) (own : PairState) (row : LinkRow) → good.visits n place cell ≡ Some own → IsLinked setting top cell row
      → place ≤ place_by setting top row
  been_below n place cell own row visited is =
      let b = good.been n place cell own visited in
      let up = places_up setting next all b.prefix top cell b.row row (prefix_on b.prefix _ top b.within (following.now n))
      (prefix_more top entry) b.linked is in
      let at = b.at in
      omega arith

  -- ### How far a cell is

  -- a cell that isn't retired then was not before
  pub alive_before : (cell : Cell) → AliveIn then_state cell → AliveIn here cell
  alive_before cell alive = alive_on setting next all top next cell (prefix_more top entry) (prefix_itself next) alive

  -- the last place is not past that by the entries so far
  pub reached_below : (cell : Cell) (row : LinkRow) → IsLinked setting top cell row → good.reached cell ≤ place_by setting top row
  reached_below cell row is = elim (good.reaching.by cell) [
    | inl none ↦ omega (arith, none)
    | inr r ↦ been_below r.server (good.reached cell) cell r.own row r.visited is
  ]

  unvisited : (n : ℕ) (place : ℕ) (cell : Cell) → ((own : PairState) → good.visits n place cell ≡ Some own → ⊥) → good.visits n place cell ≡ None
  unvisited n place cell never = elim (some_or_none (good.visits n place cell)) [ inl h ↦ absurd (never h.0 h.1) | inr none ↦ none ]

  -- nobody has been at the new place of a link that the entry touches
  unseen_new : (cell : Cell) (row now : LinkRow) → IsLinked setting top cell row → IsLinked setting next cell now → touches here entry row ≡ true
      → (n : ℕ) → good.visits n (place_by setting next now) cell ≡ None
  unseen_new cell row now is end on n = unvisited n (place_by setting next now) cell (λ own visited.
      let le = been_below n (place_by setting next now) cell own row visited is in
      let same = place_of_later setting next all top next next cell row now (prefix_more top entry) (prefix_itself next) is end in
      let one = place_touched setting top entry row on in
      absurd (omega arith))

  -- a cell's link after the entry: as before; touched by the entry, or made by it, and then nobody has been at its place
  pub by_next : {B : Type 0} (cell : Cell) (now : LinkRow) → IsLinked setting next cell now
      → (IsLinked setting top cell now → place_by setting next now ≡ place_by setting top now → B)
      → ((row : LinkRow) → IsLinked setting top cell row → touches here entry row ≡ true → ((n : ℕ) → good.visits n (place_by setting next now) cell ≡ None)
      → B)
      → (stage_at here cell ≡ 0 → ((n : ℕ) → good.visits n (place_by setting next now) cell ≡ None) → B)
      → B
  by_next cell now end still moved made = elim (some_or_none (cell_link here cell)) [
    | inl h ↦ by_bool (touches here entry h.0)
        (λ on. moved h.0 h.1 on (unseen_new cell h.0 now h.1 end on))
        (λ off.
        elim (log_entry_stays setting.servers top entry cell h.0 plain_top plain_entry h.1 off) [
          | inl stays ↦ (
              let same : h.0 ≡ now = same_some (sym stays.same ∙ row_then cell now end) in
              still (subst (IsLinked setting top cell) same h.1)
              (subst (λ r. place_by setting next r ≡ place_by setting top r) same (place_untouched setting top entry h.0 off)))
          | inr died ↦ none_some died.0 (row_then cell now end)
        ])
    | inr none ↦ made (unborn setting next all top next cell now (prefix_more top entry) (prefix_itself next) none end)
        (λ n. unvisited n (place_by setting next now) cell
        (λ own visited. none_some none (been_linked n (place_by setting next now) cell own visited now end).1))
  ]

  -- ### Stores

  pub stores_so : (n joins : ℕ) (b : Bool) → (joins == blank_joins_in setting next n) ≡ b → stores n joins ≡ (if b then new n else good.stores n joins)
  stores_so n joins b e = ap (λ c. if c then new n else good.stores n joins) e

  pub next_store : (n : ℕ) → store_by setting stores next n ≡ new n
  next_store n = stores_so n (blank_joins_in setting next n) true (number_itself (blank_joins_in setting next n))

  -- at each prefix so far they are as they were
  prefix_store : (f : List Command) (n : ℕ) → IsPrefix f top → store_by setting stores f n ≡ store_by setting good.stores f n
  prefix_store f n is_prefix =
      let joins = blank_joins_in setting f n in
      let low = joins_grow setting.servers f top n is_prefix in
      let high = joins_grow setting.servers top next n (prefix_more top entry) in
      by_bool (joins == blank_joins_in setting next n)
      (λ t.
      let e = same_numbers joins (blank_joins_in setting next n) t in
      let at_top : blank_joins_in setting top n ≡ joins = omega arith in
      stores_so n joins true t
      ∙ recounts.same n (by_bool (joins_blank here entry n) (λ on. let lt = counts_more setting top entry n on in absurd (omega arith)) (λ off. off))
      ∙ sym (good.now n) ∙ ap (good.stores n) at_top)
      (λ off. stores_so n joins false off)

  pub prefix_stores : (f : List Command) → IsPrefix f top → store_by setting good.stores f ≡ store_by setting stores f
  prefix_stores f is_prefix = λ i n. sym (prefix_store f n is_prefix) i

  pub next_stores : new ≡ store_by setting stores next
  next_stores = λ i n. sym (next_store n) i

  pub old_stores : store_by setting good.stores top ≡ old
  old_stores = λ i n. good.now n i

  -- a cell that is not live yet is empty at each server
  pub born_then : (cell : Cell) → stage_at here cell ≡ 0 → (n : ℕ) → chain_in (new n).chains cell ≡ []
  born_then cell none n = by_bool (joins_blank here entry n) (λ on. no_chains (new n) cell (recounts.renewed n on).chains)
      (λ off. ap (λ (s : Store). chain_in s.chains cell) (recounts.same n off) ∙ good.born cell none n)

  pub still_empty : (cell : Cell) → stage_at here cell ≡ 0 → (n m : ℕ) → chain_in (new n).chains cell ≡ chain_in (new m).chains cell
  still_empty cell none n m = born_then cell none n ∙ sym (born_then cell none m)

  -- an entry that is no Join with an empty store
  same_all : ((server inc : ℕ) → entry ≡ Join server inc true → ⊥) → (n : ℕ) → new n ≡ old n
  same_all never n = recounts.same n (no_blank_join here entry never n)

  pub no_leave : (server inc : ℕ) → entry ≡ Leave server inc → (n : ℕ) → new n ≡ old n
  no_leave server inc is = same_all (λ s i e. let f : Leave server inc ≡ Join s i true = sym is ∙ e in absurd cc)

  pub no_caught : (of link holder inc other other_inc : ℕ) → entry ≡ Caught of link holder inc other other_inc → (n : ℕ) → new n ≡ old n
  no_caught of link holder inc other other_inc is =
      same_all (λ s i e. let f : Caught of link holder inc other other_inc ≡ Join s i true = sym is ∙ e in absurd cc)

  pub no_blank : (server inc : ℕ) → entry ≡ Join server inc false → (n : ℕ) → new n ≡ old n
  no_blank server inc is = same_all (λ s i e. let f : Join server inc false ≡ Join s i true = sym is ∙ e in absurd cc)

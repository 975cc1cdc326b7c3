-- What the laws below say of the world after a legal history: who serves a link at later prefixes, whose store counts, and what the two servers of a
-- link have.
use Rattle.law_moves.proofs.Imports.{◌<◌, ◌∙◌, ◌≡◌, ◌≤◌, ◌⊎◌, AliveIn, AreTwins, Bool, Both, Cell, Command, Firm, Good, HasJoinedSince, HasProperTuples}
use Rattle.law_moves.proofs.Imports.{HasStage, IsBelow, IsLast, IsLinked, IsOwn, IsPrefix, IsServing, IsSteady, Join, KeepsRoles, LinkRow, List, PairState}
use Rattle.law_moves.proofs.Imports.{Pairs, Record, Rests, Run, Setting, Some, State, Store, WasThere, World, after_prefix, always_firm, arith}
use Rattle.law_moves.proofs.Imports.{blank_joins_in, cell_link, chosen_state, counted, end_of, false, has_server, history_is_firm, in_own, inl, inr, is_in}
use Rattle.law_moves.proofs.Imports.{join_was_wanted, joined_counts, joined_since, kept, kept_after, log_below, log_roles, log_steady, own_by, place_by}
use Rattle.law_moves.proofs.Imports.{places_up, prefix_itself, prefix_plain, refl, rests_after, runs_at, serves, stage_at, stage_facts, stands_in, start}
use Rattle.law_moves.proofs.Imports.{start_rests, stays_filled, sym, true, true_false, ℕ}
use Rattle.law_moves.proofs.PlacesAreVisits.{seen_after, were}

pub row_serving : (state : State) (n : ℕ) (cell : Cell) (row : LinkRow) → cell_link state cell ≡ Some row → has_server n row ≡ true
    → serves n row row.state ≡ true → IsServing state n cell
row_serving state n cell row is has so = record { row = row; is = is; one_of = has; so = so }

-- nobody who serves a link has been at a later place than the one by all that is chosen
pub top_last : (setting : Setting) (records : List Record) (top : List Command) (w : World) → HasProperTuples setting.servers top
    → (good : Good setting records top w) → (cell : Cell) (row : LinkRow) → IsLinked setting top cell row → IsLast good.reached setting top cell row
top_last setting records top w plain good cell row is = elim (good.reaching.by cell) [
  | inl none ↦ omega (arith, none)
  | inr r ↦
      let le = places_up setting top plain r.prefix top cell r.row row r.is_prefix (prefix_itself top) r.linked is in
      let spot = r.at in
      omega arith
]

module _ (it : Run) where
  open it use {script, sound, records, legal}
  open end_of it use {setting, w, chosen, By}

  abbrev own_prefix : ℕ → List Command
  own_prefix n = (w.servers n).log.applied

  abbrev inc_of : ℕ → ℕ
  inc_of n = (w.servers n).life.inc

  pub firm : Firm setting w
  firm = history_is_firm script records sound legal

  pub good : Good setting records chosen (counted setting w)
  good = (seen_after script sound records legal).good

  -- what a server was at a place is one of the visits there
  pub was_seen : (n place : ℕ) (cell : Cell) (pairs : Pairs) → WasThere setting records n place cell pairs
      → (own : PairState) × (good.visits n place cell ≡ Some own) × (own.pairs ≡ pairs)
  unfolding good
  was_seen n place cell pairs was = were script records (seen_after script sound records legal) n place cell pairs was

  pub rests : Rests setting w
  rests = rests_after setting (start setting) records (always_firm script records sound legal) (start_rests script) legal

  pub plain_at : (prefix : List Command) → IsPrefix prefix chosen → HasProperTuples script.servers prefix
  plain_at prefix lies = prefix_plain script.servers prefix chosen firm.plain lies

  pub steady_at : (prefix : List Command) → IsPrefix prefix chosen → IsSteady (By prefix)
  steady_at prefix lies = log_steady script.servers prefix (plain_at prefix lies)

  pub facts_at : (prefix : List Command) → IsPrefix prefix chosen → (cell : Cell) → HasStage (By prefix) cell
  facts_at prefix lies cell = stage_facts script.servers prefix (plain_at prefix lies) cell

  pub below_at : (prefix more : List Command) → IsPrefix prefix more → IsPrefix more chosen → IsBelow (By prefix) (By more)
  below_at prefix more on lies = log_below script.servers prefix more (plain_at more lies) on

  pub up : (prefix more : List Command) → IsPrefix prefix more → IsPrefix more chosen → (cell : Cell) → stage_at (By prefix) cell ≤ stage_at (By more) cell
  up prefix more on lies cell = (below_at prefix more on lies).stages cell

  pub roles_at : (prefix more : List Command) → IsPrefix prefix more → IsPrefix more chosen → KeepsRoles (By prefix) (By more)
  roles_at prefix more on lies = log_roles script.servers prefix more (plain_at more lies) on

  -- ### Servers that run

  pub runs_on : (n : ℕ) → (w.servers n).life.running ≡ true → (prefix more : List Command) → IsPrefix prefix more → IsPrefix more chosen
      → is_in (By prefix) n (inc_of n) ≡ true → is_in (By more) n (inc_of n) ≡ true
  runs_on n runs prefix more on lies seat = runs_at setting w firm prefix more on lies n runs seat

  -- one that serves a link goes on to, until the cell is retired
  pub serving_on : (n : ℕ) → (w.servers n).life.running ≡ true → (prefix more : List Command) → IsPrefix prefix more → IsPrefix more chosen
      → is_in (By prefix) n (inc_of n) ≡ true → (cell : Cell) → stage_at (By more) cell ≤ 3 → IsServing (By prefix) n cell → IsServing (By more) n cell
  serving_on n runs prefix more on lies seat cell low s =
      elim ((roles_at prefix more on lies).reads n (inc_of n) cell seat (runs_on n runs prefix more on lies seat) s) [
        | inl still ↦ still
        | inr died ↦ let retired = died.1 in absurd (omega arith)
      ]

  -- its store is the one that counts
  joined_own : (n : ℕ) → (w.servers n).life.running ≡ true → (blank : Bool) (prefix : List Command)
      → HasJoinedSince script.servers prefix chosen n (inc_of n) blank → IsOwn setting w n
  joined_own n runs blank prefix j = own_by (blank_joins_in setting chosen n) (w.before_blank n) (λ b is same.
      let old = (kept_after script records sound legal n).blanked b is in
      elim (after_prefix old.prefix j.until chosen (Join n (inc_of n) blank) old.stands j.stands) [
        | inl there ↦ over (old.over (inc_of n) blank there)
        | inr following ↦ by blank j old.prefix following (sym old.joins ∙ same) (old.waits same)
      ])
    where
      over : ((w.servers n).life.running ≡ false) × (inc_of n ≤ inc_of n) ⊎ (inc_of n < inc_of n) → ⊥
      over (inl gone) = true_false runs gone.0
      over (inr past) = absurd (omega arith)

      by : (blank : Bool) → (j : HasJoinedSince script.servers prefix chosen n (inc_of n) blank) → (old : List Command) → IsPrefix old j.until
          → blank_joins_in setting old n ≡ blank_joins_in setting chosen n → (w.servers n).own.store.fresh ≡ true → ⊥
      by true j old following joins waits =
          let more = joined_counts script.servers old chosen n (inc_of n) (record { until = j.until; following = following; stands = j.stands; may = j.may }) in
          absurd (omega arith)
      by false j old following joins waits =
          true_false waits (stays_filled script sound records legal n (inc_of n)
          (join_was_wanted script records sound legal n (inc_of n) false (stands_in j.until chosen (Join n (inc_of n) false) j.stands)) runs refl)

  pub store_counts : (n : ℕ) → (w.servers n).life.running ≡ true → is_in (chosen_state setting w) n (inc_of n) ≡ true → IsOwn setting w n
  store_counts n runs seat =
      elim (joined_since script.servers (own_prefix n) chosen n (inc_of n) firm.plain (firm.servers n) seat) [
        | inl was ↦ in_own script records n sound legal runs was
        | inr joined ↦ joined_own n runs joined.0 (own_prefix n) joined.1
      ]

  pub own_counts : (n : ℕ) → (w.servers n).life.running ≡ true → (prefix : List Command) → IsPrefix prefix chosen → is_in (By prefix) n (inc_of n) ≡ true
      → kept setting w n ≡ (w.servers n).own.store
  own_counts n runs prefix lies seat = store_counts n runs (runs_on n runs prefix chosen lies (prefix_itself chosen) seat) (w.servers n).own.store

  -- ### The two copies by what is chosen

  pub chosen_last : (cell : Cell) (row : LinkRow) → IsLinked setting chosen cell row → IsLast good.reached setting chosen cell row
  chosen_last cell row is = top_last setting records chosen (counted setting w) firm.plain good cell row is

  abbrev chosen_store : ℕ → Store
  chosen_store n = good.stores n (blank_joins_in setting chosen n)

  pub chosen_twins : (cell : Cell) (row : LinkRow) → IsLinked setting chosen cell row → row.state ≡ Both → AliveIn (chosen_state setting w) cell
      → AreTwins chosen_store good.visits (place_by setting chosen row) cell row.primary row.secondary
  chosen_twins cell row is both alive = (good.both chosen cell row (prefix_itself chosen) is both).twins alive (chosen_last cell row is)

-- Prefixes of one log, and the places of a link by them.
use Rattle.law_copies.proofs.Imports.{[], if◌then◌else◌, ◌++◌, ◌+◌, ◌<◌, ◌==◌, ◌∙◌, ◌∷◌, ◌≡◌, ◌≤◌, ◌⊎◌, Cell, Command, HasProperTuples, IsBelow, IsLater}
use Rattle.law_copies.proofs.Imports.{IsPrefix, IsRetired, LinkRow, List, None, PairState, Setting, Some, State, StaysSo, after, ap, arith, blank_joins_in}
use Rattle.law_copies.proofs.Imports.{cell_link, false, fold-append, inl, inr, length, length-append, link_at, link_of, log_below, log_grown, log_plain}
use Rattle.law_copies.proofs.Imports.{log_steady, none_some, one_prefix, option_and_then, option_map_or, other_of, places_grow, places_later, places_on}
use Rattle.law_copies.proofs.Imports.{prefix_itself, prefix_long, prefix_more, prefix_on, prefix_plain, prefix_within, same_place, same_some, some_or_none}
use Rattle.law_copies.proofs.Imports.{stage_at, stage_live, stage_most, state_after, subst, sym, touches, true, true_false, tuple_of, tuple_on, ℕ}
use Rattle.spec_state.specs.State.{start}
use Rattle.law_copies.specs.CopyProgress.{links_of}
use Rattle.law_copies.specs.Visits.{AliveIn, IsLinked, place_by, Visits, Visits, HasReached, HasFilled}

-- ### Prefixes

-- of two numbers the first is at most the other one, or above it
pub at_most_or_above : (a b : ℕ) → (a ≤ b) ⊎ (b < a)
at_most_or_above a b = grind arith

-- of two prefixes of one log one stands at the front of the other
pub prefixes_meet : (a b whole : List Command) → IsPrefix a whole → IsPrefix b whole → IsPrefix a b ⊎ IsPrefix b a
prefixes_meet a b whole one two = elim (at_most_or_above (length a) (length b)) [
  | inl le ↦ inl (prefix_within a b whole one two le)
  | inr lt ↦ inr (prefix_within b a whole two one (omega arith))
]

-- a prefix of a log with one entry more is a prefix of the log, or the whole
pub prefix_or_all : (prefix log : List Command) (entry : Command) → IsPrefix prefix (log ++ entry ∷ []) → IsPrefix prefix log ⊎ (prefix ≡ log ++ entry ∷ [])
prefix_or_all prefix log entry p = elim (at_most_or_above (length prefix) (length log)) [
  | inl le ↦ inl (prefix_within prefix log (log ++ entry ∷ []) p (prefix_more log entry) le)
  | inr lt ↦ inr (one_prefix prefix (log ++ entry ∷ []) (log ++ entry ∷ []) p (prefix_itself (log ++ entry ∷ []))
      (let most = prefix_long prefix (log ++ entry ∷ []) p in omega (arith, length-append log (entry ∷ []))))
]

-- the other server of a link stays so
pub other_later : (row now : LinkRow) (holder : ℕ) → IsLater row now → other_of holder now ≡ other_of holder row
other_later row now holder so = λ i. if so.primary i == holder then so.secondary i else so.primary i

-- a cell that has died is retired
pub retired_not : (state : State) (cell : Cell) → IsRetired state cell → AliveIn state cell → ⊥
retired_not state cell died alive = let retired = died.1 in omega arith

-- ### Places

module _ (setting : Setting) where
  -- the state after one entry more
  pub state_next : (log : List Command) (entry : Command)
      → state_after setting.servers (log ++ entry ∷ []) ≡ after (state_after setting.servers log) entry
  state_next log entry = fold-append after (start setting.servers) log (entry ∷ [])

  counted : (log : List Command) (entry : Command) (row : LinkRow)
      → place_by setting (log ++ entry ∷ []) row ≡ place_by setting log row + (if touches (state_after setting.servers log) entry row then 1 else 0)
  counted log entry row = places_on row (start setting.servers) log (entry ∷ [])

  -- an entry that touches the link makes a new place of it, and no other one does
  pub place_touched : (log : List Command) (entry : Command) (row : LinkRow) → touches (state_after setting.servers log) entry row ≡ true
      → place_by setting (log ++ entry ∷ []) row ≡ place_by setting log row + 1
  place_touched log entry row on = counted log entry row ∙ ap (λ b. place_by setting log row + (if b then 1 else 0)) on

  pub place_untouched : (log : List Command) (entry : Command) (row : LinkRow) → touches (state_after setting.servers log) entry row ≡ false
      → place_by setting (log ++ entry ∷ []) row ≡ place_by setting log row
  place_untouched log entry row off =
      let e : place_by setting (log ++ entry ∷ []) row ≡ place_by setting log row + 0 =
      counted log entry row ∙ ap (λ b. place_by setting log row + (if b then 1 else 0)) off in
      omega arith

  module _ (whole : List Command) (all : HasProperTuples setting.servers whole) where
    pub below_at : (prefix more : List Command) → IsPrefix prefix more → IsPrefix more whole
        → IsBelow (state_after setting.servers prefix) (state_after setting.servers more)
    below_at prefix more one two = log_below setting.servers prefix more (prefix_plain setting.servers more whole all two) one

    -- a cell that has a link has it later, until it is retired
    pub linked_on : (prefix more : List Command) (cell : Cell) (row : LinkRow) → IsPrefix prefix more → IsPrefix more whole → IsLinked setting prefix cell row
        → ((now : LinkRow) × IsLinked setting more cell now) ⊎ IsRetired (state_after setting.servers more) cell
    linked_on prefix more cell row one two is = elim ((below_at prefix more one two).rows cell row is) [ inl h ↦ inl (h.now, h.is) | inr died ↦ inr died ]

    -- a cell only goes forward
    pub alive_on : (prefix more : List Command) (cell : Cell) → IsPrefix prefix more → IsPrefix more whole → AliveIn (state_after setting.servers more) cell
        → AliveIn (state_after setting.servers prefix) cell
    alive_on prefix more cell one two alive = let le = (below_at prefix more one two).stages cell in omega arith

    pub linked_alive : (prefix more : List Command) (cell : Cell) (row : LinkRow) → IsPrefix prefix more → IsPrefix more whole
        → IsLinked setting prefix cell row
        → AliveIn (state_after setting.servers more) cell → (now : LinkRow) × IsLinked setting more cell now
    linked_alive prefix more cell row one two is alive = elim (linked_on prefix more cell row one two is) [
      | inl h ↦ h
      | inr died ↦ absurd (retired_not (state_after setting.servers more) cell died alive)
    ]

    -- where it has a link later, it has it on the way
    pub linked_between : (prefix mid more : List Command) (cell : Cell) (row now : LinkRow) → IsPrefix prefix mid → IsPrefix mid more → IsPrefix more whole
        → IsLinked setting prefix cell row → IsLinked setting more cell now → (there : LinkRow) × IsLinked setting mid cell there
    linked_between prefix mid more cell row now one two three is end = elim (linked_on prefix mid cell row one (prefix_on mid more whole two three) is) [
      | inl h ↦ h
      | inr died ↦ none_some ((below_at mid more two three).died cell died).0 end
    ]

    -- one that has none, and has one later, is not live yet
    pub unborn : (prefix more : List Command) (cell : Cell) (now : LinkRow) → IsPrefix prefix more → IsPrefix more whole
        → cell_link (state_after setting.servers prefix) cell ≡ None → IsLinked setting more cell now → stage_at (state_after setting.servers prefix) cell ≡ 0
    unborn prefix more cell now one two none end =
        let here = state_after setting.servers prefix in
        let steady = log_steady setting.servers prefix (prefix_plain setting.servers prefix more (prefix_plain setting.servers more whole all two) one) in
        elim (at_most_or_above (stage_at here cell) 0) [
          | inl le ↦ omega arith
          | inr low ↦ elim (at_most_or_above 4 (stage_at here cell)) [
            | inl retired ↦ (
                let most = stage_most here cell in
                let is : stage_at here cell ≡ 4 = omega arith in
                none_some ((below_at prefix more one two).died cell (none, is)).0 end)
            | inr lt ↦ true_false (stage_live here cell low lt) (steady.retired cell none)
          ]
        ]

    pub rows_later : (prefix more : List Command) (cell : Cell) (row now : LinkRow) → IsPrefix prefix more → IsPrefix more whole
        → IsLinked setting prefix cell row → IsLinked setting more cell now → IsLater row now
    rows_later prefix more cell row now one two is end = elim ((below_at prefix more one two).rows cell row is) [
      | inl h ↦ subst (IsLater row) (same_some (sym h.is ∙ end)) h.so
      | inr died ↦ none_some died.0 end
    ]

    -- the later row counts the same places
    pub place_of_later : (prefix more counted_by : List Command) (cell : Cell) (row now : LinkRow) → IsPrefix prefix more → IsPrefix more whole
        → IsLinked setting prefix cell row → IsLinked setting more cell now → place_by setting counted_by now ≡ place_by setting counted_by row
    place_of_later prefix more counted_by cell row now one two is end =
        places_later row now (rows_later prefix more cell row now one two is end) counted_by (start setting.servers)

    -- the map of a cell that has a link stays as it is
    pub links_up : (prefix more : List Command) (cell : Cell) (row : LinkRow) → IsPrefix prefix more → IsPrefix more whole → IsLinked setting prefix cell row
        → links_of (state_after setting.servers more) cell.map ≡ links_of (state_after setting.servers prefix) cell.map
    links_up prefix more cell row one two is = elim (some_or_none (tuple_of (state_after setting.servers prefix).maps cell.map)) [
      | inl h ↦
          let plain = prefix_plain setting.servers more whole all two in
          ap (λ o. option_map_or length o 0)
          (tuple_on setting.servers (state_after setting.servers prefix) (state_after setting.servers more)
          (log_plain setting.servers prefix (prefix_plain setting.servers prefix more plain one)) (log_plain setting.servers more plain)
          (log_grown setting.servers prefix more plain one) cell.map h.0 h.1 ∙ sym h.1)
      | inr none ↦ none_some
          (ap (option_and_then (λ tuple. link_at (state_after setting.servers prefix).links cell.map (link_of (length tuple) cell.block))) none) is
    ]

    pub links_same : (prefix more : List Command) (cell : Cell) (row now : LinkRow) → IsPrefix prefix whole → IsPrefix more whole
        → IsLinked setting prefix cell row → IsLinked setting more cell now
        → links_of (state_after setting.servers prefix) cell.map ≡ links_of (state_after setting.servers more) cell.map
    links_same prefix more cell row now one two is end = elim (prefixes_meet prefix more whole one two) [
      | inl p ↦ sym (links_up prefix more cell row p two is)
      | inr p ↦ links_up more prefix cell now p one end
    ]

    -- places only rise
    pub places_up : (prefix more : List Command) (cell : Cell) (row now : LinkRow) → IsPrefix prefix more → IsPrefix more whole
        → IsLinked setting prefix cell row → IsLinked setting more cell now → place_by setting prefix row ≤ place_by setting more now
    places_up prefix more cell row now one two is end =
        let up = places_grow setting.servers prefix more row one in
        let same = place_of_later prefix more more cell row now one two is end in
        omega arith

    one_place_up : (prefix more : List Command) (cell : Cell) (row now : LinkRow) → IsPrefix prefix more → IsPrefix more whole
        → IsLinked setting prefix cell row → IsLinked setting more cell now → place_by setting prefix row ≡ place_by setting more now
        → StaysSo cell row (state_after setting.servers prefix) (state_after setting.servers more)
    one_place_up prefix more cell row now one two is end same =
        elim (same_place setting.servers prefix more cell row (prefix_plain setting.servers more whole all two) one is
        (sym (place_of_later prefix more more cell row now one two is end) ∙ sym same)) [
          | inl stays ↦ stays
          | inr died ↦ none_some died.0 end
        ]

    -- two prefixes at one place of a link, the longer one before or after, say the same of it
    pub one_place : (prefix more : List Command) (cell : Cell) (row now : LinkRow) → IsPrefix prefix whole → IsPrefix more whole
        → IsLinked setting prefix cell row → IsLinked setting more cell now → place_by setting prefix row ≡ place_by setting more now
        → StaysSo cell row (state_after setting.servers prefix) (state_after setting.servers more)
    one_place prefix more cell row now one two is end same = elim (prefixes_meet prefix more whole one two) [
      | inl p ↦ one_place_up prefix more cell row now p two is end same
      | inr p ↦ (
          let h = one_place_up more prefix cell now row p one end is (sym same) in
          let as_row : now ≡ row = same_some (sym h.same ∙ is) in
          turned cell row (state_after setting.servers more) (state_after setting.servers prefix) is
          (subst (λ r. StaysSo cell r (state_after setting.servers more) (state_after setting.servers prefix)) as_row h)
          (end ∙ ap Some as_row))
    ]
      where
        turned : (cell : Cell) (row : LinkRow) (s t : State) → cell_link t cell ≡ Some row → StaysSo cell row s t
            → cell_link s cell ≡ Some row → StaysSo cell row t s
        turned cell row s t is h there = record { same = there; primary = sym h.primary; secondary = sym h.secondary }

    -- and have one row
    pub one_row : (prefix more : List Command) (cell : Cell) (row now : LinkRow) → IsPrefix prefix whole → IsPrefix more whole
        → IsLinked setting prefix cell row → IsLinked setting more cell now → place_by setting prefix row ≡ place_by setting more now → now ≡ row
    one_row prefix more cell row now one two is end same = same_some (sym end ∙ (one_place prefix more cell row now one two is end same).same)

-- ### Places at which servers have been

-- a place that counts does so by a longer log, too, and by other visits that still tell of it
pub reached_on : {setting : Setting} {top next : List Command} {visits later : Visits} {cell : Cell} {place : ℕ}
    (r : HasReached setting top visits cell place) → IsPrefix r.prefix next → (own : PairState) → later r.server place cell ≡ Some own
    → HasReached setting next later cell place
reached_on r is_prefix own visited =
    record { prefix = r.prefix; is_prefix = is_prefix; placed = r.placed; own = own; visited = visited; server = r.server; serving = r.serving }

-- so does a place at which a holder has been since the other server came back with nothing
pub has_filled_on : {setting : Setting} {top next : List Command} {visits later : Visits} {prefix f : List Command} {cell : Cell} {holder other : ℕ}
    (h : HasFilled setting top visits prefix cell holder other) → IsPrefix h.more next
    → blank_joins_in setting prefix other ≡ blank_joins_in setting f other → (own : PairState)
    → later holder (place_by setting h.more h.row) cell ≡ Some own → HasFilled setting next later f cell holder other
has_filled_on h within joins own visited = record {
  more = h.more;
  within = within;
  row = h.row;
  linked = h.linked;
  joins = h.joins ∙ joins;
  own = own;
  visited = visited;
}

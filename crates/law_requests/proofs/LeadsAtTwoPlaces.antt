-- Who leads a cell at an earlier and at a later place of the log.
use Rattle.law_requests.proofs.Imports.{if◌then◌else◌, ◌==◌, ◌∙◌, ◌≡◌, ◌≤◌, ◌⊎◌, Bool, ByBoth, ByNone, ByOne, Cell, Command, HasLater, HasProperTuples}
use Rattle.law_requests.proofs.Imports.{HasStage, IsBelow, IsCaughtBy, IsPrefix, IsRetired, IsServed, IsSteady, LinkRow, List, Lost, None, Only, Some, State}
use Rattle.law_requests.proofs.Imports.{StaysSo, alone_leads_link, alone_row, alone_row_not_both, ap, arith, both_leads, both_up, by_bool, cell_link}
use Rattle.law_requests.proofs.Imports.{either_true, false, has_server, has_stage, in_up, inc_of, inl, inr, is_alone_on, is_in, is_lead, is_the_one}
use Rattle.law_requests.proofs.Imports.{is_the_so, is_up, lead, lead_alone, lead_is, leaving, led_by, led_so, live, log_alone, log_below, log_plain}
use Rattle.law_requests.proofs.Imports.{log_steady, lost_leads, lost_not_alone, none_some, option_and_then, option_map_or, other_of, places_from, prefix_more}
use Rattle.law_requests.proofs.Imports.{prefix_on, prefix_plain, primary_is_one, row_lead, same_numbers, same_only, same_place, same_some, secondary_is_one}
use Rattle.law_requests.proofs.Imports.{so_alone, some_or_none, stage_at, start, state_after, subst, sym, true, true_false, ℕ}
use Rattle.law_state.proofs.LoneHolders.{alone_not_both}
use Rattle.law_requests.specs.KnownRequests.{LedBy}

-- ### One state

-- a cell that takes writes is live and does not leave
pub record Takes (state : State) (cell : Cell) : Type 0 where
  pub lives : live state cell ≡ true
  pub stays : leaving state cell ≡ false

-- its lead is that of its link
takes_lead : (state : State) (cell : Cell) → Takes state cell → lead state cell ≡ option_and_then (row_lead state) (cell_link state cell)
takes_lead state cell takes = lead_is state cell takes.lives takes.stays

pub takes_by : (state : State) (cell : Cell) → HasStage state cell → 1 ≤ stage_at state cell → stage_at state cell ≤ 2 → Takes state cell
takes_by state cell stage low most = record {
  lives = stage.alive low (omega arith);
  stays = by_bool (leaving state cell) (λ leaves. let e = stage.leaves leaves in absurd (omega arith)) (λ no. no);
}

-- a cell whose link has no lead has none
unled_link : (state : State) (cell : Cell) → option_and_then (row_lead state) (cell_link state cell) ≡ None → lead state cell ≡ None
unled_link state cell none = elim (some_or_none (lead state cell)) [
  | inl some ↦ none_some none (led_so state cell some.0 some.1).leads
  | inr unled ↦ unled
]

-- one server leads a cell
pub one_lead : (state : State) (n m : ℕ) (cell : Cell) → is_lead state n cell ≡ true → is_lead state m cell ≡ true → n ≡ m
one_lead state n m cell one other = same_some (sym (is_the_one (lead state cell) n one) ∙ is_the_one (lead state cell) m other)

-- who holds a link alone is one of its two servers
pub holder_of_row : (state : State) (row : LinkRow) (n : ℕ) (whole : Bool) → row.state ≡ Only n whole → IsServed state row → has_server n row ≡ true
holder_of_row state row n whole only (ByBoth both one other) = alone_row_not_both row n only both
holder_of_row state row n whole only (ByOne holder other w so (inl pair) out) = primary_is_one row n (pair.0 ∙ same_only (sym so ∙ only))
holder_of_row state row n whole only (ByOne holder other w so (inr pair) out) = secondary_is_one row n (pair.1 ∙ same_only (sym so ∙ only))
holder_of_row state row n whole only (ByNone one other lost pair out) = lost_not_alone row n lost only

-- the link of a cell that this server leads: it is one of the link's two
pub record HasOwnLink (state : State) (n : ℕ) (cell : Cell) : Type 0 where
  pub row : LinkRow
  pub is : cell_link state cell ≡ Some row
  pub has : has_server n row ≡ true

pub own_link : (state : State) → IsSteady state → (n : ℕ) (cell : Cell) → is_lead state n cell ≡ true → HasOwnLink state n cell
own_link state steady n cell leads = elim (led_by state steady cell n (is_the_one (lead state cell) n leads)) [
  | inl b ↦ record { row = b.0.row; is = b.0.is; has = primary_is_one b.0.row n b.1 }
  | inr held ↦ record { row = held.row; is = held.is; has = holder_of_row state held.row n held.whole held.so held.linked.served }
]

-- a link whose cell takes writes, and has no lead, is Lost, or a server that is Out holds it alone
pub record IsHeldOut (state : State) (row : LinkRow) : Type 0 where
  pub holder : ℕ
  pub whole : Bool
  pub alone : row.state ≡ Only holder whole
  pub out : is_up state holder ≡ false

pub held_out : (state : State) → IsSteady state → (cell : Cell) (row : LinkRow) → cell_link state cell ≡ Some row → Takes state cell
    → lead state cell ≡ None → IsHeldOut state row ⊎ (row.state ≡ Lost)
held_out state steady cell row is takes unled =
    let none = sym (takes_lead state cell takes) ∙ unled in
    elim (steady.linked cell row is).served [
      | ByBoth both one two ↦ none_some none (both_leads state cell row is both)
      | ByOne holder other whole only pair out ↦ inl (record {
        holder = holder;
        whole = whole;
        alone = only;
        out = by_bool (is_up state holder) (λ up. none_some none (alone_leads_link state cell row is holder whole only up)) (λ no. no);
      })
      | ByNone one other lost pair out ↦ inr lost
    ]

-- the cell's link is Lost
pub record HasLost (state : State) (cell : Cell) : Type 0 where
  pub row : LinkRow
  pub is : cell_link state cell ≡ Some row
  pub lost : row.state ≡ Lost

-- no other server leads a link that one holds alone
pub leader_alone : (state : State) → IsSteady state → (n m : ℕ) (cell : Cell) → is_lead state n cell ≡ true
    → is_alone_on state m cell ≡ true → n ≡ m
leader_alone state steady n m cell leads alone =
    let a = alone_row state n cell (lead_alone state steady n cell leads (alone_not_both state m cell alone)) in
    let b = alone_row state m cell alone in
    same_only (sym a.alone ∙ ap (λ (r : LinkRow). r.state) (same_some (sym a.is ∙ b.is)) ∙ b.alone)

-- and who does so leads it, while it is In and the cell takes writes
pub alone_leads : (state : State) (n : ℕ) (cell : Cell) → Takes state cell → is_alone_on state n cell ≡ true → is_up state n ≡ true
    → lead state cell ≡ Some n
alone_leads state n cell takes alone up =
    let a = alone_row state n cell alone in takes_lead state cell takes ∙ alone_leads_link state cell a.row a.is n a.whole a.alone up

-- both servers of a link are In where its Caught acts
pub caught_up : (state : State) (row : LinkRow) (entry : Command) (c : IsCaughtBy state entry row) → IsServed state row → (n : ℕ)
    → has_server n row ≡ true
    → is_up state n ≡ true
caught_up state row entry c served n has =
    let holder = in_up state c.holder c.inc c.holds in
    let other = in_up state (other_of c.holder row) c.other_inc c.joins in
    by_bool (row.primary == c.holder)
    (λ t.
    let mine = same_numbers row.primary c.holder t in
    both_up (is_up state) row n (ap (is_up state) mine ∙ holder)
    (ap (λ b. is_up state (if b then row.secondary else row.primary)) (sym t) ∙ other) has)
    (λ f.
    let mine = same_numbers row.secondary c.holder
    (either_true (row.primary == c.holder) (row.secondary == c.holder) (holder_of_row state row c.holder c.whole c.alone served) f) in
    both_up (is_up state) row n (ap (λ b. is_up state (if b then row.secondary else row.primary)) (sym f) ∙ other)
    (ap (is_up state) mine ∙ holder) has)

-- ### A log

module _ (servers : ℕ) (log : List Command) (plain : HasProperTuples servers log) (cell : Cell) where
  pub stage_by : HasStage (state_after servers log) cell
  stage_by = let p = log_plain servers log plain in has_stage (state_after servers log) p.rows p.homes cell

  -- a cell that a server leads takes writes
  pub led_stage : (n : ℕ) → is_lead (state_after servers log) n cell ≡ true
      → (1 ≤ stage_at (state_after servers log) cell) × (stage_at (state_after servers log) cell ≤ 2)
  led_stage n leads = let h = stage_by.leads n leads in (h.1, h.2)

  pub takes_at : 1 ≤ stage_at (state_after servers log) cell → stage_at (state_after servers log) cell ≤ 2 → Takes (state_after servers log) cell
  takes_at = takes_by (state_after servers log) cell stage_by

-- ### A longer log

-- a server of a link at whose place the link still is, is In as before
pub seat_stays : (s t : State) (cell : Cell) (row : LinkRow) → StaysSo cell row s t → (n inc : ℕ) → has_server n row ≡ true
    → is_in s n inc ≡ true
    → is_in t n inc ≡ true
seat_stays s t cell row stays n inc has seat = by_bool (row.primary == n)
    (λ e. by row.primary (same_numbers row.primary n e) stays.primary)
    (λ f. by row.secondary (same_numbers row.secondary n (either_true (row.primary == n) (row.secondary == n) has f)) stays.secondary)
  where
    by : (k : ℕ) → k ≡ n → inc_of t k ≡ inc_of s k → is_in t n inc ≡ true
    by k e same = subst (λ i. is_in t i inc ≡ true) e
        (ap (λ o. option_map_or (λ present. present == inc) o false) same ∙ subst (λ i. is_in s i inc ≡ true) (sym e) seat)

-- so is who led its cell, which it leads still, where this takes writes
pub led_while : (s t : State) → IsSteady s → IsSteady t → (cell : Cell) (row : LinkRow) → cell_link s cell ≡ Some row
    → StaysSo cell row s t → Takes t cell → (n inc : ℕ)
    → LedBy s n inc cell → LedBy t n inc cell
led_while s t was now cell row is stays takes n inc led =
    let linked = now.linked cell row stays.same in
    elim (led_by s was cell n (is_the_one (lead s cell) n led.leads)) [
      | inl b ↦ (
          let same : b.0.row ≡ row = same_some (sym b.0.is ∙ is) in
          let first : row.primary ≡ n = ap (λ (r : LinkRow). r.primary) (sym same) ∙ b.1 in
          let both = ap (λ (r : LinkRow). r.state) (sym same) ∙ b.0.so in
          record {
            seated = seat_stays s t cell row stays n inc (primary_is_one row n first) led.seated;
            leads = is_the_so (lead t cell) n (takes_lead t cell takes ∙ both_leads t cell row stays.same both ∙ ap Some first);
          })
      | inr held ↦ (
          let same : held.row ≡ row = same_some (sym held.is ∙ is) in
          let only : row.state ≡ Only n held.whole = ap (λ (r : LinkRow). r.state) (sym same) ∙ held.so in
          let has = holder_of_row t row n held.whole only linked.served in
          let seated = seat_stays s t cell row stays n inc has led.seated in
          record {
            seated = seated;
            leads = is_the_so (lead t cell) n
                (takes_lead t cell takes ∙ alone_leads_link t cell row stays.same n held.whole only (in_up t n inc seated));
          })
    ]

module _ (servers : ℕ) (prefix whole : List Command) (plain : HasProperTuples servers whole) (is_prefix : IsPrefix prefix whole) where
  abbrev earlier : State
  earlier = state_after servers prefix

  abbrev later : State
  later = state_after servers whole

  was_steady : IsSteady earlier
  was_steady = log_steady servers prefix (prefix_plain servers prefix whole plain is_prefix)

  below : IsBelow earlier later
  below = log_below servers prefix whole plain is_prefix

  -- the row of a cell's link, while the cell is not retired
  later_row : (cell : Cell) (row : LinkRow) → cell_link earlier cell ≡ Some row → (IsRetired later cell → ⊥) → HasLater earlier later cell row
  later_row cell row is alive = elim (below.rows cell row is) [ inl h ↦ h | inr died ↦ absurd (alive died) ]

  -- a cell that a server led takes writes as long as its stage says so
  pub takes_later : (n : ℕ) (cell : Cell) → is_lead earlier n cell ≡ true → stage_at later cell ≤ 2 → Takes later cell
  takes_later n cell leads most =
      let low = (led_stage servers prefix (prefix_plain servers prefix whole plain is_prefix) cell n leads).0 in
      let up = below.stages cell in
      takes_at servers whole plain cell (omega arith) most

  -- a server of a link is so later
  pub own_link_on : (n : ℕ) (cell : Cell) → (IsRetired later cell → ⊥) → HasOwnLink earlier n cell → HasOwnLink later n cell
  own_link_on n cell alive link =
      let h = later_row cell link.row link.is alive in
      record {
        row = h.now;
        is = h.is;
        has = (λ i. has_server n (record h.now { primary = h.so.primary i; secondary = h.so.secondary i }))
            ∙ link.has;
      }

  pub led_at_place : (n inc : ℕ) (cell : Cell) (row : LinkRow) → cell_link earlier cell ≡ Some row
      → places_from (start servers) whole row ≡ places_from (start servers) prefix row → stage_at later cell ≤ 2 → LedBy earlier n inc cell
      → LedBy later n inc cell
  led_at_place n inc cell row is place most led = elim (same_place servers prefix whole cell row plain is_prefix is place) [
    | inl stays ↦ led_while earlier later was_steady (log_steady servers whole plain) cell row is stays (takes_later n cell led.leads most) n inc led
    | inr died ↦ let e = died.1 in absurd (omega arith)
  ]

  -- a link that is Lost has no lead from there on
  pub no_lead_on : (cell : Cell) (row : LinkRow) → cell_link earlier cell ≡ Some row → row.state ≡ Lost → lead later cell ≡ None
  no_lead_on cell row is lost = unled_link later cell (elim (below.rows cell row is) [
    | inl h ↦ lost_leads later cell h.now h.is (h.lost lost)
    | inr died ↦ ap (option_and_then (row_lead later)) died.0
  ])

  -- one that a server holds alone stays so while one of its two is Out, or it is Lost
  pub held_while : (n : ℕ) → ((log : List Command) → IsPrefix prefix log → IsPrefix log whole → is_up (state_after servers log) n ≡ false)
      → (cell : Cell) (row : LinkRow) (holder : ℕ) (copied : Bool) → cell_link earlier cell ≡ Some row → has_server n row ≡ true
      → row.state ≡ Only holder copied → (IsRetired later cell → ⊥)
      → (is_alone_on later holder cell ≡ true) ⊎ HasLost later cell
  held_while n out cell row holder copied is has only alive =
      let h = later_row cell row is alive in
      elim (log_alone servers prefix whole plain is_prefix cell row h.now holder copied is only h.is) [
        | inl same ↦ inl (so_alone later holder cell h.now same.0 h.is same.1)
        | inr (inl lost) ↦ inr (record { row = h.now; is = h.is; lost = lost.0 })
        | inr (inr c) ↦ (
            let found = c.found in
            let until_whole = prefix_on found.until _ whole (prefix_more found.until found.entry) found.stands in
            let steady = log_steady servers found.until (prefix_plain servers found.until whole plain until_whole) in
            true_false (caught_up (state_after servers found.until) (record row { state = Only holder c.later }) found.entry found.acts
            (steady.linked cell (record row { state = Only holder c.later }) found.was).served n has)
            (out found.until found.following until_whole))
      ]

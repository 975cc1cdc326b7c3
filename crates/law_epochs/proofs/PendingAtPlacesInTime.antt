-- A client's write that a server had pending when it was last at a place of the cell's link is in time at each prefix of the log at that place:
-- a report by which the era rose would have been made before the visit, or during it.
use Rattle.law_epochs.proofs.Imports.{[], ◌++◌, ◌∙◌, ◌∷◌, ◌≡◌, ◌≤◌, ◌⊎◌, AliveIn, AreSteps, At, Cell, Command, HasProperTuples, IsAt, IsLinked, IsPrefix}
use Rattle.law_epochs.proofs.Imports.{LinkRow, List, Pairs, Pending, Record, Setting, Some, WasDraining, WasThere, World, ap, append-nil, arith, at, at_by}
use Rattle.law_epochs.proofs.Imports.{at_most_or_above, before_part, cell_cmp, chosen_log, either_prefix, history_grows, in_between, inl, inr, is_at, is_at_so}
use Rattle.law_epochs.proofs.Imports.{is_clients, is_in, length, log_below, place_by, place_of_later, places_from, places_grow, prefix_long, prefix_on}
use Rattle.law_epochs.proofs.Imports.{prefix_within, same_place, seat_stays, split_prefixes, stage_at, stage_most, state_after, subst, sym, true, ℕ}
use Rattle.spec_state.specs.State.{start}
use Rattle.law_epochs.specs.InTime.{IsTimely}
use Rattle.law_epochs.proofs.PendingIsInTime.{IsOpened, IsReported, chosen_plain, firm, opened_by, opened_later, ran, seated_now, timely_or_reported}
use Rattle.law_epochs.proofs.PendingIsInTime.{was_opened}
use Rattle.law_epochs.proofs.ReportedHaveNoPending.{grows, not_held}
use Rattle.law_epochs.proofs.LeadsAreOfLinks.{led_has}
use Rattle.law_epochs.proofs.InTimeStays.{was_leaving}
use Rattle.law_epochs.proofs.EpochScenes.{Run, cut, end_of}

-- the write, and the place
pub record HadWrite (setting : Setting) (records : List Record) : Type 0 where
  pub n : ℕ
  pub place : ℕ
  pub cell : Cell
  pub pairs : Pairs
  pub op : Pending
  pub was : WasThere setting records n place cell pairs
  pub is : at cell_cmp pairs.pending cell ≡ Some op
  pub clients : is_clients op.kind ≡ true

module _ (it : Run) (had : HadWrite (end_of it).setting it.records) where
  open it use {script, sound, records, legal}
  open end_of it use {setting, chosen}
  open had use {n, place, cell, op, was, is, clients}

  abbrev servers : ℕ
  servers = script.servers

  abbrev then : World
  then = At script was.before

  abbrev entries : List Command
  entries = (then.servers n).log.applied

  legal_then : AreSteps script was.before
  legal_then = (cut it was.before was.later was.is).legal

  pending_then : at cell_cmp (then.servers n).own.pairs.pending cell ≡ Some op
  pending_then = ap (λ (p : Pairs). at cell_cmp p.pending cell) was.had ∙ is

  here : IsAt setting n (then.servers n) place cell
  here = at_by setting n (then.servers n) place cell was.there

  chosen_on : IsPrefix (chosen_log setting then) chosen
  chosen_on = history_grows script records sound legal was.before was.later was.is

  entries_chosen : IsPrefix entries chosen
  entries_chosen = prefix_on entries _ chosen ((firm script sound was.before legal_then).servers n) chosen_on

  plain : (log : List Command) → IsPrefix log chosen → HasProperTuples servers log
  plain = chosen_plain script sound records legal

  abbrev inc : ℕ
  inc = ran script sound was.before legal_then n

  o : IsOpened script (chosen_log setting then) n inc cell op
  o = was_opened script sound was.before legal_then n cell op pending_then clients

  seated : is_in (state_after servers entries) n inc ≡ true
  seated = seated_now script sound was.before legal_then n cell op pending_then clients

  opened_first : IsPrefix o.opened entries
  unfolding o
  opened_first = opened_by script sound was.before legal_then n cell op pending_then clients

  -- the row that the server knew, at this prefix
  abbrev IsThere : List Command → Type 0
  IsThere prefix = place_by setting prefix here.row ≡ place

  module _ (prefix : List Command) (lies : IsPrefix prefix chosen) (at_place : IsThere prefix)
      (alive : AliveIn (state_after servers prefix) cell) (le : op.rev ≤ length prefix) where
    more : IsPrefix o.opened prefix
    more = let long = o.long in prefix_within o.opened prefix chosen (prefix_on o.opened _ chosen o.lies chosen_on) lies (omega arith)

    -- the server is In at each prefix at the place
    seat : is_in (state_after servers prefix) n inc ≡ true
    seat = elim (either_prefix entries prefix chosen entries_chosen lies) [
      | inl on ↦ elim (same_place servers entries prefix cell here.row (plain prefix lies) on here.linked (at_place ∙ here.at)) [
        | inl stays ↦
            let has = led_has servers o.opened entries n cell here.row (plain entries entries_chosen) opened_first o.leads here.linked in
            seat_stays (state_after servers entries) (state_after servers prefix) cell here.row stays n inc has seated
        | inr died ↦ let retired = died.1 in let low = alive in absurd (omega arith)
      ]
      | inr back ↦
          in_between setting (At script records) (firm script sound records legal) o.opened prefix entries more back entries_chosen n inc o.seated seated
    ]

    module _ (r : IsReported script sound records legal n inc cell o.opened prefix) where
      -- a report that was made before the visit
      made_before : (rest : List Record) → was.before ≡ r.made.before ++ rest → ⊥
      made_before [] e =
          not_held script sound r.made.before n cell op r.until
          (subst (λ rs. at cell_cmp ((At script rs).servers n).own.pairs.pending cell ≡ Some op) (e ∙ append-nil r.made.before) pending_then) clients
          r.made.drained r.holds
      made_before (next ∷ rest) e =
          let made : WasDraining setting was.before n inc r.until = record {
            ran = record { before = r.made.before; own = next; later = rest; is = e; lives = r.made.lives; runs = r.made.runs };
            at = r.made.at;
            drained = r.made.drained;
          } in
          let lt = opened_later script sound was.before legal_then n inc cell op r.until made r.holds pending_then clients in
          let long = o.long in
          let below = prefix_long o.opened r.until r.following in
          omega arith

      -- one that was made since: the server was at the place
      module _ (rest : List Record) (e : r.made.before ≡ was.before ++ rest) where
        legal_made : AreSteps script r.made.before
        legal_made = before_part script r.made.before (r.made.own ∷ r.made.later) (subst (AreSteps script) r.made.is legal)

        onward : IsPrefix entries r.until
        onward = subst (IsPrefix entries) r.made.at (grows script sound r.made.before legal_made was.before rest e n)

        abbrev same_at : List Command → LinkRow → ℕ
        same_at log known = places_from (start servers) log known

        place_then : same_at r.until here.row ≡ same_at entries here.row
        place_then =
            let up = places_grow servers entries r.until here.row onward in
            let most = places_grow servers r.until prefix here.row r.before in
            let same = at_place ∙ here.at in
            omega arith

        alive_then : AliveIn (state_after servers r.until) cell
        alive_then = let up = (log_below servers r.until prefix (plain prefix lies) r.before).stages cell in let low = alive in omega arith

        linked_then : IsLinked setting r.until cell here.row
        linked_then =
            let until_plain = plain r.until (prefix_on r.until prefix chosen r.before lies) in
            elim (same_place servers entries r.until cell here.row until_plain onward here.linked place_then) [
              | inl stays ↦ stays.same
              | inr died ↦ let retired = died.1 in let low = alive_then in absurd (omega arith)
            ]

        stood : is_at setting n ((At script r.made.before).servers n) place cell ≡ true
        stood =
            let server = (At script r.made.before).servers n in
            let at_it = is_at_so setting n server cell here.row (subst (λ log. IsLinked setting log cell here.row) (sym r.made.at) linked_then)
            (subst (λ log. is_in (state_after servers log) n server.life.inc ≡ true) (sym r.made.at)
            (subst (λ i. is_in (state_after servers r.until) n i ≡ true) (sym r.made.lives) r.seated))
            (subst (λ log. AliveIn (state_after servers log) cell) (sym r.made.at) alive_then) in
            subst (λ p. is_at setting n server p cell ≡ true)
            (ap (λ log. place_by setting log here.row) r.made.at ∙ place_then ∙ sym here.at) at_it

        made_there : was.later ≡ rest ++ r.made.own ∷ r.made.later → ⊥
        made_there after_rest =
            let server = λ (rs : List Record). (At script rs).servers n in
            let had = was.since rest (r.made.own ∷ r.made.later) after_rest (subst (λ rs. is_at setting n (server rs) place cell ≡ true) e stood) in
            let pending : at cell_cmp (server r.made.before).own.pairs.pending cell ≡ Some op =
            subst (λ rs. at cell_cmp (server rs).own.pairs.pending cell ≡ Some op) (sym e) (ap (λ (p : Pairs). at cell_cmp p.pending cell) had ∙ is) in
            not_held script sound r.made.before n cell op r.until pending clients r.made.drained r.holds

      never : ⊥
      never = elim (split_prefixes r.made.before (r.made.own ∷ r.made.later) was.before was.later (sym r.made.is ∙ was.is)) [
        | inl earlier ↦ made_before earlier.0 earlier.1
        | inr since ↦ made_there since.0 since.1 since.2
      ]

    -- so the era has not risen
    timely_at : IsTimely servers prefix cell op
    timely_at = elim (timely_or_reported script sound records legal n inc cell op o.opened prefix more lies o.seated seat o.unfenced o.timely) [
      | inl timely ↦ timely
      | inr reported ↦ absurd (never reported)
    ]

  -- at a prefix at the place the cell is not retired: it would have been leaving at the place, or before
  entries_long : op.rev ≤ length entries
  entries_long = let long = o.long in let up = prefix_long o.opened entries opened_first in omega arith

  still_alive : (prefix : List Command) → IsPrefix prefix chosen → IsThere prefix → AliveIn (state_after servers prefix) cell
  still_alive prefix lies at_place = elim (either_prefix entries prefix chosen entries_chosen lies) [
    | inr back ↦ (let up = (log_below servers prefix entries (plain entries entries_chosen) back).stages cell in let low = here.alive in omega arith)
    | inl on ↦ elim (at_most_or_above (stage_at (state_after servers prefix) cell) 3) [
      | inl three ↦ (omega arith)
      | inr four ↦
          let most = stage_most (state_after servers prefix) cell in
          let was_so = was_leaving servers entries prefix cell (plain prefix lies) on here.row here.linked (omega arith) in
          absurd (not_left prefix lies at_place was_so.until was_so.lies was_so.leaves)
    ]
  ]
    where
      not_left : (prefix : List Command) → IsPrefix prefix chosen → IsThere prefix → (until : List Command) → IsPrefix until prefix
          → stage_at (state_after servers until) cell ≡ 3 → ⊥
      not_left prefix lies at_place until before three = elim (either_prefix entries until chosen entries_chosen (prefix_on until prefix chosen before lies)) [
        | inr back ↦
            let up = (log_below servers until entries (plain entries entries_chosen) back).stages cell in
            let two = (timely_at entries entries_chosen (sym here.at) here.alive entries_long).stays in
            omega arith
        | inl onward ↦
            let low = places_grow servers entries until here.row onward in
            let high = places_grow servers until prefix here.row before in
            let begins = here.at in
            let ends = at_place in
            let long = entries_long in
            let longer = prefix_long entries until onward in
            let two = (timely_at until (prefix_on until prefix chosen before lies) (omega arith) (omega arith) (omega arith)).stays in
            omega arith
      ]

  timely_there : (prefix : List Command) → IsPrefix prefix chosen → IsThere prefix → op.rev ≤ length prefix → IsTimely servers prefix cell op
  timely_there prefix lies at_place le = timely_at prefix lies at_place (still_alive prefix lies at_place) le

  -- also by the row that the link has at another prefix
  pub timely_known : (other prefix : List Command) (row : LinkRow) → IsPrefix other chosen → IsLinked setting other cell row → IsPrefix prefix chosen
      → place_by setting prefix row ≡ place → op.rev ≤ length prefix → IsTimely servers prefix cell op
  timely_known other prefix row other_lies linked lies at_place le =
      timely_there prefix lies (same_row (either_prefix entries other chosen entries_chosen other_lies) ∙ at_place) le
    where
      all : HasProperTuples servers chosen
      all = (firm script sound records legal).plain

      same_row : IsPrefix entries other ⊎ IsPrefix other entries → place_by setting prefix here.row ≡ place_by setting prefix row
      same_row (inl on) = sym (place_of_later setting chosen all entries other prefix cell here.row row on other_lies here.linked linked)
      same_row (inr back) = place_of_later setting chosen all other entries prefix cell row here.row back entries_chosen linked here.linked

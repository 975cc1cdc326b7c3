-- A server at work that has started a ballot for a Caught has nothing under way on the link: an operation would be held, and a copy was closed.
-- And the two copies are equal while nothing touches the link.
use Rattle.law_run.proofs.Imports.{◌++◌, ◌==◌, ◌∙◌, ◌≡◌, ◌≢◌, ◌⊎◌, AliveIn, AreCaughtUp, AreInAsThen, AreSteps, Bool, Both, Cell, Command, CopiesStayEqual}
use Rattle.law_run.proofs.Imports.{CopiesWaitEqual, HasAppliedNone, HasEqualCopies, HasProperTuples, IsAt, IsBetween, IsCatching, IsLast, IsPrefix, IsRetired}
use Rattle.law_run.proofs.Imports.{IsSound, KeptAfter, LinkRow, List, None, Only, Option, PairOk, PairState, Record, Rests, Script, Server, Setting, Some}
use Rattle.law_run.proofs.Imports.{State, StaysSo, Store, WasThere, World, alive_on, alone_by, always_firm, ap, arith, asking_along, at, at_by, both_true}
use Rattle.law_run.proofs.Imports.{cell_cmp, cell_link, chain_in, chosen_log, chosen_state, copying_on, counted, false, good_after, has_proposed, held_as_flag}
use Rattle.law_run.proofs.Imports.{history_agrees, history_grows, history_is_firm, holder_is_one, id_of, in_once, inc_of, inl, inr, is_at_work, is_flagged}
use Rattle.law_run.proofs.Imports.{is_in, live, live_stage, log_held_or_both, log_steady, none_some, one_place, one_row, option_map_or, other_alone}
use Rattle.law_run.proofs.Imports.{other_between, other_of, pair_at, place_by, place_in, place_of_later, places_grow, prefix_itself, prefix_legal, prefix_on}
use Rattle.law_run.proofs.Imports.{prefix_plain, refl, rests_after, same_or_apart, same_place, server_state, setting_of, some_or_none, split_prefixes, start}
use Rattle.law_run.proofs.Imports.{start_rests, state_after, store_by, subst, sym, top_last, true, true_false, world_after, ℕ}
use Rattle.law_run.proofs.OwnPlacesAreLatest.{equal_pair, unfollowed_halves}

module _ (script : Script) (records : List Record) (sound : IsSound script) (legal : AreSteps script records) where
  abbrev setting : Setting
  setting = setting_of script

  abbrev w : World
  w = world_after setting (start setting) records

  rests : Rests setting w
  rests = rests_after setting (start setting) records (always_firm script records sound legal) (start_rests script) legal

  good : KeptAfter script records
  good = good_after script records sound legal

  module _ (n : ℕ) (cell : Cell) (works : is_at_work (server_state setting w n) w n ≡ true) (lives : live (server_state setting w n) cell ≡ true)
      (started : has_proposed (server_state setting w n) (w.servers n).own cell ≡ true) where
    abbrev state : State
    state = server_state setting w n

    seated : is_in state n (w.servers n).life.inc ≡ true
    seated = (both_true (w.servers n).life.running (is_in state n (w.servers n).life.inc) works).1

    none_pending : at cell_cmp (w.servers n).own.pairs.pending cell ≡ None
    none_pending = elim (some_or_none (at cell_cmp (w.servers n).own.pairs.pending cell)) [
      | inl some ↦ true_false started (((rests.pending n).staged cell some.0 some.1).unheld lives)
      | inr none ↦ none
    ]

    none_copied : copying_on (w.servers n).own cell ≡ None
    none_copied = elim (some_or_none (copying_on (w.servers n).own cell)) [
      | inl some ↦ (
          let may = ((rests.resting n).copying cell some.0 some.1).may in
          let alone = alone_by n may.row.state (other_alone state n may.other may.row may.other_is) in
          let here = good.here n cell may.row may.is seated (live_stage state cell lives).1 in
          let flag : is_flagged here.own (id_of may.row) ≡ true = subst (λ (o : PairState). is_flagged o (id_of may.row) ≡ true) (sym here.same)
          (sym (held_as_flag state (w.servers n).own cell may.row may.is) ∙ started) in
          let caught = (good.alone (w.servers n).log.applied cell may.row n alone.0 ((history_agrees script records sound legal).servers n) may.is
          alone.1).copying.caught here.own here.is flag in
          none_some (subst (λ (o : PairState). copying_on o cell ≡ None) here.same caught.idle) some.1)
      | inr none ↦ none
    ]

  pub caught_up_after : AreCaughtUp setting w
  caught_up_after n cell works lives started = (none_pending n cell works lives started, none_copied n cell works lives started)

  -- ### Equal chains

  abbrev chosen : List Command
  chosen = chosen_log setting w

  plain : HasProperTuples script.servers chosen
  plain = (history_is_firm script records sound legal).plain

  legal_prefix : (prefix suffix : List Record) → records ≡ prefix ++ suffix → AreSteps script prefix
  legal_prefix prefix suffix is = (prefix_legal setting (start setting) prefix suffix (subst (AreSteps script) is legal)).0

  -- what a server has applied on the way is chosen
  applied_within : (prefix suffix : List Record) → records ≡ prefix ++ suffix → (n : ℕ)
      → IsPrefix ((world_after setting (start setting) prefix).servers n).log.applied chosen
  applied_within prefix suffix is n =
      prefix_on _ (chosen_log setting (world_after setting (start setting) prefix)) chosen
      ((history_agrees script prefix sound (legal_prefix prefix suffix is)).servers n) (history_grows script records sound legal prefix suffix is)

  module _ (prefix suffix : List Record) (is : records ≡ prefix ++ suffix) (n : ℕ) (cell : Cell) (row : LinkRow)
      (catching : IsCatching setting (world_after setting (start setting) prefix) n cell row) (lives : live (chosen_state setting w) cell ≡ true) where
    abbrev then : World
    then = world_after setting (start setting) prefix

    abbrev entries : List Command
    entries = (then.servers n).log.applied

    is_prefix : IsPrefix entries chosen
    is_prefix = applied_within prefix suffix is n

    whole : (b : Bool) × (row.state ≡ Only n b)
    whole = alone_by n row.state catching.alone

    alive : AliveIn (chosen_state setting w) cell
    alive = (live_stage (chosen_state setting w) cell lives).1

    alive_then : AliveIn (state_after script.servers entries) cell
    alive_then = alive_on setting chosen plain entries chosen cell is_prefix (prefix_itself chosen) alive

    seat_then : is_in (server_state setting then n) n (then.servers n).life.inc ≡ true
    seat_then = (both_true (then.servers n).life.running (is_in (server_state setting then n) n (then.servers n).life.inc) catching.works).1

    -- no server has served the link at a later place than the last one
    last : (now : LinkRow) → cell_link (chosen_state setting w) cell ≡ Some now → IsLast good.reached setting chosen cell now
    last now linked = top_last setting records chosen (counted setting w) plain good cell now linked

    -- the two copies by the last stores are those that count
    by_stores : (one other : ℕ)
        → chain_in (store_by setting good.stores chosen one).chains cell ≡ chain_in (store_by setting good.stores chosen other).chains cell
        → chain_in ((counted setting w).servers one).own.store.chains cell ≡ chain_in ((counted setting w).servers other).own.store.chains cell
    by_stores one other same =
        ap (λ (s : Store). chain_in s.chains cell) (sym (good.now one)) ∙ same ∙ ap (λ (s : Store). chain_in s.chains cell) (good.now other)

    -- ### While nothing touches the link

    module _ (same : place_in script.servers chosen row ≡ place_in script.servers entries row) where
      linked : cell_link (chosen_state setting w) cell ≡ Some row
      linked = elim (same_place script.servers entries chosen cell row plain is_prefix catching.linked same) [
        | inl stays ↦ stays.same
        | inr died ↦ (let retired = died.1 in let on = alive in absurd (omega arith))
      ]

      -- at its place the server had the ballot in mind
      minded : (own : PairState) × (good.visits n (place_by setting entries row) cell ≡ Some own) × (is_flagged own (id_of row) ≡ true)
      minded = good.started n (then.servers n).life.inc whole.0 entries cell row is_prefix catching.linked alive_then whole.1 seat_then (record {
        before = prefix;
        later = suffix;
        is = is;
        lives = refl;
        at = refl;
        minded = sym (held_as_flag (server_state setting then n) (then.servers n).own cell row catching.linked) ∙ catching.started;
      })

      equal : HasEqualCopies setting w n row cell
      equal =
          let found = minded in
          let visit : good.visits n (place_by setting chosen row) cell ≡ Some found.0 = ap (λ place. good.visits n place cell) same ∙ found.1 in
          by_stores n (other_of n row)
          (((good.alone chosen cell row n whole.0 (prefix_itself chosen) linked whole.1).beside alive (last row linked)).alike.caught found.0 visit found.2)

    -- ### While the server has not applied the entry that touched it

    module _ (apart : place_in script.servers chosen row ≢ place_in script.servers entries row) (ins : AreInAsThen setting then w n row)
        (unapplied : HasAppliedNone script prefix suffix n row) where
      abbrev now : LinkRow
      now = record row { state = Both }

      between : IsBetween row (other_of n row) n
      between = other_between row n
          (holder_is_one (state_after script.servers entries)
          (log_steady script.servers entries (prefix_plain script.servers entries chosen plain is_prefix)) n cell row catching.linked whole.1)

      -- that entry was the Caught
      touched_by : (cell_link (chosen_state setting w) cell ≡ Some now) ⊎ IsRetired (chosen_state setting w) cell
      touched_by = elim between [
        | inl pair ↦ put_in ins.other_inc (then.servers n).life.inc (was_at pair.0 ins.other_inc ins.was) (was_at pair.1 _ seat_then)
            (is_at_end pair.0 ins.other_inc ins.is) (is_at_end pair.1 _ ins.inc)
        | inr pair ↦ put_in (then.servers n).life.inc ins.other_inc (was_at pair.0 _ seat_then) (was_at pair.1 ins.other_inc ins.was)
            (is_at_end pair.0 _ ins.inc) (is_at_end pair.1 ins.other_inc ins.is)
      ]
        where
          was_at : {one k : ℕ} → one ≡ k → (inc : ℕ) → is_in (state_after script.servers entries) k inc ≡ true
              → is_in (state_after script.servers entries) one inc ≡ true
          was_at e inc on = ap (λ i. is_in (state_after script.servers entries) i inc) e ∙ on

          is_at_end : {one k : ℕ} → one ≡ k → (inc : ℕ) → is_in (chosen_state setting w) k inc ≡ true → is_in (chosen_state setting w) one inc ≡ true
          is_at_end e inc on = ap (λ i. is_in (chosen_state setting w) i inc) e ∙ on

          put_in : (one other : ℕ) → is_in (state_after script.servers entries) row.primary one ≡ true
              → is_in (state_after script.servers entries) row.secondary other ≡ true → is_in (chosen_state setting w) row.primary one ≡ true
              → is_in (chosen_state setting w) row.secondary other ≡ true
              → (cell_link (chosen_state setting w) cell ≡ Some now) ⊎ IsRetired (chosen_state setting w) cell
          put_in one other first second first_on second_on =
              elim (log_held_or_both script.servers entries chosen plain is_prefix cell row one other catching.linked first second first_on second_on) [
                | inl same ↦ absurd (apart same)
                | inr later ↦ later
              ]

      both : cell_link (chosen_state setting w) cell ≡ Some now
      both = elim touched_by [
        | inl so ↦ so
        | inr died ↦ (let retired = died.1 in let on = alive in absurd (omega arith))
      ]

      -- the later row counts the same places
      counts : (log : List Command) → place_by setting log now ≡ place_by setting log row
      counts log = place_of_later setting chosen plain entries chosen log cell row now is_prefix (prefix_itself chosen) catching.linked both

      -- who was at the last place was so as this incarnation, after its ballot
      module _ (own : PairState) (visited : good.visits n (place_by setting chosen now) cell ≡ Some own) where
        abbrev was : WasThere setting records n (place_by setting chosen now) cell own.pairs
        was = good.came n (place_by setting chosen now) cell own visited

        abbrev server_at : List Record → Server
        server_at done = (world_after setting (start setting) done).servers n

        abbrev log : List Command
        log = (server_at was.before).log.applied

        there : IsAt setting n (server_at was.before) (place_by setting chosen now) cell
        there = at_by setting n (server_at was.before) (place_by setting chosen now) cell was.there

        within : IsPrefix log chosen
        within = applied_within was.before was.later was.is n

        row_is : now ≡ there.row
        row_is = one_row setting chosen plain log chosen cell there.row now within (prefix_itself chosen) there.linked both (sym there.at)

        here : place_by setting chosen now ≡ place_by setting log now
        here = there.at ∙ ap (λ (r : LinkRow). place_by setting log r) (sym row_is)

        stays : StaysSo cell there.row (state_after script.servers log) (chosen_state setting w)
        stays = one_place setting chosen plain log chosen cell there.row now within (prefix_itself chosen) there.linked both (sym there.at)

        same_seat : inc_of (chosen_state setting w) n ≡ inc_of (state_after script.servers log) n
        same_seat = elim between [
          | inl pair ↦ subst (λ k. inc_of (chosen_state setting w) k ≡ inc_of (state_after script.servers log) k)
              (ap (λ (r : LinkRow). r.secondary) (sym row_is) ∙ pair.1) stays.secondary
          | inr pair ↦ subst (λ k. inc_of (chosen_state setting w) k ≡ inc_of (state_after script.servers log) k)
              (ap (λ (r : LinkRow). r.primary) (sym row_is) ∙ pair.0) stays.primary
        ]

        same_inc : (server_at was.before).life.inc ≡ (then.servers n).life.inc
        same_inc = in_once (chosen_state setting w) n (server_at was.before).life.inc (then.servers n).life.inc
            (ap (λ o. option_map_or (λ present. present == (server_at was.before).life.inc) o false) same_seat ∙ there.seat) ins.inc

        unseen : ⊥
        unseen = elim (split_prefixes prefix suffix was.before was.later (sym is ∙ was.is)) [
          | inl past ↦ (
              let none = unapplied past.0 was.later past.2 (ap (λ done. (server_at done).life.inc) (sym past.1) ∙ same_inc) in
              let same_log = ap (λ done. place_in script.servers (server_at done).log.applied row) past.1 in
              apart (omega (arith, here, counts chosen, counts log, none, same_log)))
          | inr earlier ↦ (
              let grows = ((asking_along script sound prefix (legal_prefix prefix suffix is)).since was.before earlier.0 earlier.1 n).grows in
              let up = places_grow script.servers log entries now grows in
              let on = places_grow script.servers entries chosen row is_prefix in
              apart (omega (arith, here, counts chosen, counts entries, up, on)))
        ]

      unvisited : good.visits n (place_by setting chosen now) cell ≡ None
      unvisited = elim (some_or_none (good.visits n (place_by setting chosen now) cell)) [
        | inl visit ↦ absurd (unseen visit.0 visit.1)
        | inr none ↦ none
      ]

      -- so nothing was written since
      pair : PairOk (pair_at (store_by setting good.stores chosen) good.visits (place_by setting chosen now) cell row.primary row.secondary)
      pair = ((good.both chosen cell now (prefix_itself chosen) both refl).twins alive (last now both)).pair

      abbrev visit_of : ℕ → Option PairState
      visit_of k = good.visits k (place_by setting chosen now) cell

      abbrev store_at : ℕ → Store
      store_at = store_by setting good.stores chosen

      wait : HasEqualCopies setting w n row cell
      wait = elim between [
        | inl at ↦ by_servers n (other_of n row) (λ i. sym at.1 i) (λ i. sym at.0 i)
            (sym (unfollowed_halves (visit_of row.primary) (visit_of row.secondary) (store_at row.primary) (store_at row.secondary) cell pair
            (ap visit_of at.1 ∙ unvisited)))
        | inr at ↦ by_servers n (other_of n row) (λ i. sym at.0 i) (λ i. sym at.1 i)
            (equal_pair (visit_of row.primary) (visit_of row.secondary) (store_at row.primary) (store_at row.secondary) cell pair
            (λ own some. none_some (ap visit_of at.0 ∙ unvisited) some))
      ]
        where
          by_servers : {one two : ℕ} (k m : ℕ) → k ≡ one → m ≡ two → chain_in (store_at one).chains cell ≡ chain_in (store_at two).chains cell
              → chain_in ((counted setting w).servers k).own.store.chains cell ≡ chain_in ((counted setting w).servers m).own.store.chains cell
          by_servers {one} {two} k m e f same = by_stores k m
              (ap (λ i. chain_in (store_at i).chains cell) e ∙ same ∙ ap (λ i. chain_in (store_at i).chains cell) (sym f))

  pub equal_after : CopiesStayEqual script records
  equal_after prefix suffix n cell row is catching lives same = equal prefix suffix is n cell row catching lives same

  pub waiting_after : CopiesWaitEqual script records
  waiting_after prefix suffix n cell row is catching lives ins unapplied =
      elim (same_or_apart (place_in script.servers chosen row)
      (place_in script.servers ((world_after setting (start setting) prefix).servers n).log.applied row)) [
        | inl same ↦ equal prefix suffix is n cell row catching lives same
        | inr apart ↦ wait prefix suffix is n cell row catching lives apart ins unapplied
      ]

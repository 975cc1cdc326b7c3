-- What an entry does to a link: one that does not touch it leaves its row and its two servers as they are. A longer log has no fewer
-- places.
use Rattle.law_state.proofs.Imports.{[], if◌then◌else◌, ◌&&◌, ◌++◌, ◌+◌, ◌==◌, ◌∙◌, ◌∷◌, ◌≡◌, ◌≢◌, ◌≤◌, ◌⊎◌, Bool, Both, Caught, Cell, Command, IsPrefix}
use Rattle.law_state.proofs.Imports.{Join, Leave, LinkRow, List, Member, None, Option, Some, State, act, after, ap, arith, both_true, by_bool, cell_link}
use Rattle.law_state.proofs.Imports.{false, fold, has_server, inc_in, inc_of, inl, inr, is_link, is_up, is_up_as, length, link_at, link_of, may_join}
use Rattle.law_state.proofs.Imports.{new_rows, none_some, number_itself, option_and_then, option_map, owner, places_from, refl, row_caught, row_left}
use Rattle.law_state.proofs.Imports.{same_numbers, same_or_apart, slice_get, some_or_none, start, state_after, subst, sym, touches, true, true_false}
use Rattle.law_state.proofs.Imports.{tuple_of, ups, with_disk, with_move, ℕ}
use Rattle.law_state.specs.LinkChanges.{IsReseated, IsTouchedBy, By_caught, By_join, By_leave, StaysSo, row_joined}
use Rattle.law_state.specs.Plain.{HasProperTuple, HasProperTuples}
use Rattle.law_state.specs.Homes.{IsRetired}
use Rattle.law_state.specs.Tables.{IsSettledState}
use Rattle.law_state.proofs.EntriesOnlyAdd.{entering, log_plain}
use Rattle.law_state.specs.LinkRows.{IsServed, ByBoth, ByNone, ByOne}
use Rattle.law_state.proofs.Caughts.{act_caught, acting_caught, alone_by, catch_so, caught_by, link_caught, row_in_both, row_uncaught, the_row, touch_by}
use Rattle.law_state.proofs.Caughts.{touch_so}
use Rattle.law_state.proofs.MembershipChanges.{found_itself, linked_at}
use Rattle.law_state.proofs.GrownStates.{alone_not_both, lost_not_both}
use Rattle.law_state.proofs.Joins.{joined_by, link_joined, row_beside, some_now, was_out, inc_beside as joined_beside}
use Rattle.law_state.proofs.Leaves.{both_up, inc_beside, left_by, link_left, none_now, row_stays}
use Rattle.law_state.proofs.NewMapLinks.{either_false}
use Rattle.law_state.proofs.MapsAreAdded.{map_prefix}
use Rattle.law_state.proofs.MovesOfDisks.{gone_link, kept_link, moved_state}
use Rattle.law_state.proofs.FencesPass.{cell_settled, inc_settled}
use Rattle.law_state.proofs.ListLookups.{find_prefix, found_at}
use Rattle.law_state.proofs.Steady.{died, grown_below, linked_owner, log_steady, owned_or_none, plain_steady}
use Rattle.law_state.proofs.EntryByEntry.{NextEntry, by_entries, retired_next}
use Rattle.law_state.proofs.EntryOutcomes.{Begins, Catches_up, Ends, Joins, Leaves, Makes, Outcome, outcome}

differ : (a b : ℕ) → (a == b) ≡ false → a ≢ b
differ a b away e = true_false (ap (λ k. k == b) e ∙ number_itself b) away

module _ (servers : ℕ) (s : State) (p : IsSettledState servers s) (cell : Cell) (row : LinkRow) (is : cell_link s cell ≡ Some row) where
  -- the cell's row later, where each of its map's links that was found as this row is found so
  moved_link : (t : State) (now : LinkRow) → ((ids : List ℕ) → tuple_of s.maps cell.map ≡ Some ids → tuple_of t.maps cell.map ≡ Some ids)
      → ((link : ℕ) → link_at s.links cell.map link ≡ Some row → link_at t.links cell.map link ≡ Some now) → cell_link t cell ≡ Some now
  moved_link t now maps links =
      let h = linked_at s cell row is in
      ap (option_and_then (λ ids. link_at t.links cell.map (link_of (length ids) cell.block))) (maps h.0 h.1) ∙ links (link_of (length h.0) cell.block) h.2

  -- it is found by its own map and number
  found_row : link_at s.links row.map row.link ≡ Some row
  found_row = let h = linked_at s cell row is in found_itself s cell.map (link_of (length h.0) cell.block) row h.2

  -- the row is the same, or it is gone
  abbrev Stays : State → Type 0
  Stays t = StaysSo cell row s t ⊎ (cell_link t cell ≡ None)

  same_still : (t : State) → cell_link t cell ≡ Some row → t.view.members ≡ s.view.members → Stays t
  same_still t e members = inl (record {
    same = e;
    primary = ap (λ (m : List Member). option_and_then inc_in (slice_get m row.primary)) members;
    secondary = ap (λ (m : List Member). option_and_then inc_in (slice_get m row.secondary)) members;
  })

  -- over one map more, with its links
  one_map_more : (t : State) (tuple : List ℕ) (disk : ℕ) → t.maps ≡ (with_move s tuple disk).maps → t.links ≡ (with_move s tuple disk).links
      → cell_link t cell ≡ Some row
  one_map_more t tuple disk maps links = moved_link t row
      (λ ids e. ap (λ m. tuple_of m cell.map) maps ∙ map_prefix s.maps ids tuple disk cell.map e)
      (λ link e. ap (λ l. link_at l cell.map link) links ∙ find_prefix (is_link cell.map link) s.links (new_rows (length s.maps) tuple (ups s)) row e)

  act_stays : (entry : Command) (t : State) → Outcome servers s p entry t → touches s entry row ≡ false → Stays t
  act_stays _ _ (Joins server inc blank may) off =
      let away : has_server server row ≡ false = sym (ap (λ b. b && has_server server row) may) ∙ off in
      let apart = either_false (row.primary == server) (row.secondary == server) away in
      let served = ((plain_steady servers s p).linked cell row is).served in
      inl (record {
        same = moved_link (joined_by s server inc blank) row (λ ids e. e) (λ link e.
            link_joined servers s p server inc blank may cell.map link ∙ ap (option_map (row_joined server blank)) e
            ∙ ap Some (row_beside server blank (is_up s) (λ n. is_up_as s n 1) row served away));
        primary = joined_beside servers s p server inc blank may row.primary (differ row.primary server apart.0);
        secondary = joined_beside servers s p server inc blank may row.secondary (differ row.secondary server apart.1);
      })
  act_stays _ _ (Leaves server inc now) off =
      let away : has_server server row ≡ false = sym (ap (λ b. b && has_server server row) now) ∙ off in
      let apart = either_false (row.primary == server) (row.secondary == server) away in
      inl (record {
        same = moved_link (left_by s server) row (λ ids e. e) (λ link e.
            link_left servers s p server inc now cell.map link ∙ ap (option_map (row_left server)) e
            ∙ ap Some (row_stays row server away));
        primary = inc_beside servers s p server inc now row.primary (differ row.primary server apart.0);
        secondary = inc_beside servers s p server inc now row.secondary (differ row.secondary server apart.1);
      })
  act_stays _ _ (Catches_up of link holder inc other other_inc acts) off =
      let away : is_link of link row ≡ false = by_bool (is_link of link row)
      (λ on. true_false (touch_so s row of link holder inc other other_inc on acts) off) (λ no. no) in
      inl (record {
        same = moved_link (caught_by s of link) row (λ ids e. e)
            (λ at e. link_caught (acting_caught p acts) cell.map at
            ∙ ap (option_map (row_caught of link)) e ∙ ap Some (row_uncaught of link row away));
        primary = refl;
        secondary = refl;
      })
  act_stays _ _ (Makes client seq name tuple new fresh proper) off = same_still _ (one_map_more (with_disk s name tuple) tuple s.disks.made refl refl) refl
  act_stays _ _ (Begins client seq disk tuple new at found still proper) off = same_still _ (one_map_more (with_move s tuple at.id) tuple at.id refl refl) refl
  act_stays _ _ (Ends of region link h every last) off =
      let t = moved_state servers s p of region link h every last in
      elim (same_or_apart cell.map of) [
        | inr ne ↦ same_still t (moved_link t row (λ ids e. e) (λ at e. kept_link servers s p of region link h every last cell.map at ne ∙ e)) refl
        | inl same ↦ inr (elim (some_or_none (tuple_of s.maps cell.map)) [
          | inl ids ↦ ap (option_and_then (λ ids. link_at t.links cell.map (link_of (length ids) cell.block))) ids.1
              ∙ ap (λ k. link_at t.links k (link_of (length ids.0) cell.block)) same
              ∙ gone_link servers s p of region link h every last (link_of (length ids.0) cell.block)
          | inr none ↦ ap (option_and_then (λ ids. link_at t.links cell.map (link_of (length ids) cell.block))) none
        ])
      ]
  act_stays _ _ _ off = same_still _ is refl

  pub entry_stays : (entry : Command) → HasProperTuple servers entry → touches s entry row ≡ false
      → StaysSo cell row s (after s entry) ⊎ IsRetired (after s entry) cell
  entry_stays entry plain off =
      let t = act entry s in
      elim (act_stays entry t (outcome servers s p entry plain) off) [
        | inl h ↦ inl (record {
          same = cell_settled t cell ∙ h.same;
          primary = inc_settled t row.primary ∙ h.primary;
          secondary = inc_settled t row.secondary ∙ h.secondary;
        })
        | inr none ↦ (
            let step = entering servers s entry p plain in
            elim ((grown_below servers s (after s entry) p step.plain step.grown).rows cell row is) [
              | inl later ↦ none_some (cell_settled t cell ∙ none) later.is
              | inr gone ↦ inr gone
            ])
      ]

-- ### An entry that touches the link

module _ (servers : ℕ) (s : State) (p : IsSettledState servers s) (cell : Cell) (row : LinkRow) (is : cell_link s cell ≡ Some row)
    (served : IsServed s row) where
  -- who is In after the entry, by what its command does
  seats_after : (entry : Command) → HasProperTuple servers entry → (server : ℕ) (now : Option ℕ) → IsReseated s (act entry s) server now
      → IsReseated s (after s entry) server now
  seats_after entry plain server now h =
      record { here = inc_settled (act entry s) server ∙ h.here; beside = λ n ne. inc_settled (act entry s) n ∙ h.beside n ne }

  row_after : (entry : Command) → HasProperTuple servers entry → (now : LinkRow) → cell_link (act entry s) cell ≡ Some now
      → cell_link (after s entry) cell ≡ Some now
  row_after entry plain now e = cell_settled (act entry s) cell ∙ e

  pub touched : (entry : Command) → HasProperTuple servers entry → touches s entry row ≡ true → IsTouchedBy cell row s entry
  touched (Join server inc blank) plain on =
      let h = both_true (may_join (slice_get s.view.members server) inc) (has_server server row) on in
      By_join (record { server = server; inc = inc; blank = blank; is = refl; may = h.0; one_of = h.1 })
      (row_after (Join server inc blank) plain (row_joined server blank row)
      (ap (λ b. cell_link (if b then joined_by s server inc blank else s) cell) h.0
      ∙ moved_link servers s p cell row is (joined_by s server inc blank) (row_joined server blank row) (λ ids e. e)
      (λ at e. link_joined servers s p server inc blank h.0 cell.map at ∙ ap (option_map (row_joined server blank)) e)))
      (λ both. elim served [
        | ByBoth so one two ↦ true_false (both_up (is_up s) row server one two h.1) (was_out servers s p server inc blank h.0)
        | ByOne holder other whole so pair out ↦ alone_not_both row holder so both
        | ByNone one other so pair out ↦ lost_not_both row so both
      ])
      (seats_after (Join server inc blank) plain server (Some inc)
      (subst (λ b. IsReseated s (if b then joined_by s server inc blank else s) server (Some inc)) (sym h.0)
      (record { here = some_now servers s p server inc blank h.0; beside = joined_beside servers s p server inc blank h.0 })))
  touched (Leave server inc) plain on =
      let h = both_true (is_up_as s server inc) (has_server server row) on in
      By_leave (record { server = server; inc = inc; is = refl; up = h.0; one_of = h.1 })
      (row_after (Leave server inc) plain (row_left server row)
      (ap (λ b. cell_link (if b then left_by s server else s) cell) h.0
      ∙ moved_link servers s p cell row is (left_by s server) (row_left server row) (λ ids e. e)
      (λ at e. link_left servers s p server inc h.0 cell.map at ∙ ap (option_map (row_left server)) e)))
      (seats_after (Leave server inc) plain server None
      (subst (λ b. IsReseated s (if b then left_by s server else s) server None) (sym h.0)
      (record { here = none_now servers s p server inc h.0; beside = inc_beside servers s p server inc h.0 })))
  touched (Caught of link holder inc other other_inc) plain on =
      let h = touch_by s row of link holder inc other other_inc on in
      let k = both_true (row.map == of) (row.link == link) h.0 in
      let found = the_row (acting_caught p h.1) row (found_row servers s p cell row is) h.0 in
      let held = alone_by holder row.state found.alone in
      By_caught
      (record {
        holder = holder;
        inc = inc;
        other_inc = other_inc;
        whole = held.0;
        is = λ i. Caught (sym (same_numbers row.map of k.0) i) (sym (same_numbers row.link link k.1) i) holder inc (sym found.other_is i) other_inc;
        alone = held.1;
        holds = h.1.holds;
        joins = ap (λ n. is_up_as s n other_inc) found.other_is ∙ h.1.joins;
      })
      (record {
        same = row_after (Caught of link holder inc other other_inc) plain (record row { state = Both })
            (ap (λ b. cell_link (if b then caught_by s of link else s) cell) (catch_so s of link holder inc other other_inc h.1)
            ∙ moved_link servers s p cell row is (caught_by s of link) (record row { state = Both }) (λ ids e. e)
            (λ at e. link_caught (acting_caught p h.1) cell.map at
            ∙ ap (option_map (row_caught of link)) e ∙ ap Some (row_in_both of link row h.0)));
        primary = same_seat of link holder inc other other_inc plain row.primary;
        secondary = same_seat of link holder inc other other_inc plain row.secondary;
      })
    where
      same_seat : (of link holder inc other other_inc : ℕ) (plain : HasProperTuple servers (Caught of link holder inc other other_inc)) (n : ℕ)
          → inc_of (after s (Caught of link holder inc other other_inc)) n ≡ inc_of s n
      same_seat of link holder inc other other_inc plain n =
          inc_settled (act (Caught of link holder inc other other_inc) s) n
          ∙ act_caught (λ (t : State). inc_of t n ≡ inc_of s n) s of link holder inc other other_inc (λ acts. refl) refl
  touched _ plain on = true_false on refl

pub log_entry_stays : (servers : ℕ) (log : List Command) (entry : Command) (cell : Cell) (row : LinkRow) → HasProperTuples servers log
    → HasProperTuple servers entry
    → cell_link (state_after servers log) cell ≡ Some row → touches (state_after servers log) entry row ≡ false
    → StaysSo cell row (state_after servers log) (after (state_after servers log) entry) ⊎ IsRetired (after (state_after servers log) entry) cell
log_entry_stays servers log entry cell row all plain is off =
    entry_stays servers (state_after servers log) (log_plain servers log all) cell row is entry plain off

pub log_touched : (servers : ℕ) (log : List Command) (entry : Command) (cell : Cell) (row : LinkRow) → HasProperTuples servers log
    → HasProperTuple servers entry
    → cell_link (state_after servers log) cell ≡ Some row → touches (state_after servers log) entry row ≡ true
    → IsTouchedBy cell row (state_after servers log) entry
log_touched servers log entry cell row all plain is on =
    touched servers (state_after servers log) (log_plain servers log all) cell row is ((log_steady servers log all).linked cell row is).served entry plain on

-- ### Places

pub counted : (b : Bool) (a x y : ℕ) → a ≡ x + y → (if b then a + 1 else a) ≡ (if b then x + 1 else x) + y
counted true a x y e = omega arith
counted false a x y e = e

pub places_on : (row : LinkRow) (s : State) (prefix more : List Command)
    → places_from s (prefix ++ more) row ≡ places_from s prefix row + places_from (fold after s prefix) more row
places_on row s [] more = omega arith
places_on row s (entry ∷ prefix) more = counted (touches s entry row) _ _ _ (places_on row (after s entry) prefix more)

pub places_of_both : (servers : ℕ) (prefix whole : List Command) (row : LinkRow) → (is_prefix : IsPrefix prefix whole)
    → places_from (start servers) whole row ≡ places_from (start servers) prefix row + places_from (state_after servers prefix) is_prefix.later row
places_of_both servers prefix whole row is_prefix = ap (λ log. places_from (start servers) log row) is_prefix.is
    ∙ places_on row (start servers) prefix is_prefix.later

pub places_grow : (servers : ℕ) (prefix whole : List Command) (row : LinkRow) → IsPrefix prefix whole
    → places_from (start servers) prefix row ≤ places_from (start servers) whole row
places_grow servers prefix whole row is_prefix = let e = places_of_both servers prefix whole row is_prefix in omega arith

pub stays_on : (cell : Cell) (row : LinkRow) (s t u : State) → StaysSo cell row s t → StaysSo cell row t u → StaysSo cell row s u
stays_on cell row s t u a b = record { same = b.same; primary = b.primary ∙ a.primary; secondary = b.secondary ∙ a.secondary }

-- a cell that has died stays so: all cells of its map have
pub gone_owner : (servers : ℕ) (s : State) → IsSettledState servers s → (cell : Cell) → IsRetired s cell → owner s cell.map ≡ None
gone_owner servers s p cell died = elim (owned_or_none servers s p cell) [
  | inl h ↦ none_some died.0 (linked_owner servers s p cell h.0 h.1).1
  | inr none ↦ none
]

-- a cell's link is of its map
pub map_of : (servers : ℕ) (s : State) → IsSettledState servers s → (cell : Cell) (row : LinkRow) → cell_link s cell ≡ Some row → row.map ≡ cell.map
map_of servers s p cell row is =
    let h = linked_at s cell row is in
    let at = found_at (is_link cell.map (link_of (length h.0) cell.block)) s.links row h.2 in
    same_numbers row.map cell.map (both_true (row.map == cell.map) (row.link == link_of (length h.0) cell.block) at.2).0

-- an entry adds a place where it touches the link
pub places_touched : (servers : ℕ) (log : List Command) (entry : Command) (row : LinkRow) → touches (state_after servers log) entry row ≡ true
    → places_from (start servers) (log ++ entry ∷ []) row ≡ places_from (start servers) log row + 1
places_touched servers log entry row on =
    places_on row (start servers) log (entry ∷ []) ∙ ap (λ b. places_from (start servers) log row + (if b then 1 else 0)) on

pub places_left : (servers : ℕ) (log : List Command) (entry : Command) (row : LinkRow) → touches (state_after servers log) entry row ≡ false
    → places_from (start servers) (log ++ entry ∷ []) row ≡ places_from (start servers) log row
places_left servers log entry row off =
    let e : places_from (start servers) (log ++ entry ∷ []) row ≡ places_from (start servers) log row + 0 =
    places_on row (start servers) log (entry ∷ []) ∙ ap (λ b. places_from (start servers) log row + (if b then 1 else 0)) off in
    omega arith

-- two logs at one place of a link say the same of it
pub same_place : (servers : ℕ) (prefix whole : List Command) (cell : Cell) (row : LinkRow) → HasProperTuples servers whole → IsPrefix prefix whole
    → cell_link (state_after servers prefix) cell ≡ Some row
    → places_from (start servers) whole row ≡ places_from (start servers) prefix row
    → StaysSo cell row (state_after servers prefix) (state_after servers whole) ⊎ IsRetired (state_after servers whole) cell
same_place servers prefix whole cell row all is_prefix is same =
    by_entries servers prefix whole all is_prefix (λ log. Stays) step (inl (record { same = is; primary = refl; secondary = refl }))
  where
    Stays : State → Type 0
    Stays t = StaysSo cell row (state_after servers prefix) t ⊎ IsRetired t cell

    step : (it : NextEntry servers prefix whole) → Stays (state_after servers it.until) → Stays (after (state_after servers it.until) it.entry)
    step it (inr gone) = inr (retired_next servers prefix whole all is_prefix it cell gone)
    step it (inl one) =
        let off : touches (state_after servers it.until) it.entry row ≡ false = by_bool (touches (state_after servers it.until) it.entry row)
        (λ on.
        let more = places_touched servers it.until it.entry row on in
        let before = places_grow servers prefix it.until row it.following in
        let later = places_grow servers (it.until ++ it.entry ∷ []) whole row it.stands in
        absurd (omega arith))
        (λ off. off) in
        elim (log_entry_stays servers it.until it.entry cell row it.plain it.proper one.same off) [
          | inl two ↦ inl (stays_on cell row (state_after servers prefix) (state_after servers it.until) _ one two)
          | inr gone ↦ inr gone
        ]

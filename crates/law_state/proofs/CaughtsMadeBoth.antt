-- A link that is in Both again: the Caught that made it so stands in the log. And a link's place in Both is told by the incarnations
-- of its two servers.
use Rattle.law_state.proofs.Imports.{[], if◌then◌else◌, ◌&&◌, ◌++◌, ◌+◌, ◌==◌, ◌∙◌, ◌∷◌, ◌≡◌, ◌≢◌, ◌⊎◌, Bool, Both, Caught, Cell, Command, IsPrefix, Join}
use Rattle.law_state.proofs.Imports.{Leave, LinkRow, LinkState, List, Lost, None, Only, Some, State, act, after, ap, both_true, by_bool, cell_link, false}
use Rattle.law_state.proofs.Imports.{has_server, inc_of, inl, inr, is_link, is_up, is_up_as, left_state, link_at, may_catch, may_join, none_some, other_of}
use Rattle.law_state.proofs.Imports.{owner, places_from, refl, row_left, same_numbers, same_some, slice_get, start, state_after, subst, sym, touches, true}
use Rattle.law_state.proofs.Imports.{true_false, ℕ}
use Rattle.spec_rules.specs.State.{is_in}
use Rattle.law_state.specs.LaterStates.{IsBelow}
use Rattle.law_state.specs.Homes.{IsRetired}
use Rattle.law_state.specs.LinkChanges.{IsCaughtBy, IsCaughtIn, IsCaughtSince, IsCaughtStill, IsHeldStill, IsLostIn, By_caught, By_join, By_leave, StaysSo}
use Rattle.law_state.specs.LinkChanges.{IsTouchedBy, row_joined}
use Rattle.law_state.specs.Plain.{HasProperTuple, HasProperTuples}
use Rattle.law_state.specs.LinkRows.{IsLater}
use Rattle.law_state.specs.Tables.{IsSettledState}
use Rattle.law_state.proofs.Ages.{in_up, out_by}
use Rattle.law_state.proofs.Caughts.{touch_by}
use Rattle.law_state.proofs.EntriesOnlyAdd.{log_plain}
use Rattle.law_state.proofs.GrownStates.{alone_not_both, one_before}
use Rattle.law_state.proofs.Joins.{alone_joined, both_before, row_still, was_out}
use Rattle.law_state.proofs.Leaves.{both_up, left_by, none_now}
use Rattle.law_state.proofs.FencesPass.{inc_settled}
use Rattle.law_state.proofs.Steady.{prefix_plain, log_below}
use Rattle.law_state.proofs.EntriesTouchLinks.{gone_owner, map_of, stays_on, log_entry_stays, log_touched, places_left, places_touched}
use Rattle.law_state.proofs.EntryByEntry.{NextEntry, by_entries, retired_next, in_between, next_is, settled_there}
use Rattle.law_state.proofs.Prefixes.{prefix_itself, prefix_more, prefix_on}

-- ### Places are of a link, whoever serves it

touches_later : (row later : LinkRow) → IsLater row later → (s : State) (entry : Command) → touches s entry later ≡ touches s entry row
touches_later row later so s (Join server inc blank) = ap (λ b. may_join (slice_get s.view.members server) inc && b) (one_before row later server so)
touches_later row later so s (Leave server inc) = ap (λ b. is_up_as s server inc && b) (one_before row later server so)
touches_later row later so s (Caught of link holder inc other other_inc) =
    ap (λ b. b && may_catch holder other (link_at s.links of link) && is_up_as s holder inc && is_up_as s other other_inc)
    (λ i. is_link of link (record row { map = so.map i; link = so.link i }))
touches_later row later so s _ = refl

pub places_later : (row later : LinkRow) → IsLater row later → (entries : List Command) (s : State) → places_from s entries later ≡ places_from s entries row
places_later row later so [] s = refl
places_later row later so (entry ∷ entries) s =
    (λ i. if touches_later row later so s entry i then places_later row later so entries (after s entry) i + 1
    else places_later row later so entries (after s entry) i)

-- ### One entry

-- the row of a link that one server holds alone
abbrev held_row : LinkRow → (holder : ℕ) (whole : Bool) → LinkRow
held_row row holder whole = record row { state = Only holder whole }

pub left_not_both : {B : Type 0} (other : ℕ) (state : LinkState) → left_state other state ≡ Both → B
left_not_both other Both e = let f : Only other false ≡ Both = e in absurd cc
left_not_both other (Only holder whole) e = let f : Only holder whole ≡ Both = e in absurd cc
left_not_both other Lost e = let f : Lost ≡ Both = e in absurd cc

pub left_row : (row : LinkRow) (server : ℕ) → has_server server row ≡ true → (row_left server row).state ≡ left_state (other_of server row) row.state
left_row row server has = ap (λ b. (if b then record row { state = left_state (other_of server row) row.state } else row).state) has

-- a Leave changes no link that one server holds alone
pub stays_row : {whole : Bool} (row : LinkRow) (server holder : ℕ) → has_server server row ≡ true → row.state ≡ Only holder whole → row_left server row ≡ row
stays_row row server holder has alone =
    let same : left_state (other_of server row) row.state ≡ row.state = ap (left_state (other_of server row)) alone ∙ sym alone in
    ap (λ b. if b then record row { state = left_state (other_of server row) row.state } else row) has ∙ (λ i. record row { state = same i })

module _ (servers : ℕ) where
  -- a link that is gone is touched by who leaves or joins alone
  gone_untouched : (s : State) → IsSettledState servers s → (entry : Command) → HasProperTuple servers entry → (cell : Cell) (row : LinkRow) (one other : ℕ)
      → row.map ≡ cell.map → IsRetired s cell → is_up s row.primary ≡ true → is_up s row.secondary ≡ true
      → is_up_as (after s entry) row.primary one ≡ true → is_up_as (after s entry) row.secondary other ≡ true → touches s entry row ≡ false
  gone_untouched s p (Join server inc blank) plain cell row one other same gone first second first_on second_on =
      by_bool (touches s (Join server inc blank) row)
      (λ on. let h = both_true (may_join (slice_get s.view.members server) inc) (has_server server row) on in
      true_false (both_up (is_up s) row server first second h.1) (was_out servers s p server inc blank h.0))
      (λ off. off)
  gone_untouched s p (Leave server inc) plain cell row one other same gone first second first_on second_on =
      by_bool (touches s (Leave server inc) row)
      (λ on.
      let h = both_true (is_up_as s server inc) (has_server server row) on in
      let t = after s (Leave server inc) in
      let here : inc_of t server ≡ None = inc_settled (act (Leave server inc) s) server
      ∙ ap (λ b. inc_of (if b then left_by s server else s) server) h.0 ∙ none_now servers s p server inc h.0 in
      true_false (both_up (is_up t) row server (in_up t row.primary one first_on) (in_up t row.secondary other second_on) h.1) (out_by t server here))
      (λ off. off)
  gone_untouched s p (Caught of link holder inc later later_inc) plain cell row one other same gone first second first_on second_on =
      by_bool (touches s (Caught of link holder inc later later_inc) row)
      (λ on.
      let h = touch_by s row of link holder inc later later_inc on in
      let k = both_true (row.map == of) (row.link == link) h.0 in
      let none : link_at s.links of link ≡ None = p.unlinked of link (ap (owner s) (sym (same_numbers row.map of k.0) ∙ same)
      ∙ gone_owner servers s p cell gone) in
      none_some none h.1.is)
      (λ off. off)
  gone_untouched s p _ plain cell row one other same gone first second first_on second_on = refl

-- ### Prefixes of a log

module _ (servers : ℕ) (prefix whole : List Command) (all : HasProperTuples servers whole) (is_prefix : IsPrefix prefix whole) where
  abbrev s : State
  s = state_after servers prefix

  abbrev Next : Type 0
  Next = NextEntry servers prefix whole

  abbrev at : Next → State
  at it = state_after servers it.until

  abbrev next : Next → State
  next it = after (state_after servers it.until) it.entry

  -- what an entry comes to for a cell's link
  untouched_next : (it : Next) (cell : Cell) (row : LinkRow) → cell_link (at it) cell ≡ Some row → touches (at it) it.entry row ≡ false
      → StaysSo cell row (at it) (next it) ⊎ IsRetired (next it) cell
  untouched_next it cell row is off = log_entry_stays servers it.until it.entry cell row it.plain it.proper is off

  touched_next : (it : Next) (cell : Cell) (row : LinkRow) → cell_link (at it) cell ≡ Some row → touches (at it) it.entry row ≡ true
      → IsTouchedBy cell row (at it) it.entry
  touched_next it cell row is on = log_touched servers it.until it.entry cell row it.plain it.proper is on

  abbrev caught_at : (until : List Command) (it : Next) (cell : Cell) (row : LinkRow) → IsPrefix (it.until ++ it.entry ∷ []) until
      → cell_link (at it) cell ≡ Some row
      → IsCaughtBy (at it) it.entry row → IsCaughtIn servers prefix until cell row
  caught_at until it cell row stands is acts =
      record { until = it.until; entry = it.entry; following = it.following; stands = stands; was = is; acts = acts }

  -- ### A link in Both by its Caught

  module _ (cell : Cell) (row : LinkRow) (is : cell_link s cell ≡ Some row) where
    -- no entry has touched it, or such a Caught put it in Both, and none has touched it since
    abbrev BothBy : List Command → State → Type 0
    BothBy log t = (now : LinkRow) → cell_link t cell ≡ Some now → now.state ≡ Both
        → (places_from (start servers) log row ≡ places_from (start servers) prefix row)
        ⊎ ((c : IsCaughtSince servers prefix log cell now) × IsLater c.row now)

    both_touched : (it : Next) (was : LinkRow) → cell_link (at it) cell ≡ Some was → touches (at it) it.entry was ≡ true → (now : LinkRow)
        → cell_link (next it) cell ≡ Some now → now.state ≡ Both
        → (c : IsCaughtSince servers prefix (it.until ++ it.entry ∷ []) cell now) × IsLater c.row now
    both_touched it was there on now end both = elim (touched_next it cell was there on) [
      | By_leave left at seats ↦ left_not_both (other_of left.server was) was.state
          (sym (left_row was left.server left.one_of) ∙ ap (λ (r : LinkRow). r.state) (same_some (sym at ∙ end)) ∙ both)
      | By_join joined at apart seats ↦ absurd (apart (both_before joined.server joined.blank was
          (ap (λ (r : LinkRow). r.state) (same_some (sym at ∙ end)) ∙ both)))
      | By_caught acts one ↦ (
          let is_now : record was { state = Both } ≡ now = same_some (sym one.same ∙ end) in (
            record {
              row = was;
              found = caught_at (it.until ++ it.entry ∷ []) it cell was (prefix_itself (it.until ++ it.entry ∷ [])) there acts;
              since = subst (StaysSo cell now (at it)) (sym (next_is servers prefix whole all is_prefix it))
                  (subst (λ r. StaysSo cell r (at it) (next it)) is_now one);
              place = places_touched servers it.until it.entry was on;
            },
            subst (IsLater was) is_now (record { map = refl; link = refl; primary = refl; secondary = refl }),
          ))
    ]

    both_left : (it : Next) (now : LinkRow) → StaysSo cell now (at it) (next it) → touches (at it) it.entry now ≡ false
        → (c : IsCaughtSince servers prefix it.until cell now) × IsLater c.row now
        → (c : IsCaughtSince servers prefix (it.until ++ it.entry ∷ []) cell now) × IsLater c.row now
    both_left it now stays off (c, later) =
        let f = c.found in (
          record {
            row = c.row;
            found = record {
              until = f.until;
              entry = f.entry;
              following = f.following;
              stands = prefix_on (f.until ++ f.entry ∷ []) it.until (it.until ++ it.entry ∷ []) f.stands (prefix_more it.until it.entry);
              was = f.was;
              acts = f.acts;
            };
            since = stays_on cell now (state_after servers f.until) (at it) (state_after servers (it.until ++ it.entry ∷ [])) c.since
                (subst (StaysSo cell now (at it)) (sym (next_is servers prefix whole all is_prefix it)) stays);
            place = places_left servers it.until it.entry c.row (sym (touches_later c.row now later (at it) it.entry) ∙ off) ∙ c.place;
          },
          later,
        )

    both_next : (it : Next) → BothBy it.until (at it) → BothBy (it.until ++ it.entry ∷ []) (next it)
    both_next it so now end both = elim ((log_below servers prefix it.until it.plain it.following).rows cell row is) [
      | inr gone ↦ none_some (retired_next servers prefix whole all is_prefix it cell gone).0 end
      | inl was ↦ by_bool (touches (at it) it.entry was.now) (λ on. inr (both_touched it was.now was.is on now end both))
          (λ off. elim (untouched_next it cell was.now was.is off) [
            | inr gone ↦ none_some gone.0 end
            | inl stays ↦
                let same : was.now ≡ now = same_some (sym stays.same ∙ end) in
                elim (so was.now was.is (ap (λ (r : LinkRow). r.state) same ∙ both)) [
                  | inl quiet ↦ inl (places_left servers it.until it.entry row (sym (touches_later row was.now was.so (at it) it.entry) ∙ off) ∙ quiet)
                  | inr c ↦ inr (subst (λ r. (c : IsCaughtSince servers prefix (it.until ++ it.entry ∷ []) cell r) × IsLater c.row r) same
                      (both_left it was.now stays off c))
                ]
          ])
    ]

  pub log_both : (cell : Cell) (row now : LinkRow) → cell_link s cell ≡ Some row → cell_link (state_after servers whole) cell ≡ Some now → now.state ≡ Both
      → (places_from (start servers) whole row ≡ places_from (start servers) prefix row) ⊎ IsCaughtSince servers prefix whole cell now
  log_both cell row now is end both =
      elim (by_entries servers prefix whole all is_prefix (BothBy cell row is) (both_next cell row is) (λ now end both. inl refl) now end both) [
        | inl quiet ↦ inl quiet
        | inr c ↦ inr c.0
      ]

  -- ### A link that one server holds alone

  -- one that is Lost stays so
  lost_on : (was : State) → IsBelow was (state_after servers whole) → (cell : Cell) (row now : LinkRow) → cell_link was cell ≡ Some row → row.state ≡ Lost
      → cell_link (state_after servers whole) cell ≡ Some now → now.state ≡ Lost
  lost_on was below cell row now is lost end = elim (below.rows cell row is) [
    | inl h ↦ ap (λ (r : LinkRow). r.state) (same_some (sym end ∙ h.is)) ∙ h.lost lost
    | inr gone ↦ none_some gone.0 end
  ]

  pub log_lost : (cell : Cell) (row now : LinkRow) → cell_link s cell ≡ Some row → row.state ≡ Lost → cell_link (state_after servers whole) cell ≡ Some now
      → now.state ≡ Lost
  log_lost cell row now is lost end = lost_on s (log_below servers prefix whole all is_prefix) cell row now is lost end

  -- it leaves that state by a Caught first, or by the holder's Join with an empty store
  pub log_alone : (cell : Cell) (row now : LinkRow) (holder : ℕ) (fills : Bool) → cell_link s cell ≡ Some row → row.state ≡ Only holder fills
      → cell_link (state_after servers whole) cell ≡ Some now
      → IsHeldStill holder fills now.state ⊎ (now.state ≡ Lost) × IsLostIn servers prefix whole holder
      ⊎ IsCaughtStill servers prefix whole cell row holder fills
  log_alone cell row now holder fills is alone end =
      elim (by_entries servers prefix whole all is_prefix (λ log t. Held t ⊎ IsRetired t cell ⊎ Left) step
      (inl (fills, is ∙ (λ i. Some (record row { state = alone i })), λ e. e))) [
        | inl held ↦ inl (held.0, ap (λ (r : LinkRow). r.state) (same_some (sym end ∙ held.1)), held.2)
        | inr (inl gone) ↦ none_some gone.0 end
        | inr (inr left) ↦ inr left
      ]
    where
      Held : State → Type 0
      Held t = (more : Bool) × (cell_link t cell ≡ Some (held_row row holder more)) × (fills ≡ true → more ≡ true)

      Left : Type 0
      Left = (now.state ≡ Lost) × IsLostIn servers prefix whole holder ⊎ IsCaughtStill servers prefix whole cell row holder fills

      lost_since : (it : Next) (lost : LinkRow) → cell_link (next it) cell ≡ Some lost → lost.state ≡ Lost → now.state ≡ Lost
      lost_since it lost there is_lost =
          lost_on (state_after servers (it.until ++ it.entry ∷ [])) (log_below servers (it.until ++ it.entry ∷ []) whole all it.stands) cell lost now
          (ap (λ (t : State). cell_link t cell) (next_is servers prefix whole all is_prefix it) ∙ there) is_lost end

      step : (it : Next) → Held (at it) ⊎ IsRetired (at it) cell ⊎ Left → Held (next it) ⊎ IsRetired (next it) cell ⊎ Left
      step it (inr (inl gone)) = inr (inl (retired_next servers prefix whole all is_prefix it cell gone))
      step it (inr (inr left)) = inr (inr left)
      step it (inl h) =
          let held = held_row row holder h.0 in
          by_bool (touches (at it) it.entry held)
          (λ on. elim (touched_next it cell held h.1 on) [
            | By_leave left at seats ↦ inl (h.0, at ∙ ap Some (stays_row held left.server holder left.one_of refl), h.2)
            | By_join joined at apart seats ↦ elim (alone_joined joined.server joined.blank held holder h.0 refl) [
              | inl still ↦ inl (still.0, at ∙ ap Some (row_still joined.server joined.blank held still.1), λ e. still.2 (h.2 e))
              | inr lost ↦ inr (inr (inl (
                lost_since it (row_joined joined.server joined.blank held) at lost.2,
                record {
                  until = it.until;
                  inc = joined.inc;
                  following = it.following;
                  stands = subst (λ e. IsPrefix (it.until ++ e ∷ []) whole) (joined.is ∙ (λ i. Join (sym lost.1 i) joined.inc (lost.0 i))) it.stands;
                  may = ap (λ k. may_join (slice_get (state_after servers it.until).view.members k) joined.inc) lost.1 ∙ joined.may;
                },
              )))
            ]
            | By_caught acts one ↦ inr (inr (inr (record { later = h.0; found = caught_at whole it cell held it.stands h.1 acts; kept = h.2 })))
          ])
          (λ off. elim (untouched_next it cell held h.1 off) [ inl one ↦ inl (h.0, one.same, h.2) | inr gone ↦ inr (inl gone) ])

  -- ### A link whose two servers stay In

  module _ (cell : Cell) (row : LinkRow) (one other : ℕ) (first : is_in s row.primary one ≡ true) (second : is_in s row.secondary other ≡ true)
      (first_on : is_in (state_after servers whole) row.primary one ≡ true) (second_on : is_in (state_after servers whole) row.secondary other ≡ true) where
    -- who leaves was In, and who joins was Out
    abbrev Ups : State → Type 0
    Ups t = (is_up_as t row.primary one ≡ true) × (is_up_as t row.secondary other ≡ true)

    ups : (it : Next) → Ups (at it) × Ups (next it)
    ups it =
        let a = in_between servers prefix whole all is_prefix it row.primary one first first_on in
        let b = in_between servers prefix whole all is_prefix it row.secondary other second second_on in
        ((a.0, b.0), (a.1, b.1))

    up_on : (t : State) → Ups t → (server : ℕ) → has_server server row ≡ true → is_up t server ≡ true
    up_on t h server has = both_up (is_up t) row server (in_up t row.primary one h.0) (in_up t row.secondary other h.1) has

    -- one that is held alone is in Both then, and one in Both is not touched at all
    caught_next : (it : Next) (state : LinkState) → cell_link (at it) cell ≡ Some (record row { state = state })
        → touches (at it) it.entry (record row { state = state }) ≡ true
        → (state ≢ Both) × (cell_link (next it) cell ≡ Some (record row { state = Both }))
    caught_next it state is on =
        let p = settled_there servers prefix whole all is_prefix it in
        elim (touched_next it cell (record row { state = state }) is on) [
          | By_leave left now seats ↦ true_false (up_on (next it) (ups it).1 left.server left.one_of)
              (out_by (next it) left.server seats.here)
          | By_join joined now apart seats ↦ true_false (up_on (at it) (ups it).0 joined.server joined.one_of)
              (was_out servers (at it) p joined.server joined.inc joined.blank joined.may)
          | By_caught acts stays ↦ (λ both. alone_not_both (record row { state = state }) acts.holder acts.alone both, stays.same)
        ]

    -- one that is gone is touched by who leaves or joins alone
    quiet_next : (it : Next) → row.map ≡ cell.map → row.state ≡ Both → (cell_link (at it) cell ≡ Some row) ⊎ IsRetired (at it) cell
        → touches (at it) it.entry row ≡ false
    quiet_next it same both (inl is) =
        by_bool (touches (at it) it.entry row) (λ on. absurd ((caught_next it row.state is on).0 both)) (λ off. off)
    quiet_next it same both (inr gone) =
        let h = ups it in
        gone_untouched servers (at it) (settled_there servers prefix whole all is_prefix it) it.entry it.proper cell row one other same gone
        (in_up (at it) row.primary one h.0.0) (in_up (at it) row.secondary other h.0.1) h.1.0 h.1.1

    both_stays : (it : Next) → row.map ≡ cell.map → row.state ≡ Both → (cell_link (at it) cell ≡ Some row) ⊎ IsRetired (at it) cell
        → (cell_link (next it) cell ≡ Some row) ⊎ IsRetired (next it) cell
    both_stays it same both (inl is) = elim (untouched_next it cell row is (quiet_next it same both (inl is))) [
      | inl stays ↦ inl stays.same
      | inr gone ↦ inr gone
    ]
    both_stays it same both (inr gone) = inr (retired_next servers prefix whole all is_prefix it cell gone)

  pub log_both_place : (cell : Cell) (row : LinkRow) (one other : ℕ) → cell_link s cell ≡ Some row → row.state ≡ Both
      → is_in s row.primary one ≡ true → is_in s row.secondary other ≡ true
      → is_in (state_after servers whole) row.primary one ≡ true → is_in (state_after servers whole) row.secondary other ≡ true
      → places_from (start servers) whole row ≡ places_from (start servers) prefix row
  log_both_place cell row one other is both first second first_on second_on =
      (by_entries servers prefix whole all is_prefix
      (λ log t. (places_from (start servers) log row ≡ places_from (start servers) prefix row) × ((cell_link t cell ≡ Some row) ⊎ IsRetired t cell))
      (λ it h. (
        places_left servers it.until it.entry row (quiet_next cell row one other first second first_on second_on it of_map both h.1) ∙ h.0,
        both_stays cell row one other first second first_on second_on it of_map both h.1,
      )) (refl, inl is)).0
    where
      of_map : row.map ≡ cell.map
      of_map = map_of servers s (log_plain servers prefix (prefix_plain servers prefix whole all is_prefix)) cell row is

  -- a Caught alone touches a link that one server holds alone
  pub log_held_or_both : (cell : Cell) (row : LinkRow) (one other : ℕ) → cell_link s cell ≡ Some row
      → is_in s row.primary one ≡ true → is_in s row.secondary other ≡ true
      → is_in (state_after servers whole) row.primary one ≡ true → is_in (state_after servers whole) row.secondary other ≡ true
      → (places_from (start servers) whole row ≡ places_from (start servers) prefix row)
      ⊎ (cell_link (state_after servers whole) cell ≡ Some (record row { state = Both })) ⊎ IsRetired (state_after servers whole) cell
  log_held_or_both cell row one other is first second first_on second_on =
      elim (by_entries servers prefix whole all is_prefix HeldOrBoth step (inl (refl, is))) [ inl quiet ↦ inl quiet.0 | inr later ↦ inr later ]
    where
      BothOrRetired : State → Type 0
      BothOrRetired t = (cell_link t cell ≡ Some (record row { state = Both })) ⊎ IsRetired t cell

      HeldOrBoth : List Command → State → Type 0
      HeldOrBoth log t = (places_from (start servers) log row ≡ places_from (start servers) prefix row) × (cell_link t cell ≡ Some row) ⊎ BothOrRetired t

      of_map : row.map ≡ cell.map
      of_map = map_of servers s (log_plain servers prefix (prefix_plain servers prefix whole all is_prefix)) cell row is

      step : (it : Next) → HeldOrBoth it.until (at it) → HeldOrBoth (it.until ++ it.entry ∷ []) (next it)
      step it (inr h) = inr (both_stays cell (record row { state = Both }) one other first second first_on second_on it of_map refl h)
      step it (inl h) = by_bool (touches (at it) it.entry row)
          (λ on. inr (inl (caught_next cell row one other first second first_on second_on it row.state h.1 on).1))
          (λ off. elim (untouched_next it cell row h.1 off) [
            | inl stays ↦ inl (places_left servers it.until it.entry row off ∙ h.0, stays.same)
            | inr gone ↦ inr (inr gone)
          ])

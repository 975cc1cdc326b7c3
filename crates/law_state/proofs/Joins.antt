-- A Join: its server is In, with an incarnation above the one that was Out, and was of no link in Both. One with its blocks changes no
-- link; of one with an empty store a link that it held alone is Lost, and the other server of each of its links is to copy all of it.
use Rattle.law_state.proofs.Imports.{if◌then◌else◌, ◌+◌, ◌<◌, ◌==◌, ◌||◌, ◌∙◌, ◌≡◌, ◌≢◌, ◌≤◌, ◌⊎◌, Bool, Both, LinkRow, LinkState, Lost, Member, Only, Some}
use Rattle.law_state.proofs.Imports.{ap, arith, blanked_state, by_bool, false, has_server, inc_in, inc_of, inl, inr, is_in, is_up, is_up_as, last_inc}
use Rattle.law_state.proofs.Imports.{length-set, map, map-id, may_join, option_and_then, option_map, option_map_or, refl, same_numbers, same_or_apart}
use Rattle.law_state.proofs.Imports.{same_some, serves, slice_get, slice_get_within, subst, sym, true, true_false, ℕ}
use Rattle.spec_state.specs.State.{State}
use Rattle.law_state.specs.Ages.{age, age_of}
use Rattle.law_state.specs.LinkChanges.{IsHeldStill, row_joined}
use Rattle.law_state.specs.LinkRows.{IsBetween, IsHeldOn, IsLater, IsLostOn, IsServed, IsServedBy, IsServedOn, ByBoth, ByNone, ByOne}
use Rattle.law_state.specs.Tables.{IsSettledState}
use Rattle.law_state.proofs.Ages.{in_up, may_by}
use Rattle.law_state.proofs.MembershipChanges.{changed_by, changing, link_changed}
use Rattle.law_state.proofs.Fences.{Acted, queued_on, requeued_itself}
use Rattle.law_state.proofs.GrownStates.{between_later, later_itself, one_before}
use Rattle.law_state.proofs.NewMapLinks.{either_false, or_true}
use Rattle.law_state.proofs.ListLookups.{get_set_here, get_set_beside}
use Rattle.global_tables.specs.declared.fence.Member.TheVariants as member
use Rattle.global_tables.specs.Link as links
use Rattle.global_tables.specs.View as view

-- ### The row of a link

pub later_joined : (server : ℕ) (blank : Bool) (row : LinkRow) → IsLater row (row_joined server blank row)
later_joined server true row = record { map = refl; link = refl; primary = refl; secondary = refl }
later_joined server false row = later_itself row

-- a link in Both, or one that is Lost, stays so
pub both_joined : (server : ℕ) (blank : Bool) (row : LinkRow) → row.state ≡ Both → (row_joined server blank row).state ≡ Both
both_joined server true row both = ap (blanked_state server (has_server server row)) both
both_joined server false row both = both

pub lost_joined : (server : ℕ) (blank : Bool) (row : LinkRow) → IsLostOn row (row_joined server blank row)
lost_joined server true row lost = ap (blanked_state server (has_server server row)) lost
lost_joined server false row lost = lost

-- and was so before
pub both_before : (server : ℕ) (blank : Bool) (row : LinkRow) → (row_joined server blank row).state ≡ Both → row.state ≡ Both
both_before server false row both = both
both_before server true row both = by row.state both
  where
    by : (state : LinkState) → blanked_state server (has_server server row) state ≡ Both → state ≡ Both
    by Both e = refl
    by (Only holder whole) e = by_bool (holder == server)
        (λ own. let f : Lost ≡ Both = sym (ap (λ b. if b then Lost else Only holder (has_server server row || whole)) own) ∙ e in absurd cc)
        (λ apart. let f : Only holder (has_server server row || whole) ≡ Both =
        sym (ap (λ b. if b then Lost else Only holder (has_server server row || whole)) apart) ∙ e in absurd cc)
    by Lost e = e

-- one that a server holds alone: it holds it still, or has come back with nothing
pub alone_joined : (server : ℕ) (blank : Bool) (row : LinkRow) (holder : ℕ) (whole : Bool) → row.state ≡ Only holder whole
    → IsHeldStill holder whole (row_joined server blank row).state
    ⊎ (blank ≡ true) × (holder ≡ server) × ((row_joined server blank row).state ≡ Lost)
alone_joined server false row holder whole alone = inl (whole, alone, λ is. is)
alone_joined server true row holder whole alone =
    let has = has_server server row in
    let so = ap (blanked_state server has) alone in
    by_bool (holder == server)
    (λ own. inr (refl, same_numbers holder server own, so ∙ ap (λ b. if b then Lost else Only holder (has || whole)) own))
    (λ apart. inl (has || whole, so ∙ ap (λ b. if b then Lost else Only holder (has || whole)) apart, or_true has whole))

-- nothing but its state is another then
pub row_still : {holder : ℕ} {later : Bool} (server : ℕ) (blank : Bool) (row : LinkRow) → (row_joined server blank row).state ≡ Only holder later
    → row_joined server blank row ≡ record row { state = Only holder later }
row_still server true row e = (λ i. record row { state = e i })
row_still server false row e = (λ i. record row { state = e i })

-- a link of two others stays as it is
pub row_beside : (server : ℕ) (blank : Bool) (up first : ℕ → Bool) (row : LinkRow) → IsServedBy up first row → has_server server row ≡ false
    → row_joined server blank row ≡ row
row_beside server false up first row served away = refl
row_beside server true up first row served away = (λ i. record row { state = same served i })
  where
    holder_apart : (holder other : ℕ) → IsBetween row holder other → (holder == server) ≡ false
    holder_apart holder other (inl pair) = ap (λ n. n == server) (sym pair.0) ∙ (either_false (row.primary == server) (row.secondary == server) away).0
    holder_apart holder other (inr pair) = ap (λ n. n == server) (sym pair.1) ∙ (either_false (row.primary == server) (row.secondary == server) away).1

    same : IsServedBy up first row → blanked_state server (has_server server row) row.state ≡ row.state
    same (ByBoth so one two) = ap (blanked_state server (has_server server row)) so ∙ sym so
    same (ByOne holder other whole so pair out) =
        ap (blanked_state server (has_server server row)) so
        ∙ ap (λ b. if b then Lost else Only holder (has_server server row || whole)) (holder_apart holder other pair)
        ∙ ap (λ b. Only holder (b || whole)) away ∙ sym so
    same (ByNone one other so pair out) = ap (blanked_state server (has_server server row)) so ∙ sym so

-- ### The state

-- the state after the server joined
abbrev pub joined_by : State → (server inc : ℕ) → Bool → State
joined_by s server inc blank = record s { view = view.joined s.view server inc; links = links.joined s.links server blank }

module _ (servers : ℕ) (s : State) (p : IsSettledState servers s) (server inc : ℕ) (blank : Bool)
    (may : may_join (slice_get s.view.members server) inc ≡ true) where
  abbrev t : State
  t = joined_by s server inc blank

  was : (last : ℕ) × (slice_get s.view.members server ≡ Some (member.Out last)) × (last < inc)
  was = may_by (slice_get s.view.members server) inc may

  here : slice_get t.view.members server ≡ Some (member.In inc)
  here = get_set_here s.view.members server (member.In inc) (slice_get_within s.view.members server (member.Out was.0) was.1)

  beside : (n : ℕ) → n ≢ server → slice_get t.view.members n ≡ slice_get s.view.members n
  beside n ne = get_set_beside s.view.members server n (member.In inc) ne

  pub was_out : is_up s server ≡ false
  was_out = ap (λ o. option_map_or is_in o false) was.1

  up_now : is_up t server ≡ true
  up_now = ap (λ o. option_map_or is_in o false) here

  pub some_now : inc_of t server ≡ Some inc
  some_now = ap (option_and_then inc_in) here

  -- In as this incarnation alone
  pub in_now : (k : ℕ) → is_up_as t server k ≡ (inc == k)
  in_now k = ap (λ o. option_map_or (λ present. present == k) (option_and_then inc_in o) false) here

  pub inc_beside : (n : ℕ) → n ≢ server → inc_of t n ≡ inc_of s n
  inc_beside n ne = ap (option_and_then inc_in) (beside n ne)

  pub in_beside : (n k : ℕ) → n ≢ server → is_up_as t n k ≡ is_up_as s n k
  in_beside n k ne = ap (λ o. option_map_or (λ present. present == k) o false) (inc_beside n ne)

  up_on : (n : ℕ) → is_up s n ≡ true → is_up t n ≡ true
  up_on n up = elim (same_or_apart n server) [
    | inl e ↦ ap (is_up t) e ∙ up_now
    | inr ne ↦ ap (λ o. option_map_or is_in o false) (beside n ne) ∙ up
  ]

  not_first : (n : ℕ) → is_up_as s n 1 ≡ false → is_up_as t n 1 ≡ false
  not_first n out = elim (same_or_apart n server) [
    | inl e ↦ ap (λ k. is_up_as t k 1) e ∙ in_now 1 ∙ by_bool (inc == 1) past (λ no. no)
    | inr ne ↦ in_beside n 1 ne ∙ out
  ]
    where
      past : (inc == 1) ≡ true → (inc == 1) ≡ false
      past is =
          let one : inc ≡ 1 = same_numbers inc 1 is in
          let low : 1 ≤ was.0 = p.members server (member.Out was.0) was.1 in
          let lt = was.2 in
          absurd (omega arith)

  members_now : (n : ℕ) (m : Member) → slice_get t.view.members n ≡ Some m → 1 ≤ last_inc m
  members_now n m e = elim (same_or_apart n server) [
    | inl same ↦
        let so : last_inc m ≡ inc = ap last_inc (sym (same_some (sym here ∙ sym (ap (slice_get t.view.members) same) ∙ e))) in
        let lt = was.2 in
        omega arith
    | inr ne ↦ p.members n m (sym (beside n ne) ∙ e)
  ]

  ages : (n : ℕ) → age_of s n ≤ age_of t n
  ages n = elim (same_or_apart n server) [
    | inl e ↦
        let a : age_of s n ≡ was.0 + was.0 + 2 = ap (age_of s) e ∙ ap age was.1 in
        let b : age_of t n ≡ inc + inc + 1 = ap (age_of t) e ∙ ap age here in
        let lt = was.2 in
        omega arith
    | inr ne ↦ let a : age_of t n ≡ age_of s n = ap age (beside n ne) in omega arith
  ]

  rises : age_of s server < age_of t server
  rises =
      let a : age_of s server ≡ was.0 + was.0 + 2 = ap age was.1 in
      let b : age_of t server ≡ inc + inc + 1 = ap age here in
      let lt = was.2 in
      omega arith

  -- the links as rows that each change by themselves
  each_row : links.joined s.links server blank ≡ map (row_joined server blank) s.links
  each_row = by blank
    where
      by : (b : Bool) → links.joined s.links server b ≡ map (row_joined server b) s.links
      by true = refl
      by false = sym (map-id s.links)

  abbrev rows : State
  rows = changed_by s t.view (row_joined server blank)

  rows_are : rows ≡ t
  rows_are = λ i. record s { view = t.view; links = sym each_row i }

  pub link_joined : (of link : ℕ) → links.link_at t.links of link ≡ option_map (row_joined server blank) (links.link_at s.links of link)
  link_joined of link =
      ap (λ ls. links.link_at ls of link) each_row
      ∙ link_changed servers s p t.view (row_joined server blank) (later_joined server blank) of link

  served_on : (row : LinkRow) → IsServed s row → IsServed rows (row_joined server blank row)
  served_on row (ByBoth state one two) =
      let so = later_joined server blank row in
      ByBoth (both_joined server blank row state) (ap (is_up t) so.primary ∙ up_on row.primary one) (ap (is_up t) so.secondary ∙ up_on row.secondary two)
  served_on row (ByOne holder other whole state pair out) =
      let between = between_later row _ holder other (later_joined server blank row) pair in
      elim (alone_joined server blank row holder whole state) [
        | inl still ↦ ByOne holder other still.0 still.1 between (not_first other out)
        | inr lost ↦ ByNone holder other lost.2 between (not_first other out)
      ]
  served_on row (ByNone one other state pair out) =
      ByNone one other (lost_joined server blank row state) (between_later row _ one other (later_joined server blank row) pair) (not_first other out)

  -- who holds a link alone and comes back with nothing was Out
  on_joined : (row : LinkRow) → IsServedOn s rows row (row_joined server blank row)
  on_joined row n k has serving before later = by row.state refl
    where
      by : (state : LinkState) → row.state ≡ state → serves n (row_joined server blank row) (row_joined server blank row).state ≡ true
      by Both so = ap (serves n (row_joined server blank row)) (both_joined server blank row so) ∙ one_before row _ n (later_joined server blank row) ∙ has
      by (Only holder whole) so =
          let same : (holder == n) ≡ true = sym (ap (serves n row) so) ∙ serving in
          elim (alone_joined server blank row holder whole so) [
            | inl still ↦ ap (serves n (row_joined server blank row)) still.1 ∙ same
            | inr lost ↦ true_false (sym (ap (is_up s) (sym (same_numbers holder n same) ∙ lost.1)) ∙ in_up s n k before) was_out
          ]
      by Lost so = true_false serving (ap (serves n row) so)

  held_joined : (row : LinkRow) → IsHeldOn s rows row (row_joined server blank row)
  held_joined row n whole alone out same = elim (alone_joined server blank row n whole alone) [
    | inl still ↦ (still.0, still.1)
    | inr lost ↦ (let up = rises in let e : age_of t server ≡ age_of s server = subst (λ k. age_of t k ≡ age_of s k) lost.1 same in absurd (omega arith))
  ]

  pub joining : Acted servers s t
  joining = subst (Acted servers s) rows_are (changing servers s p t.view (row_joined server blank) (later_joined server blank) (record {
    many = length-set s.view.members server (member.In inc) ∙ p.many;
    members = members_now;
    fences = queued_on s rows p.fences refl (requeued_itself s.view.queue)
        (λ fence n e waits. up_on n (p.fences.present fence n e waits));
    ages = ages;
    served = λ row is. served_on row;
    on = on_joined;
    held = λ row is. held_joined row;
    lost = λ row is. lost_joined server blank row;
  }))

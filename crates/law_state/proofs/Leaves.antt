-- A Leave: its server is Out, and of the links that it served with another one the other one is left.
use Rattle.law_state.proofs.Imports.{if◌then◌else◌, ◌+◌, ◌==◌, ◌||◌, ◌∙◌, ◌≡◌, ◌≢◌, ◌≤◌, Bool, Both, LinkRow, LinkState, Lost, Member, None, Only, Option}
use Rattle.law_state.proofs.Imports.{Some, ap, arith, by_bool, by_test, false, has_server, inc_in, inc_of, inl, inr, is_in, is_up, is_up_as, last_inc}
use Rattle.law_state.proofs.Imports.{left_state, length-set, number_itself, option_and_then, option_map, option_map_or, other_of, out_of, refl, row_left}
use Rattle.law_state.proofs.Imports.{same_numbers, same_or_apart, same_some, servers_in, serves, slice_get, slice_get_within, sym, true, true_false, ℕ}
use Rattle.spec_state.specs.State.{State}
use Rattle.law_state.specs.Ages.{age, age_of}
use Rattle.law_state.specs.LinkRows.{IsHeldOn, IsLostOn, IsServed, IsServedOn, IsBetween, IsLater, ByBoth, ByNone, ByOne}
use Rattle.law_state.specs.Tables.{IsSettledState}
use Rattle.law_state.proofs.Ages.{in_up, out_not}
use Rattle.law_state.proofs.Fences.{Acted, head_awaiting, queued_on, requeued_awaiting, waits_present}
use Rattle.law_state.proofs.GrownStates.{later_itself}
use Rattle.law_state.proofs.MembershipChanges.{changing, link_changed}
use Rattle.law_state.proofs.NewMapLinks.{either_false}
use Rattle.law_state.proofs.ListLookups.{get_set_here, get_set_beside}
use Rattle.global_tables.specs.declared.fence.Member.TheVariants as member
use Rattle.global_tables.specs.Link as links
use Rattle.global_tables.specs.View as view

pub either_true : (a b : Bool) → (a || b) ≡ true → a ≡ false → b ≡ true
either_true true b e f = let g : true ≡ false = f in absurd cc
either_true false b e f = e

-- ### The other server of a link

pub other_between : (row : LinkRow) (server : ℕ) → has_server server row ≡ true → IsBetween row (other_of server row) server
other_between row server has = by_test (λ other. IsBetween row other server) (row.primary == server) row.secondary row.primary
    (λ e. inr (same_numbers row.primary server e, refl))
    (λ e. inl (refl, same_numbers row.secondary server (either_true (row.primary == server) (row.secondary == server) has e)))

pub later_left : (row : LinkRow) (server : ℕ) → IsLater row (row_left server row)
later_left row server = by_test (IsLater row) (has_server server row) _ _
    (λ has. record { map = refl; link = refl; primary = refl; secondary = refl })
    (λ no. later_itself row)

-- a link of two others stays as it is
pub row_stays : (row : LinkRow) (server : ℕ) → has_server server row ≡ false → row_left server row ≡ row
row_stays row server away = ap (λ b. if b then record row { state = left_state (other_of server row) row.state } else row) away

-- ### The two servers of a link

-- of two servers, one of which is Out, one that is In is the other
pub one_of_two : (up : ℕ → Bool) (row : LinkRow) (holder other n : ℕ) → IsBetween row holder other → up other ≡ false → has_server n row ≡ true → up n ≡ true
    → holder ≡ n
one_of_two up row holder other n pair out has is_in = by_bool (row.primary == n)
    (λ t. first pair (same_numbers row.primary n t))
    (λ f. later pair (same_numbers row.secondary n (either_true (row.primary == n) (row.secondary == n) has f)))
  where
    first : IsBetween row holder other → row.primary ≡ n → holder ≡ n
    first (inl p) e = sym p.0 ∙ e
    first (inr p) e = true_false (ap up (sym p.0 ∙ e) ∙ is_in) out

    later : IsBetween row holder other → row.secondary ≡ n → holder ≡ n
    later (inl p) e = true_false (ap up (sym p.1 ∙ e) ∙ is_in) out
    later (inr p) e = sym p.1 ∙ e

-- where both are In, each of the two is
pub both_up : (up : ℕ → Bool) (row : LinkRow) (k : ℕ) → up row.primary ≡ true → up row.secondary ≡ true → has_server k row ≡ true → up k ≡ true
both_up up row k one two has = by_bool (row.primary == k)
    (λ f. ap up (sym (same_numbers row.primary k f)) ∙ one)
    (λ f. ap up (sym (same_numbers row.secondary k (either_true (row.primary == k) (row.secondary == k) has f))) ∙ two)

-- ### Who is In

-- the state after the server left
abbrev pub left_by : State → ℕ → State
left_by s server = record s { view = view.left s.view server; links = links.left s.links server }

-- a server that is In as some incarnation is a member
member_of : (o : Option Member) (inc : ℕ) → option_map_or (λ present. present == inc) (option_and_then inc_in o) false ≡ true → (m : Member) × (o ≡ Some m)
member_of None inc e = let f : false ≡ true = e in absurd cc
member_of (Some m) inc e = (m, refl)

module _ (servers : ℕ) (s : State) (p : IsSettledState servers s) (server inc : ℕ) (is : is_up_as s server inc ≡ true) where
  abbrev t : State
  t = left_by s server

  abbrev gone : Member
  gone = member.Out (out_of (slice_get s.view.members server))

  was : (m : Member) × (slice_get s.view.members server ≡ Some m)
  was = member_of (slice_get s.view.members server) inc is

  here : slice_get t.view.members server ≡ Some gone
  here = get_set_here s.view.members server gone (slice_get_within s.view.members server was.0 was.1)

  beside : (n : ℕ) → n ≢ server → slice_get t.view.members n ≡ slice_get s.view.members n
  beside n ne = get_set_beside s.view.members server n gone ne

  pub out_now : is_up t server ≡ false
  out_now = ap (λ o. option_map_or is_in o false) here

  pub none_now : inc_of t server ≡ None
  none_now = ap (option_and_then inc_in) here

  pub up_beside : (n : ℕ) → n ≢ server → is_up t n ≡ is_up s n
  up_beside n ne = ap (λ o. option_map_or is_in o false) (beside n ne)

  pub inc_beside : (n : ℕ) → n ≢ server → inc_of t n ≡ inc_of s n
  inc_beside n ne = ap (option_and_then inc_in) (beside n ne)

  pub in_beside : (n k : ℕ) → n ≢ server → is_up_as t n k ≡ is_up_as s n k
  in_beside n k ne = ap (λ o. option_map_or (λ present. present == k) o false) (inc_beside n ne)

  -- who is In after a Leave was In before
  pub in_before : (n k : ℕ) → is_up_as t n k ≡ true → is_up_as s n k ≡ true
  in_before n k e = elim (same_or_apart n server) [
    | inl same ↦ true_false (sym (ap (is_up t) same) ∙ in_up t n k e) out_now
    | inr ne ↦ sym (in_beside n k ne) ∙ e
  ]

  not_first : (n : ℕ) → is_up_as s n 1 ≡ false → is_up_as t n 1 ≡ false
  not_first n out = by_bool (is_up_as t n 1) (λ is. true_false (in_before n 1 is) out) (λ e. e)

  members_now : (n : ℕ) (m : Member) → slice_get t.view.members n ≡ Some m → 1 ≤ last_inc m
  members_now n m e = elim (same_or_apart n server) [
    | inl same ↦
        let so : last_inc m ≡ last_inc was.0 =
        ap last_inc (sym (same_some (sym here ∙ sym (ap (slice_get t.view.members) same) ∙ e))) ∙ ap out_of was.1 in
        let low = p.members server was.0 was.1 in
        omega arith
    | inr ne ↦ p.members n m (sym (beside n ne) ∙ e)
  ]

  ages : (n : ℕ) → age_of s n ≤ age_of t n
  ages n = elim (same_or_apart n server) [
    | inl e ↦
        let a : age_of s n ≡ age (Some was.0) = ap (age_of s) e ∙ ap age was.1 in
        let b : age_of t n ≡ last_inc was.0 + last_inc was.0 + 2 = ap (age_of t) e ∙ ap age here ∙ ap (λ k. k + k + 2) (ap out_of was.1) in
        let c = young was.0 in
        omega arith
    | inr ne ↦ let a : age_of t n ≡ age_of s n = ap age (beside n ne) in omega arith
  ]
    where
      young : (m : Member) → age (Some m) ≤ last_inc m + last_inc m + 2
      young (member.In i) = omega arith
      young (member.Out i) = omega arith

  -- ### Links

  pub link_left : (of link : ℕ) → links.link_at t.links of link ≡ option_map (row_left server) (links.link_at s.links of link)
  link_left = link_changed servers s p t.view (row_left server) (λ row. later_left row server)

  served_left : (row : LinkRow) → IsServed s row → IsServed t (row_left server row)
  served_left row (ByBoth state one two) = by_test (IsServed t) (has_server server row) _ _
      (λ has. ByOne (other_of server row) server false (ap (left_state (other_of server row)) state) (other_between row server has)
      (out_not t server out_now 1))
      (λ no. let apart = either_false (row.primary == server) (row.secondary == server) no in
      ByBoth state (up_beside row.primary (differ row.primary apart.0) ∙ one) (up_beside row.secondary (differ row.secondary apart.1) ∙ two))
    where
      differ : (n : ℕ) → (n == server) ≡ false → n ≢ server
      differ n away e = true_false (ap (λ k. k == server) e ∙ number_itself server) away
  served_left row (ByOne holder other whole state pair out) = by_test (IsServed t) (has_server server row) _ _
      (λ has. ByOne holder other whole (ap (left_state (other_of server row)) state) pair (not_first other out))
      (λ no. ByOne holder other whole state pair (not_first other out))
  served_left row (ByNone one other state pair out) = by_test (IsServed t) (has_server server row) _ _
      (λ has. ByNone one other (ap (left_state (other_of server row)) state) pair (not_first other out))
      (λ no. ByNone one other state pair (not_first other out))

  -- one that is In before and after still serves the links that it served
  on_left : (row : LinkRow) → IsServedOn s t row (row_left server row)
  on_left row n k has serving before later = by_test (λ (now : LinkRow). serves n now now.state ≡ true) (has_server server row) _ _
      (λ mine. still mine row.state serving) (λ no. serving)
    where
      still : has_server server row ≡ true → (state : LinkState) → serves n row state ≡ true
          → serves n (record row { state = left_state (other_of server row) state }) (left_state (other_of server row) state) ≡ true
      still mine Both e =
          let same = one_of_two (is_up t) row (other_of server row) server n (other_between row server mine) out_now has (in_up t n k later) in
          ap (λ h. h == n) same ∙ number_itself n
      still mine (Only holder whole) e = e
      still mine Lost e = e

  -- and who holds a link alone goes on to
  held_left : (row : LinkRow) → IsHeldOn s t row (row_left server row)
  held_left row n whole alone out same = by_test (λ (now : LinkRow). (later : Bool) × (now.state ≡ Only n later)) (has_server server row) _ _
      (λ gone. (whole, ap (left_state (other_of server row)) alone)) (λ no. (whole, alone))

  lost_left : (row : LinkRow) → IsLostOn row (row_left server row)
  lost_left row lost = by_test (λ (now : LinkRow). now.state ≡ Lost) (has_server server row) _ _
      (λ gone. ap (left_state (other_of server row)) lost) (λ no. lost)

  pub leaving : Acted servers s t
  leaving = changing servers s p t.view (row_left server) (λ row. later_left row server) (record {
    many = length-set s.view.members server gone ∙ p.many;
    members = members_now;
    fences = queued_on s t p.fences refl (requeued_awaiting (servers_in t.view.members) s.view.queue)
        (λ fence n e. waits_present t.view.members fence n (head_awaiting (servers_in t.view.members) s.view.queue fence e));
    ages = ages;
    served = λ row is. served_left row;
    on = on_left;
    held = λ row is. held_left row;
    lost = λ row is. lost_left row;
  })

-- A Caught: the link that one server held alone is in Both again. Who is In stays so.
use Rattle.law_state.proofs.Imports.{if◌then◌else◌, ◌&&◌, ◌==◌, ◌∙◌, ◌≡◌, Bool, Both, Caught, LinkRow, LinkState, Lost, None, Only, Option, Some, act, ap}
use Rattle.law_state.proofs.Imports.{both_true, by_bool, by_test, false, inl, inr, is_alone, is_link, is_up, is_up_as, link_at, may_catch, number_itself}
use Rattle.law_state.proofs.Imports.{option_map, other_of, refl, row_caught, same_numbers, same_some, serves, subst, sym, touches, true, true_false, ℕ}
use Rattle.spec_state.specs.State.{State}
use Rattle.law_state.specs.Ages.{age_of}
use Rattle.law_state.specs.LinkRows.{IsHeldOn, IsLater, IsLostOn, IsServed, IsServedBy, IsServedOn, ByBoth, ByNone, ByOne}
use Rattle.law_state.specs.Tables.{IsSettledState}
use Rattle.law_state.proofs.Ages.{in_up, no_less}
use Rattle.law_state.proofs.Fences.{Acted, queued_on, requeued_itself}
use Rattle.law_state.proofs.GrownStates.{later_itself}
use Rattle.law_state.proofs.MembershipChanges.{changing, link_changed}
use Rattle.global_tables.specs.Link as links

-- the state after the link is in Both again
abbrev pub caught_by : State → (of link : ℕ) → State
caught_by s of link = record s { links = links.caught s.links of link }

pub later_caught : (of link : ℕ) (row : LinkRow) → IsLater row (row_caught of link row)
later_caught of link row = by_test (IsLater row) (is_link of link row) _ _
    (λ is. record { map = refl; link = refl; primary = refl; secondary = refl }) (λ no. later_itself row)

-- this link is in Both, and another one stays as it is
pub row_in_both : (of link : ℕ) (row : LinkRow) → is_link of link row ≡ true → row_caught of link row ≡ record row { state = Both }
row_in_both of link row is = ap (λ b. if b then record row { state = Both } else row) is

pub row_uncaught : (of link : ℕ) (row : LinkRow) → is_link of link row ≡ false → row_caught of link row ≡ row
row_uncaught of link row away = ap (λ b. if b then record row { state = Both } else row) away

-- what a Caught finds: the link's row, its holder and its other server
pub record IsCatchable (holder other : ℕ) (row : LinkRow) : Type 0 where
  pub alone : is_alone holder row.state ≡ true
  pub other_is : other_of holder row ≡ other

catchable : (holder other : ℕ) (o : Option LinkRow) → may_catch holder other o ≡ true → (row : LinkRow) × (o ≡ Some row) × IsCatchable holder other row
catchable holder other None e = true_false e refl
catchable holder other (Some row) e =
    let h = both_true (is_alone holder row.state) (other_of holder row == other) e in
    (row, refl, record { alone = h.0; other_is = same_numbers (other_of holder row) other h.1 })

pub alone_is : {whole : Bool} (holder n : ℕ) (state : LinkState) → is_alone holder state ≡ true → state ≡ Only n whole → n ≡ holder
alone_is holder n state e f = same_numbers n holder (sym (ap (is_alone holder) f) ∙ e)

pub alone_by : (holder : ℕ) (state : LinkState) → is_alone holder state ≡ true → (whole : Bool) × (state ≡ Only holder whole)
alone_by holder Both e = true_false e refl
alone_by holder (Only alone whole) e = (whole, ap (λ h. Only h whole) (same_numbers alone holder e))
alone_by holder Lost e = true_false e refl

-- both servers of a link are In where its holder is, and the other one
two_up : (up first : ℕ → Bool) (row : LinkRow) (holder other : ℕ) → IsServedBy up first row → IsCatchable holder other row → up holder ≡ true → up other ≡ true
    → (up row.primary ≡ true) × (up row.secondary ≡ true)
two_up up first row holder other (ByBoth state one two) is e f = (one, two)
two_up up first row holder other (ByNone one o state pair out) is e f = true_false is.alone (ap (is_alone holder) state)
two_up up first row holder other (ByOne h o whole state pair out) is e f = elim pair [
  | inl at ↦ (
      (let same = at.0 ∙ alone_is holder h row.state is.alone state in
      let next : row.secondary ≡ other = sym (ap (λ b. if b then row.secondary else row.primary) (itself row.primary holder same)) ∙ is.other_is in
      (ap up same ∙ e, ap up next ∙ f)))
  | inr at ↦ (
      (let same = at.1 ∙ alone_is holder h row.state is.alone state in (
        by_bool (row.primary == holder) (λ t. ap up (same_numbers row.primary holder t) ∙ e)
            (λ no. ap up (sym (ap (λ b. if b then row.secondary else row.primary) no) ∙ is.other_is) ∙ f),
        ap up same ∙ e,
      )))
]
  where
    itself : (a b : ℕ) → a ≡ b → (a == b) ≡ true
    itself a b e = ap (λ k. k == b) e ∙ number_itself b

-- the condition of a Caught, part by part
pub record IsCatch (s : State) (of link holder holder_inc other other_inc : ℕ) : Type 0 where
  pub may : may_catch holder other (link_at s.links of link) ≡ true
  pub row : LinkRow
  pub is : link_at s.links of link ≡ Some row
  pub found : IsCatchable holder other row
  pub holds : is_up_as s holder holder_inc ≡ true
  pub joins : is_up_as s other other_inc ≡ true

pub catch_by : (s : State) (of link holder holder_inc other other_inc : ℕ)
    → (may_catch holder other (link_at s.links of link) && is_up_as s holder holder_inc && is_up_as s other other_inc) ≡ true
    → IsCatch s of link holder holder_inc other other_inc
catch_by s of link holder holder_inc other other_inc acts =
    let h = both_true (may_catch holder other (link_at s.links of link) && is_up_as s holder holder_inc) (is_up_as s other other_inc) acts in
    let k = both_true (may_catch holder other (link_at s.links of link)) (is_up_as s holder holder_inc) h.0 in
    let found = catchable holder other (link_at s.links of link) k.0 in
    record { may = k.0; row = found.0; is = found.1; found = found.2; holds = k.1; joins = h.1 }

-- it acts then
pub catch_so : (s : State) (of link holder holder_inc other other_inc : ℕ) → IsCatch s of link holder holder_inc other other_inc
    → (may_catch holder other (link_at s.links of link) && is_up_as s holder holder_inc && is_up_as s other other_inc) ≡ true
catch_so s of link holder holder_inc other other_inc acts = (λ i. acts.may i && acts.holds i && acts.joins i)

-- a Caught that touches a link acts, and is of this link
pub touch_by : (s : State) (row : LinkRow) (of link holder holder_inc other other_inc : ℕ)
    → touches s (Caught of link holder holder_inc other other_inc) row ≡ true
    → (is_link of link row ≡ true) × IsCatch s of link holder holder_inc other other_inc
touch_by s row of link holder holder_inc other other_inc on =
    let may = may_catch holder other (link_at s.links of link) in
    let h = both_true (is_link of link row && may && is_up_as s holder holder_inc) (is_up_as s other other_inc) on in
    let k = both_true (is_link of link row && may) (is_up_as s holder holder_inc) h.0 in
    let l = both_true (is_link of link row) may k.0 in
    let found = catchable holder other (link_at s.links of link) l.1 in
    (l.0, record { may = l.1; row = found.0; is = found.1; found = found.2; holds = k.1; joins = h.1 })

pub touch_so : (s : State) (row : LinkRow) (of link holder holder_inc other other_inc : ℕ)
    → is_link of link row ≡ true → IsCatch s of link holder holder_inc other other_inc
    → touches s (Caught of link holder holder_inc other other_inc) row ≡ true
touch_so s row of link holder holder_inc other other_inc on acts = (λ i. on i && acts.may i && acts.holds i && acts.joins i)

-- what holds where it acts, and where it does nothing, holds after it
pub act_caught : (P : State → Type 0) (s : State) (of link holder holder_inc other other_inc : ℕ)
    → (IsCatch s of link holder holder_inc other other_inc → P (caught_by s of link)) → P s → P (act (Caught of link holder holder_inc other other_inc) s)
act_caught P s of link holder holder_inc other other_inc acts stays =
    by_test P (may_catch holder other (link_at s.links of link) && is_up_as s holder holder_inc && is_up_as s other other_inc) (caught_by s of link) s
    (λ e. acts (catch_by s of link holder holder_inc other other_inc e)) (λ e. stays)

-- a Caught that acts in a plain state
pub record ActingCaught : Type 0 where
  pub servers : ℕ
  pub s : State
  pub p : IsSettledState servers s
  pub of : ℕ
  pub link : ℕ
  pub holder : ℕ
  pub holder_inc : ℕ
  pub other : ℕ
  pub other_inc : ℕ
  pub acts : IsCatch s of link holder holder_inc other other_inc

abbrev pub acting_caught : {servers : ℕ} {s : State} → IsSettledState servers s → {of link holder holder_inc other other_inc : ℕ}
    → IsCatch s of link holder holder_inc other other_inc → ActingCaught
acting_caught {servers} {s} p {of} {link} {holder} {holder_inc} {other} {other_inc} acts = record {
  servers = servers;
  s = s;
  p = p;
  of = of;
  link = link;
  holder = holder;
  holder_inc = holder_inc;
  other = other;
  other_inc = other_inc;
  acts = acts;
}

module _ (it : ActingCaught) where
  open it use {servers, s, p, of, link, holder, holder_inc, other, other_inc, acts}

  abbrev t : State
  t = caught_by s of link

  pub link_caught : (map at : ℕ) → link_at t.links map at ≡ option_map (row_caught of link) (link_at s.links map at)
  link_caught = link_changed servers s p s.view (row_caught of link) (later_caught of link)

  -- a row of this link that is found is the one that the Caught finds
  pub the_row : (row : LinkRow) → link_at s.links row.map row.link ≡ Some row → is_link of link row ≡ true → IsCatchable holder other row
  the_row row is same =
      let h = both_true (row.map == of) (row.link == link) same in
      let there : link_at s.links of link ≡ Some row =
      (λ i. link_at s.links (sym (same_numbers row.map of h.0) i) (sym (same_numbers row.link link h.1) i)) ∙ is in
      subst (IsCatchable holder other) (same_some (sym acts.is ∙ there)) acts.found

  served_caught : (row : LinkRow) → link_at s.links row.map row.link ≡ Some row → IsServed s row → IsServed t (row_caught of link row)
  served_caught row is served = by_test (IsServed t) (is_link of link row) _ _
      (λ same.
      let up = two_up (is_up s) (λ n. is_up_as s n 1) row holder other served (the_row row is same) (in_up s holder holder_inc acts.holds)
      (in_up s other other_inc acts.joins) in
      ByBoth refl up.0 up.1)
      (λ no. served)

  on_caught : (row : LinkRow) → IsServedOn s t row (row_caught of link row)
  on_caught row n k has serving before later =
      by_test (λ (now : LinkRow). serves n now now.state ≡ true) (is_link of link row) _ _ (λ same. has) (λ no. serving)

  held_caught : (row : LinkRow) → link_at s.links row.map row.link ≡ Some row → IsHeldOn s t row (row_caught of link row)
  held_caught row is n whole alone out same = by_test (λ (now : LinkRow). (later : Bool) × (now.state ≡ Only n later)) (is_link of link row) _ _
      (λ here.
      let holds = alone_is holder n row.state (the_row row is here).alone alone in
      true_false (ap (is_up s) holds ∙ in_up s holder holder_inc acts.holds) out)
      (λ no. (whole, alone))

  lost_caught : (row : LinkRow) → link_at s.links row.map row.link ≡ Some row → IsLostOn row (row_caught of link row)
  lost_caught row is lost = by_test (λ (now : LinkRow). now.state ≡ Lost) (is_link of link row) _ _
      (λ here. true_false (the_row row is here).alone (ap (is_alone holder) lost)) (λ no. lost)

  pub catching : Acted servers s t
  catching = changing servers s p s.view (row_caught of link) (later_caught of link) (record {
    many = p.many;
    members = p.members;
    fences = queued_on s t p.fences refl (requeued_itself s.view.queue) p.fences.present;
    ages = λ n. no_less (age_of s n);
    served = served_caught;
    on = on_caught;
    held = held_caught;
    lost = lost_caught;
  })

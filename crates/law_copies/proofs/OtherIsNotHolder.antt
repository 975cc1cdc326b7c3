-- The other server of a link that one server holds alone is another one than the holder, and leads none of the link's cells.
use Rattle.law_copies.proofs.Imports.{◌&&◌, ◌==◌, ◌∙◌, ◌≡◌, ◌≢◌, Bool, Both, Cell, IsSteady, JobContext, LinkRow, LinkState, Lost, None, Only, Option, Some}
use Rattle.law_copies.proofs.Imports.{ap, both_true, by_test, cell_holder, cell_link, false, has_server, holder_of, inl, inr, is_alone, is_lead, is_the_one}
use Rattle.law_copies.proofs.Imports.{lead_links, leads_link, link_led_by, none_some, number_itself, option_and_then, other_of, refl, row_lead, same_numbers}
use Rattle.law_copies.proofs.Imports.{same_some, some_or_none, sym, true, true_false, ℕ}

-- a link's two servers are two
pub other_apart : (row : LinkRow) (n : ℕ) → row.primary ≢ row.secondary → other_of n row ≢ n
other_apart row n two = by_test (λ (m : ℕ). m ≢ n) (row.primary == n) row.secondary row.primary
    (λ e f. two (same_numbers row.primary n e ∙ sym f))
    (λ e f. true_false (ap (λ k. k == n) f ∙ number_itself n) e)

-- one server alone holds a link
pub alone_both : (n m : ℕ) (state : LinkState) → is_alone n state ≡ true → is_alone m state ≡ true → n ≡ m
alone_both n m Both e f = true_false e refl
alone_both n m (Only holder whole) e f = sym (same_numbers holder n e) ∙ same_numbers holder m f
alone_both n m Lost e f = true_false e refl

-- the holder does
pub only_alone : (n : ℕ) (row : LinkRow) (whole : Bool) → row.state ≡ Only n whole → is_alone n row.state ≡ true
only_alone n row whole so = ap (is_alone n) so ∙ number_itself n

-- for the other server another one holds it
pub record IsOtherOf (me : ℕ) (row : LinkRow) (holder : ℕ) : Type 0 where
  pub one_of : has_server me row ≡ true
  pub alone : is_alone (other_of me row) row.state ≡ true
  pub other_is : other_of me row ≡ holder

pub other_row : (me : ℕ) (row : LinkRow) (holder : ℕ) → holder_of me row ≡ Some holder → IsOtherOf me row holder
other_row me row holder = by_test (λ (o : Option ℕ). o ≡ Some holder → IsOtherOf me row holder)
    (has_server me row && is_alone (other_of me row) row.state) (Some (other_of me row)) None
    (λ t e. let two = both_true (has_server me row) (is_alone (other_of me row) row.state) t in
    record { one_of = two.0; alone = two.1; other_is = same_some e })
    (λ t e. none_some refl e)

-- who holds the link of a cell, for its other server
pub record IsOther (here : JobContext) (cell : Cell) (row : LinkRow) (holder : ℕ) : Type 0 where
  pub is : cell_link here.state cell ≡ Some row
  pub one_of : has_server here.me row ≡ true
  pub alone : is_alone (other_of here.me row) row.state ≡ true
  pub other_is : other_of here.me row ≡ holder

pub held_by : (here : JobContext) (cell : Cell) (holder : ℕ) → cell_holder here cell ≡ Some holder → (row : LinkRow) × IsOther here cell row holder
held_by here cell holder held = elim (some_or_none (cell_link here.state cell)) [
  | inl there ↦
      let h = other_row here.me there.0 holder (sym (ap (option_and_then (holder_of here.me)) there.1) ∙ held) in
      (there.0, record { is = there.1; one_of = h.one_of; alone = h.alone; other_is = h.other_is })
  | inr none ↦ none_some (ap (option_and_then (holder_of here.me)) none) held
]

-- it doesn't lead the link
pub held_not_leading : (here : JobContext) → IsSteady here.state → (cell : Cell) (holder : ℕ) → cell_holder here cell ≡ Some holder
    → leads_link here.state here.me cell ≡ true → {B : Type 0} → B
held_not_leading here steady cell holder held leads =
    let h = held_by here cell holder held in
    elim (link_led_by here.state steady cell here.me (is_the_one (option_and_then (row_lead here.state) (cell_link here.state cell)) here.me leads)) [
      | inl b ↦
          let same : b.0.row ≡ h.0 = same_some (sym b.0.is ∙ h.1.is) in
          (let f : false ≡ true = sym (ap (is_alone (other_of here.me h.0)) (ap (λ (r : LinkRow). r.state) (sym same) ∙ b.0.so)) ∙ h.1.alone in absurd cc)
      | inr alone ↦
          let same : alone.row ≡ h.0 = same_some (sym alone.is ∙ h.1.is) in
          let me : here.me ≡ other_of here.me h.0 =
          alone_both here.me (other_of here.me h.0) h.0.state
          (ap (is_alone here.me) (ap (λ (r : LinkRow). r.state) (sym same)) ∙ only_alone here.me alone.row alone.whole alone.so) h.1.alone in
          absurd (other_apart h.0 here.me (steady.linked cell h.0 h.1.is).apart (sym me))
    ]

pub held_not_lead : (here : JobContext) → IsSteady here.state → (cell : Cell) (holder : ℕ) → cell_holder here cell ≡ Some holder
    → is_lead here.state here.me cell ≡ true → {B : Type 0} → B
held_not_lead here steady cell holder held lead =
    held_not_leading here steady cell holder held (lead_links here.state here.me cell lead).1

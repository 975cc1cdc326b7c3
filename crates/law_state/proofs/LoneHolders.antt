-- What a state says of a cell's two servers and of a holder that is alone, and what a later one says of them.
use Rattle.law_state.proofs.Imports.{◌∙◌, ◌≡◌, ◌⊎◌, Bool, Both, Cell, LinkRow, LinkState, Lost, None, Only, Option, Some, State, ap, by_bool, cell_link}
use Rattle.law_state.proofs.Imports.{false, first, in_both, inl, inr, is_alone, is_alone_on, is_lead, is_some, is_the_one, is_up, is_up_as, lead}
use Rattle.law_state.proofs.Imports.{number_itself, option_and_then, option_map, option_map_or, primary, refl, row_in_both, same_some, second, secondary, sym}
use Rattle.law_state.proofs.Imports.{true, true_false, ℕ}
use Rattle.law_state.specs.LinkRows.{IsServedBy, ByBoth, ByNone, ByOne}
use Rattle.law_state.specs.Steady.{IsSteady}
use Rattle.law_state.proofs.Caughts.{alone_by}
use Rattle.law_state.proofs.CellsByLinkRows.{led_by, led_so, second_by, both_first}
use Rattle.law_state.proofs.TestFacts.{same_only}

-- ### One state, by its definitions alone

-- the link of a cell in Both
pub record IsBothRow (state : State) (cell : Cell) : Type 0 where
  pub row : LinkRow
  pub is : cell_link state cell ≡ Some row
  pub both : row.state ≡ Both

-- the link of a cell that this server holds alone
pub record IsAloneRow (state : State) (n : ℕ) (cell : Cell) : Type 0 where
  pub row : LinkRow
  pub whole : Bool
  pub is : cell_link state cell ≡ Some row
  pub alone : row.state ≡ Only n whole

state_both : (row : LinkRow) (state : LinkState) → is_some (row_in_both row state) ≡ true → state ≡ Both
state_both row Both e = refl
state_both row (Only holder whole) e = true_false e refl
state_both row Lost e = true_false e refl

pub both_row : (state : State) (cell : Cell) → in_both state cell ≡ true → IsBothRow state cell
both_row state cell e = by (cell_link state cell) refl e
  where
    by : (o : Option LinkRow) → cell_link state cell ≡ o → is_some (option_and_then (λ row. row_in_both row row.state) o) ≡ true → IsBothRow state cell
    by None is f = true_false f refl
    by (Some row) is f = record { row = row; is = is; both = state_both row row.state f }

pub alone_row : (state : State) (n : ℕ) (cell : Cell) → is_alone_on state n cell ≡ true → IsAloneRow state n cell
alone_row state n cell e = by (cell_link state cell) refl e
  where
    by : (o : Option LinkRow) → cell_link state cell ≡ o → option_map_or (λ row. is_alone n row.state) o false ≡ true → IsAloneRow state n cell
    by None is f = true_false f refl
    by (Some row) is f = let so = alone_by n row.state f in record { row = row; whole = so.0; is = is; alone = so.1 }

pub so_both : (state : State) (cell : Cell) (row : LinkRow) → cell_link state cell ≡ Some row → row.state ≡ Both → in_both state cell ≡ true
so_both state cell row is both =
    ap (λ o. is_some (option_and_then (λ (r : LinkRow). row_in_both r r.state) o)) is ∙ ap (λ s. is_some (row_in_both row s)) both

pub so_alone : (state : State) (n : ℕ) (cell : Cell) (row : LinkRow) (whole : Bool) → cell_link state cell ≡ Some row → row.state ≡ Only n whole
    → is_alone_on state n cell ≡ true
so_alone state n cell row whole is alone =
    ap (λ o. option_map_or (λ (r : LinkRow). is_alone n r.state) o false) is ∙ ap (is_alone n) alone ∙ number_itself n

pub alone_not_both : (state : State) (n : ℕ) (cell : Cell) → is_alone_on state n cell ≡ true → in_both state cell ≡ false
alone_not_both state n cell e =
    let a = alone_row state n cell e in
    ap (λ o. is_some (option_and_then (λ (r : LinkRow). row_in_both r r.state) o)) a.is ∙ ap (λ s. is_some (row_in_both a.row s)) a.alone

pub both_not_alone : (state : State) (n : ℕ) (cell : Cell) → in_both state cell ≡ true → is_alone_on state n cell ≡ false
both_not_alone state n cell e = by_bool (is_alone_on state n cell) (λ alone. true_false e (alone_not_both state n cell alone)) (λ no. no)

-- ### A steady state

module _ (state : State) (steady : IsSteady state) where
  -- who leads a cell holds it alone, or it is in Both and the server is its first
  pub lead_alone : (n : ℕ) (cell : Cell) → is_lead state n cell ≡ true → in_both state cell ≡ false → is_alone_on state n cell ≡ true
  lead_alone n cell e apart = elim (led_by state steady cell n (is_the_one (lead state cell) n e)) [
    | inl b ↦ true_false (so_both state cell b.0.row b.0.is b.0.so) apart
    | inr held ↦ so_alone state n cell held.row held.whole held.is held.so
  ]

  pub lead_first : (n : ℕ) (cell : Cell) → is_lead state n cell ≡ true → in_both state cell ≡ true → first state cell ≡ Some n
  lead_first n cell e both = elim (led_by state steady cell n (is_the_one (lead state cell) n e)) [
    | inl b ↦ both_first state cell b.0.row b.0.is (led_so state cell n (is_the_one (lead state cell) n e)).lives b.0.so ∙ ap Some b.1
    | inr held ↦ true_false both (alone_not_both state n cell (so_alone state n cell held.row held.whole held.is held.so))
  ]

  pub second_both : (cell : Cell) (n : ℕ) → second state cell ≡ Some n → in_both state cell ≡ true
  second_both cell n e = let b = second_by state steady cell n e in so_both state cell b.0.row b.0.is b.0.so

  pub second_secondary : (cell : Cell) (n : ℕ) → second state cell ≡ Some n → secondary state cell ≡ Some n
  second_secondary cell n e =
      let b = second_by state steady cell n e in ap (option_map (λ (r : LinkRow). r.secondary)) b.0.is ∙ ap Some b.1

  -- a holder that is alone is one of the cell's two servers
  pub record IsLeft (n : ℕ) (cell : Cell) (i j : ℕ) : Type 0 where
    pub one_of : (n ≡ i) ⊎ (n ≡ j)

  pub alone_left : (n : ℕ) (cell : Cell) (i j : ℕ) → is_alone_on state n cell ≡ true → primary state cell ≡ Some i → secondary state cell ≡ Some j
      → IsLeft n cell i j
  alone_left n cell i j e one two =
      let a = alone_row state n cell e in
      let first : a.row.primary ≡ i = same_some (sym (ap (option_map (λ (r : LinkRow). r.primary)) a.is) ∙ one) in
      let second : a.row.secondary ≡ j = same_some (sym (ap (option_map (λ (r : LinkRow). r.secondary)) a.is) ∙ two) in
      by first second a.alone (steady.linked cell a.row a.is).served
    where
      by : {row : LinkRow} {whole : Bool} → row.primary ≡ i → row.secondary ≡ j → row.state ≡ Only n whole
          → IsServedBy (is_up state) (λ k. is_up_as state k 1) row → IsLeft n cell i j
      by first second alone (ByBoth both up up') = let f : Both ≡ Only n _ = sym both ∙ alone in absurd cc
      by first second alone (ByNone one other lost pair out) = let f : Lost ≡ Only n _ = sym lost ∙ alone in absurd cc
      by first second alone (ByOne holder other whole only (inl pair) out) = record { one_of = inl (same_only (sym alone ∙ only) ∙ sym pair.0 ∙ first) }
      by first second alone (ByOne holder other whole only (inr pair) out) = record { one_of = inr (same_only (sym alone ∙ only) ∙ sym pair.1 ∙ second) }

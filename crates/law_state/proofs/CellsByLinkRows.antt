-- What a state says of a cell, by the row of its link.
use Rattle.law_state.proofs.Imports.{if◌then◌else◌, ◌&&◌, ◌==◌, ◌∙◌, ◌≡◌, ◌⊎◌, Bool, Both, Cell, LinkRow, Lost, None, Only, Option, Some, State, ap}
use Rattle.law_state.proofs.Imports.{authority, both, both_true, by_bool, cell_link, false, first, has_server, inl, inr, is_up, lead, leaving, live}
use Rattle.law_state.proofs.Imports.{none_some, not, option_and_then, option_map, option_map_or, readable, row_authority, row_in_both, row_lead, same_numbers}
use Rattle.law_state.proofs.Imports.{same_some, second, serves, some_or_none, state_lead, subst, sym, true, true_false, ℕ}
use Rattle.law_state.specs.LinkRows.{ByBoth, ByNone, ByOne}
use Rattle.law_state.specs.Steady.{IsLinked, IsSteady}

-- ### What the readers of a cell stand on

abbrev lead_by : State → (lives leaves : Bool) → Option LinkRow → Option ℕ
lead_by state lives leaves link = if not lives then None else if leaves then None else option_and_then (row_lead state) link

abbrev both_by : Bool → Option LinkRow → Option LinkRow
both_by lives link = if lives then option_and_then (λ row. row_in_both row row.state) link else None

abbrev authority_by : Bool → Option LinkRow → Option ℕ
authority_by lives link = if lives then option_and_then (λ row. row_authority row row.state) link else None

abbrev readable_by : (lives up : Bool) → ℕ → Option LinkRow → Bool
readable_by lives up n link = lives && up && option_map_or (λ row. serves n row row.state) link false

-- ### A retired cell has nobody

module _ (state : State) (cell : Cell) (retired : live state cell ≡ false) where
  pub retired_lead : lead state cell ≡ None
  retired_lead = λ i. lead_by state (retired i) (leaving state cell) (cell_link state cell)

  pub retired_first : first state cell ≡ None
  retired_first = λ i. option_map (λ row. row.primary) (both_by (retired i) (cell_link state cell))

  pub retired_second : second state cell ≡ None
  retired_second = λ i. option_map (λ row. row.secondary) (both_by (retired i) (cell_link state cell))

  pub retired_authority : authority state cell ≡ None
  retired_authority = λ i. authority_by (retired i) (cell_link state cell)

  pub retired_reader : (n : ℕ) → readable state n cell ≡ false
  retired_reader n = λ i. readable_by (retired i) (is_up state n) n (cell_link state cell)

-- ### A cell with a link

module _ (state : State) (cell : Cell) (row : LinkRow) (is : cell_link state cell ≡ Some row) where
  -- who leads the link, whether or not the cell is live
  pub link_lead_is : option_and_then (row_lead state) (cell_link state cell) ≡ row_lead state row
  link_lead_is = ap (option_and_then (row_lead state)) is

  pub both_leads : row.state ≡ Both → option_and_then (row_lead state) (cell_link state cell) ≡ Some row.primary
  both_leads so = link_lead_is ∙ ap (state_lead state row.primary) so

  pub alone_leads : (holder : ℕ) (whole : Bool) → row.state ≡ Only holder whole → is_up state holder ≡ true
      → option_and_then (row_lead state) (cell_link state cell) ≡ Some holder
  alone_leads holder whole so up = link_lead_is ∙ ap (state_lead state row.primary) so ∙ ap (λ b. if b then Some holder else None) up

  pub alone_leads_none : (holder : ℕ) (whole : Bool) → row.state ≡ Only holder whole → is_up state holder ≡ false
      → option_and_then (row_lead state) (cell_link state cell) ≡ None
  alone_leads_none holder whole so out = link_lead_is ∙ ap (state_lead state row.primary) so ∙ ap (λ b. if b then Some holder else None) out

  pub lost_leads : row.state ≡ Lost → option_and_then (row_lead state) (cell_link state cell) ≡ None
  lost_leads so = link_lead_is ∙ ap (state_lead state row.primary) so

  -- where the cell is live
  module _ (lives : live state cell ≡ true) where
    pub both_is : both state cell ≡ row_in_both row row.state
    both_is = λ i. both_by (lives i) (is i)

    pub authority_is : authority state cell ≡ row_authority row row.state
    authority_is = λ i. authority_by (lives i) (is i)

    pub reader_is : (n : ℕ) → readable state n cell ≡ (is_up state n && serves n row row.state)
    reader_is n = λ i. readable_by (lives i) (is_up state n) n (is i)

    -- both servers of the link serve it
    module _ (so : row.state ≡ Both) where
      pub both_first : first state cell ≡ Some row.primary
      both_first = ap (option_map (λ row. row.primary)) (both_is ∙ ap (row_in_both row) so)

      pub both_second : second state cell ≡ Some row.secondary
      both_second = ap (option_map (λ row. row.secondary)) (both_is ∙ ap (row_in_both row) so)

      pub both_authority : authority state cell ≡ Some row.secondary
      both_authority = authority_is ∙ ap (row_authority row) so

      pub both_reader : (n : ℕ) → readable state n cell ≡ (is_up state n && has_server n row)
      both_reader n = reader_is n ∙ ap (λ s. is_up state n && serves n row s) so

    -- one of them serves it alone
    module _ (holder : ℕ) (whole : Bool) (so : row.state ≡ Only holder whole) where
      pub alone_first : first state cell ≡ None
      alone_first = ap (option_map (λ row. row.primary)) (both_is ∙ ap (row_in_both row) so)

      pub alone_second : second state cell ≡ None
      alone_second = ap (option_map (λ row. row.secondary)) (both_is ∙ ap (row_in_both row) so)

      pub alone_authority : authority state cell ≡ Some holder
      alone_authority = authority_is ∙ ap (row_authority row) so

      pub alone_reader : (n : ℕ) → readable state n cell ≡ (is_up state n && holder == n)
      alone_reader n = reader_is n ∙ ap (λ s. is_up state n && serves n row s) so

    -- neither does, since the one that served it alone came back with nothing
    module _ (so : row.state ≡ Lost) where
      pub lost_first : first state cell ≡ None
      lost_first = ap (option_map (λ row. row.primary)) (both_is ∙ ap (row_in_both row) so)

      pub lost_second : second state cell ≡ None
      lost_second = ap (option_map (λ row. row.secondary)) (both_is ∙ ap (row_in_both row) so)

      pub lost_authority : authority state cell ≡ None
      lost_authority = authority_is ∙ ap (row_authority row) so

      pub lost_reader : (n : ℕ) → readable state n cell ≡ false
      lost_reader n =
          reader_is n ∙ ap (λ s. is_up state n && serves n row s) so
          ∙ by_bool (is_up state n) (λ t. ap (λ b. b && false) t) (λ f. ap (λ b. b && false) f)

-- ### A cell that is live and does not leave

-- its lead is that of its link
pub lead_is : (state : State) (cell : Cell) → live state cell ≡ true → leaving state cell ≡ false
    → lead state cell ≡ option_and_then (row_lead state) (cell_link state cell)
lead_is state cell lives stays = λ i. lead_by state (lives i) (stays i) (cell_link state cell)

-- a cell that leaves has none
pub left_lead : (state : State) (cell : Cell) → leaving state cell ≡ true → lead state cell ≡ None
left_lead state cell leaves = by_bool (live state cell)
    (λ t. (λ i. lead_by state (t i) (leaves i) (cell_link state cell)))
    (λ f. retired_lead state cell f)

-- ### A cell of a steady state

-- the cell's link has both of its servers
pub record IsInBoth (state : State) (cell : Cell) : Type 0 where
  pub row : LinkRow
  pub is : cell_link state cell ≡ Some row
  pub linked : IsLinked state cell row
  pub so : row.state ≡ Both

-- the cell's link is held by this server alone, which is In
pub record IsHeldBy (state : State) (cell : Cell) (holder : ℕ) : Type 0 where
  pub row : LinkRow
  pub is : cell_link state cell ≡ Some row
  pub linked : IsLinked state cell row
  pub whole : Bool
  pub so : row.state ≡ Only holder whole
  pub up : is_up state holder ≡ true

-- a cell with a lead is live, and does not leave
pub record IsLed (state : State) (cell : Cell) (n : ℕ) : Type 0 where
  pub lives : live state cell ≡ true
  pub stays : leaving state cell ≡ false
  pub leads : option_and_then (row_lead state) (cell_link state cell) ≡ Some n

pub led_so : (state : State) (cell : Cell) (n : ℕ) → lead state cell ≡ Some n → IsLed state cell n
led_so state cell n e = by_bool (live state cell)
    (λ lives. by_bool (leaving state cell)
    (λ leaves. none_some (left_lead state cell leaves) e)
    (λ stays. record { lives = lives; stays = stays; leads = sym (lead_is state cell lives stays) ∙ e }))
    (λ retired. none_some (retired_lead state cell retired) e)

module _ (state : State) (steady : IsSteady state) (cell : Cell) where
  -- who leads a link is its primary in Both, or holds it alone
  pub link_led_by : (n : ℕ) → option_and_then (row_lead state) (cell_link state cell) ≡ Some n
      → ((b : IsInBoth state cell) × (b.row.primary ≡ n)) ⊎ IsHeldBy state cell n
  link_led_by n leads = elim (some_or_none (cell_link state cell)) [
    | inr none ↦ none_some (ap (option_and_then (row_lead state)) none) leads
    | inl h ↦
        let linked = steady.linked cell h.0 h.1 in
        elim linked.served [
          | ByBoth so one other ↦ inl (record { row = h.0; is = h.1; linked = linked; so = so }, same_some (sym (both_leads state cell h.0 h.1 so) ∙ leads))
          | ByOne holder other whole so pair out ↦ by_bool (is_up state holder)
              (λ up. let same : holder ≡ n = same_some (sym (alone_leads state cell h.0 h.1 holder whole so up) ∙ leads) in
              inr (subst (IsHeldBy state cell) same (record { row = h.0; is = h.1; linked = linked; whole = whole; so = so; up = up })))
              (λ gone. none_some (alone_leads_none state cell h.0 h.1 holder whole so gone) leads)
          | ByNone one other so pair out ↦ none_some (lost_leads state cell h.0 h.1 so) leads
        ]
  ]

  pub led_by : (n : ℕ) → lead state cell ≡ Some n → ((b : IsInBoth state cell) × (b.row.primary ≡ n)) ⊎ IsHeldBy state cell n
  led_by n e = link_led_by n (led_so state cell n e).leads

  -- a cell with a server that only a link in Both has is in Both
  one_of_both : (o : Option ℕ) (server : LinkRow → ℕ)
      → ((row : LinkRow) → cell_link state cell ≡ Some row → live state cell ≡ true → row.state ≡ Both → o ≡ Some (server row))
      → ((row : LinkRow) → cell_link state cell ≡ Some row → live state cell ≡ true → (holder : ℕ) (whole : Bool) → row.state ≡ Only holder whole → o ≡ None)
      → ((row : LinkRow) → cell_link state cell ≡ Some row → live state cell ≡ true → row.state ≡ Lost → o ≡ None)
      → (live state cell ≡ false → o ≡ None) → (n : ℕ) → o ≡ Some n → (b : IsInBoth state cell) × (server b.row ≡ n)
  one_of_both o server both alone lost retired n e = by_bool (live state cell)
      (λ lives. let h = steady.lives cell lives in
      let linked = steady.linked cell h.row h.is in
      elim linked.served [
        | ByBoth so one other ↦ (record { row = h.row; is = h.is; linked = linked; so = so }, same_some (sym (both h.row h.is lives so) ∙ e))
        | ByOne holder other whole so pair out ↦ none_some (alone h.row h.is lives holder whole so) e
        | ByNone one other so pair out ↦ none_some (lost h.row h.is lives so) e
      ])
      (λ off. none_some (retired off) e)

  pub first_by : (n : ℕ) → first state cell ≡ Some n → (b : IsInBoth state cell) × (b.row.primary ≡ n)
  first_by n e = one_of_both (first state cell) (λ row. row.primary) (both_first state cell) (alone_first state cell) (lost_first state cell)
      (retired_first state cell) n e

  pub second_by : (n : ℕ) → second state cell ≡ Some n → (b : IsInBoth state cell) × (b.row.secondary ≡ n)
  second_by n e = one_of_both (second state cell) (λ row. row.secondary) (both_second state cell) (alone_second state cell) (lost_second state cell)
      (retired_second state cell) n e

  -- who may read a cell is In, and one of the two of its link in Both, or holds it alone
  pub read_by : (n : ℕ) → readable state n cell ≡ true
      → (is_up state n ≡ true) × (((b : IsInBoth state cell) × (has_server n b.row ≡ true)) ⊎ IsHeldBy state cell n)
  read_by n e = by_bool (live state cell)
      (λ lives. let k = steady.lives cell lives in
      let linked = steady.linked cell k.row k.is in
      elim linked.served [
        | ByBoth so one other ↦ (let h = both_true (is_up state n) (has_server n k.row) (sym (both_reader state cell k.row k.is lives so n) ∙ e) in
            (h.0, inl (record { row = k.row; is = k.is; linked = linked; so = so }, h.1)))
        | ByOne holder other whole so pair out ↦ (
            let h = both_true (is_up state n) (holder == n) (sym (alone_reader state cell k.row k.is lives holder whole so n) ∙ e) in
            let same = same_numbers holder n h.1 in
            (h.0, inr (record { row = k.row; is = k.is; linked = linked; whole = whole; so = so ∙ ap (λ k. Only k whole) same; up = h.0 })))
        | ByNone one other so pair out ↦ true_false e (lost_reader state cell k.row k.is lives so n)
      ])
      (λ retired. true_false e (retired_reader state cell retired n))

-- A server, and a cell whose link is in Both by its own state: what the server does of copies is of other cells.
use Rattle.law_copies.proofs.Imports.{◌∙◌, ◌≡◌, ◌≢◌, An_operation, As_operation, Body, Both, Cell, IsPutFor, JobContext, Key, LinkRow, PairState, Pending}
use Rattle.law_copies.proofs.Imports.{Some, Stored, ap, cell_holder, cell_link, in_both, is_lead, is_second, is_the, is_the_one, lead_links, leads_link}
use Rattle.law_copies.proofs.Imports.{option_and_then, option_map, other_of, pending_on, row_lead, same_numbers, same_some, second_secondary, secondary}
use Rattle.law_copies.proofs.Imports.{so_both, state_lead, subst, sym, true, ℕ}
use Rattle.law_copies.specs.LoneSteps.{IsFit}
use Rattle.law_copies.specs.Visits.{AliveIn}
use Rattle.law_copies.proofs.OtherIsNotHolder.{held_by}
use Rattle.law_copies.proofs.RolesOfWorkers.{IsLedHere, led_alive, not_both}

-- what it handles, where it is and what it has, and the cell's row
pub record CellInBoth : Type 1 where
  pub heard : Body → Type 0
  pub here : JobContext
  pub own : PairState
  pub fit : IsFit heard here own
  pub cell : Cell
  pub row : LinkRow
  pub is_row : cell_link here.state cell ≡ Some row
  pub alive : AliveIn here.state cell
  pub both_row : row.state ≡ Both

module _ (it : CellInBoth) where
  open it use {heard, here, own, fit, cell, row, is_row, alive, both_row}

  pub cell_both : in_both here.state cell ≡ true
  cell_both = so_both here.state cell row is_row both_row

  both_of : (other : LinkRow) → cell_link here.state cell ≡ Some other → other.state ≡ Both
  both_of other is = ap (λ (r : LinkRow). r.state) (same_some (sym is ∙ is_row)) ∙ both_row

  -- no other server holds it
  pub no_other : (holder : ℕ) → cell_holder here cell ≡ Some holder → ⊥
  no_other holder held = let h = held_by here cell holder held in not_both (other_of here.me h.0) h.0 h.1.alone (both_of h.0 h.1.is)

  -- ### The first server

  module _ (leads : row.primary ≡ here.me) where
    -- it follows on other cells
    pub second_apart : (q : Cell) → is_second here.state here.me q ≡ true → cell ≢ q
    second_apart q s e =
        let two = second_secondary here.state fit.steady q here.me (is_the_one _ here.me s) in
        let there : secondary here.state q ≡ Some row.secondary =
        ap (option_map (λ (r : LinkRow). r.secondary)) (ap (cell_link here.state) (sym e) ∙ is_row) in
        (fit.steady.linked cell row is_row).apart (leads ∙ same_some (sym two ∙ there))

  -- ### The second server

  module _ (follows : row.secondary ≡ here.me) where
    -- it doesn't lead the cell's link
    leads_not : leads_link here.state here.me cell ≡ true → ⊥
    leads_not leads =
        let first : row.primary ≡ here.me = same_numbers row.primary here.me
        (sym (ap (λ o. is_the (option_and_then (row_lead here.state) o) here.me) is_row ∙ ap
        (λ x. is_the (state_lead here.state row.primary x) here.me) both_row)
        ∙ leads) in
        (fit.steady.linked cell row is_row).apart (first ∙ sym follows)

    -- it leads other cells
    pub lead_apart : (q : Cell) → is_lead here.state here.me q ≡ true → cell ≢ q
    lead_apart q l e = leads_not (subst (λ (c : Cell). leads_link here.state here.me c ≡ true) (sym e) (lead_links here.state here.me q l).1)

    pub op_apart : (op : Pending) → pending_on own op.cell ≡ Some op → cell ≢ op.cell
    op_apart op is e =
        let staged = fit.ready.staged op.cell op is in
        leads_not (led_alive here cell alive (subst (IsLedHere here) (sym e) (record { born = staged.born; leads = staged.leads })))

    pub own_put_apart : (key : Key) (stored : Stored) (op : Pending) → IsPutFor heard here own key stored (As_operation op) → cell ≢ op.cell
    own_put_apart _ _ _ (An_operation op reserved paired is fresh why) = op_apart op is

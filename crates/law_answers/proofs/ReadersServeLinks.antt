-- Whoever may read a cell by its own state, and runs, serves the cell's link by what is chosen, too.
use Rattle.law_answers.proofs.Imports.{◌∙◌, ◌≡◌, Cell, Grounded, IsRetired, IsServing, LinkRow, Some, State, ap, cell_link, chosen_log, chosen_state, inl}
use Rattle.law_answers.proofs.Imports.{inr, is_in, log_roles, none_some, readable, reader_serves, runs_now, same_some, server_state, serves, subst, sym, true}
use Rattle.law_answers.proofs.Imports.{true_false, ℕ}
use Rattle.law_answers.specs.ReadLinks.{IsUnlost}

serving_unlost : (state : State) (n : ℕ) (cell : Cell) → IsServing state n cell → IsUnlost state n cell
serving_unlost state n cell s = record {
  served = served;
  kept = λ row is lost. true_false (served row is) (ap (serves n row) lost);
  gone = λ none. none_some none s.is;
}
  where
    served : (row : LinkRow) → cell_link state cell ≡ Some row → serves n row row.state ≡ true
    served row is = subst (λ (r : LinkRow). serves n r r.state ≡ true) (same_some (sym s.is ∙ is)) s.so

died_unlost : (state : State) (n : ℕ) (cell : Cell) → IsRetired state cell → IsUnlost state n cell
died_unlost state n cell died = record {
  served = λ row is. none_some died.0 is;
  kept = λ row is lost. none_some died.0 is;
  gone = λ none. died.1;
}

pub unlost : (g : Grounded) (n : ℕ) (cell : Cell) → (g.w.servers n).life.running ≡ true
    → is_in (server_state g.setting g.w n) n (g.w.servers n).life.inc ≡ true → readable (server_state g.setting g.w n) n cell ≡ true
    → IsUnlost (chosen_state g.setting g.w) n cell
unlost g n cell runs seat may =
    let roles = log_roles g.setting.servers (g.w.servers n).log.applied (chosen_log g.setting g.w) g.firm.plain (g.firm.servers n) in
    elim (roles.reads n (g.w.servers n).life.inc cell seat (runs_now g.setting g.w g.firm n runs seat) (reader_serves g n cell may)) [
      | inl now ↦ serving_unlost (chosen_state g.setting g.w) n cell now
      | inr died ↦ died_unlost (chosen_state g.setting g.w) n cell died
    ]

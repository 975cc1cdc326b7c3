-- The server whose copy of a cell counts serves the cell's link.
use Rattle.law_run.proofs.Imports.{◌==◌, ◌∙◌, ◌≡◌, ByBoth, ByNone, ByOne, Cell, Firm, IsServing, IsSteady, Setting, Some, State, World, alone_authority, ap}
use Rattle.law_run.proofs.Imports.{authority, both_authority, chosen_state, chosen_steady, has_server, inl, inr, lost_authority, none_some, number_itself}
use Rattle.law_run.proofs.Imports.{primary_is_one, same_some, secondary_is_one, serves, sym, true, ℕ}
use Rattle.law_run.proofs.CopiesThatDontCount.{counted_lives}

pub counting_serves : (state : State) → IsSteady state → (cell : Cell) (n : ℕ) → authority state cell ≡ Some n → IsServing state n cell
counting_serves state steady cell n counts =
    let lives = counted_lives state cell n counts in
    let link = steady.lives cell lives in
    elim (steady.linked cell link.row link.is).served [
      | ByBoth so one other ↦
          let second : link.row.secondary ≡ n = same_some (sym (both_authority state cell link.row link.is lives so) ∙ counts) in
          let has = secondary_is_one link.row n second in
          record { row = link.row; is = link.is; one_of = has; so = ap (serves n link.row) so ∙ has }
      | ByOne holder other whole so pair out ↦
          let held : holder ≡ n = same_some (sym (alone_authority state cell link.row link.is lives holder whole so) ∙ counts) in
          let has : has_server n link.row ≡ true = elim pair [
            | inl at ↦ primary_is_one link.row n (at.0 ∙ held)
            | inr at ↦ secondary_is_one link.row n (at.1 ∙ held)
          ] in
          record { row = link.row; is = link.is; one_of = has; so = ap (serves n link.row) so ∙ ap (λ k. k == n) held ∙ number_itself n }
      | ByNone one other lost pair out ↦ none_some (lost_authority state cell link.row link.is lives lost) counts
    ]

pub counts_serves : (setting : Setting) (w : World) → Firm setting w → (cell : Cell) (n : ℕ) → authority (chosen_state setting w) cell ≡ Some n
    → IsServing (chosen_state setting w) n cell
counts_serves setting w firm cell n counts = counting_serves (chosen_state setting w) (chosen_steady setting w firm) cell n counts

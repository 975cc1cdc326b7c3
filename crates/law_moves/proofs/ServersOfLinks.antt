-- Who serves a cell's link: its lead, its authority, and in Both each of its two servers.
use Rattle.law_moves.proofs.Imports.{if◌then◌else◌, ◌∙◌, ◌≡◌, ByBoth, ByNone, ByOne, Cell, IsHeldBy, IsInBoth, IsServing, IsSteady, LinkRow, Matters, None}
use Rattle.law_moves.proofs.Imports.{Only, Some, State, ap, authority, by_bool, cell_link, first, first_by, has_server, holder_is_one, inl, inr, led_by}
use Rattle.law_moves.proofs.Imports.{link_led_by, live, none_some, number_itself, option_and_then, primary_is_one, row_authority, row_lead, same_some, second}
use Rattle.law_moves.proofs.Imports.{second_by, secondary_is_one, serves, sym, true, ℕ}
use Rattle.spec_rules.specs.State.{lead}

pub both_serves : (state : State) (cell : Cell) (n : ℕ) (b : IsInBoth state cell) → has_server n b.row ≡ true → IsServing state n cell
both_serves state cell n b has = record { row = b.row; is = b.is; one_of = has; so = ap (serves n b.row) b.so ∙ has }

pub held_serves : (state : State) (cell : Cell) (n : ℕ) → IsHeldBy state cell n → IsServing state n cell
held_serves state cell n h = record {
  row = h.row;
  is = h.is;
  one_of = holder_is_one state cell n h;
  so = ap (serves n h.row) h.so ∙ number_itself n;
}

module _ (state : State) (steady : IsSteady state) (cell : Cell) (n : ℕ) where
  pub link_lead_serves : option_and_then (row_lead state) (cell_link state cell) ≡ Some n → IsServing state n cell
  link_lead_serves e = elim (link_led_by state steady cell n e) [
    | inl b ↦ both_serves state cell n b.0 (primary_is_one b.0.row n b.1)
    | inr held ↦ held_serves state cell n held
  ]

  pub lead_serves : lead state cell ≡ Some n → IsServing state n cell
  lead_serves e = elim (led_by state steady cell n e) [
    | inl b ↦ both_serves state cell n b.0 (primary_is_one b.0.row n b.1)
    | inr held ↦ held_serves state cell n held
  ]

  pub first_serves : first state cell ≡ Some n → IsServing state n cell
  first_serves e = let b = first_by state steady cell n e in both_serves state cell n b.0 (primary_is_one b.0.row n b.1)

  pub second_serves : second state cell ≡ Some n → IsServing state n cell
  second_serves e = let b = second_by state steady cell n e in both_serves state cell n b.0 (secondary_is_one b.0.row n b.1)

  pub authority_serves : authority state cell ≡ Some n → IsServing state n cell
  authority_serves e = by_bool (live state cell)
      (λ lives.
      let h = steady.lives cell lives in
      let of_row : row_authority h.row h.row.state ≡ Some n =
      sym (ap (λ b. if b then option_and_then (λ (row : LinkRow). row_authority row row.state) (cell_link state cell) else None) lives
      ∙ ap (option_and_then (λ (row : LinkRow). row_authority row row.state)) h.is) ∙ e in
      by h.row h.is of_row)
      (λ retired. none_some (ap (λ b. if b then option_and_then (λ (row : LinkRow). row_authority row row.state) (cell_link state cell) else None) retired) e)
    where
      by : (row : LinkRow) → cell_link state cell ≡ Some row → row_authority row row.state ≡ Some n → IsServing state n cell
      by row is of_row = elim (steady.linked cell row is).served [
        | ByBoth so one other ↦
            let same : row.secondary ≡ n = same_some (sym (ap (row_authority row) so) ∙ of_row) in
            let has = secondary_is_one row n same in
            record { row = row; is = is; one_of = has; so = ap (serves n row) so ∙ has }
        | ByOne holder other whole so pair out ↦
            let same : holder ≡ n = same_some (sym (ap (row_authority row) so) ∙ of_row) in
            record {
              row = row;
              is = is;
              one_of = elim pair [ inl at ↦ primary_is_one row n (at.0 ∙ same) | inr at ↦ secondary_is_one row n (at.1 ∙ same) ];
              so = ap (serves n row) so ∙ ap (λ k. serves n row (Only k whole)) same ∙ number_itself n;
            }
        | ByNone one other so pair out ↦ none_some (ap (row_authority row) so) of_row
      ]

  pub matters_serves : Matters state cell n → IsServing state n cell
  matters_serves (inl counts) = authority_serves counts
  matters_serves (inr leads) = lead_serves leads

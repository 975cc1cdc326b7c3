-- Where a client's next line is of a later phase, it has called each of its lines of the phases before.
use Rattle.law_answers.proofs.Imports.{[], ◌<◌, ◌==◌, ◌≤◌, ◌∙◌, ◌∷◌, ◌≡◌, AreRising, Bool, Client, Line, List, None, Script, Some, ap, arith, cond, false, filter, inl}
use Rattle.law_answers.proofs.Imports.{inr, length, lines_of, next_line, none_some, refl, same_some, setting_of, slice_get, slice_get_within, suc, sym}
use Rattle.law_answers.proofs.Imports.{true, zero, ℕ}
use Rattle.law_answers.proofs.LinesHavePlaces.{found_in, line_at}
use Rattle.law_printed.specs.Played.{HasPlayed, PhasesRise}
use Rattle.law_printed.proofs.ClientsAnswer.{in_filtered}
use Rattle.law_state.proofs.ListLookups.{get_within}
use Rattle.std.proofs.lemmas.Bool.{cases_lt}

rises_still : (p : Line → Bool) (lines : List Line) → AreRising lines → AreRising (filter p lines)
rises_still p [] h = tt
rises_still p (first ∷ lines) h = elim (p first) as (λ b. AreRising (cond b (first ∷ filter p lines) (filter p lines))) [
  | true ↦ ((λ other i. h.0 other (in_filtered p lines other i)), rises_still p lines h.1)
  | false ↦ rises_still p lines h.1
]

-- a line that stands further on has no lower number
no_lower : (lines : List Line) → AreRising lines → (i j : ℕ) (one other : Line) → slice_get lines i ≡ Some one → slice_get lines j ≡ Some other → i ≤ j
    → one.number ≤ other.number
no_lower [] rise i j one other is there le = none_some refl is
no_lower (first ∷ lines) rise zero zero one other is there le =
    let e : one.number ≡ other.number = ap (λ (l : Line). l.number) (same_some (sym is ∙ there)) in omega arith
no_lower (first ∷ lines) rise zero (suc j) one other is there le =
    let lt = rise.0 other (found_in lines j other there) in
    let e : first.number ≡ one.number = ap (λ (l : Line). l.number) (same_some is) in
    omega arith
no_lower (first ∷ lines) rise (suc i) zero one other is there le = absurd (omega arith)
no_lower (first ∷ lines) rise (suc i) (suc j) one other is there le = no_lower lines rise.1 i j one other is there (omega arith)

pub played_up_to : (script : Script) (phases c : ℕ) (client : Client) → AreRising script.lines → PhasesRise script.lines → client.asked ≡ None
    → ((place : ℕ) (line : Line) → slice_get (lines_of script.lines c) place ≡ Some line → place < client.seq → line.phase < phases)
    → ((line : Line) → next_line script.lines c client ≡ Some line → phases ≤ line.phase) → HasPlayed (setting_of script) phases c client
played_up_to script phases c client rise phases_rise free only next = record { free = free; called = called; only = only }
  where
    own : List Line
    own = lines_of script.lines c

    called : (place : ℕ) (line : Line) → slice_get own place ≡ Some line → line.phase < phases → place < client.seq
    called place line is before = elim (cases_lt place client.seq) [
      | inl lt ↦ lt
      | inr le ↦
          let within : place < length own = slice_get_within own place line is in
          let first = get_within own client.seq (omega arith) in
          let later = next first.0 first.1 in
          let numbers = no_lower own (rises_still (λ (l : Line). l.client == c) script.lines rise) client.seq place first.0 line first.1 is le in
          let order = phases_rise first.0 line (line_at script.lines c client.seq first.0 first.1).0 (line_at script.lines c place line is).0 numbers in
          absurd (omega arith)
    ]

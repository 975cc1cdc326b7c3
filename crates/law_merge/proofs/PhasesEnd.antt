-- At the end of a phase each line of it, and of those before, was answered.
use Rattle.law_merge.proofs.Imports.{[], ◌++◌, ◌<◌, ◌==◌, ◌∷◌, ◌≡◌, AreSteps, In, IsAnswered, Line, List, Record, Script, Setting, Some, World, get_in}
use Rattle.law_merge.proofs.Imports.{in_kept, inl, inr, lines_of, none_some, number_itself, refl, setting_of, slice_get, start, stepped, steps_begin, subst}
use Rattle.law_merge.proofs.Imports.{sym, world_after, ℕ}
use Rattle.law_merge.specs.Phases.{HasDone, HaveDone}
use Rattle.law_merge.proofs.CalledLines.{answered_along, place_kept}
use Rattle.law_merge.proofs.OwnRecordsMake.{client_made}

world_joined : (setting : Setting) (w : World) (prefix suffix : List Record)
    → world_after setting w (prefix ++ suffix) ≡ world_after setting (world_after setting w prefix) suffix
world_joined setting w [] suffix = refl
world_joined setting w (own ∷ prefix) suffix = world_joined setting (stepped setting w own).world prefix suffix

place_of : (lines : List Line) (line : Line) → In line lines → (place : ℕ) × (slice_get (lines_of lines line.client) place ≡ Some line)
place_of lines line there =
    get_in (lines_of lines line.client) line (in_kept (λ (l : Line). l.client == line.client) lines line there (number_itself line.client))

pub done_answered : (script : Script) (prefix suffix : List Record) → AreSteps script (prefix ++ suffix) → (phase : ℕ) → HaveDone script phase prefix
    → (line : Line) → In line script.lines → line.phase < phase
    → IsAnswered (world_after (setting_of script) (start (setting_of script)) (prefix ++ suffix)).answers line.number
done_answered script prefix suffix steps phase done line there before =
    let setting = setting_of script in
    let w = world_after setting (start setting) prefix in
    let place = place_of script.lines line there in
    let own : HasDone setting phase line.client (w.clients line.client) =
    subst (HasDone setting phase line.client) (sym (client_made setting (start setting) prefix line.client)) (done line.client) in
    subst (λ (v : World). IsAnswered v.answers line.number) (sym (world_joined setting (start setting) prefix suffix))
    (answered_along setting w suffix line.number
    (elim (place_kept setting prefix (steps_begin setting (start setting) prefix suffix steps) line.client place.0 line place.1
    (own.called place.0 line place.1 before)) [
      | inl was ↦ none_some own.free was.is
      | inr told ↦ told
    ]))

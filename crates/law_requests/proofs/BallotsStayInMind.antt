-- A running server forgets no ballot that it has started for a Caught, in a step that applies no entry.
use Rattle.law_requests.proofs.Imports.{[], ◌∙◌, ◌∷◌, ◌≡◌, By_ballot, By_entry, By_job, Handled, JobResult, LinkRow, Log, Setting, Worked, World, ap, arith}
use Rattle.law_requests.proofs.Imports.{id_of, is_flagged, kept_proposed, length, length-append, of_did, own_place, same_caught, server_state, sym, true, ℕ}

pub worked_flags : (setting : Setting) (w : World) (n : ℕ) (log : Log) (done : JobResult) → Worked setting w n log done
    → (w.servers n).log.applied ≡ log.applied → (row : LinkRow) → is_flagged (w.servers n).own (id_of row) ≡ true
    → is_flagged done.own (id_of row) ≡ true
worked_flags setting w n _ _ (By_job log done applied did seat) same row flag =
    same_caught done.own row ∙ (of_did (Handled w n) (own_place setting w n) (w.servers n).own done did).caught row
    ∙ sym (same_caught (w.servers n).own row) ∙ flag
worked_flags setting w n _ _ (By_ballot log started posts applied starts says) same row flag =
    (kept_proposed (server_state setting w n) (w.servers n).own started).flags (id_of row) flag
worked_flags setting w n _ _ (By_entry log entry more prefix) same row flag =
    absurd (omega (arith, ap length (sym more ∙ sym same), length-append (w.servers n).log.applied (entry ∷ [])))

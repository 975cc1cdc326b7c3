-- Commands so far and those that are left are all.
use Rattle.std.proofs.Common.{◌≡◌, ℕ, zero, suc, ◌+◌, ◌-◌, ◌<◌, List, [], ◌∷◌, ◌++◌, append_assoc, Some, None, refl, sym, ap, ◌∙◌, arith}
use Rattle.std.proofs.lemmas.List.{append-nil}
use Rattle.petal_command.specs.declared.command.Command.{Command}
use Rattle.spec_rules.specs.Entries.{known_run}
use Rattle.spec_rules.specs.Log.{Log, known}

run_here : (log : Log) (place most observed : ℕ) → observed < most → (c : Command) → known log place ≡ Some c
    → known_run log place (most - observed) ≡ c ∷ known_run log (place + 1) (most - (observed + 1))
run_here log place most observed h c is = by (most - observed) refl
  where
    by : (k : ℕ) → most - observed ≡ k → known_run log place k ≡ c ∷ known_run log (place + 1) (most - (observed + 1))
    by zero e = absurd (omega arith)
    by (suc k) e = let rest : k ≡ most - (observed + 1) = omega arith in rw is (ap (λ m. c ∷ known_run log (place + 1) m) rest)

run_none : (log : Log) (place k : ℕ) → known log place ≡ None → known_run log place k ≡ []
run_none log place zero is = refl
run_none log place (suc k) is = rw is refl

-- a command that is not known ends the run
pub run_ends : (log : Log) (run all : List Command) (place k : ℕ) → known log place ≡ None → run ++ known_run log place k ≡ all → run ≡ all
run_ends log run all place k is invariant = sym (append-nil run) ∙ ap (λ (more : List Command). run ++ more) (sym (run_none log place k is)) ∙ invariant

-- one more that is known
pub run_next : (log : Log) (run more all : List Command) (c : Command) (place next most observed : ℕ) → observed < most → known log place ≡ Some c
    → more ≡ run ++ c ∷ [] → next ≡ place + 1 → run ++ known_run log place (most - observed) ≡ all → more ++ known_run log next (most - (observed + 1)) ≡ all
run_next log run more all c place next most observed h is made count invariant =
    rw (made, count) (append_assoc run (c ∷ []) (known_run log (place + 1) (most - (observed + 1)))
    ∙ ap (λ (rest : List Command). run ++ rest) (sym (run_here log place most observed h c is)) ∙ invariant)

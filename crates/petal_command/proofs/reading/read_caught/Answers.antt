use Rattle.std.proofs.Common.{ap, drop, List, ℕ}
use Rattle.petal_command.proofs.reading.read_caught.Goals as goal

pub returns : goal.returns
returns c map link holder holder_inc other other_inc fits is = cc (
  c.word_at.ensures map _ fits.0 (ap (λ (l : List ℕ). drop 1 l) is),
  c.small_at.ensures link _ fits.1 (ap (λ (l : List ℕ). drop 5 l) is),
  c.small_at-2.ensures holder _ fits.2 (ap (λ (l : List ℕ). drop 6 l) is),
  c.word_at-2.ensures holder_inc _ fits.3 (ap (λ (l : List ℕ). drop 7 l) is),
  c.small_at-3.ensures other _ fits.4 (ap (λ (l : List ℕ). drop 11 l) is),
  c.word_at-3.ensures other_inc _ fits.5 (ap (λ (l : List ℕ). drop 12 l) is),
)

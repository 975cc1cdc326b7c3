-- What entries leave as it was: how many servers there are; and that each of them counts.
use Rattle.std.proofs.Common.{◌≡◌, ℕ, ◌+◌, List, [], ◌∷◌, length, fold, arith}
use Rattle.petal_command.specs.declared.command.Command.{Command}
use Rattle.spec_state.specs.State.{State, start}
use Rattle.spec_state.specs.Command.{after, state_after}

pub revs_from : (s : State) (log : List Command) → (fold after s log).rev ≡ s.rev + length log
revs_from s [] = omega arith
revs_from s (c ∷ log) = let later = revs_from (after s c) log in omega arith

-- the revision is the number of entries
pub rev_counts : (servers : ℕ) (log : List Command) → (state_after servers log).rev ≡ length log
rev_counts servers log = let e = revs_from (start servers) log in omega arith

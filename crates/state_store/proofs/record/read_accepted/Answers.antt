use Rattle.std.proofs.Common.{ap, drop, get_or, List, ℕ, sym, ◌∙◌}
use Rattle.state_store.proofs.Bodies.{some_accepted}
use Rattle.state_store.proofs.record.read_accepted.Goals as goal

pub returns-in_err-command : goal.returns-in_err-command
returns-in_err-command c place ballot command fits is =
    absurd (cc (c.command_at.ensures command _ fits.2 (ap (λ (l : List ℕ). drop 10 l) is), c.in_err-command.was))

pub returns : goal.returns
returns c place ballot command fits is =
    some_accepted _ place _ _ ballot _ command
    (c.word_at.ensures place _ fits.0 (ap (λ (l : List ℕ). drop 1 l) is))
    (c.word_at-2.ensures ballot.round _ fits.1.0 (ap (λ (l : List ℕ). drop 5 l) is))
    (ap (λ (l : List ℕ). get_or l 9 0) is)
    (sym c.in_ok-command.was ∙ c.command_at.ensures command _ fits.2 (ap (λ (l : List ℕ). drop 10 l) is))

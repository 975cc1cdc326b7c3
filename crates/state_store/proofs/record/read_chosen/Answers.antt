use Rattle.std.proofs.Common.{ap, drop, List, ℕ, sym, ◌∙◌}
use Rattle.state_store.proofs.Bodies.{some_chosen}
use Rattle.state_store.proofs.record.read_chosen.Goals as goal

pub returns-in_err-command : goal.returns-in_err-command
returns-in_err-command c place command fits is = absurd (cc (c.command_at.ensures command _ fits.1 (ap (λ (l : List ℕ). drop 10 l) is), c.in_err-command.was))

pub returns : goal.returns
returns c place command fits is =
    some_chosen _ place _ command
    (c.word_at.ensures place _ fits.0 (ap (λ (l : List ℕ). drop 1 l) is))
    (sym c.in_ok-command.was ∙ c.command_at.ensures command _ fits.1 (ap (λ (l : List ℕ). drop 10 l) is))

use Rattle.std.proofs.Common.{◌++◌, List, length, sym, ap, ◌∙◌}
use Rattle.spec_rules.specs.Server.{Post, letters_of, sender}
use Rattle.copy_recovery.proofs.again.with_awaited.Goals as goal

pub returns-clause-letters : goal.returns-clause-letters
returns-clause-letters g c = λ observed side posts is.
    c.in_ok-with_letter.ensures
    ∙ ap (λ (ps : List Post). c.args.letters ++ letters_of (sender c.args.here.now) (length c.args.letters) ps)
    (c.in_ok-found.ensures.letter observed side ∙ sym is)

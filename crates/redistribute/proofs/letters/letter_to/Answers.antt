use Rattle.std.proofs.Common.{Some, sym, ap, ◌∙◌}
use Rattle.petal_msg.specs.declared.body.Body.{Body}
use Rattle.redistribute.specs.Sending.{letter_with}
use Rattle.redistribute.proofs.letters.letter_to.Goals as goal

pub returns-in-Some-clause-letter : goal.returns-in-Some-clause-letter
returns-in-Some-clause-letter g c = λ observed.
    ap (λ (said : Body). Some (c.args.to, said)) c.fill_body.ensures
    ∙ ap (letter_with c.args.key (Some (c.args.to, c.args.cell))) (sym c.in-Some.is ∙ c.in_ok-bytes.ensures.entry observed)

pub returns-in-None-clause-letter : goal.returns-in-None-clause-letter
returns-in-None-clause-letter g c = λ observed.
    ap (letter_with c.args.key (Some (c.args.to, c.args.cell))) (sym c.in-None.is ∙ c.in_ok-bytes.ensures.entry observed)

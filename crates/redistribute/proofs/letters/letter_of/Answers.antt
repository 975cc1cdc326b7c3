use Rattle.std.proofs.Common.{refl, sym, ap, ◌∙◌}
use Rattle.std.proofs.lemmas.Result.{IfOk-weaker}
use Rattle.pair_memory.specs.Letters.{posts_of}
use Rattle.pair_memory.specs.PairMemory.{own_of}
use Rattle.redistribute.proofs.Fillings.{letter_is, no_letter}
use Rattle.redistribute.proofs.letters.letter_of.Goals as goal

pub returns-in-Some-clause-letter : goal.returns-in-Some-clause-letter
returns-in-Some-clause-letter g c =
    IfOk-weaker c.letter_to.result _ _
    (λ found is observed side. ap posts_of (is observed)
    ∙ letter_is c.args.here.now.state (own_of side c.args.store.now) c.args.key _ _ (sym c.in-Some.is ∙ c.destination.ensures) refl)
    c.letter_to.ensures.letter

pub returns-in-None-clause-letter : goal.returns-in-None-clause-letter
returns-in-None-clause-letter g c = λ observed side.
    no_letter c.args.here.now.state (own_of side c.args.store.now) c.args.key (sym c.in-None.is ∙ c.destination.ensures)

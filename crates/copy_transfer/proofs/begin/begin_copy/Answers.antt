use Rattle.std.proofs.Common.{Err, refl, ap, ◌∙◌, arith}
use Rattle.std.proofs.lemmas.Result.{err_from_is_err_and}
use Rattle.spec_rules.specs.Server.{letters_of, post_to, sender}
use Rattle.pair_memory.specs.PairMemory.{PairMemory, own_of}
use Rattle.pair_memory.proofs.Viewed.{left_of}
use Rattle.copy_transfer.proofs.Stages.{begun_is, begun_next}
use Rattle.copy_transfer.proofs.begin.begin_copy.Goals as goal

pub returns-in_err-later-clause-said : goal.returns-in_err-later-clause-said
returns-in_err-later-clause-said g c = λ other.
    let refused = err_from_is_err_and c.from_residual.result c.from_residual.ensures.1 in
    absurd (other (refused.1 ∙ ap Err (refused.2 ∙ c.in_err-later.ensures.spent.0)))

pub returns-in_err-later-clause-spent : goal.returns-in_err-later-clause-spent
returns-in_err-later-clause-spent g c = λ _.
    rw (← c.side.view_is)
    (let before : PairMemory = left_of c.side.view_is in
    let next = begun_next c.args.here.now (own_of before c.args.store.now) c.args.cell in
    let beyond = c.in_err-later.ensures.spent.1 in
    (refl, omega (arith, next, beyond)))

pub returns-clause-said : goal.returns-clause-said
returns-clause-said g c = λ _.
    let h = rw (← c.side.view_is) at c.requires in
    rw (← c.side.view_is)
    (begun_is c.args.here.now _ c.args.store.now h c.args.cell c.in_ok-letters.letters c.set_copying.new.self c.in_ok-later.later c.only.result
    c.in_ok-later.ensures.ok c.in_ok-set_copying.ensures.ok
    (c.in_ok-letters.ensures ∙ (λ i. letters_of (sender c.args.here.now) 0 (post_to (c.other_on.ensures i) (c.in_ok-body.ensures i)))) c.only.ensures)

use Rattle.pair_memory.proofs.Said.{not_spent}
use Rattle.kept_chains.specs.Kept.{store_of}
use Rattle.copy_recovery.proofs.link.go_for.Goals as goal

pub returns-in-Ask-clause-said : goal.returns-in-Ask-clause-said
returns-in-Ask-clause-said g c = λ _. rw c.in-Ask.is (rw (c.page_wanted.ensures (store_of c.args.store.now)) at c.say_to.ensures)

pub returns-in-Ask-clause-spent : goal.returns-in-Ask-clause-spent
returns-in-Ask-clause-spent g c = λ is. absurd (not_spent c.args.here.now _ _ c.args.store.now c.args.store.now c.say_to.result _ c.say_to.ensures is)

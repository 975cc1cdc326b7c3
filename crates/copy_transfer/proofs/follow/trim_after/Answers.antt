use Rattle.std.proofs.Common.{◌≡◌, ◌==◌, true, false, nat_lt, arith}
use Rattle.std.proofs.lemmas.Bool.Decides.{nat_tests}
use Rattle.petal_table.specs.Table.{at}
use Rattle.spec_rules.specs.Store.{cell_cmp}
use Rattle.pair_memory.specs.PairMemory.{own_of}
use Rattle.pair_memory.proofs.Said.{said_done}
use Rattle.copy_transfer.proofs.Trims.{known_copy, trim_equal, trim_newer, trim_older}
use Rattle.copy_transfer.proofs.follow.trim_after.Goals as goal

pub returns-then-copy-last : goal.returns-then-copy-last
returns-then-copy-last g c = λ holder.
    let own = own_of c.args.side.now c.args.store.now in
    let last = known_copy (at cell_cmp c.args.side.now.copies.last c.args.cell) c.args.last c.requires.known in
    let number = last.1.1 in
    let older : nat_lt c.args.copy.op last.0.op ≡ true = grind (arith, nat_tests, number, c.if-copy-last.true) in
    let law = g.met.D.Disk g.world.𝓛 g.world.𝓜 g.world.𝓡 ((λ s x. x), (λ x. x), (λ x. x), λ x. x) in
    rw (← (trim_older c.args.here.now own c.args.cell c.args.copy c.args.holder holder c.requires.begins last.0 last.1.0 older))
    (said_done g.D.Disk law.stays law.only_now c.args.here.now _ _ _ _ c.silent.result _ c.silent.ensures)

pub returns-then-copy-last-2 : goal.returns-then-copy-last-2
returns-then-copy-last-2 g c = λ holder.
    let own = own_of c.args.side.now c.args.store.now in
    let last = known_copy (at cell_cmp c.args.side.now.copies.last c.args.cell) c.args.last c.requires.known in
    let number = last.1.1 in
    let older : nat_lt c.args.copy.op last.0.op ≡ false = grind (arith, nat_tests, number, c.if-copy-last.false) in
    let same : (c.args.copy.op == last.0.op) ≡ true = grind (arith, nat_tests, number, c.if-copy-last-2.true) in
    let law = g.met.D.Disk g.world.𝓛 g.world.𝓜 g.world.𝓡 ((λ s x. x), (λ x. x), (λ x. x), λ x. x) in
    rw (← (trim_equal c.args.here.now own c.args.cell c.args.copy c.args.holder holder c.requires.begins last.0 last.1.0 older same))
    (said_done g.D.Disk law.stays law.only_now c.args.here.now _ _ _ _ c.trim_again.result _ (c.trim_again.ensures last.0 last.1.0))

pub returns : goal.returns
returns g c = λ holder.
    let own = own_of c.args.side.now c.args.store.now in
    let last = known_copy (at cell_cmp c.args.side.now.copies.last c.args.cell) c.args.last c.requires.known in
    let number = last.1.1 in
    let older : nat_lt c.args.copy.op last.0.op ≡ false = grind (arith, nat_tests, number, c.if-copy-last.false) in
    let other : (c.args.copy.op == last.0.op) ≡ false = grind (arith, nat_tests, number, c.if-copy-last-2.false) in
    rw (← (trim_newer c.args.here.now own c.args.cell c.args.copy c.args.holder holder c.requires.begins last.0 last.1.0 older other)) c.trim_newly.ensures

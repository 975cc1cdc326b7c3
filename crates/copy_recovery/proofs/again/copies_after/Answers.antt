use Rattle.std.proofs.Common.{◌≡◌, List, sym, ap}
use Rattle.petal_base.specs.declared.cell.Cell.{Cell}
use Rattle.petal_msg.specs.declared.copying.Copying.{Copying}
use Rattle.spec_rules.specs.Copies.{copy_awaited, copy_stage}
use Rattle.spec_rules.specs.Server.{Post, sender}
use Rattle.spec_rules.specs.Store.{Store}
use Rattle.server_store.specs.Holdings.{Holdings}
use Rattle.kept_chains.specs.Kept.{store_of}
use Rattle.pair_memory.specs.PairMemory.{own_of}
use Rattle.pair_memory.proofs.Letters.{next_letters}
use Rattle.copy_transfer.specs.Walks.{side_own}
use Rattle.pair_memory.proofs.Looks.{seen_then}
use Rattle.copy_recovery.proofs.again.copies_after.Goals as goal

pub loop-cell-preserved : goal.loop-cell-preserved
loop-cell-preserved g c =
    let law = g.met.D.Disk g.world.𝓛 g.world.𝓜 g.world.𝓡 ((λ s x. x), (λ x. x), (λ x. x), λ x. x) in
    let here = c.args.here.now in
    let side = c.args.side.now in
    let first = c.args.store.now in
    let cell = c.in-Some.cell.now in
    let copy = c.in-Some.copy.now in
    let seen = c.loop-cell.invariant.seen in
    record {
      seen = seen_then g.D.Disk law.stays law.goes_on first c.loop-cell.store c.with_awaited.new.store c.with_awaited.result seen c.with_awaited.ensures.look;
      letters = λ observed.
          let same : store_of c.loop-cell.store ≡ store_of first = ap (λ (s : Holdings _). store_of s) seen.same in
          let f : Cell × Copying → List Post = λ row. copy_awaited here (own_of side first) row.0 row.1 (copy_stage (store_of first) row.0 row.1) in
          let more = c.in_ok-letters.ensures.letters observed side (f (cell, copy))
          (sym (ap (λ (s : Store). copy_awaited here (side_own side s) cell copy (copy_stage s cell copy)) same)) in
          next_letters (sender here) f c.loop-cell.letters c.in_ok-letters.letters _
          (cell, copy) c.loop-cell.cell-iterator c.next.new.self c.in-Some.ensures.steps more (c.loop-cell.invariant.letters observed);
    }

use Rattle.std.proofs.Common.{◌+◌, refl, sym, ap, ◌∙◌}
use Rattle.petal_table.specs.Table.{at}
use Rattle.spec_rules.specs.Store.{cell_cmp, chain_in, version_of}
use Rattle.spec_rules.specs.Writes.{origin_by}
use Rattle.kept_chains.specs.Kept.{chains_of}
use Rattle.pair_memory.proofs.Puts.{row_over}
use Rattle.pair_memory.proofs.Said.{full_done}
use Rattle.pair_memory.specs.PairMemory.{PairMemory}
use Rattle.pair_memory.proofs.Viewed.{left_of}
use Rattle.pair_memory.proofs.Tickets.{own_out}
use Rattle.write_pair.proofs.Moves.{own_slot, puts_done, puts_keeps}
use Rattle.write_pair.proofs.lead.stages.put_own.Goals as goal

pub spend-requires-clause-out : goal.spend-requires-clause-out
spend-requires-clause-out g c = λ _ _ slot is.
    let side = c.args.side.now in
    own_out side.pending side.last side.own side.apart c.args.store.now.tickets c.requires.ready.tickets c.args.op.now.cell slot
    (ap (λ (s : PairMemory). at cell_cmp s.own c.args.op.now.cell) (sym c.side.view_is) ∙ is)

pub returns-then-not-has_room_for-clause-job : goal.returns-then-not-has_room_for-clause-job
returns-then-not-has_room_for-clause-job g c =
    let law = g.met.D.Disk g.world.𝓛 g.world.𝓜 g.world.𝓡 ((λ s x. x), (λ x. x), (λ x. x), λ x. x) in
    let store = c.args.store.now in
    let op = c.args.op.now in
    let over = row_over store op.key (record { version = version_of (chain_in (chains_of store.entries) op.cell) + 1; bytes = op.bytes })
    (origin_by c.args.here.now.state op) (rw c.origin_by-origin.ensures at (sym c.has_room_for.ensures ∙ c.if-not-has_room_for.true)) in
    full_done g.D.Disk law.stays law.only_now c.args.here.now _ _ store store _ (record { count = over.0; over = over.1; same = (refl, refl) })

pub returns-clause-job : goal.returns-clause-job
returns-clause-job g c =
    rw (← c.side.view_is)
    (let before : PairMemory = left_of c.side.view_is in
    let h = rw (← c.side.view_is) at c.requires.ready.tickets in
    let m = rw (← c.side.view_is) at c.requires.moved in
    let slot = own_slot c.args.here.now before c.args.store.now c.args.op.now h m c.requires.put in
    let table = rw c.put_stage.ensures at c.set_put.ensures.table in
    record {
      done = λ told.
          puts_done c.args.here.now before c.args.store.now c.args.op.now h m c.set_put.new.self c.spend.new.table c.spend.new.store
          c.next_version-version.result _
          table c.next_version-version.ensures (rw c.origin_by-origin.ensures at (c.in_ok-spend.ensures.ok told))
          c.follow_up.ensures;
      keeps =
          puts_keeps c.args.here.now before c.args.store.now c.args.op.now h m c.set_put.new.self c.spend.new.table slot.0
          c.next_version-version.result c.spend.new.store.tickets
          table c.in_ok-spend.ensures.sorted slot.1 c.in_ok-spend.ensures.table (c.in_ok-spend.ensures.tickets slot.0 slot.1);
      holds = c.in_ok-spend.ensures.holds;
      moments = rw (c.next_version-version.ensures, c.origin_by-origin.ensures) at c.in_ok-spend.ensures.moments;
      still = λ no. absurd (cc);
      same = λ no. absurd (cc);
      kept = tt;
      stays = tt;
      full = λ no. absurd (cc);
      spent = λ no. absurd (cc);
      cause = record { later = c.in_ok-spend.ensures.cause.later; failed = λ no. absurd (cc) };
      run = c.in_ok-spend.ensures.run;
    })

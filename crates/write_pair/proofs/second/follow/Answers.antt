use Rattle.std.proofs.Common.{◌+◌, ℕ, Option, Err, refl, sym, ap, ◌∙◌}
use Rattle.std.proofs.lemmas.Result.{err_from_is_err_and}
use Rattle.petal_msg.specs.declared.body.Body.TheVariants as body
use Rattle.petal_table.specs.Table.{at}
use Rattle.spec_rules.specs.Server.{letters_of, post_to, sender}
use Rattle.petal_base.specs.Cells.{cell_of}
use Rattle.spec_rules.specs.Store.{cell_cmp, chain_in, version_of}
use Rattle.kept_chains.specs.Kept.{chains_of}
use Rattle.pair_memory.proofs.Puts.{row_over}
use Rattle.pair_memory.proofs.Said.{all_same, full_done, said_done}
use Rattle.pair_memory.specs.PairMemory.{PairMemory}
use Rattle.pair_memory.specs.declared.error.WorkError.TheVariants.{NoMemory}
use Rattle.pair_memory.specs.JobResult.{only}
use Rattle.pair_memory.proofs.Tickets.{apart_out, apart_slot}
use Rattle.write_pair.proofs.Follows.{at_key, follows_done, follows_keeps}
use Rattle.write_pair.proofs.second.follow.Goals as goal

pub spend-requires-clause-out : goal.spend-requires-clause-out
spend-requires-clause-out g c = λ _ _ slot is.
    let side = c.args.side.now in
    apart_out side.pending side.last side.own side.apart c.args.store.now.tickets c.requires.ready.tickets c.cell-cell.result slot
    (ap (λ (s : PairMemory). at cell_cmp s.apart c.cell-cell.result) (sym c.side.view_is) ∙ is)

pub returns-then-not-has_room_for-clause-job : goal.returns-then-not-has_room_for-clause-job
returns-then-not-has_room_for-clause-job g c =
    let law = g.met.D.Disk g.world.𝓛 g.world.𝓜 g.world.𝓡 ((λ s x. x), (λ x. x), (λ x. x), λ x. x) in
    let store = c.args.store.now in
    let key = c.args.key in
    let over = row_over store key (record { version = version_of (chain_in (chains_of store.entries) (cell_of key)) + 1; bytes = c.args.bytes.now })
    c.args.origin (sym c.has_room_for.ensures ∙ c.if-not-has_room_for.true) in
    full_done g.D.Disk law.stays law.only_now c.args.here.now _ _ store store _ (record { count = over.0; over = over.1; same = (refl, refl) })

pub returns-in_err-letters-clause-job : goal.returns-in_err-letters-clause-job
returns-in_err-letters-clause-job g c =
    let law = g.met.D.Disk g.world.𝓛 g.world.𝓜 g.world.𝓡 ((λ s x. x), (λ x. x), (λ x. x), λ x. x) in
    let here = c.args.here.now in
    let side = c.args.side.now in
    let store = c.args.store.now in
    let error = err_from_is_err_and c.from_residual.result c.from_residual.ensures.1 in
    rw (error.1, error.2)
    (said_done g.D.Disk law.stays law.only_now here side side store store (Err NoMemory) _ (all_same here side side store store _ refl refl))

pub returns-clause-job : goal.returns-clause-job
returns-clause-job g c =
    let here = c.args.here.now in
    let h = rw (← c.side.view_is) at c.requires.ready.tickets in
    let has = rw (← c.side.view_is) at (rw (← c.cell-cell.ensures) at c.requires.has) in
    let slot = apart_slot c.side.inside.locks c.side.inside.last c.side.inside.own c.side.inside.apart c.args.store.now.tickets h c.cell-cell.result has in
    let said = ap (λ (to : Option ℕ). letters_of (sender here) 0 (post_to to (body.Replicated c.args.op c.cell-cell.result))) c.first.ensures in
    rw (← c.side.view_is)
    (at_key here _ c.args.store.now c.cell-cell.result c.args.op h g.D.Disk _ c.spend.new.store _ c.args.key c.args.origin c.args.bytes.now c.cell-cell.ensures
    (record {
      done = λ told.
          follows_done here _ c.args.store.now c.cell-cell.result c.args.op h c.args.key c.args.origin c.args.bytes.now c.replace.new.self
          c.spend.new.table c.spend.new.store
          c.next_version-version.result c.only.result c.replace.ensures c.next_version-version.ensures (c.in_ok-spend.ensures.ok told)
          (c.only.ensures ∙ ap only (c.in_ok-letters.ensures ∙ said));
      keeps =
          follows_keeps c.side.inside.locks c.side.inside.last c.replace.new.self c.side.inside.own c.side.inside.apart c.spend.new.table
          c.args.store.now.tickets c.spend.new.store.tickets c.cell-cell.result c.args.op slot.0 h
          c.replace.ensures c.in_ok-spend.ensures.sorted slot.1 c.in_ok-spend.ensures.table (c.in_ok-spend.ensures.tickets slot.0 slot.1);
      holds = c.in_ok-spend.ensures.holds;
      moments = rw c.next_version-version.ensures at c.in_ok-spend.ensures.moments;
      still = λ no. absurd (cc);
      same = λ no. absurd (cc);
      kept = tt;
      stays = tt;
      full = λ no. absurd (cc);
      spent = λ no. absurd (cc);
      cause = record { later = c.in_ok-spend.ensures.cause.later; failed = λ no. absurd (cc) };
      run = c.in_ok-spend.ensures.run;
    }))

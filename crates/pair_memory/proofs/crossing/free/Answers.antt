use Rattle.std.proofs.Common.{sym, ◌∙◌}
use Rattle.pair_memory.specs.Ended.{cell_ends}
use Rattle.pair_memory.proofs.Crossings.{below_still, freed_more, freed_none, freed_out, freed_some, less_rows}
use Rattle.pair_memory.proofs.crossing.free.Goals as goal

pub give_back-requires-clause-some : goal.give_back-requires-clause-some
give_back-requires-clause-some g c = λ _ _.
    let found = sym c.first_ended.ensures.found ∙ c.in-Some.is in
    freed_some (cell_ends c.args.here.now.state c.args.next.now c.args.entry.now) c.loop-cell.apart c.loop-cell.store c.in-Some.cell
    c.loop-cell.invariant.below c.first_ended.ensures.sorted found

pub give_back-requires-clause-out : goal.give_back-requires-clause-out
give_back-requires-clause-out g c = λ _ _.
    let found = sym c.first_ended.ensures.found ∙ c.in-Some.is in
    freed_out (cell_ends c.args.here.now.state c.args.next.now c.args.entry.now) c.loop-cell.apart c.loop-cell.store c.in-Some.cell
    c.loop-cell.invariant.below c.first_ended.ensures.sorted found

pub loop-cell-init : goal.loop-cell-init
loop-cell-init g c = record { below = c.requires.below; more = λ last after freed. freed }

pub loop-cell-preserved : goal.loop-cell-preserved
loop-cell-preserved g c =
    let found = sym c.first_ended.ensures.found ∙ c.in-Some.is in
    let below = c.loop-cell.invariant.below in
    let sorted = c.first_ended.ensures.sorted in
    record {
      below = below_still (cell_ends c.args.here.now.state c.args.next.now c.args.entry.now) c.loop-cell.apart c.loop-cell.store
          c.in-Some.cell below sorted found
          c.give_back.new.table c.give_back.new.store c.give_back.ensures.table c.give_back.ensures.store;
      more = λ last after freed. c.loop-cell.invariant.more last after
          (freed_more (cell_ends c.args.here.now.state c.args.next.now c.args.entry.now) c.loop-cell.apart c.loop-cell.store c.in-Some.cell below sorted found
          c.give_back.new.table c.give_back.new.store c.give_back.ensures.table c.give_back.ensures.store last after freed);
    }

pub loop-cell-smaller : goal.loop-cell-smaller
loop-cell-smaller g c =
    let found = sym c.first_ended.ensures.found ∙ c.in-Some.is in
    less_rows (cell_ends c.args.here.now.state c.args.next.now c.args.entry.now) c.loop-cell.apart c.loop-cell.store c.in-Some.cell
    c.loop-cell.invariant.below c.first_ended.ensures.sorted found
    c.give_back.new.table c.give_back.new.store c.give_back.ensures.table c.give_back.ensures.store

pub returns-clause-freed : goal.returns-clause-freed
returns-clause-freed g c =
    c.loop-cell.invariant.more c.loop-cell.apart c.loop-cell.store
    (freed_none (cell_ends c.args.here.now.state c.args.next.now c.args.entry.now) c.loop-cell.apart c.loop-cell.store
    (sym c.first_ended.ensures.found ∙ c.in_default.is))

use Rattle.std.proofs.Common.{ℕ, ◌≡◌, ◌∙◌, ◌+◌, ◌-◌, ◌<◌, ◌++◌, ◌∷◌, [], Some, List, length, take, sym, ap, arith}
use Rattle.std.proofs.lemmas.List.{append-nil, append_assoc, length-set, take_more_set}
use Rattle.petal_base.specs.declared.cell.Cell.{Cell}
use Rattle.pair_memory.specs.PairMemory.{own_of}
use Rattle.spec_rules.specs.Copies.{idle_from, next_idle, unmarks_limit}
use Rattle.link_blocks.proofs.Links.{idle_full, idle_more}
use Rattle.link_blocks.proofs.walk.idle_marks.Goals as goal

pub loop-count-preserved : goal.loop-count-preserved
loop-count-preserved g c =
    let i = c.loop-count.count in
    let into = c.loop-count.into in
    let own = own_of c.args.side.now c.args.store.now in
    let state = c.args.here.now.state in
    let row = c.args.row.now in
    let block = c.in-Some.block in
    let rest = idle_from state row own c.args.kind (unmarks_limit - (i + 1)) (next_idle state row own c.args.kind (Some block)) in
    let inside : i < length into = omega (arith, c.loop-count-test.true, c.loop-count.invariant.room) in
    let more = idle_more state row own c.args.kind (unmarks_limit - i) (unmarks_limit - (i + 1)) (omega (arith, c.loop-count-test.true))
    (next_idle state row own c.args.kind c.loop-count.after) block (sym c.next_idle.ensures ∙ c.in-Some.is) in
    record {
      so_far = ap (λ (l : List Cell). l ++ rest) (take_more_set into i c.cell_at.result inside)
          ∙ append_assoc (take i into) (c.cell_at.result ∷ []) rest
          ∙ ap (λ (cell : Cell). take i into ++ (cell ∷ rest)) c.cell_at.ensures
          ∙ ap (λ (l : List Cell). take i into ++ l) (sym more)
          ∙ c.loop-count.invariant.so_far;
      few = omega (arith, c.loop-count-test.true);
      room = length-set into i c.cell_at.result ∙ c.loop-count.invariant.room;
    }

-- all the places are taken
pub returns-clause-cells : goal.returns-clause-cells
returns-clause-cells g c =
    let own = own_of c.args.side.now c.args.store.now in
    let state = c.args.here.now.state in
    let count = c.loop-count.count in
    let into = c.loop-count.into in
    let full : count ≡ unmarks_limit = omega (arith, c.loop-count-test.false, c.loop-count.invariant.few) in
    ap (λ (n : ℕ). take n into) (sym full)
    ∙ sym (append-nil (take count into))
    ∙ ap (λ (l : List Cell). take count into ++ l)
    (sym (idle_full state c.args.row.now own c.args.kind (unmarks_limit - count) (next_idle state c.args.row.now own c.args.kind c.loop-count.after)
    (omega (arith, full))))
    ∙ c.loop-count.invariant.so_far

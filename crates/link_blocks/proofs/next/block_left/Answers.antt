use Rattle.std.proofs.Common.{sym, ◌∙◌}
use Rattle.busy_marks.specs.Marks.{lesser}
use Rattle.pair_memory.specs.Kept.{chains_of}
use Rattle.link_blocks.proofs.Links.{left_plain, left_whole}
use Rattle.link_blocks.proofs.next.block_left.Goals as goal

pub returns-then-not-needs_full_copy : goal.returns-then-not-needs_full_copy
returns-then-not-needs_full_copy g c =
    c.marked_above-marked.ensures
    ∙ left_plain c.args.here.now.state c.args.row.now c.args.store.now.marks (chains_of c.args.store.now.entries) c.args.copied
    (sym c.needs_full_copy.ensures ∙ c.if-not-needs_full_copy.true)

pub returns : goal.returns
returns g c =
    c.lesser_block.ensures
    ∙ (λ i. lesser (c.marked_above-marked.ensures i) (c.stored_above.ensures i))
    ∙ left_whole c.args.here.now.state c.args.row.now c.args.store.now.marks (chains_of c.args.store.now.entries) c.args.copied
    (sym c.needs_full_copy.ensures ∙ c.if-not-needs_full_copy.false)

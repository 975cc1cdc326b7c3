use Rattle.std.proofs.Common.{◌∙◌, ap, refl}
use Rattle.busy_marks.specs.Searches.{block_on}
use Rattle.busy_marks.proofs.Searches.{block_found}
use Rattle.busy_marks.proofs.marks.Marks.next.Goals as goal

pub returns-clause-least : goal.returns-clause-least
returns-clause-least c =
    c.block_on.ensures ∙ ap (block_on c.args.map) (c.first_in.ensures.first ∙ rw c.after_block.ensures refl)
    ∙ block_found c.args.map c.args.after c.args.self.now.marks c.first_in.ensures.sorted

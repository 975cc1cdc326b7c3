use Rattle.std.proofs.Common.{Some, sym, ap, ◌∙◌}
use Rattle.busy_marks.specs.declared.marks.MarkKind.{MarkKind}
use Rattle.petal_msg.specs.declared.retired.Retired.TheVariants as retired
use Rattle.redistribute.proofs.RetiredMarks.{found, found_of}
use Rattle.redistribute.proofs.search.retired_mark.Goals as goal

pub returns-in-Some : goal.returns-in-Some
returns-in-Some g c =
    let ms = c.args.store.now.marks in
    let cell = sym c.retired_cell.ensures ∙ c.in-Some.is in
    ap (λ (kind : MarkKind). Some (retired.Mark kind c.in-Some.cell)) c.first_kind.ensures
    ∙ sym (ap (found_of c.args.state.now ms) cell) ∙ found c.args.state.now ms c.next_mark.ensures.sorted

pub returns-in-None : goal.returns-in-None
returns-in-None g c =
    let ms = c.args.store.now.marks in
    let cell = sym c.retired_cell.ensures ∙ c.in-None.is in
    sym (ap (found_of c.args.state.now ms) cell) ∙ found c.args.state.now ms c.next_mark.ensures.sorted

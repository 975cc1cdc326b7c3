use Rattle.std.proofs.Common.{◌∙◌, sym, ap, refl}
use Rattle.busy_marks.specs.Searches.{map_on}
use Rattle.busy_marks.proofs.Searches.{map_found, no_map}
use Rattle.busy_marks.proofs.marks.Marks.next_map.Goals as goal

pub returns-in_err-first : goal.returns-in_err-first
returns-in_err-first c =
    c.from_residual-in_err-first.ensures
    ∙ sym (no_map c.args.after c.in_ok-last_map.field-0 c.args.self.now.marks c.in_err-first.ensures.none c.in_ok-last_map.ensures.last)

pub returns : goal.returns
returns c =
    c.map_on.ensures ∙ ap map_on (c.first_in.ensures.first ∙ rw c.from_map.ensures refl)
    ∙ map_found c.args.after c.in_ok-first.first c.args.self.now.marks c.in_ok-first.ensures.next c.first_in.ensures.sorted

use Rattle.std.proofs.Common.{◌≡◌, ◌+◌, ◌-◌, false, length, arith}
use Rattle.std.proofs.lemmas.Bool.Decides.{nat_tests}
use Rattle.busy_marks.specs.declared.marks.Mark.{Mark}
use Rattle.busy_marks.specs.declared.marks.MarkKind.TheVariants.{Busy}
use Rattle.busy_marks.proofs.Searches.{last_greatest}
use Rattle.busy_marks.proofs.marks.Marks.last_map.Goals as goal

pub returns-clause-last : goal.returns-clause-last
returns-clause-last c =
    let any : Mark = record { cell = record { map = 0; block = 0 }; kind = Busy } in
    let some : c.is_empty.result ≡ false = c.if-is_empty.false in
    let ends : length c.args.self.now.marks - 1 + 1 ≡ length c.args.self.now.marks =
    grind (arith, nat_tests, some, c.is_empty.ensures, c.marks-marks.ensures.marks) in
    rw c.marks-marks.ensures.marks (last_greatest c.args.self.now.marks (length c.args.self.now.marks - 1) any
    c.marks-marks.ensures.sorted ends)

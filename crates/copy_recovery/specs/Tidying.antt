-- Old marks that go together.
use Rattle.std.specs.Prelude.{List, [], ◌∷◌}
use Rattle.busy_marks.specs.declared.marks.MarkKind.{MarkKind}
use Rattle.global_tables.specs.declared.link.LinkRow.{LinkRow}
use Rattle.petal_base.specs.declared.cell.Cell.{Cell}
use Rattle.spec_rules.specs.Server.{JobResult, PairState}
use Rattle.spec_rules.specs.State.{id_of}
use Rattle.spec_rules.specs.Store.{unmark_all_on}
use Rattle.spec_rules.specs.declared.job.Job.TheVariants as job

-- the marks of this kind on these cells are gone, and the link goes on
abbrev pub takes_all : PairState → LinkRow → MarkKind → List Cell → JobResult
takes_all own row kind cells = record {
  own = record own { store = unmark_all_on own.store kind cells };
  posts = [];
  jobs = job.Repair (id_of row) ∷ [];
}

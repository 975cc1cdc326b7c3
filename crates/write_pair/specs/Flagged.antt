-- A stage that sets a mark or takes it away.
use Rattle.std.specs.Prelude.{Bool, true, false, [], ◌∷◌}
use Rattle.busy_marks.specs.declared.marks.MarkKind.{MarkKind}
use Rattle.petal_base.specs.declared.cell.Cell.{Cell}
use Rattle.petal_msg.specs.declared.operation.Pending.{Pending}
use Rattle.spec_rules.specs.declared.job.Job.TheVariants as job
use Rattle.spec_rules.specs.Server.{JobResult, PairState}
use Rattle.spec_rules.specs.Store.{Store, with_mark_on, without_mark_on}
use Rattle.spec_rules.specs.Writes.{with_mark_at, with_pending}

abbrev pub with_mark_as : Store → MarkKind → Cell → (is : Bool) → Store
with_mark_as store kind cell true = with_mark_on store kind cell
with_mark_as store kind cell false = without_mark_on store kind cell

-- of the rules' words for both: the block is marked, or its mark is taken away
abbrev pub flags : PairState → Pending → MarkKind → (is : Bool) → JobResult
flags own op kind is = record {
  own = with_pending (record own { store = with_mark_as own.store kind op.cell is }) (with_mark_at op kind is);
  posts = [];
  jobs = job.Stage op.cell ∷ [];
}

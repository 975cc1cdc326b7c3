-- What a server may have dropped that it kept of cells which are no longer live, with what was so when it was done, by its own state.
use Rattle.law_steps.specs.Imports.{Cell, JobContext, JobResult, PairState, Retired, cell_of, is_in, live, next_retired, without_retired}
use Rattle.std.specs.Prelude.{[], ◌∷◌, ◌≡◌, Some, false, true}
use Rattle.petal_msg.specs.declared.retired.Retired.TheVariants as retired
use Rattle.spec_rules.specs.declared.job.Job.TheVariants as job

-- the cell of an entry or a mark
abbrev pub cell_swept : Retired → Cell
cell_swept (retired.Key key) = cell_of key
cell_swept (retired.Mark kind cell) = cell

-- the server is In as itself; what it drops is of a cell that is not live
pub data DidSweep (here : JobContext) (own : PairState) : JobResult → Type 0 where
  Sweeps : (what : Retired) → is_in here.state here.me here.inc ≡ true → next_retired here.state own.store ≡ Some what
      → live here.state (cell_swept what) ≡ false
      → DidSweep here own (record { own = record own { store = without_retired own.store what }; posts = []; jobs = job.Sweep ∷ [] })

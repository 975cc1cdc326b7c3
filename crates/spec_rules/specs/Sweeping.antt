-- Sweeping: what a server keeps of cells that are no longer live is dropped, one entry or mark a job.
use Rattle.std.specs.Prelude.{List, [], ◌∷◌, if◌then◌else◌, Option, Some, None, is_some}
use Rattle.busy_marks.specs.declared.marks.Mark.{Mark}
use Rattle.petal_base.specs.declared.cell.Cell.{Cell}
use Rattle.petal_base.specs.Cells.{key_at}
use Rattle.petal_msg.specs.declared.retired.Retired.{Retired}
use Rattle.petal_msg.specs.declared.retired.Retired.TheVariants as retired
use Rattle.spec_rules.specs.Server.{PairState, JobContext, JobResult, silent}
use Rattle.spec_rules.specs.State.{State, live}
use Rattle.spec_rules.specs.Store.{Chain, Store, without_entry, without_mark_on}
use Rattle.spec_rules.specs.declared.job.Job.{Job}
use Rattle.spec_rules.specs.declared.job.Job.TheVariants as job

-- the first mark of a cell that is not live
abbrev pub retired_mark : State → List Mark → Option Retired
retired_mark state [] = None
retired_mark state (m ∷ marks) = if live state m.cell then retired_mark state marks else Some (retired.Mark m.kind m.cell)

abbrev pub retired_key : Cell → Chain → Option Retired → Option Retired
retired_key cell [] other = other
retired_key cell (row ∷ rows) other = Some (retired.Key (key_at cell row.0))

-- the first entry of such a cell, or else the first mark
abbrev pub retired_in : State → List (Cell × Chain) → Option Retired → Option Retired
retired_in state [] other = other
retired_in state (held ∷ chains) other =
    if live state held.0 then retired_in state chains other else retired_key held.0 held.1 (retired_in state chains other)

-- what is to be dropped next
unfoldable pub next_retired : State → Store → Option Retired
next_retired state store = retired_in state store.chains (retired_mark state store.marks)

abbrev pub without_retired : Store → Retired → Store
without_retired store (retired.Key key) = without_entry store key
without_retired store (retired.Mark kind cell) = without_mark_on store kind cell

abbrev pub sweeps_with : PairState → Option Retired → JobResult
sweeps_with own None = silent own
sweeps_with own (Some what) = record { own = record own { store = without_retired own.store what }; posts = []; jobs = job.Sweep ∷ [] }

unfoldable pub sweeps : JobContext → PairState → JobResult
sweeps here own = sweeps_with own (next_retired here.state own.store)

-- at a tick, where something is to be dropped
abbrev pub sweep_jobs : JobContext → PairState → List Job
sweep_jobs here own = if is_some (next_retired here.state own.store) then job.Sweep ∷ [] else []

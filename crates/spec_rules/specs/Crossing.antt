-- What an entry of the log does to a server's own part in the pairs. At an entry that changes a link, or makes one of its two
-- servers In or Out, all is dropped that the server keeps of the link but its own pending operations: what others asked of it,
-- how far the pages and copies are, and the copies under way. Its own operations stay, with their slots, and go on by the link
-- as it now is. And with its own Join a server that came back with nothing waits for nobody any more.
use Rattle.std.specs.Prelude.{ℕ, ◌-◌, ◌==◌, ◌&&◌, ◌||◌, not, Bool, true, false, List, [], ◌++◌, map, filter, length}
use Rattle.std.specs.Prelude.{if◌then◌else◌, Option, Some, None, is_none, is_some}
use Rattle.std.specs.Option.{option_map_or}
use Rattle.global_tables.specs.Link.{has_server}
use Rattle.global_tables.specs.declared.link.LinkRow.{LinkRow}
use Rattle.global_tables.specs.declared.link.LinkState.{LinkState}
use Rattle.global_tables.specs.declared.link.LinkState.TheVariants.{Both, Only, Lost}
use Rattle.petal_base.specs.declared.cell.Cell.{Cell}
use Rattle.petal_command.specs.declared.command.Command.{Command}
use Rattle.petal_command.specs.declared.command.Command.TheVariants.{Join}
use Rattle.petal_msg.specs.declared.copying.LinkId.{LinkId}
use Rattle.petal_msg.specs.declared.operation.LastOp.{LastOp}
use Rattle.spec_state.specs.Command.{after}
use Rattle.spec_state.specs.Place.{touches}
pub use Rattle.spec_state.specs.Place.{touches_cell}
use Rattle.spec_rules.specs.State.{State, id_of, link_named, live, other_in}
use Rattle.spec_rules.specs.Server.{PairState, JobContext, Copies}
use Rattle.spec_rules.specs.Store.{settled}
use Rattle.spec_rules.specs.Writes.{has_slot}
use Rattle.spec_rules.specs.declared.job.Job.{Job}
use Rattle.spec_rules.specs.declared.job.Job.TheVariants as job

-- with the entry the cell is no longer live: its region is under the new map
abbrev pub dies : State → Command → Cell → Bool
dies state entry cell = live state cell && not (live (after state entry) cell)

-- what is kept of the cell for others ends with the entry
abbrev pub ends_cell : State → Command → Cell → Bool
ends_cell state entry cell = touches_cell state entry cell || dies state entry cell

-- a slot is set apart here for an operation of another server on such a cell
abbrev pub loses_slot : State → Command → Cell × LastOp → Bool
loses_slot state entry row = ends_cell state entry row.0 && has_slot row.1.progress

-- the entry touches the link of this name
abbrev pub touches_link : State → Command → LinkId → Bool
touches_link state entry id = option_map_or (touches state entry) (link_named state id) false

-- what is kept of the link ends with the entry: it touches it, or its map is retired
abbrev pub ends_link : State → Command → LinkId → Bool
ends_link state entry id = touches_link state entry id || is_none (link_named (after state entry) id)

-- nothing is left of the copies on the links that the entry touches
abbrev pub copies_crossed : State → Command → Copies → Copies
copies_crossed state entry copies = record copies {
  progress = filter (λ row. not (ends_link state entry row.0)) copies.progress;
  pending = filter (λ row. not (ends_cell state entry row.0)) copies.pending;
  last = filter (λ row. not (ends_cell state entry row.0)) copies.last;
}

-- what others asked of it on the links that the entry touches is dropped, and the slots set apart for them are free
abbrev pub crossed : State → Command → PairState → PairState
crossed state entry own = record {
  pairs = record own.pairs { last = filter (λ row. not (ends_cell state entry row.0)) own.pairs.last };
  copies = copies_crossed state entry own.copies;
  filled = filter (λ row. is_some (link_named (after state entry) row.0)) own.filled;
  store = record own.store { tickets = own.store.tickets - length (filter (loses_slot state entry) own.pairs.last) };
}

-- the entry is this incarnation's own Join with an empty store
abbrev pub is_blank_join : Command → (me inc : ℕ) → Bool
is_blank_join (Join server joined true) me inc = (server == me) && (joined == inc)
is_blank_join _ me inc = false

-- with its own Join, and before any other commit to its data device, a server's store waits for nobody any more: from then on each of
-- its links is held by the other server, which copies all, or is Lost
abbrev pub settled_by : JobContext → Command → PairState → PairState
settled_by here entry own = if is_blank_join entry here.me here.inc then record own { store = settled own.store } else own

-- its own operations on these links go on
abbrev pub stage_jobs : State → Command → PairState → List Job
stage_jobs state entry own = map (λ row. job.Stage row.0) (filter (λ row. touches_cell state entry row.0) own.pairs.pending)

-- the server has something to mend of a link: pages and copies where it holds the link alone and the other server is In, and
-- old marks in Both
abbrev pub is_repaired : State → ℕ → LinkRow → LinkState → Bool
is_repaired state me row Both = has_server me row
is_repaired state me row (Only holder whole) = is_some (other_in state me row)
is_repaired state me row Lost = false

-- the links that the entry touches, and that are so after it
abbrev pub link_jobs : State → Command → ℕ → List Job
link_jobs state entry me =
    map (λ row. job.Repair (id_of row)) (filter (λ row. touches state entry row && is_repaired (after state entry) me row row.state) (after state entry).links)

abbrev pub crossed_by : JobContext → Option Command → PairState → PairState
crossed_by here None own = own
crossed_by here (Some entry) own = settled_by here entry (crossed here.state entry own)

-- the jobs that follow an entry
abbrev pub jobs_by : State → ℕ → Option Command → PairState → List Job
jobs_by state me None own = []
jobs_by state me (Some entry) own = stage_jobs state entry own ++ link_jobs state entry me

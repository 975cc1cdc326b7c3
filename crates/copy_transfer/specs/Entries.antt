-- What becomes of entries where they are copied to.
use Rattle.std.specs.Prelude.{ℕ, ◌+◌, [], ◌∷◌, Some, Bool, true, false}
use Rattle.petal_base.specs.declared.cell.Cell.{Cell}
use Rattle.petal_base.specs.Cells.{cell_of, key_at}
use Rattle.petal_msg.specs.declared.body.Body.TheVariants as body
use Rattle.petal_msg.specs.declared.copying.LastCopy.{LastCopy}
use Rattle.spec_rules.specs.Copies as rules
use Rattle.spec_rules.specs.Progress.{with_last_copy}
use Rattle.spec_rules.specs.Server.{JobResult, PairState, says_to}
use Rattle.spec_rules.specs.Store.{with_entry, with_ticket, without_entry}
use Rattle.spec_rules.specs.declared.job.Job.TheVariants as job
use Rattle.copy_transfer.specs.declared.sync.CopiedEntry.{CopiedEntry}

-- an entry of the holder's, as the rules have it
abbrev pub entry_of : CopiedEntry → rules.Entry
entry_of entry = record { op = entry.op; key = entry.key; index = entry.index; stored = record { version = entry.version; bytes = entry.bytes.now } }

-- an entry of the cell is dropped, and the next one follows as a job of its own
abbrev pub dropped : PairState → Cell → ℕ → JobResult
dropped own cell epoch = record {
  own = record own { store = without_entry own.store (key_at cell epoch) };
  posts = [];
  jobs = job.Stage cell ∷ [];
}

-- an entry that is there already is told to be put, and the copy is as far as this
abbrev pub counted : PairState → rules.Entry → LastCopy → (holder : ℕ) → JobResult
counted own entry next holder = says_to (with_last_copy own (cell_of entry.key) next) (Some holder) (body.Synced entry.op (cell_of entry.key) entry.index)

-- an entry is put where it has room, and the copy is as far as this
abbrev pub put_as : PairState → rules.Entry → LastCopy → (holder : ℕ) → (room : Bool) → JobResult
put_as own entry next holder true = counted (record own { store = with_entry (with_ticket own.store) entry.key entry.stored }) entry next holder
put_as own entry next holder false = says_to own (Some holder) (body.SyncFull entry.op (cell_of entry.key))

-- the copy with the entries up to this place put
abbrev pub put_at : (place : ℕ) → LastCopy → LastCopy
put_at place last = record last { index = place + 1 }

-- the copy with one entry more that is put
abbrev pub one_more : LastCopy → LastCopy
one_more last = put_at last.index last

-- The kinds of letters, each with what it is about. Lists over all kinds stand here alone, but for the two that say what is
-- done with each: `handles` and `hears` of `spec_rules`.
use Rattle.std.specs.Prelude.{ℕ, Bool, true, false, if◌then◌else◌, Option, Some, None}
use Rattle.petal_base.specs.declared.cell.Cell.{Cell}
use Rattle.petal_base.specs.Cells.{cell_of}
use Rattle.petal_msg.specs.declared.body.Body.{Body}
use Rattle.petal_msg.specs.declared.body.Body.TheVariants as body

-- the agreed log; what a glance showed; a client asks for a read, or for a write; a reply ends the request, or refuses it for
-- a while; two servers of a pair speak of a write; or of copies for one that returned; or of an entry that moves
pub data Subject : Type 0 where
  Logged : Subject
  Glanced : Subject
  Read_asked : Subject
  Write_asked : Subject
  Answered : Subject
  Refused : Subject
  Paired : Subject
  Copied : Subject
  Filling : Subject

-- what a letter is about: its subject, the number of its client's request, the cell and the number of the operation, where
-- it has one, and whether it is handled at each revision of its receiver, or at its sender's alone
pub record About : Type 0 where
  pub subject : Subject
  pub seq : Option ℕ
  pub cell : Option Cell
  pub op : Option ℕ
  pub any_rev : Bool

abbrev pub about : Body → About
about (body.Down server inc) = record { subject = Logged; seq = None; cell = None; op = None; any_rev = true }
about (body.Seen line round running inc full) = record { subject = Glanced; seq = None; cell = None; op = None; any_rev = true }
about (body.Propose command) = record { subject = Logged; seq = None; cell = None; op = None; any_rev = true }
about (body.Pax pax) = record { subject = Logged; seq = None; cell = None; op = None; any_rev = true }
about (body.Ask rev) = record { subject = Logged; seq = None; cell = None; op = None; any_rev = true }
about (body.News after commands) = record { subject = Logged; seq = None; cell = None; op = None; any_rev = true }
about (body.Read client seq cell epoch) = record { subject = Read_asked; seq = Some seq; cell = Some cell; op = None; any_rev = false }
about (body.Write client seq cell epoch bytes) = record { subject = Write_asked; seq = Some seq; cell = Some cell; op = None; any_rev = false }
about (body.Data seq bytes) = record { subject = Answered; seq = Some seq; cell = None; op = None; any_rev = false }
about (body.NotHere seq) = record { subject = Refused; seq = Some seq; cell = None; op = None; any_rev = false }
about (body.BlockBusy seq) = record { subject = Refused; seq = Some seq; cell = None; op = None; any_rev = false }
about (body.Held seq) = record { subject = Refused; seq = Some seq; cell = None; op = None; any_rev = false }
about (body.WrongRev seq) = record { subject = Refused; seq = Some seq; cell = None; op = None; any_rev = true }
about (body.Written seq) = record { subject = Answered; seq = Some seq; cell = None; op = None; any_rev = false }
about (body.Full seq) = record { subject = Answered; seq = Some seq; cell = None; op = None; any_rev = false }
about (body.Reserve op cell) = record { subject = Paired; seq = None; cell = Some cell; op = Some op; any_rev = false }
about (body.Reserved op cell) = record { subject = Paired; seq = None; cell = Some cell; op = Some op; any_rev = false }
about (body.PairFull op cell) = record { subject = Paired; seq = None; cell = Some cell; op = Some op; any_rev = false }
about (body.Replicate op key version origin bytes) = record { subject = Paired; seq = None; cell = Some (cell_of key); op = Some op; any_rev = false }
about (body.Replicated op cell) = record { subject = Paired; seq = None; cell = Some cell; op = Some op; any_rev = false }
about (body.HelloAsk map link after) = record { subject = Copied; seq = None; cell = None; op = None; any_rev = false }
about (body.Hello map link after block) = record { subject = Copied; seq = None; cell = None; op = None; any_rev = false }
about (body.Trim op cell epochs) = record { subject = Copied; seq = None; cell = Some cell; op = Some op; any_rev = false }
about (body.Trimmed op cell) = record { subject = Copied; seq = None; cell = Some cell; op = Some op; any_rev = false }
about (body.Sync op key version index bytes) = record { subject = Copied; seq = None; cell = Some (cell_of key); op = Some op; any_rev = false }
about (body.Synced op cell index) = record { subject = Copied; seq = None; cell = Some cell; op = Some op; any_rev = false }
about (body.SyncFull op cell) = record { subject = Copied; seq = None; cell = Some cell; op = Some op; any_rev = false }
about (body.Fill key bytes) = record { subject = Filling; seq = None; cell = Some (cell_of key); op = None; any_rev = false }
about (body.Filled key) = record { subject = Filling; seq = None; cell = Some (cell_of key); op = None; any_rev = false }
about (body.FillFull key) = record { subject = Filling; seq = None; cell = Some (cell_of key); op = None; any_rev = false }

abbrev pub subject_of : Body → Subject
subject_of said = (about said).subject

-- ### Subjects

-- of the agreed log: handled at each revision of its receiver
abbrev pub is_logged : Subject → Bool
is_logged Logged = true
is_logged _ = false

-- a client's request
abbrev pub is_asked : Subject → Bool
is_asked Read_asked = true
is_asked Write_asked = true
is_asked _ = false

abbrev pub is_refused : Subject → Bool
is_refused Refused = true
is_refused _ = false

-- what a client is told, of its request or of a server at a glance
abbrev pub is_told : Subject → Bool
is_told Glanced = true
is_told Answered = true
is_told Refused = true
is_told _ = false

-- between the servers of a pair
abbrev pub is_paired : Subject → Bool
is_paired Paired = true
is_paired _ = false

-- what `write_pair` handles: a client's write, and what the servers of a pair say of it
abbrev pub is_of_write : Subject → Bool
is_of_write Write_asked = true
is_of_write Paired = true
is_of_write _ = false

-- ### Letters

-- the number of the request of which a client's letter speaks
abbrev pub asked_by : Body → Option ℕ
asked_by said = if is_asked (subject_of said) then (about said).seq else None

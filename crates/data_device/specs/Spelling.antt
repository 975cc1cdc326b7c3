-- The 63 bytes that spell a record: its kind, its fields at their places, zeros.
use Rattle.std.specs.Prelude.{ℕ, ◌+◌, ◌<◌, List, ◌++◌, replicate, Option, None, Some, IfSome}
use Rattle.busy_marks.specs.declared.marks.MarkKind.{MarkKind}
use Rattle.busy_marks.specs.declared.marks.MarkKind.TheVariants.{Busy, Stale}
use Rattle.record_fields.specs.Fields.{byte, word, long, IsWord, IsLong}
use Rattle.data_device.specs.declared.record.StoreRecord.{StoreRecord}
use Rattle.data_device.specs.declared.record.StoreRecord.TheVariants.{Put, Drop, Mark, Unmark, Settled, Forget, Done}
use Rattle.petal_base.specs.Limits.{client_limit}
use Rattle.petal_base.specs.Origins.{Named}

-- the number of a kind of mark
abbrev pub code_of : MarkKind → ℕ
code_of Busy = 1
code_of Stale = 2

-- which write a put is for: the client's number and 1, the number of its request, the link; zeros where there is none
abbrev pub origin_bytes : Option Named → List ℕ
origin_bytes None = replicate 6 0
origin_bytes (Some o) = byte (o.client + 1) ++ word o.seq ++ byte o.link

-- the kind and the fields, and zeros between and after them; 6 is the kind of the first record of a half, which is none of these
abbrev pub spelling : StoreRecord → List ℕ
spelling (Put key version slot origin) =
    byte 1 ++ word key.map ++ long key.block ++ word key.epoch ++ long version ++ word slot ++ byte 0 ++ origin_bytes origin ++ replicate 27 0
spelling (Drop key) = byte 2 ++ word key.map ++ long key.block ++ word key.epoch ++ replicate 46 0
spelling (Mark kind cell) = byte 3 ++ word cell.map ++ long cell.block ++ replicate 16 0 ++ byte (code_of kind) ++ replicate 33 0
spelling (Unmark kind cell) = byte 4 ++ word cell.map ++ long cell.block ++ replicate 16 0 ++ byte (code_of kind) ++ replicate 33 0
spelling Settled = byte 5 ++ replicate 62 0
spelling (Forget map link) = byte 7 ++ word map ++ byte link ++ replicate 57 0
spelling (Done map o) = byte 8 ++ word map ++ byte o.link ++ byte o.client ++ word o.seq ++ replicate 52 0

-- the numbers of a write that fit their places
abbrev pub IsOrigin : Named → Type 0
IsOrigin o = (o.client < client_limit) × IsWord o.seq × (o.link < 256)

-- the numbers that fit their places
abbrev pub HasSpelling : StoreRecord → Type 0
HasSpelling (Put key version slot origin) =
    IsWord key.map × IsLong key.block × IsWord key.epoch × IsLong version × IsWord slot × IfSome origin IsOrigin
HasSpelling (Drop key) = IsWord key.map × IsLong key.block × IsWord key.epoch
HasSpelling (Mark kind cell) = IsWord cell.map × IsLong cell.block
HasSpelling (Unmark kind cell) = IsWord cell.map × IsLong cell.block
HasSpelling Settled = Unit {0}
HasSpelling (Forget map link) = IsWord map × (link < 256)
HasSpelling (Done map o) = IsWord map × IsOrigin o

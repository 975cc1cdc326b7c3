-- Where slots lie on a data device.
use Rattle.std.specs.Prelude.{ℕ, ◌+◌, List}
use Rattle.petal_disk.specs.Disk.{part}
use Rattle.slot_store.specs.Slots as slots
use Rattle.petal_base.specs.Block.{block_bytes}
use Rattle.data_device.specs.Device.{journal_base, journal_bytes}

-- where the slots begin: after the journal
abbrev pub data_start : ℕ
data_start = journal_base + journal_bytes

-- the first byte of a slot
abbrev pub slot_start : ℕ → ℕ
slot_start slot = slots.slot_start data_start slot

-- the bytes of a slot
abbrev pub slot_bytes : List ℕ → ℕ → List ℕ
slot_bytes file slot = part file (slot_start slot) block_bytes

-- How much a device has room for, and how many clients write.
use Rattle.std.specs.Prelude.{ℕ}

-- how many records a journal has room for: that of a store, and that of what a server has agreed to
abbrev pub journal_records : ℕ
journal_records = 65536

-- how many slots a store has at most
abbrev pub max_slots : ℕ
max_slots = 1024

-- how many marks and rows a store has at most
abbrev pub marks_limit : ℕ
marks_limit = 28672

-- the clients that write have numbers below this one
abbrev pub client_limit : ℕ
client_limit = 8

-- What single words of a line stand for, by their place.
use Rattle.std.specs.Prelude.{ℕ, ◌+◌, ◌-◌, ◌&&◌, nat_eq, nat_le, List, [], ◌∷◌, take, drop, if◌then◌else◌, codes, Option, Some, None, Result, Ok, Err}
use Rattle.std.specs.List.{position}
use Rattle.petal_base.specs.Name.{name_of}
use Rattle.petal_base.specs.Tuple.{tuple_of}
use Rattle.petal_script.specs.Number.{number_of}
use Rattle.petal_script.specs.Words.{Word, ◌>>=◌, or_else, is_word}
use Rattle.petal_script.specs.declared.cause.Cause.{Cause}
use Rattle.petal_script.specs.declared.cause.Cause.TheVariants.{BadLine, BadName, BadNumber, BadTuple}
use Rattle.device_faults.specs.declared.which.Which.{Which}
use Rattle.device_faults.specs.declared.which.Which.TheVariants as devices
use Rattle.device_faults.specs.declared.plan.CallKind.{CallKind}
use Rattle.device_faults.specs.declared.plan.CallKind.TheVariants as calls

-- a name
abbrev pub a_name : Word → Result (List ℕ) Cause
a_name word = or_else (name_of word) BadName

-- a number within its limits
unfoldable pub in_limits : ℕ → ℕ → Word → Result ℕ Cause
in_limits least most word = do
  n ← or_else (number_of word) BadNumber
  if nat_le least n && nat_le n most then Ok n else Err BadNumber

-- a byte of a pattern
abbrev pub a_byte : Word → Result ℕ Cause
a_byte word = in_limits 0 255 word

-- a block of a disk, below 2^48
abbrev pub a_block : Word → Result ℕ Cause
a_block word = in_limits 0 281474976710655 word

-- one of the servers
abbrev pub a_server : ℕ → Word → Result ℕ Cause
a_server servers word = in_limits 0 (servers - 1) word

-- which call of a device
abbrev pub a_call : Word → Result ℕ Cause
a_call word = in_limits 1 1000000 word

-- a number and those after it
abbrev pub cons_number : Option ℕ → Option (List ℕ) → Option (List ℕ)
cons_number (Some n) (Some ns) = Some (n ∷ ns)
cons_number _ _ = None

-- the numbers that the words are, if all are numbers
abbrev pub numbers_of : List Word → Option (List ℕ)
numbers_of [] = Some []
numbers_of (word ∷ words) = cons_number (number_of word) (numbers_of words)

-- 2 to 8 distinct servers; that all words are numbers comes first
unfoldable pub a_tuple : ℕ → List Word → Result (List ℕ) Cause
a_tuple servers words = do
  ids ← or_else (numbers_of words) BadNumber
  or_else (tuple_of servers ids) BadTuple

-- V or V@T, parted at the first `@`
abbrev pub version_by : Word → Option ℕ → Result (List ℕ × Option (List ℕ)) Cause
version_by word None = do
  name ← a_name word
  Ok (name, None)
version_by word (Some at) = do
  name ← a_name (take at word)
  snap ← a_name (drop (at + 1) word)
  Ok (name, Some snap)

unfoldable pub version_of : Word → Result (List ℕ × Option (List ℕ)) Cause
version_of word = version_by word (position (nat_eq 64) word)

-- one of a server's devices
abbrev pub a_device : Word → Result Which Cause
a_device word =
    if is_word word (codes "data") then Ok devices.Data
    else if is_word word (codes "state") then Ok devices.State
    else Err BadLine

-- a kind of calls
abbrev pub a_kind : Word → Result CallKind Cause
a_kind word =
    if is_word word (codes "read") then Ok calls.Read
    else if is_word word (codes "write") then Ok calls.Write
    else if is_word word (codes "sync") then Ok calls.Sync
    else Err BadLine

-- What a client's line asks for, by the words after the client. The order of the steps is the order of the causes.
use Rattle.std.specs.Prelude.{ℕ, not, ◌||◌, ◌==◌, List, length, if◌then◌else◌, codes, Result, Ok, Err}
use Rattle.petal_script.specs.Words.{Word, ◌>>=◌, is_word, front_word, one_word, two_words}
use Rattle.petal_script.specs.Fields.{a_name, a_byte, a_block, a_tuple, version_of}
use Rattle.petal_script.specs.declared.cause.Cause.{Cause}
use Rattle.petal_script.specs.declared.cause.Cause.TheVariants.{BadLine}
use Rattle.script_lines.specs.declared.request.Request.{Request}
use Rattle.script_lines.specs.declared.request.Request.TheVariants.{Disk, Write, Read, Snap, Move}
use Rattle.script_lines.specs.declared.request.Pattern.{Pattern}
use Rattle.script_lines.specs.declared.request.Pattern.TheVariants.{Fill, Halves, Ramp}

-- V on S S ..: at least one word after `on`
unfoldable pub spread_of : ℕ → List Word → Result (List ℕ × List ℕ) Cause
spread_of servers words = do
  disk ← front_word words
  on ← front_word disk.1
  if not (is_word on.0 (codes "on")) || length on.1 == 0 then Err BadLine else (do
    name ← a_name disk.0
    tuple ← a_tuple servers on.1
    Ok (name, tuple))

-- disk V on S S ..
unfoldable pub disk_of : ℕ → List Word → Result Request Cause
disk_of servers words = do
  parts ← spread_of servers words
  Ok (Disk parts.0 parts.1)

-- move V on S S ..
unfoldable pub move_of : ℕ → List Word → Result Request Cause
move_of servers words = do
  parts ← spread_of servers words
  Ok (Move parts.0 parts.1)

-- V B fill X, V B ramp X
unfoldable pub filled_of : Word → Word → (ℕ → Pattern) → Word → Result Request Cause
filled_of disk place pattern x = do
  name ← a_name disk
  block ← a_block place
  x ← a_byte x
  Ok (Write name block (pattern x))

-- V B halves X Y
unfoldable pub halves_of : Word → Word → Word → Word → Result Request Cause
halves_of disk place x y = do
  name ← a_name disk
  block ← a_block place
  x ← a_byte x
  y ← a_byte y
  Ok (Write name block (Halves x y))

abbrev pub write_by : Word → Word → Word → List Word → Result Request Cause
write_by disk place kind numbers =
    if is_word kind (codes "fill") then one_word numbers >>= filled_of disk place Fill
    else if is_word kind (codes "ramp") then one_word numbers >>= filled_of disk place Ramp
    else if is_word kind (codes "halves") then two_words numbers >>= (λ xy. halves_of disk place xy.0 xy.1)
    else Err BadLine

-- write V B and a pattern
unfoldable pub write_of : List Word → Result Request Cause
write_of words = do
  disk ← front_word words
  place ← front_word disk.1
  kind ← front_word place.1
  write_by disk.0 place.0 kind.0 kind.1

-- read V B, read V@T B
unfoldable pub read_of : List Word → Result Request Cause
read_of words = do
  parts ← two_words words
  version ← version_of parts.0
  block ← a_block parts.1
  Ok (Read version.0 version.1 block)

-- snap V T
unfoldable pub snap_of : List Word → Result Request Cause
snap_of words = do
  parts ← two_words words
  name ← a_name parts.0
  snap ← a_name parts.1
  Ok (Snap name snap)

abbrev pub request_by : ℕ → Word → List Word → Result Request Cause
request_by servers verb words =
    if is_word verb (codes "disk") then disk_of servers words
    else if is_word verb (codes "write") then write_of words
    else if is_word verb (codes "read") then read_of words
    else if is_word verb (codes "snap") then snap_of words
    else if is_word verb (codes "move") then move_of servers words
    else Err BadLine

-- the request of a client
unfoldable pub client_request : ℕ → List Word → Result Request Cause
client_request servers words = front_word words >>= (λ verb. request_by servers verb.0 verb.1)

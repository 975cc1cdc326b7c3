-- The 64 bytes that spell a command: its kind, its fields in order, zeros.
use Rattle.std.specs.Prelude.{ℕ, ◌<◌, ◌≡◌, true, List, ◌++◌, replicate}
use Rattle.petal_base.specs.Name.{is_name}
use Rattle.petal_base.specs.Tuple.{is_tuple}
use Rattle.petal_command.specs.declared.command.Command.{Command}
use Rattle.petal_command.specs.declared.command.Command.TheVariants.{Join, Leave, Caught, MakeDisk, Snap, StartMove, Drained, Moved, Witness}
use Rattle.record_fields.specs.Fields.{byte, word, flag, padded, IsWord}

abbrev pub name_field : List ℕ → List ℕ
name_field name = padded 16 name

abbrev pub tuple_field : List ℕ → List ℕ
tuple_field tuple = padded 8 tuple

-- the kind and the fields, and the zeros after them
abbrev pub spelling : Command → List ℕ
spelling (Join server inc blank) = byte 1 ++ byte server ++ word inc ++ flag blank ++ replicate 57 0
spelling (Leave server inc) = byte 2 ++ byte server ++ word inc ++ replicate 58 0
spelling (Caught map link holder holder_inc other other_inc) =
    byte 3 ++ word map ++ byte link ++ byte holder ++ word holder_inc ++ byte other ++ word other_inc ++ replicate 48 0
spelling (MakeDisk client seq name tuple) = byte 4 ++ byte client ++ word seq ++ name_field name ++ tuple_field tuple ++ replicate 32 0
spelling (Snap client seq disk name) = byte 5 ++ byte client ++ word seq ++ name_field disk ++ name_field name ++ replicate 24 0
spelling (StartMove client seq disk tuple) = byte 6 ++ byte client ++ word seq ++ name_field disk ++ tuple_field tuple ++ replicate 32 0
spelling (Drained server inc fence) = byte 7 ++ byte server ++ word inc ++ word fence ++ replicate 54 0
spelling (Moved map region link) = byte 8 ++ word map ++ byte region ++ byte link ++ replicate 57 0
spelling (Witness client seq turn) = byte 9 ++ byte client ++ word seq ++ word turn ++ replicate 54 0

abbrev pub IsServer : ℕ → Type 0
IsServer n = n < 8

abbrev pub IsClient : ℕ → Type 0
IsClient n = n < 9

abbrev pub IsLink : ℕ → Type 0
IsLink n = n < 8

abbrev pub IsRegion : ℕ → Type 0
IsRegion n = n < 16

abbrev pub IsName : List ℕ → Type 0
IsName name = is_name name ≡ true

abbrev pub IsTuple : List ℕ → Type 0
IsTuple tuple = is_tuple 8 tuple ≡ true

-- the numbers, names and tuples that have a spelling
abbrev pub HasSpelling : Command → Type 0
HasSpelling (Join server inc blank) = IsServer server × IsWord inc
HasSpelling (Leave server inc) = IsServer server × IsWord inc
HasSpelling (Caught map link holder holder_inc other other_inc) = IsWord map × IsLink link × IsServer holder × IsWord holder_inc
    × IsServer other × IsWord other_inc
HasSpelling (MakeDisk client seq name tuple) = IsClient client × IsWord seq × IsName name × IsTuple tuple
HasSpelling (Snap client seq disk name) = IsClient client × IsWord seq × IsName disk × IsName name
HasSpelling (StartMove client seq disk tuple) = IsClient client × IsWord seq × IsName disk × IsTuple tuple
HasSpelling (Drained server inc fence) = IsServer server × IsWord inc × IsWord fence
HasSpelling (Moved map region link) = IsWord map × IsRegion region × IsLink link
HasSpelling (Witness client seq turn) = IsClient client × IsWord seq × IsWord turn

-- The 127 bytes after the gate that spell a record of the state device.
use Rattle.std.specs.Prelude.{ℕ, ◌<◌, ◌^◌, List, ◌++◌, replicate}
use Rattle.petal_command.specs.declared.ballot.Ballot.{Ballot}
use Rattle.petal_command.specs.Spelling.{spelling, HasSpelling}
use Rattle.record_fields.specs.Fields.{byte, word, IsWord}
use Rattle.spec_paxos.specs.declared.record.StateRecord.{StateRecord}
use Rattle.spec_paxos.specs.declared.record.StateRecord.TheVariants.{Inc, Promise, Accepted, Chosen}

-- kind, place, round, server, command, incarnation, each at its own offset, and zeros
abbrev pub body_of : StateRecord → List ℕ
body_of (Inc inc) = byte 1 ++ replicate 73 0 ++ word inc ++ replicate 49 0
body_of (Promise place ballot) = byte 2 ++ word place ++ word ballot.round ++ byte ballot.server ++ replicate 117 0
body_of (Accepted place ballot command) = byte 3 ++ word place ++ word ballot.round ++ byte ballot.server ++ spelling command ++ replicate 53 0
body_of (Chosen place command) = byte 4 ++ word place ++ replicate 5 0 ++ spelling command ++ replicate 53 0

abbrev pub IsBallot : Ballot → Type 0
IsBallot ballot = IsWord ballot.round × (ballot.server < 2 ^ 8)

-- the numbers and commands that have a spelling
abbrev pub HasBody : StateRecord → Type 0
HasBody (Inc inc) = IsWord inc
HasBody (Promise place ballot) = IsWord place × IsBallot ballot
HasBody (Accepted place ballot command) = IsWord place × IsBallot ballot × HasSpelling command
HasBody (Chosen place command) = IsWord place × HasSpelling command

-- Logs of entries whose tuples are proper: those of disks that are made, and of moves that begin; and whose request a command carries out.
use Rattle.law_state.specs.Imports.{Command, In, MakeDisk, Snap, StartMove, is_tuple}
use Rattle.std.specs.Prelude.{◌≡◌, List, None, Option, Some, true, ℕ, ⊤}

-- a command that makes a disk, or begins a move, has a tuple of so many servers
abbrev pub HasProperTuple : (servers : ℕ) → Command → Type 0
HasProperTuple servers (MakeDisk client seq name tuple) = is_tuple servers tuple ≡ true
HasProperTuple servers (StartMove client seq disk tuple) = is_tuple servers tuple ≡ true
HasProperTuple servers _ = ⊤

abbrev pub HasProperTuples : (servers : ℕ) → List Command → Type 0
HasProperTuples servers log = (command : Command) → In command log → HasProperTuple servers command

-- the client of the request that the command carries out, and the request's number
abbrev pub asker : Command → Option (ℕ × ℕ)
asker (MakeDisk client seq name tuple) = Some (client, seq)
asker (Snap client seq disk name) = Some (client, seq)
asker (StartMove client seq disk tuple) = Some (client, seq)
asker _ = None

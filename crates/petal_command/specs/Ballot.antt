-- The order of ballots.
use Rattle.std.specs.Prelude.{ℕ, ◌+◌, ◌*◌, Bool, ◌==◌, ◌&&◌}
use Rattle.petal_command.specs.declared.ballot.Ballot.{Ballot}

-- a ballot's place in the order of ballots: by round, and then by server, which is a byte
unfoldable pub number : Ballot → ℕ
number b = 256 * b.round + b.server

-- both are one ballot
abbrev pub same : Ballot → Ballot → Bool
same a b = (a.round == b.round) && (a.server == b.server)

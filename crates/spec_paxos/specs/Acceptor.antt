-- What an acceptor keeps for one place, and what it does at a letter.
use Rattle.std.specs.Prelude.{ℕ, ◌+◌, Bool, if◌then◌else◌, nat_le, Option, Some, None, unwrap_or}
use Rattle.petal_command.specs.declared.ballot.Ballot.{Ballot}
use Rattle.petal_command.specs.declared.command.Command.{Command}
use Rattle.petal_command.specs.declared.pax.Pax.{Pax}
use Rattle.petal_command.specs.declared.pax.Pax.TheVariants.{Promise, Accepted, Refuse}
use Rattle.petal_command.specs.Ballot.{number}

-- the highest ballot promised, and what was accepted last and in which ballot
pub record Acceptor : Type 0 where
  pub promised : Option Ballot
  pub accepted : Option (Ballot × Command)

-- at the start
abbrev pub nothing_kept : Acceptor
nothing_kept = record { promised = None; accepted = None }

-- 0 for none, else one more than the ballot's number
abbrev pub rank : Option Ballot → ℕ
rank None = 0
rank (Some b) = number b + 1

-- nothing was promised to a higher ballot
abbrev pub is_open : Acceptor → Ballot → Bool
is_open a b = nat_le (rank a.promised) (number b + 1)

-- nothing was promised to this ballot or a higher one
abbrev pub is_unpromised : Acceptor → Ballot → Bool
is_unpromised a b = nat_le (rank a.promised) (number b)

abbrev pub promise : Acceptor → Ballot → Acceptor
promise a b = record { promised = Some b; accepted = a.accepted }

-- an acceptance counts as a promise of its ballot
abbrev pub accept : Ballot → Command → Acceptor
accept b v = record { promised = Some b; accepted = Some (b, v) }

abbrev pub on_prepare : Acceptor → Ballot → Acceptor
on_prepare a b = if is_open a b then promise a b else a

-- the promised ballot, where the ballot b is refused because of it
abbrev pub refusal : ℕ → Acceptor → Ballot → Pax
refusal place a b = Refuse place b (unwrap_or a.promised b)

abbrev pub prepare_reply : ℕ → Acceptor → Ballot → Pax
prepare_reply place a b = if is_open a b then Promise place b a.accepted else refusal place a b

abbrev pub on_accept : Acceptor → Ballot → Command → Acceptor
on_accept a b v = if is_open a b then accept b v else a

abbrev pub accept_reply : ℕ → Acceptor → Ballot → Pax
accept_reply place a b = if is_open a b then Accepted place b else refusal place a b

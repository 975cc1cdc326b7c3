-- How the writes that are under way in the plain machine go on.
use Rattle.std.specs.Prelude.{◌≡◌, ℕ, Bool, true, false, Option, Some, None}
use Rattle.spec_machine.specs.declared.event.Write.{Write}
use Rattle.spec_machine.specs.declared.state.Open.{Open}
use Rattle.spec_machine.specs.Machine.{Plain, open_of, stands}

-- a write whose block has its bytes is remembered to have had them
abbrev pub IsMindful : Plain → Type 0
IsMindful m = (c : ℕ) (o : Open) → open_of m.opened c ≡ Some o → stands m.disks o.write ≡ true → o.held ≡ true

-- the client's write under way has had its bytes
abbrev pub held_in : Option Open → Bool
held_in None = false
held_in (Some o) = o.held

abbrev pub is_held : Plain → ℕ → Bool
is_held m c = held_in (open_of m.opened c)

-- the write is still under way, and what it has had is not forgotten
pub record GoesOn (later : Option Open) (o : Open) : Type 0 where
  pub now : Open
  pub is : later ≡ Some now
  pub same : now.write ≡ o.write
  pub held : o.held ≡ true → now.held ≡ true

-- no write begins or ends
pub record Onward (m k : Plain) : Type 0 where
  pub none : (c : ℕ) → open_of m.opened c ≡ None → open_of k.opened c ≡ None
  pub some : (c : ℕ) (o : Open) → open_of m.opened c ≡ Some o → GoesOn (open_of k.opened c) o

-- the machine's write under way is the client's
abbrev pub Seat : Option Write → Option Open → Type 0
Seat None o = o ≡ None
Seat (Some write) o = (held : Bool) × (o ≡ Some (record { write = write; held = held }))

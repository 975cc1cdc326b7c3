-- The operator's open line, by what it asks for.
use Rattle.std.specs.Prelude.{◌≡◌, ◌⊎◌, ℕ, Bool, true, false, Option, Some, None}
use Rattle.script_lines.specs.declared.request.Request.{Request}
use Rattle.script_lines.specs.declared.request.Request.TheVariants as request
use Rattle.spec_rules.specs.Clients.{Asked}
use Rattle.spec_rules.specs.World.{Deed, Stopped, Blanked, Booted, IsOpenLine, World}
use Rattle.client_core.specs.declared.order.Order.{Order}
use Rattle.client_core.specs.Orders.{order_of}
use Rattle.client_core.specs.declared.order.Order.TheVariants.{Arm, Stop, Start, Blank}
use Rattle.petal_world.specs.declared.control.Given.{Given}
use Rattle.petal_world.specs.declared.control.Given.TheVariants as given

-- the deed by which a server does what it was given
abbrev pub deed_of : Given → Deed
deed_of given.Stop = Stopped
deed_of given.Blank = Blanked
deed_of given.Boot = Booted

-- the server at the operator's hand
abbrev pub hand_of : Option (ℕ × Given) → Option (ℕ × Deed)
hand_of None = None
hand_of (Some held) = Some (held.0, deed_of held.1)

-- the order arms a device
abbrev pub arms_of : Order → Bool
arms_of (Arm which plan) = true
arms_of Stop = false
arms_of Start = false
arms_of Blank = false

-- the operator's open line gives this server this order, and was not glanced at
pub record IsGivenBy (w : World) (order : Order) (n line : ℕ) : Type 0 where
  pub asked : Asked
  pub opened : IsOpenLine w asked
  pub line_is : asked.line ≡ line
  pub order_is : order_of asked.request ≡ Some (order, n)

-- a line gives it this order
abbrev pub IsGiven : World → Order → ℕ → Type 0
IsGiven w order n = (line : ℕ) × IsGivenBy w order n line

-- a line stops it first, as it does to blank it, too
abbrev pub IsToStop : World → ℕ → Type 0
IsToStop w n = IsGiven w Stop n ⊎ IsGiven w Blank n

-- it stops the server, which does not run
pub record HasStopped (w : World) (n line : ℕ) : Type 0 where
  pub by : IsGivenBy w Stop n line
  pub rests : (w.servers n).life.running ≡ false

-- it starts the server, which runs, or has booted
pub record HasStarted (w : World) (n line : ℕ) : Type 0 where
  pub by : IsGivenBy w Start n line
  pub shows : ((w.servers n).life.running ≡ true) ⊎ (w.control.hand ≡ Some (n, Booted))

-- it blanks the server, which has booted since
pub record HasBlanked (w : World) (n line : ℕ) : Type 0 where
  pub by : IsGivenBy w Blank n line
  pub booted : w.control.hand ≡ Some (n, Booted)

-- the request has one of the server's devices armed
abbrev pub ArmsAt : Request → ℕ → Type 0
ArmsAt (request.StopAt server at) n = server ≡ n
ArmsAt (request.Fault server which kind at) n = server ≡ n
ArmsAt _ n = ⊥

-- the operator's open line arms one of the server's devices, and was not glanced at
pub record HasArmed (w : World) (n line : ℕ) : Type 0 where
  pub asked : Asked
  pub opened : IsOpenLine w asked
  pub line_is : asked.line ≡ line
  pub arms : ArmsAt asked.request n

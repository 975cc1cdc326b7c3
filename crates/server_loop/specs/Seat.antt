-- What a seat keeps of its server.
use Rattle.std.specs.Prelude.{◌≡◌, ℕ, ◌+◌, ◌<◌, ◌≤◌, ◌++◌, max, Bool, true, false, List, [], ◌∷◌, None}
use Rattle.petal_msg.specs.declared.letter.Actor.TheVariants as actor
use Rattle.petal_msg.specs.declared.letter.Letter.{Letter}
use Rattle.spec_rules.specs.Plans.{Armed, AreLeftOf, unarmed}
use Rattle.spec_rules.specs.Server.{Server, first_server}
use Rattle.spec_rules.specs.World.{Setting, greatest_u64, is_spent_server, received, start}
use Rattle.spec_rules.specs.declared.step.Step.{Step}
use Rattle.spec_history.specs.Failures.{ComeTo}
use Rattle.spec_history.specs.declared.record.Record.{Record}
use Rattle.law_merge.specs.Alone.{IsAlone, MayAlone, server_along}
use Rattle.server_host.specs.Desks.{Site, ended, left_of}
use Rattle.server_host.specs.declared.step_end.StepEnd.{StepEnd}

-- the server's number, its records, and whether it was given up, so that no step follows
pub record Kept : Type 0 where
  pub me : ℕ
  pub records : List Record
  pub over : Bool

-- the stamp of the last step
abbrev pub clock_along : ℕ → List Record → ℕ
clock_along clock [] = clock
clock_along clock (own ∷ later) = clock_along own.stamp later

-- the server that the records leave
abbrev pub server_of : Setting → Kept → Server
server_of setting kept = server_along setting kept.me ((start setting).servers kept.me) kept.records

-- what is left of it
abbrev pub site_in : Setting → Kept → Site
site_in setting kept = record { me = kept.me; servers = setting.servers; server = left_of (server_of setting kept) }

-- a server that has taken no step
abbrev pub first_site : Setting → ℕ → Site
first_site setting n = record { me = n; servers = setting.servers; server = first_server true setting.slots }

-- the records are the server's own steps from the start
abbrev pub AreOwn : Setting → ℕ → List Record → Type 0
AreOwn setting n records = IsAlone setting n ((start setting).servers n) 0 records

-- each failure of the devices uses up a plan; and until the server was given up its devices have at most the plans that are left
pub record IsPlanned (armed : Armed) (kept : Kept) : Type 0 where
  pub left : Armed
  pub come : ComeTo kept.me unarmed kept.records left
  pub rest : kept.over ≡ false → AreLeftOf left armed

-- each of the records is of this server
abbrev pub AreOfServer : ℕ → List Record → Type 0
AreOfServer n [] = Unit {0}
AreOfServer n (own ∷ later) = (own.actor ≡ actor.Server n) × AreOfServer n later

-- the records are the server's own steps from the start; and until it was given up this is the server that they leave
pub record IsSeated (setting : Setting) (site : Site) (armed : Armed) (clock : ℕ) (kept : Kept) : Type 0 where
  pub among : kept.me < setting.servers
  pub alone : AreOwn setting kept.me kept.records
  pub own : AreOfServer kept.me kept.records
  pub clock_is : clock ≡ clock_along 0 kept.records
  pub site_is : kept.over ≡ false → site ≡ site_in setting kept
  pub planned : IsPlanned armed kept

abbrev pub own_record : (n stamp phase : ℕ) → Step → List Letter → Record
own_record n stamp phase what letters =
    record { actor = actor.Server n; stamp = stamp; phase = phase; step = what; sent = letters; answer = None }

-- one record more, of this step, which sent these letters
abbrev pub with_record : Kept → (stamp phase : ℕ) → Step → List Letter → Kept
with_record kept stamp phase what letters = record kept { records = kept.records ++ own_record kept.me stamp phase what letters ∷ [] }

-- one record more, with a stamp later than this one
pub record IsGrownAfter (least : ℕ) (old new : Kept) (what : Step) (letters : List Letter) : Type 0 where
  pub stamp : ℕ
  pub phase : ℕ
  pub later : least < stamp
  pub is : new ≡ with_record old stamp phase what letters

-- one record more, later than the last one and than what the step receives
abbrev pub IsGrown : (old new : Kept) → Step → List Letter → Type 0
IsGrown old new what letters = IsGrownAfter (max (clock_along 0 old.records) (received what)) old new what letters

-- one record more, of this step with the end that its job or its boot had
pub record IsGrownByAfter (least : ℕ) (old new : Kept) (named : Step) (letters : List Letter) : Type 0 where
  pub end : StepEnd
  pub grown : IsGrownAfter least old new (ended named end) letters

abbrev pub IsGrownBy : (old new : Kept) → Step → List Letter → Type 0
IsGrownBy old new named letters = IsGrownByAfter (max (clock_along 0 old.records) (received named)) old new named letters

-- one record more, of this step with the end that its job or its boot had, and with this stamp
pub record IsTaken (stamp : ℕ) (old new : Kept) (named : Step) (letters : List Letter) : Type 0 where
  pub end : StepEnd
  pub phase : ℕ
  pub is : new ≡ with_record old stamp phase (ended named end) letters

-- the stamp is later than that of the last step, and than that of what the step receives
pub record IsLater (kept : Kept) (what : Step) (stamp : ℕ) : Type 0 where
  pub clock : clock_along 0 kept.records < greatest_u64
  pub receives : received what < greatest_u64
  pub is : max (clock_along 0 kept.records) (received what) + 1 ≤ stamp

-- the server may take the step by itself, with this stamp
pub record MayTake (setting : Setting) (kept : Kept) (what : Step) (stamp : ℕ) : Type 0 where
  pub may : MayAlone what (server_of setting kept)
  pub goes_on : is_spent_server (server_of setting kept) ≡ false
  pub later : IsLater kept what stamp

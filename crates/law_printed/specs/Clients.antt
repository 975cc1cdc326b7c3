-- The clients' lists of records, by the clients' numbers.
use Rattle.std.specs.Prelude.{◌≡◌, ◌++◌, ◌<◌, ℕ, List, Some, length, slice_get}
use Rattle.std.specs.List.{flat_map}
use Rattle.petal_msg.specs.declared.letter.Actor.TheVariants as actor
use Rattle.script_lines.specs.declared.request.Line.{Line}
use Rattle.script_lines.specs.declared.script.Script.{Script}
use Rattle.spec_rules.specs.Lists.{In}
use Rattle.spec_rules.specs.World.{setting_of, start}
use Rattle.spec_history.specs.declared.record.Record.{Record}
use Rattle.law_merge.specs.Alone.{IsAlone, IsAloneClient}
use Rattle.law_printed.specs.Played.{HasPlayedBy}

-- the records of all lists, one list after the other
abbrev pub all_records : List (List Record) → List Record
all_records lists = flat_map (λ list. list) lists

-- each record is of this client
abbrev pub AreBy : ℕ → List Record → Type 0
AreBy c records = (own : Record) → In own records → own.actor ≡ actor.Client c

abbrev pub EachIsBy : List (List Record) → Type 0
EachIsBy lists = (c : ℕ) (list : List Record) → slice_get lists c ≡ Some list → AreBy c list

-- each client's list has records of that client alone, which are steps of its own from the start
pub record AreClients (script : Script) (lists : List (List Record)) : Type 0 where
  pub by : EachIsBy lists
  pub alone : (c : ℕ) (list : List Record) → slice_get lists c ≡ Some list
      → IsAloneClient (setting_of script) c ((start (setting_of script)).clients c) 0 list

-- each server's list has steps of its own from the start
abbrev pub AreServers : Script → List (List Record) → Type 0
AreServers script lists =
    (n : ℕ) (list : List Record) → slice_get lists n ≡ Some list → IsAlone (setting_of script) n ((start (setting_of script)).servers n) 0 list

-- each client has played the first so many phases
abbrev pub HaveAllPlayed : Script → (phases : ℕ) → List (List Record) → Type 0
HaveAllPlayed script phases lists = (c : ℕ) (list : List Record) → slice_get lists c ≡ Some list → HasPlayedBy script phases c list

-- each line is of a client below this number
abbrev pub AreOfClients : ℕ → List Line → Type 0
AreOfClients clients lines = (line : Line) → In line lines → line.client < clients

-- each client's list went on by these records
pub record WentOn (olds sinces news : List (List Record)) : Type 0 where
  pub old_size : length olds ≡ length news
  pub since_size : length sinces ≡ length news
  pub each : (c : ℕ) (old since new : List Record) → slice_get olds c ≡ Some old → slice_get sinces c ≡ Some since → slice_get news c ≡ Some new
      → new ≡ old ++ since

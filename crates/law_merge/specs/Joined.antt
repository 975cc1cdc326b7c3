-- What a step owes the others: that its letter was sent, that a call comes after the phases before, and that a step that a line of the
-- operator gives comes while that line is open, in its order.
use Rattle.law_merge.specs.Imports.{Actor, Arm, Armed, Asked, Blank, Blanks, Boot, Boots, Call, ComeTo, Deliver, Errand, Glance, In, IsAnswered, IsFree}
use Rattle.law_merge.specs.Imports.{IsOpenLine, Line, MayGlance, Obeys, Record, Script, Setting, Step, Stop, StopIn, Stops, Tick, Work, World, errand_after}
use Rattle.law_merge.specs.Imports.{next_line, no_errand, setting_of, start, stepped, unarmed}
use Rattle.std.specs.Prelude.{◌≡◌, ℕ, ◌<◌, List, [], ◌∷◌, Some}
use Rattle.law_merge.specs.Alone.{IsAlone, IsAloneClient, of_client, of_server}
use Rattle.petal_msg.specs.declared.letter.Actor.TheVariants as actor

abbrev pub WasSent : World → Step → Type 0
WasSent w (Deliver letter) = In letter w.sent
WasSent w _ = Unit {0}

-- the operator's open line does this
pub record IsOrdered (w : World) (does : Asked → Type 0) : Type 0 where
  pub asked : Asked
  pub opened : IsOpenLine w asked
  pub so : does asked

-- a server's step comes where the operator's lines have it
abbrev pub IsInTurn : Step → Setting → World → ℕ → Type 0
IsInTurn (Call line) setting w n = ⊥
IsInTurn (Deliver letter) setting w n = IsFree w n
IsInTurn Tick setting w n = IsFree w n
IsInTurn (Work end) setting w n = IsFree w n
IsInTurn (StopIn end) setting w n = IsFree w n
IsInTurn Stop setting w n = IsOrdered w (λ asked. Stops asked.request n w.control.hand)
IsInTurn Blank setting w n = IsOrdered w (λ asked. Blanks asked.request n w.control.hand)
IsInTurn (Boot end) setting w n = IsOrdered w (λ asked. Boots asked.request n w.control.hand)
IsInTurn (Arm which plan) setting w n = Unit {0}
IsInTurn (Glance line round) setting w n = MayGlance setting w n line round

-- a call comes after every answer of the phases before
abbrev pub IsAfterPhases : Step → Setting → World → ℕ → Type 0
IsAfterPhases (Call number) setting w c =
    (line other : Line) → next_line setting.lines c (w.clients c) ≡ Some line → In other setting.lines → other.phase < line.phase
    → IsAnswered w.answers other.number
IsAfterPhases _ setting w c = Unit {0}

abbrev pub IsAmongOthers : Actor → Step → Setting → World → Type 0
IsAmongOthers (actor.Server n) what setting w = (n < setting.servers) × IsInTurn what setting w n
IsAmongOthers (actor.Client c) what setting w = (c < 9) × IsAfterPhases what setting w c

-- the record is joined to those before it, which leave this world, and this of the operator's last line
pub record IsJoined (setting : Setting) (w : World) (errand : Errand) (own : Record) : Type 0 where
  pub sent : WasSent w own.step
  pub others : IsAmongOthers own.actor own.step setting w
  pub obeys : Obeys own.actor own.step w errand

-- so is each record
abbrev pub AreJoined : Setting → World → Errand → List Record → Type 0
AreJoined setting w errand [] = Unit {0}
AreJoined setting w errand (own ∷ later) =
    IsJoined setting w errand own × AreJoined setting (stepped setting w own).world (errand_after own.actor own.step setting w errand) later

-- from the start on
abbrev pub AreJoinedIn : Script → List Record → Type 0
AreJoinedIn script records = AreJoined (setting_of script) (start (setting_of script)) no_errand records

-- the actors' own records make one run: each actor's are steps of its own from the start, each failure of a server's devices uses up a plan
-- that it was given, and each record is joined to the others
pub record MakeOneRun (script : Script) (records : List Record) : Type 0 where
  pub servers : (n : ℕ) → IsAlone (setting_of script) n ((start (setting_of script)).servers n) 0 (of_server n records)
  pub clients : (c : ℕ) → IsAloneClient (setting_of script) c ((start (setting_of script)).clients c) 0 (of_client c records)
  pub planned : (n : ℕ) → (left : Armed) × ComeTo n unarmed (of_server n records) left
  pub joined : AreJoinedIn script records

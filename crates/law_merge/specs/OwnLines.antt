-- A server's own steps by the operator's lines that name it, and what joins them to the lines that the operator calls.
use Rattle.law_merge.specs.Imports.{Actor, Arm, Blank, Boot, Call, Errand, Glance, Line, ObeysAs, Record, Script, Server, Setting, Step, Stop, World}
use Rattle.law_merge.specs.Imports.{errand_after, errand_of, is_the, names, next_line, no_errand, operator, put_at, served, setting_of, start, stepped}
use Rattle.std.specs.Prelude.{◌≡◌, ◌==◌, ◌&&◌, ℕ, Bool, true, false, List, [], ◌∷◌, drop, filter, Some}
use Rattle.law_merge.specs.Alone.{acted_by}
use Rattle.petal_msg.specs.declared.letter.Actor.TheVariants as actor

-- ### A server by itself

-- the operator's lines that name the server, in order
abbrev pub lines_at : ℕ → List Line → List Line
lines_at n lines = filter (λ (line : Line). (line.client == operator) && is_the (names line.request).server n) lines

-- what the server has still to do: the lines that name it and have not had their glance, and what the first of them has still to give
pub record Duty : Type 0 where
  pub lines : List Line
  pub errand : Errand

abbrev pub first_errand : List Line → Errand
first_errand [] = no_errand
first_errand (line ∷ later) = errand_of (Some line)

abbrev pub duty_of : List Line → Duty
duty_of lines = record { lines = lines; errand = first_errand lines }

-- the first line's glance is followed by the next line
abbrev pub glanced_duty : (once : Bool) → Duty → Duty
glanced_duty true duty = duty_of (drop 1 duty.lines)
glanced_duty false duty = duty

abbrev pub duty_after : Step → (running : Bool) → Duty → Duty
duty_after (Glance line round) running duty = glanced_duty (round == 0) duty
duty_after what running duty = record duty { errand = served what running duty.errand }

-- the glance is that of the first line
abbrev pub IsOfFirst : (once : Bool) → ℕ → List Line → Type 0
IsOfFirst true number [] = ⊥
IsOfFirst true number (line ∷ later) = line.number ≡ number
IsOfFirst false number lines = Unit {0}

abbrev pub GlancesAtFirst : Step → List Line → Type 0
GlancesAtFirst (Glance line round) lines = IsOfFirst (round == 0) line lines
GlancesAtFirst _ lines = Unit {0}

-- each of the server's own steps is one that its first line allows
abbrev pub KeepsToLines : Setting → ℕ → Server → Duty → List Record → Type 0
KeepsToLines setting n server duty [] = Unit {0}
KeepsToLines setting n server duty (own ∷ later) =
    ObeysAs own.step duty.errand n server.life.running × GlancesAtFirst own.step duty.lines
    × KeepsToLines setting n (acted_by setting n server own.step).server (duty_after own.step server.life.running duty) later

-- so from the start on
abbrev pub KeepsToScript : Script → ℕ → List Record → Type 0
KeepsToScript script n records =
    KeepsToLines (setting_of script) n ((start (setting_of script)).servers n) (duty_of (lines_at n script.lines)) records

-- ### Among others

abbrev pub GlancesInTurn : (once : Bool) → ℕ → Errand → Type 0
GlancesInTurn true n errand = errand.server ≡ Some n
GlancesInTurn false n errand = Unit {0}

-- what a line gives the server, and its glance, comes while the operator's last line is one that names it
abbrev pub IsInErrand : Step → ℕ → Errand → Type 0
IsInErrand Stop n errand = errand.server ≡ Some n
IsInErrand Blank n errand = errand.server ≡ Some n
IsInErrand (Boot end) n errand = errand.server ≡ Some n
IsInErrand (Arm which plan) n errand = errand.server ≡ Some n
IsInErrand (Glance line round) n errand = GlancesInTurn (round == 0) n errand
IsInErrand _ n errand = Unit {0}

-- no line has begun at a server, and the line that begins is the first one of the server that it names
pub record BeginsNext (errand : Errand) (duties : ℕ → Duty) : Type 0 where
  pub none_begun : (n : ℕ) → (duties n).errand.begun ≡ false
  pub first : (n : ℕ) → errand.server ≡ Some n → (duties n).errand ≡ errand

-- the operator calls a line where it is the turn of that line
abbrev pub IsCalledInTurn : ℕ → Step → Setting → World → (ℕ → Duty) → Type 0
IsCalledInTurn c (Call number) setting w duties = (c == operator) ≡ true → BeginsNext (errand_of (next_line setting.lines c (w.clients c))) duties
IsCalledInTurn c _ setting w duties = Unit {0}

abbrev pub TakesTurn : Actor → Step → Setting → World → Errand → (ℕ → Duty) → Type 0
TakesTurn (actor.Server n) what setting w errand duties = IsInErrand what n errand
TakesTurn (actor.Client c) what setting w errand duties = IsCalledInTurn c what setting w duties

abbrev pub duties_after : Actor → Step → World → (ℕ → Duty) → ℕ → Duty
duties_after (actor.Server n) what w duties = put_at duties n (duty_after what (w.servers n).life.running (duties n))
duties_after (actor.Client c) what w duties = duties

abbrev pub TakeTurns : Setting → World → Errand → (ℕ → Duty) → List Record → Type 0
TakeTurns setting w errand duties [] = Unit {0}
TakeTurns setting w errand duties (own ∷ later) =
    TakesTurn own.actor own.step setting w errand duties
    × TakeTurns setting (stepped setting w own).world (errand_after own.actor own.step setting w errand) (duties_after own.actor own.step w duties) later

abbrev pub TakeTurnsIn : Script → List Record → Type 0
TakeTurnsIn script records = TakeTurns (setting_of script) (start (setting_of script)) no_errand (λ n. duty_of (lines_at n script.lines)) records

-- A world as its users see it.
use Rattle.std.specs.Prelude.{◌≡◌, ℕ, ◌+◌, max, min, Bool, false, List, [], ◌∷◌, ◌++◌, map, slice_get, Some}
use Rattle.std.specs.List.{range_with_len, fold}
use Rattle.petal_msg.specs.declared.letter.Actor.{Actor}
use Rattle.script_lines.specs.declared.script.Script.{Script}
use Rattle.spec_rules.specs.Plans.{Armed, AreLeftOf, unarmed}
use Rattle.spec_rules.specs.World.{World, MayStep, start, step, setting_of, greatest_u64}
use Rattle.spec_rules.specs.World as rules
use Rattle.spec_rules.specs.declared.step.Step.{Step}
use Rattle.spec_history.specs.Controls.{Errand, Obeys, errand_along, no_errand}
use Rattle.spec_history.specs.Failures.{ComeTo}
use Rattle.spec_history.specs.Legal.{ObeyScript}
use Rattle.spec_history.specs.Steps.{AreSteps, world_after}
use Rattle.spec_history.specs.declared.record.Record.{Record}
use Rattle.petal_world.specs.declared.step_result.StepResult.{StepResult}
use Rattle.server_host.specs.Desks.{Equipped, end_in}
use Rattle.server_host.specs.Playable.{AreOrdered}
use Rattle.petal_world.specs.Actors.{Actors, Shows}
use Rattle.petal_world.specs.Steps.{phase_for, stamp_of}

-- its script, the records of all steps, the phase, the least stamp of a client's next step, whether memory was wanting, so that no
-- step follows, and whether a step may have been taken that no line of the script gives
pub record Play : Type 0 where
  pub script : Script
  pub records : List Record
  pub phase : ℕ
  pub floor : ℕ
  pub over : Bool
  pub free : Bool

-- the world after the records
abbrev pub world_of : Play → World
world_of play = world_after (setting_of play.script) (start (setting_of play.script)) play.records

-- the operator's last line on its way
abbrev pub errand_in : Play → Errand
errand_in play = errand_along (setting_of play.script) (start (setting_of play.script)) no_errand play.records

-- the step is one that the rules and the script's lines allow
pub record MayPlay (play : Play) (who : Actor) (what : Step) : Type 0 where
  pub may : MayStep (setting_of play.script) (world_of play) who what
  pub obeys : Obeys who what (world_of play) (errand_in play)

-- one more than the greatest of the clients' last stamps
abbrev pub above_all : World → ℕ
above_all w = min (fold max 0 (map w.client_clocks (range_with_len 0 9)) + 1) greatest_u64

-- the play in a phase that begins: each client's clock is the greatest of all theirs
abbrev pub entered : Play → ℕ → Play
entered play phase = record play { phase = phase; floor = above_all (world_of play) }

-- what a step does to the world after the records
abbrev pub done_by : Play → Actor → Step → rules.StepResult
done_by play who what = step who what (setting_of play.script) (world_of play) (stamp_of play.floor (world_of play) who what)

-- the record of a step
abbrev pub record_of : Play → Actor → Step → Record
record_of play who what = record {
  actor = who;
  stamp = stamp_of play.floor (world_of play) who what;
  phase = phase_for what who (setting_of play.script) (world_of play) play.phase;
  step = what;
  sent = (done_by play who what).letters;
  answer = (done_by play who what).answer;
}

-- the play with the record of one step more
abbrev pub played : Play → Actor → Step → Play
played play who what = record play { records = play.records ++ record_of play who what ∷ [] }

-- what the step tells: the letters that it sent, the answer that it gave, and how its job ended
abbrev pub told_by : Play → Actor → Step → StepResult
told_by play who what = record { letters = (done_by play who what).letters; answer = (done_by play who what).answer; end = end_in what }

-- a server's devices have at most the plans that the records leave
pub record ArePlanned (play : Play) (actors : Actors) (n : ℕ) : Type 0 where
  pub left : Armed
  pub came : ComeTo n unarmed play.records left
  pub within : play.over ≡ false → (own : Equipped) → slice_get actors.desks n ≡ Some own → AreLeftOf left own.armed

-- the records are allowed steps, a legal history where no step was free, and until memory was wanting what is kept is that of the world
-- after them
pub record IsKept (play : Play) (actors : Actors) (errand : Errand) : Type 0 where
  pub ordered : AreOrdered play.script.lines
  pub steps : AreSteps play.script play.records
  pub shows : play.over ≡ false → Shows (setting_of play.script) (world_of play) actors
  pub under_way : play.over ≡ false → errand ≡ errand_in play
  pub obeys : play.free ≡ false → ObeyScript play.script play.records
  pub plans : (n : ℕ) → ArePlanned play actors n

-- Runs in which servers stop, computed from what is done in turn.
use Rattle.std.specs.Prelude.{ℕ, List, [], ◌∷◌}
use Rattle.petal_msg.specs.declared.letter.Actor.TheVariants as actor
use Rattle.spec_rules.specs.World.{Setting, World}
use Rattle.spec_rules.specs.declared.step.CommitEnd.{CommitEnd}
use Rattle.spec_rules.specs.declared.step.Step.{Step}
use Rattle.spec_rules.specs.declared.step.Step.TheVariants.{Stop, Blank, Boot, Glance, Work}
use Rattle.spec_rules.specs.declared.step.WorkEnd.{WorkEnd}
use Rattle.spec_rules.specs.declared.step.WorkEnd.TheVariants.{Fault}
use Rattle.spec_history.specs.Play.{Move, following, plays, record_by}

-- some moves of a run; a server stops; a stopped one is blanked; a server boots, or fails to; a server is glanced at for the line of
-- this number, once or in this round; a device fails in a server's next job, before its commit or after it
pub data Act : Type 0 where
  Moves : List Move → Act
  Stops : (server : ℕ) → Act
  Blanks : (server : ℕ) → Act
  Boots : (server : ℕ) → WorkEnd → Act
  Shows : (server line : ℕ) → Act
  Looks : (server line round : ℕ) → Act
  Fails : (server : ℕ) → CommitEnd → Act

-- the world after a server's step
abbrev pub stepped_by : Setting → World → ℕ → Step → World
stepped_by setting w server what = following setting w (record_by setting w (actor.Server server) what ∷ [])

abbrev pub done_by : Setting → World → Act → World
done_by setting w (Moves moves) = plays setting w moves
done_by setting w (Stops server) = stepped_by setting w server Stop
done_by setting w (Blanks server) = stepped_by setting w server Blank
done_by setting w (Boots server end) = stepped_by setting w server (Boot end)
done_by setting w (Shows server line) = stepped_by setting w server (Glance line 0)
done_by setting w (Looks server line round) = stepped_by setting w server (Glance line round)
done_by setting w (Fails server end) = stepped_by setting w server (Work (Fault end))

-- the world after a list of acts
abbrev pub world_after : Setting → World → List Act → World
world_after setting w [] = w
world_after setting w (act ∷ acts) = world_after setting (done_by setting w act) acts

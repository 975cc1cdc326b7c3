use Rattle.law_merge.proofs.PhasesEnd.{done_answered}
use Rattle.law_merge.proofs.ended_phases_are_answered.Goals as goal

pub returns : goal.returns
returns c script prefix suffix phase line steps done there before = done_answered script prefix suffix steps phase done line there before

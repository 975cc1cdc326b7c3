-- The run computes, but for the one test whether there is room.
use Rattle.std.proofs.Common.{List, ap, length}
use Rattle.busy_marks.specs.declared.marks.Mark.{Mark}
use Rattle.petal_msg.specs.declared.letter.Actor.TheVariants as actor
use Rattle.petal_table.specs.Table.{at, put}
use Rattle.spec_history.specs.Examples.{marks_at}
use Rattle.spec_rules.specs.Lists.{put_at}
use Rattle.spec_rules.specs.Writes.{goes_on, on_write, on_reserve, on_reserved}
use Rattle.spec_rules.specs.Jobs.{Acted, handles, does}
use Rattle.spec_rules.specs.Clients.{refusal}
use Rattle.spec_rules.specs.World.{World, acts, next_stamp, step}
use Rattle.spec_rules.specs.declared.step.Step.TheVariants.{Work}
use Rattle.spec_rules.specs.declared.step.WorkEnd.TheVariants as work_end
use Rattle.test_history.specs.Stops.{marked_world, trio}
use Rattle.test_history.proofs.FullMarks.{lead_stops}
use Rattle.test_history.proofs.faults.a_lead_with_all_its_marks_stops.Goals as goal

-- the world that the lead's job leaves, by what the lead did
abbrev left_by : List Mark → Acted → World
left_by marks acted =
    let w = marked_world marks in
    (acts trio w 0 (Work work_end.Done) (next_stamp w (actor.Server 0) (Work work_end.Done)) acted).world

pub returns : goal.returns
unfolding at put put_at goes_on on_write on_reserve on_reserved handles does refusal step
returns c = record {
  stopped = λ marks are. ap (λ (a : Acted). ((left_by marks a).servers 0).life.running) (lead_stops marks are);
  unmarked = λ marks are. ap (λ (a : Acted). marks_at (left_by marks a) 0) (lead_stops marks are);
  told = λ marks are. ap (λ (a : Acted). length (left_by marks a).sent) (lead_stops marks are);
}

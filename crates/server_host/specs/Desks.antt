-- The servers of a world.
use Rattle.std.specs.Prelude.{◌≡◌, ◌≢◌, ℕ, Bool, true, not, List, [], map, slice_get, Some, if◌then◌else◌}
use Rattle.std.specs.List.{range_with_len}
use Rattle.script_lines.specs.declared.script.Script.{Script}
use Rattle.spec_rules.specs.Log.{first_log, state_in}
use Rattle.spec_rules.specs.Server.{Server, no_copies, no_pairs}
use Rattle.spec_rules.specs.Jobs.{Acted}
use Rattle.spec_rules.specs.Plans.{Armed, LeavesPlans}
pub use Rattle.spec_rules.specs.World.{is_spent_server}
use Rattle.spec_rules.specs.World.{Setting, World, server_step, setting_of, start}
use Rattle.spec_rules.specs.declared.step.Step.{Step}
use Rattle.spec_rules.specs.declared.step.Step.TheVariants.{Tick, Work, StopIn, Stop, Blank, Boot}
use Rattle.spec_rules.specs.declared.step.WorkEnd.{WorkEnd}
use Rattle.spec_rules.specs.declared.step.WorkEnd.TheVariants.{Done, Fault}
use Rattle.server_host.specs.declared.step_end.StepEnd.{StepEnd}
use Rattle.server_host.specs.declared.step_end.StepEnd.TheVariants as step_end

-- ### What is left of a server

-- what stands on a server's two devices
abbrev pub on_devices : Server → Server
on_devices server = record {
  life = server.life;
  log = record first_log { records = server.log.records };
  own = record { pairs = no_pairs; copies = no_copies; filled = []; store = record server.own.store { tickets = 0 } };
  queue = [];
}

-- all of a server that runs, and what stands on the two devices of one that has stopped
abbrev pub left_of : Server → Server
left_of server = if server.life.running then server else on_devices server

-- a server that has stopped drops letters, is glanced at, gets a blank data device or a plan for a device and boots, and takes no
-- other step; one that runs gets no blank device and does not boot
abbrev pub may_take : Step → (running : Bool) → Bool
may_take Tick running = running
may_take (Work end) running = running
may_take (StopIn end) running = running
may_take Stop running = running
may_take Blank running = not running
may_take (Boot end) running = not running
may_take _ running = true

-- ### How a job or a boot ends

-- a job that ended so
abbrev pub job_ended : StepEnd → Step
job_ended step_end.Done = Work Done
job_ended (step_end.Fault commit) = Work (Fault commit)
job_ended (step_end.StopIn commit) = StopIn commit

-- how a boot ended: it fails where the plan of a device stops the server
abbrev pub boot_end : StepEnd → WorkEnd
boot_end step_end.Done = Done
boot_end (step_end.Fault commit) = Fault commit
boot_end (step_end.StopIn commit) = Fault commit

-- the step that was taken: how a job or a boot ended is told by the devices
abbrev pub ended : Step → StepEnd → Step
ended (Work named) end = job_ended end
ended (StopIn named) end = job_ended end
ended (Boot named) end = Boot (boot_end end)
ended what end = what

-- as a job or a boot ends that no plan stops
abbrev pub as_end : WorkEnd → StepEnd
as_end Done = step_end.Done
as_end (Fault commit) = step_end.Fault commit

-- how the job or the boot of a step ended; any other step is done
abbrev pub end_in : Step → StepEnd
end_in (Work end) = as_end end
end_in (StopIn commit) = step_end.StopIn commit
end_in (Boot end) = as_end end
end_in _ = step_end.Done

-- a device failed in it
abbrev pub IsFault : StepEnd → Type 0
IsFault step_end.Done = ⊥
IsFault (step_end.Fault commit) = Unit {0}
IsFault (step_end.StopIn commit) = Unit {0}

-- ### Servers and their steps

-- a server's number, how many servers there are, and what the rules know of it
pub record Site : Type 0 where
  pub me : ℕ
  pub servers : ℕ
  pub server : Server

-- the rule of a step, at this server and the state that its applied entries make
abbrev pub acted_at : Site → Step → Acted
acted_at site step = server_step step (state_in site.servers site.server.log) site.me site.server

-- what is left of the server after it
abbrev pub site_after : Site → Step → Site
site_after site step = record site { server = left_of (acted_at site step).server }

-- a server and the stamp of its last step
pub record Desk : Type 0 where
  pub site : Site
  pub clock : ℕ

-- what a world keeps of one server
abbrev pub desk_of : Setting → World → ℕ → Desk
desk_of setting w n = record {
  site = record { me = n; servers = setting.servers; server = left_of (w.servers n) };
  clock = w.server_clocks n;
}

-- and of all
abbrev pub desks_of : Setting → World → List Desk
desks_of setting w = map (desk_of setting w) (range_with_len 0 setting.servers)

-- a server that has taken no step
abbrev pub first_desk : Site → Desk
first_desk site = record { site = site; clock = 0 }

-- what a world keeps of a server, and the plans of its devices
pub record Equipped : Type 0 where
  pub desk : Desk
  pub armed : Armed

-- the desks alone
abbrev pub bare : List Equipped → List Desk
bare desks = map (λ own. own.desk) desks

-- what a step leaves of the plans of all servers: that of this server uses its own, and no other one's change
pub record LeavesPlansAt (n : ℕ) (what : Step) (old new : List Equipped) : Type 0 where
  pub own : (before now : Equipped) → slice_get old n ≡ Some before → slice_get new n ≡ Some now → LeavesPlans what before.armed now.armed
  pub others : (m : ℕ) → m ≢ n → slice_get new m ≡ slice_get old m

-- the servers of a run that begins
abbrev pub first_sites : Script → List Site
first_sites script = map (λ n. (desk_of (setting_of script) (start (setting_of script)) n).site) (range_with_len 0 script.servers)

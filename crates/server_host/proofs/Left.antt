-- What is left of a server, and of it after a step.
use Rattle.std.proofs.Common.{◌≡◌, ℕ, zero, suc, ◌+◌, Bool, true, false, List, length, Option, Some, None, refl, sym, ap, ◌∙◌}
use Rattle.std.specs.Prelude.{not, if◌then◌else◌}
use Rattle.device_faults.specs.declared.plan.Plan.{Plan}
use Rattle.device_faults.specs.declared.which.Which.{Which}
use Rattle.petal_msg.specs.declared.letter.Actor.TheVariants as actor
use Rattle.petal_msg.specs.declared.letter.Letter.{Letter}
use Rattle.spec_paxos.specs.Kept.{known_at}
use Rattle.spec_rules.proofs.Applied.{servers_after}
use Rattle.spec_rules.specs.Boots.{awake, known_prefix, raised, stays, wakes}
use Rattle.spec_rules.specs.Entries.{before_known, known_run}
use Rattle.spec_rules.specs.Jobs.{down_posts, here_of, has_full_log}
use Rattle.spec_rules.specs.Log.{Log, rev_of, state_in}
use Rattle.spec_rules.specs.Server.{JobContext, Life, PairState, Server, letters_of}
use Rattle.spec_rules.specs.State.{servers_of}
use Rattle.spec_rules.specs.World.{Setting, World, MayServer, is_spent_server, server_step}
use Rattle.spec_rules.specs.declared.job.Job.{Job}
use Rattle.spec_rules.specs.declared.step.Step.{Step}
use Rattle.spec_rules.specs.declared.step.Step.TheVariants.{Call, Deliver, Tick, Work, StopIn, Stop, Blank, Boot, Arm, Glance}
use Rattle.spec_rules.specs.declared.step.CommitEnd.TheVariants.{After, Before}
use Rattle.spec_rules.specs.declared.step.WorkEnd.{WorkEnd}
use Rattle.spec_rules.specs.declared.step.WorkEnd.TheVariants.{Done, Fault}
use Rattle.server_host.specs.Desks.{acted_at, left_of, may_take, on_devices}

-- a server of these parts
abbrev made : (running : Bool) (inc : ℕ) (log : Log) (own : PairState) (queue : List Job) → Server
made running inc log own queue = record { life = record { running = running; inc = inc }; log = log; own = own; queue = queue }

-- nothing is lost of a server that runs
pub left_running : (server : Server) → server.life.running ≡ true → left_of server ≡ server
left_running server on = ap (λ b. if b then server else on_devices server) on

-- whether it runs, and as which incarnation, is not lost
pub left_life : (server : Server) → (left_of server).life ≡ server.life
left_life server = by_life server.life.running server
  where
    by_life : (b : Bool) (server : Server) → (if b then server else on_devices server).life ≡ server.life
    by_life true server = refl
    by_life false server = refl

pub left_runs : (server : Server) → (left_of server).life.running ≡ server.life.running
left_runs server = ap (λ (life : Life). life.running) (left_life server)

spent_by : (running : Bool) (inc : ℕ) (log : Log) (own : PairState) (queue : List Job)
    → is_spent_server (left_of (made running inc log own queue)) ≡ is_spent_server (made running inc log own queue)
spent_by true inc log own queue = refl
spent_by false inc log own queue = refl

-- what has stopped is not spent
pub left_spent : (server : Server) → is_spent_server (left_of server) ≡ is_spent_server server
left_spent server = spent_by server.life.running server.life.inc server.log server.own server.queue

rev_by : (running : Bool) (inc : ℕ) (log : Log) (own : PairState) (queue : List Job)
    → (if (left_of (made running inc log own queue)).life.running then Some (rev_of (left_of (made running inc log own queue)).log) else None)
    ≡ (if running then Some (rev_of log) else None)
rev_by true inc log own queue = refl
rev_by false inc log own queue = refl

-- the revision of a server that runs
pub left_rev : (server : Server)
    → (if (left_of server).life.running then Some (rev_of (left_of server).log) else None) ≡ (if server.life.running then Some (rev_of server.log) else None)
left_rev server = rev_by server.life.running server.life.inc server.log server.own server.queue

-- ### Steps

-- at what is left of a server the step sends the same letters, and leaves what is left of the server after it
pub record StepsLeft (servers n : ℕ) (server : Server) (what : Step) : Type 0 where
  pub letters : (acted_at (record { me = n; servers = servers; server = left_of server }) what).letters
      ≡ (server_step what (state_in servers server.log) n server).letters
  pub left : left_of (acted_at (record { me = n; servers = servers; server = left_of server }) what).server
      ≡ left_of (server_step what (state_in servers server.log) n server).server

runs : (servers n : ℕ) (server : Server) (what : Step) → server.life.running ≡ true → StepsLeft servers n server what
runs servers n server what on = record {
  letters = ap (λ (s : Server). (acted_at (record { me = n; servers = servers; server = s }) what).letters) (left_running server on);
  left = ap (λ (s : Server). left_of (acted_at (record { me = n; servers = servers; server = s }) what).server) (left_running server on);
}

calls : (servers n line : ℕ) (running : Bool) (inc : ℕ) (log : Log) (own : PairState) (queue : List Job)
    → StepsLeft servers n (made running inc log own queue) (Call line)
calls servers n line true inc log own queue = record { letters = refl; left = refl }
calls servers n line false inc log own queue = record { letters = refl; left = refl }

receives : (servers n : ℕ) (letter : Letter) (running : Bool) (inc : ℕ) (log : Log) (own : PairState) (queue : List Job)
    → StepsLeft servers n (made running inc log own queue) (Deliver letter)
receives servers n letter true inc log own queue = record { letters = refl; left = refl }
receives servers n letter false inc log own queue = record { letters = refl; left = refl }

shows : (servers n line round : ℕ) (running : Bool) (inc : ℕ) (log : Log) (own : PairState) (queue : List Job)
    → StepsLeft servers n (made running inc log own queue) (Glance line round)
shows servers n line round true inc log own queue = record { letters = refl; left = refl }
shows servers n line round false inc log own queue = record { letters = refl; left = refl }

arms : (servers n : ℕ) (which : Which) (plan : Option Plan) (running : Bool) (inc : ℕ) (log : Log) (own : PairState) (queue : List Job)
    → StepsLeft servers n (made running inc log own queue) (Arm which plan)
arms servers n which plan true inc log own queue = record { letters = refl; left = refl }
arms servers n which plan false inc log own queue = record { letters = refl; left = refl }

empties : (servers n : ℕ) (running : Bool) (inc : ℕ) (log : Log) (own : PairState) (queue : List Job) → not running ≡ true
    → StepsLeft servers n (made running inc log own queue) Blank
empties servers n true inc log own queue rests = absurd (cc)
empties servers n false inc log own queue rests = record { letters = refl; left = refl }

-- ### Boots

-- what is known of places goes by the records alone
same_run : (log other : Log) → log.records ≡ other.records → (place most : ℕ) → known_run log place most ≡ known_run other place most
same_run log other same place zero = refl
same_run log other same place (suc most) = λ i. before_known (known_at (same i) place) (same_run log other same (place + 1) most i)

module _ (servers n inc : ℕ) (log : Log) (own : PairState) (queue : List Job) where
  abbrev asleep : Server
  asleep = made false inc log own queue

  abbrev shown : Server
  shown = on_devices asleep

  abbrev here_now : JobContext
  here_now = here_of (state_in servers log) n asleep

  abbrev here_left : JobContext
  here_left = here_of (state_in servers shown.log) n shown

  count : servers_of here_left.state ≡ servers_of here_now.state
  count = servers_after servers shown.log.applied ∙ sym (servers_after servers log.applied)

  prefix : known_prefix (raised shown).log ≡ known_prefix (raised asleep).log
  prefix = same_run (raised shown).log (raised asleep).log refl 1 (length (raised asleep).log.records)

  booted_letters : (full : Bool) → (if full then stays shown else wakes here_left (awake (raised shown))).letters
      ≡ (if full then stays asleep else wakes here_now (awake (raised asleep))).letters
  booted_letters true = refl
  booted_letters false =
      λ i. letters_of (record { from = actor.Server n; inc = inc + 1; rev = length (prefix i) }) 0 (down_posts n inc (count i))

  booted_left : (full : Bool) → left_of (if full then stays shown else wakes here_left (awake (raised shown))).server
      ≡ left_of (if full then stays asleep else wakes here_now (awake (raised asleep))).server
  booted_left true = refl
  booted_left false = λ i. record (awake (raised asleep)) { log = record (awake (raised asleep)).log { applied = prefix i } }

  raised_left : (full : Bool) → left_of (if full then shown else raised shown) ≡ left_of (if full then asleep else raised asleep)
  raised_left true = refl
  raised_left false = refl

  boots_left : (end : WorkEnd) → StepsLeft servers n asleep (Boot end)
  boots_left Done = record { letters = booted_letters (has_full_log (raised asleep)); left = booted_left (has_full_log (raised asleep)) }
  boots_left (Fault Before) = record { letters = refl; left = refl }
  boots_left (Fault After) = record { letters = refl; left = raised_left (has_full_log (raised asleep)) }

boots_at : (servers n : ℕ) (end : WorkEnd) (running : Bool) (inc : ℕ) (log : Log) (own : PairState) (queue : List Job) → not running ≡ true
    → StepsLeft servers n (made running inc log own queue) (Boot end)
boots_at servers n end true inc log own queue rests = absurd (cc)
boots_at servers n end false inc log own queue rests = boots_left servers n inc log own queue end

-- a step that it may take
pub steps_left : (servers n : ℕ) (server : Server) (what : Step) → may_take what server.life.running ≡ true → StepsLeft servers n server what
steps_left servers n s (Call line) on = calls servers n line s.life.running s.life.inc s.log s.own s.queue
steps_left servers n s (Deliver letter) on = receives servers n letter s.life.running s.life.inc s.log s.own s.queue
steps_left servers n s Blank on = empties servers n s.life.running s.life.inc s.log s.own s.queue on
steps_left servers n s (Boot end) on = boots_at servers n end s.life.running s.life.inc s.log s.own s.queue on
steps_left servers n s (Arm which plan) on = arms servers n which plan s.life.running s.life.inc s.log s.own s.queue
steps_left servers n s (Glance line round) on = shows servers n line round s.life.running s.life.inc s.log s.own s.queue
steps_left servers n s what on = runs servers n s what on

-- as it may each step that is allowed
pub allowed : (setting : Setting) (w : World) (n : ℕ) (what : Step) → MayServer what setting w n → may_take what (w.servers n).life.running ≡ true
allowed setting w n Tick may = may.runs
allowed setting w n (Work end) may = may.acts.runs
allowed setting w n (StopIn end) may = may.acts.runs
allowed setting w n Stop may = may.runs
allowed setting w n Blank may = ap not may.rests
allowed setting w n (Boot end) may = ap not may.rests
allowed setting w n _ may = refl

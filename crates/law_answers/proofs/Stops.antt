-- A server that ran at the start and does not run at the end stopped in a step of its own, since which it has not run, and the rule of
-- that step says why.
use Rattle.law_answers.proofs.Imports.{[], ◌++◌, ◌<◌, ◌∙◌, ◌∷◌, ◌≡◌, ◌⊎◌, Acted, Actor, AreSteps, Blank, Boot, Call, Deliver, In, IsMoment, IsSound, Job}
use Rattle.law_answers.proofs.Imports.{JobContext, List, MayActor, MayServer, MayStop, NoneBoots, Record, Request, Script, Server, Setting, Step, Stop}
use Rattle.law_answers.proofs.Imports.{StopIn, Work, WorkEnd, World, acts, ap, append_assoc, arith, by_bool, by_test, chosen_log, chosen_state, false}
use Rattle.law_answers.proofs.Imports.{first_at_start, first_moment, first_state, inl, inr, is_in, is_log_job, is_overfull, job_done, moment_later, nat_lt}
use Rattle.law_answers.proofs.Imports.{nat_tests, operator, or_cases, own_place, prefix_legal, put_apart, put_at, put_same, refl, same_or_apart, server_state}
use Rattle.law_answers.proofs.Imports.{server_step, setting_of, start, step, stepped, subst, sym, true, true_false, unbooted, who_runs_is_in, works}
use Rattle.law_answers.proofs.Imports.{world_after, ℕ}
use Rattle.law_answers.specs.Lines.{AsksToStop}
use Rattle.law_answers.specs.Stops.{IsReasonToStop, Was_told, Device_failed, Device_stopped, Journal_full, Marks_full, HasReasonToStop, NoneIsStopped}
use Rattle.law_answers.specs.Stops.{NoneStopsByItself, StaysDown, is_of_a_job, stops_a_server}
use Rattle.law_answers.proofs.Lines.{asks_to_stop, line_of, open_for}
use Rattle.petal_msg.specs.declared.letter.Actor.TheVariants as actor
use Rattle.spec_rules.specs.declared.job.Job.TheVariants as job
use Rattle.spec_rules.specs.declared.step.WorkEnd.TheVariants as work_end

-- ### One step

-- with room for its commit, a server goes on running
job_runs : (here : JobContext) (server : Server) (first : Job) (rest : List Job)
    → (job_done here server first rest).server.life.running ≡ server.life.running
job_runs here server (job.Letter letter) rest =
    by_test (λ (a : Acted). a.server.life.running ≡ server.life.running) (is_log_job (job.Letter letter)) _ _ (λ t. refl) (λ t. refl)
job_runs here server _ rest = refl

module _ (setting : Setting) (w : World) (n : ℕ) (told : MayStop w n → IsReasonToStop setting w n Stop) (ran : (w.servers n).life.running ≡ true) where
  abbrev here : JobContext
  here = own_place setting w n

  abbrev server : Server
  server = w.servers n

  -- where the step leaves the server stopped, there is a reason
  abbrev Why : Step → Server → Type 0
  Why what after = after.life.running ≡ false → IsReasonToStop setting w n what

  works_why : (queue : List Job) → server.queue ≡ queue → Why (Work work_end.Done) (works here server queue).server
  works_why [] is = true_false ran
  works_why (first ∷ rest) is =
      by_test (λ (a : Acted). Why (Work work_end.Done) a.server) (is_overfull (job_done here server first rest).server) _ _
      (λ full rests. elim (or_cases _ _ full) [ inl log ↦ Journal_full first rest refl is log | inr marks ↦ Marks_full first rest refl is marks ])
      (λ room. true_false (job_runs here server first rest ∙ ran))

  server_why : (what : Step) → MayServer what setting w n → Why what (server_step what (server_state setting w n) n server).server
  server_why (Call line) may = absurd may
  server_why (Deliver letter) may = by_test (Why (Deliver letter)) server.life.running _ _ (λ on. true_false ran) (λ off. true_false ran)
  server_why (Work work_end.Done) may = works_why server.queue refl
  server_why (Work (work_end.Fault end)) may = λ rests. Device_failed end refl
  server_why (StopIn end) may = λ rests. Device_stopped end refl
  server_why Stop may = λ rests. told may
  server_why Blank may = true_false ran may.rests
  server_why (Boot end) may = true_false ran may.rests
  server_why _ may = true_false ran

  -- a server stops in a step of its own
  step_why : (who : Actor) (what : Step) (stamp : ℕ) → MayActor who what setting w → ((step who what setting w stamp).world.servers n).life.running ≡ false
      → (who ≡ actor.Server n) × IsReasonToStop setting w n what
  unfolding step
  step_why (actor.Client c) what stamp may rests = true_false ran rests
  step_why (actor.Server m) what stamp may rests = elim (same_or_apart m n) [
    | inl same ↦ (ap actor.Server same, by same may.1 rests)
    | inr apart ↦ true_false (ap (λ (x : Server). x.life.running) (put_apart w.servers m _ n (λ e. apart (sym e))) ∙ ran) rests
  ]
    where
      by : m ≡ n → MayServer what setting w m
          → ((acts setting w m what stamp (server_step what (server_state setting w m) m (w.servers m))).world.servers n).life.running ≡ false
          → IsReasonToStop setting w n what
      by same may rests =
          let after = (server_step what (server_state setting w n) n server).server in
          let own : (put_at w.servers n after n).life.running ≡ false =
          subst (λ k. ((acts setting w k what stamp (server_step what (server_state setting w k) k (w.servers k))).world.servers n).life.running ≡ false)
          same rests in
          server_why what (subst (MayServer what setting w) same may) (ap (λ (x : Server). x.life.running) (sym (put_same w.servers n after)) ∙ own)

-- ### A history

-- one of the records is of a step after which the server runs no more
record Ceases (setting : Setting) (w : World) (records : List Record) (n : ℕ) : Type 0 where
  moment : IsMoment records
  open moment use *
  ran : ((world_after setting w prefix).servers n).life.running ≡ true
  since : StaysDown setting (stepped setting (world_after setting w prefix) own).world following n

-- who stays down does not run at first
down_now : (setting : Setting) (w : World) (records : List Record) (n : ℕ) → StaysDown setting w records n → (w.servers n).life.running ≡ false
down_now setting w [] n down = down
down_now setting w (own ∷ later) n down = down.0

-- who does not run at the end has not run at all, or ceased to
ceases : (setting : Setting) (w : World) (records : List Record) (n : ℕ) → ((world_after setting w records).servers n).life.running ≡ false
    → StaysDown setting w records n ⊎ Ceases setting w records n
ceases setting w [] n rests = inl rests
ceases setting w (own ∷ later) n rests =
    let v = (stepped setting w own).world in
    elim (ceases setting v later n rests) [
      | inl since ↦ by_bool (w.servers n).life.running
          (λ on. inr (record { moment = first_moment own later; ran = on; since = since }))
          (λ off. inl (off, since))
      | inr c ↦ inr (record { moment = moment_later own later c.moment; ran = c.ran; since = c.since })
    ]

-- a server that may be stopped was told so by a line of the script
told_by_line : (script : Script) (records : List Record) → IsSound script → AreSteps script records → (n : ℕ)
    → (let w = world_after (setting_of script) (start (setting_of script)) records in MayStop w n → IsReasonToStop (setting_of script) w n Stop)
told_by_line script records sound legal n may =
    let w = world_after (setting_of script) (start (setting_of script)) records in
    let o = open_for script records sound legal operator may.asked may.opened.is in
    Was_told may.asked o.line refl (subst (λ r. AsksToStop r n) o.request_is (asks_to_stop may.asked.request n w.control.hand may.stops))
    (line_of script.lines w may.asked o may.opened)

pub stops_for_a_reason : (script : Script) (records : List Record) → IsSound script → AreSteps script records → (n : ℕ) → n < script.servers
    → ((world_after (setting_of script) (start (setting_of script)) records).servers n).life.running ≡ false
    → HasReasonToStop (setting_of script) (start (setting_of script)) records n
stops_for_a_reason script records sound legal n low rests =
    let setting = setting_of script in
    let ran : nat_lt n script.servers ≡ true = grind (arith, nat_tests) in
    elim (ceases setting (start setting) records n rests) [
      | inl down ↦ true_false ran (down_now setting (start setting) records n down)
      | inr c ↦
          let w = world_after setting (start setting) c.prefix in
          let parts = prefix_legal setting (start setting) c.prefix (c.own ∷ c.following) (subst (AreSteps script) c.is legal) in
          let down = down_now setting (stepped setting w c.own).world c.following n c.since in
          let s = step_why setting w n (told_by_line script c.prefix sound parts.0 n) c.ran c.own.actor c.own.step c.own.stamp
          parts.1.0.may.may down in
          record {
            moment = c.moment;
            stops = record { who = s.0; ran = c.ran; rests = down };
            why = s.1;
            since = c.since;
          }
    ]

-- ### Where no server stops

no_line_stops : (asked : Request) (n : ℕ) → AsksToStop asked n → stops_a_server asked ≡ false → ⊥
no_line_stops asked n (inl is) none = true_false (ap stops_a_server is) none
no_line_stops asked n (inr is) none = true_false (ap stops_a_server is) none

-- where no line stops a server and none stops by itself, all of them run
all_run : (script : Script) (records : List Record) → IsSound script → AreSteps script records → NoneIsStopped script.lines
    → NoneStopsByItself (setting_of script) (start (setting_of script)) records → (n : ℕ) → n < script.servers
    → ((world_after (setting_of script) (start (setting_of script)) records).servers n).life.running ≡ true
all_run script records sound legal lines itself n low = by_bool (last.servers n).life.running (λ on. on)
    (λ off. absurd (by (stops_for_a_reason script records sound legal n low off)))
  where
    setting : Setting
    setting = setting_of script

    last : World
    last = world_after setting (start setting) records

    by : HasReasonToStop setting (start setting) records n → ⊥
    by h = elim h.why [
      | Was_told asked line step asks given ↦ no_line_stops line.request n asks (lines line given.there)
      | Device_failed end step ↦ itself h.prefix h.own h.following n h.is (record { stops = h.stops; works = ap is_of_a_job step })
      | Device_stopped end step ↦ itself h.prefix h.own h.following n h.is (record { stops = h.stops; works = ap is_of_a_job step })
      | Journal_full first rest step queue full ↦ itself h.prefix h.own h.following n h.is (record { stops = h.stops; works = ap is_of_a_job step })
      | Marks_full first rest step queue full ↦ itself h.prefix h.own h.following n h.is (record { stops = h.stops; works = ap is_of_a_job step })
    ]

-- ### Where no server stops, none boots

none_itself_before : (setting : Setting) (w : World) (prefix following : List Record) → NoneStopsByItself setting w (prefix ++ following)
    → NoneStopsByItself setting w prefix
none_itself_before setting w prefix following none one own other n is stops =
    none one own (other ++ following) n (ap (λ records. records ++ following) is ∙ append_assoc one (own ∷ other) following) stops

record IsPart (own : Record) (records : List Record) : Type 0 where
  prefix : List Record
  following : List Record
  is : records ≡ prefix ++ own ∷ following

part_of : (own : Record) (records : List Record) → In own records → IsPart own records
unfolding In
part_of own [] there = absurd there
part_of own (first ∷ later) (inl e) = record { prefix = []; following = later; is = ap (λ r. r ∷ later) (sym e) }
part_of own (first ∷ later) (inr there) =
    let p = part_of own later there in record { prefix = first ∷ p.prefix; following = p.following; is = ap (λ rs. first ∷ rs) p.is }

-- a server that boots did not run
was_down : (setting : Setting) (w : World) (who : Actor) (end : WorkEnd) → MayActor who (Boot end) setting w
    → (n : ℕ) × (n < setting.servers) × ((w.servers n).life.running ≡ false)
was_down setting w (actor.Server n) end may = (n, may.0, may.1.rests)
was_down setting w (actor.Client c) end may = absurd may.1

none_boots : (script : Script) (records : List Record) → IsSound script → AreSteps script records → NoneIsStopped script.lines
    → NoneStopsByItself (setting_of script) (start (setting_of script)) records → NoneBoots records
none_boots script records sound legal lines itself own there end is =
    let setting = setting_of script in
    let p = part_of own records there in
    let parts = prefix_legal setting (start setting) p.prefix (own ∷ p.following) (subst (AreSteps script) p.is legal) in
    let w = world_after setting (start setting) p.prefix in
    let none = none_itself_before setting (start setting) p.prefix (own ∷ p.following)
    (subst (NoneStopsByItself setting (start setting)) p.is itself) in
    let down = was_down setting w own.actor end (subst (λ what. MayActor own.actor what setting w) is parts.1.0.may.may) in
    true_false (all_run script p.prefix sound parts.0 lines none down.0 down.1) down.2

-- so every server still is In as its first incarnation
pub all_in : (script : Script) (records : List Record) → IsSound script → AreSteps script records → NoneIsStopped script.lines
    → NoneStopsByItself (setting_of script) (start (setting_of script)) records → (n : ℕ) → n < script.servers
    → is_in (chosen_state (setting_of script) (world_after (setting_of script) (start (setting_of script)) records)) n 1 ≡ true
all_in script records sound legal lines itself n low =
    let setting = setting_of script in
    let w = world_after setting (start setting) records in
    let first : (w.servers n).life.inc ≡ 1 = unbooted script records (none_boots script records sound legal lines itself) n in
    let at_start = subst (λ k. is_in (first_state script.servers) n k ≡ true) (sym first) (first_at_start script.servers n low) in
    subst (λ k. is_in (chosen_state setting w) n k ≡ true) first
    (who_runs_is_in script records sound legal n [] (all_run script records sound legal lines itself n low)
    (record { later = chosen_log setting w; is = refl }) at_start)

-- What is kept after a step is that of the world after it.
use Rattle.std.proofs.Common.{◌≡◌, ◌≢◌, ℕ, ◌+◌, ◌≤◌, ◌<◌, List, [], ◌∷◌, ◌++◌, inl, inr, Option, Some, None, refl, sym, ap, ◌∙◌, subst, arith}
use Rattle.std.proofs.lemmas.Bool.{cases_eq}
use Rattle.std.specs.Prelude.{Bool, true, false, if◌then◌else◌, slice_set}
use Rattle.petal_table.specs.Table.{Table}
use Rattle.petal_msg.specs.declared.letter.Actor.{Actor}
use Rattle.petal_msg.specs.declared.letter.Actor.TheVariants as actor
use Rattle.petal_msg.specs.declared.letter.Letter.{Letter}
use Rattle.script_lines.specs.declared.answer.Answer.{Answer}
use Rattle.script_lines.specs.declared.request.Line.{Line}
use Rattle.spec_rules.specs.Lists.{In, put_at}
use Rattle.spec_rules.specs.State.{State, servers_of}
use Rattle.spec_rules.specs.Log.{LogDone, rev_of, state_in}
use Rattle.spec_rules.specs.Server.{JobResult, JobContext, Post, Sender, Server, letters_of, sender}
use Rattle.spec_rules.specs.Ballots.{starts}
use Rattle.spec_rules.specs.Boots.{awake, boots, raised, stays, wakes}
use Rattle.spec_rules.specs.Entries.{applies}
use Rattle.spec_rules.specs.Jobs.{Acted, does, down_posts, entered, faults, glance_sender, glances, here_of, operator, shown, is_log_job}
use Rattle.spec_rules.specs.Jobs.{has_full_log, is_overfull, job_done, log_does, stops, voter_of, wanted_by, worked, works}
use Rattle.spec_rules.specs.Clients.{Reaction, client_sender}
use Rattle.spec_rules.specs.World.{Setting, World, Control, StepResult, MayServer, controls, step, stamped, clock_of, with_answer, client_step}
use Rattle.spec_rules.specs.World.{server_step, next_line, lines_of, client_state, server_state}
use Rattle.spec_rules.specs.declared.job.Job.{Job}
use Rattle.spec_rules.specs.declared.job.Job.TheVariants as job
use Rattle.spec_rules.specs.declared.step.CommitEnd.{CommitEnd}
use Rattle.spec_rules.specs.declared.step.CommitEnd.TheVariants.{Before, After}
use Rattle.spec_rules.specs.declared.step.Step.{Step}
use Rattle.spec_rules.specs.declared.step.Step.TheVariants.{Tick, Work, StopIn, Stop, Boot, Glance}
use Rattle.spec_rules.specs.declared.step.WorkEnd.{WorkEnd}
use Rattle.spec_rules.specs.declared.step.WorkEnd.TheVariants as work_end
use Rattle.spec_rules.proofs.ListLemmas.{in-append, put_same, put_apart}
use Rattle.server_host.specs.declared.name.LetterName.{LetterName}
use Rattle.petal_world.specs.declared.seat.Seat.{Seat}
use Rattle.server_host.specs.Desks.{Desk, Equipped, bare, desk_of, left_of, site_after}
use Rattle.petal_world.specs.Seats.{seat_of, reacted_at}
use Rattle.server_host.specs.Sent.{Lists, with_letters}
use Rattle.server_host.specs.Waiting.{Await}
use Rattle.petal_world.specs.Actors.{Actors, Shows, without_answered, client_letters, with_client, server_letters, with_server}
use Rattle.server_host.proofs.Left.{StepsLeft, allowed, steps_left}
use Rattle.server_host.proofs.Ranges.{set_range, same_range}
use Rattle.server_host.proofs.Letters.{IsPast, lists_all, step_letters_new, of_step}
use Rattle.server_host.proofs.Awaiting.{one_answered}

-- an answer ends its line's waiting
pub answer_kept : (lines : List Line) (given : List (ℕ × Answer)) (rows : Table ℕ ℕ) (answer : Option (ℕ × Answer)) → Await lines given rows
    → Await lines (with_answer answer given) (without_answered rows answer)
answer_kept lines given rows None h = h
answer_kept lines given rows (Some answer) h = one_answered lines given rows h answer.0 answer.1

-- ### Letters of a step

-- letters that one sender posts in a step
pub record ArePosted (who : Actor) (stamp : ℕ) (letters : List Letter) : Type 0 where
  pub sender : Sender
  pub posts : List Post
  pub from : sender.from ≡ who
  pub are : letters ≡ stamped stamp (letters_of sender 0 posts)

-- no letter ever sent is of its sender's future
abbrev pub ArePast : World → Type 0
ArePast w = (letter : Letter) → In letter w.sent → letter.stamp ≤ clock_of w letter.from

past_of : (w : World) (who from : Actor) (stamp : ℕ) → from ≡ who → ArePast w → clock_of w who < stamp → IsPast from stamp 0 w.sent
past_of w who from stamp is past less other m e =
    let clock : clock_of w other.from ≡ clock_of w who = ap (λ a. clock_of w a) (e ∙ is) in
    let le = past other m in
    inl (omega arith)

pub posted_kept : (w : World) (who : Actor) (stamp : ℕ) (rows : Table LetterName Letter) (letters : List Letter) → ArePosted who stamp letters → ArePast w
    → clock_of w who < stamp → Lists rows w.sent
    → Lists (with_letters rows letters) (letters ++ w.sent)
posted_kept w who stamp rows letters posted past less h =
    let new = step_letters_new posted.sender stamp 0 posted.posts w.sent (past_of w who posted.sender.from stamp posted.from past less) in
    subst (λ (ls : List Letter). Lists (with_letters rows ls) (ls ++ w.sent)) (sym posted.are)
    (lists_all (stamped stamp (letters_of posted.sender 0 posted.posts)) rows w.sent h new)

pub posted_past : (w later : World) (who : Actor) (stamp : ℕ) (letters : List Letter) → ArePosted who stamp letters → later.sent ≡ letters ++ w.sent
    → clock_of later who ≡ stamp → ((a : Actor) → clock_of w a ≤ clock_of later a) → ArePast w → ArePast later
posted_past w later who stamp letters posted sent clock grows past letter m =
    elim (in-append letter letters w.sent (subst (λ (ls : List Letter). In letter ls) sent m)) [
      | inl new ↦
          let own = of_step posted.sender stamp 0 posted.posts letter (subst (λ (ls : List Letter). In letter ls) posted.are new) in
          let at : clock_of later letter.from ≡ clock_of later who = ap (λ a. clock_of later a) (own.from ∙ posted.from) in
          let stamped_at = own.at in
          omega arith
      | inr old ↦ let le = past letter old in let more = grows letter.from in omega arith
    ]

-- a clock that is put forward
put_grows : (clocks : ℕ → ℕ) (n stamp : ℕ) → clocks n < stamp → (k : ℕ) → clocks k ≤ put_at clocks n stamp k
put_grows clocks n stamp less k = elim (cases_eq k n) [
  | inl same ↦
      let new : put_at clocks n stamp k ≡ stamp = ap (λ m. put_at clocks n stamp m) same ∙ put_same clocks n stamp in
      let old : clocks k ≡ clocks n = ap clocks same in
      omega arith
  | inr ne ↦ let e = put_apart clocks n stamp k ne in omega arith
]

-- ### A client's step

module _ (setting : Setting) (w : World) (actors : Actors) (h : Shows setting w actors) (c : ℕ) (what : Step) (stamp : ℕ) where
  abbrev seat : Seat
  seat = seat_of setting w c

  abbrev by_client : StepResult
  by_client = step (actor.Client c) what setting w stamp

  client_posts : ArePosted (actor.Client c) stamp (client_letters seat what stamp)
  client_posts = record { sender = client_sender c (reacted_at seat what).0.client; posts = _; from = refl; are = refl }

  client_sent : by_client.world.sent ≡ client_letters seat what stamp ++ w.sent
  unfolding step
  client_sent = refl

  client_clock : clock_of by_client.world (actor.Client c) ≡ stamp
  unfolding step
  client_clock = put_same w.client_clocks c stamp

  client_grows : clock_of w (actor.Client c) < stamp → (a : Actor) → clock_of w a ≤ clock_of by_client.world a
  unfolding step
  client_grows less (actor.Server n) = omega arith
  client_grows less (actor.Client d) = put_grows w.client_clocks c stamp less d

  abbrev reacts_so : Reaction
  reacts_so = client_step what (client_state setting w c) c (w.clients c) (next_line setting.lines c (w.clients c))

  -- the client's own seat is that of the world after
  own_seat : record seat { core = (reacted_at seat what).0; clock = stamp } ≡ seat_of setting by_client.world c
  unfolding step
  own_seat =
      let client : reacts_so.client ≡ put_at w.clients c reacts_so.client c = sym (put_same w.clients c reacts_so.client) in
      let clock : stamp ≡ put_at w.client_clocks c stamp c = sym (put_same w.client_clocks c stamp) in
      λ i. record { core = record { me = c; servers = setting.servers; client = client i }; clock = clock i; lines = lines_of setting.lines c }

  other_seat : (k : ℕ) → k ≢ c → seat_of setting w k ≡ seat_of setting by_client.world k
  unfolding step
  other_seat k ne =
      let client : w.clients k ≡ put_at w.clients c reacts_so.client k = sym (put_apart w.clients c reacts_so.client k ne) in
      let clock : w.client_clocks k ≡ put_at w.client_clocks c stamp k = sym (put_apart w.client_clocks c stamp k ne) in
      λ i. record { core = record { me = k; servers = setting.servers; client = client i }; clock = clock i; lines = lines_of setting.lines k }

  same_desk : (n : ℕ) → desk_of setting w n ≡ desk_of setting by_client.world n
  unfolding step
  same_desk n = refl

  client_waits : Await setting.lines by_client.world.answers (without_answered actors.waiting (reacted_at seat what).1.answer)
  unfolding step
  client_waits = answer_kept setting.lines w.answers actors.waiting (reacted_at seat what).1.answer h.waiting

  client_controls : actors.control ≡ by_client.world.control
  unfolding step
  client_controls = h.control

  -- what is kept after a client's step is that of the world after it
  pub client_shows : c < 9 → clock_of w (actor.Client c) < stamp → Shows setting by_client.world (with_client actors c seat what stamp)
  client_shows within less = record {
    seats = ap (λ seats. slice_set seats c (record seat { core = (reacted_at seat what).0; clock = stamp })) h.seats
        ∙ set_range (seat_of setting w) (seat_of setting by_client.world) 9 c _ within own_seat other_seat;
    desks = h.desks ∙ same_range (desk_of setting w) (desk_of setting by_client.world) setting.servers same_desk;
    sent = subst (λ (ls : List Letter). Lists (with_letters actors.sent (client_letters seat what stamp)) ls) (sym client_sent)
        (posted_kept w (actor.Client c) stamp actors.sent (client_letters seat what stamp) client_posts h.past less h.sent);
    waiting = client_waits;
    control = client_controls;
    past = posted_past w by_client.world (actor.Client c) stamp (client_letters seat what stamp) client_posts client_sent client_clock
        (client_grows less) h.past;
  }

  pub client_gives : (by_client.letters ≡ client_letters seat what stamp) × (by_client.answer ≡ (reacted_at seat what).1.answer)
  unfolding step
  client_gives = (refl, refl)

-- ### A server's step

by_kind : (b : Bool) (here : JobContext) (server : Server) (rest : List Job) (log : LogDone) (done : JobResult) (stamp : ℕ)
    → ArePosted (actor.Server here.me) stamp (stamped stamp (if b then entered here server rest log else worked here server rest done).letters)
by_kind true here server rest log done stamp = record { sender = sender here; posts = log.posts; from = refl; are = refl }
by_kind false here server rest log done stamp = record { sender = sender here; posts = done.posts; from = refl; are = refl }

done_posts : (first : Job) (here : JobContext) (server : Server) (rest : List Job) (stamp : ℕ)
    → ArePosted (actor.Server here.me) stamp (stamped stamp (job_done here server first rest).letters)
done_posts job.Apply here server rest stamp = record { sender = sender here; posts = (applies server.log).posts; from = refl; are = refl }
done_posts (job.Letter letter) here server rest stamp =
    by_kind (is_log_job (job.Letter letter)) here server rest (log_does (voter_of here) server.log (job.Letter letter))
    (does here server.own (job.Letter letter)) stamp
done_posts (job.Stage cell) here server rest stamp =
    by_kind (is_log_job (job.Stage cell)) here server rest (log_does (voter_of here) server.log (job.Stage cell)) (does here server.own (job.Stage cell)) stamp
done_posts (job.Repair link) here server rest stamp =
    by_kind (is_log_job (job.Repair link)) here server rest (log_does (voter_of here) server.log (job.Repair link))
    (does here server.own (job.Repair link)) stamp
done_posts job.Sweep here server rest stamp =
    by_kind (is_log_job job.Sweep) here server rest (log_does (voter_of here) server.log job.Sweep) (does here server.own job.Sweep) stamp
done_posts job.Start here server rest stamp =
    record { sender = sender here; posts = (starts (voter_of here) server.log (wanted_by here server)).posts; from = refl; are = refl }

stop_posts : (here : JobContext) (server : Server) (stamp : ℕ) → ArePosted (actor.Server here.me) stamp (stamped stamp (stops here server).letters)
stop_posts here server stamp = record { sender = record { from = actor.Server here.me; inc = here.inc; rev = 0 }; posts = _; from = refl; are = refl }

-- a full journal stops the server
room_posts : (full : Bool) (here : JobContext) (server : Server) (acted : Acted) (stamp : ℕ)
    → ArePosted (actor.Server here.me) stamp (stamped stamp acted.letters)
    → ArePosted (actor.Server here.me) stamp (stamped stamp (if full then stops here server else acted).letters)
room_posts true here server acted stamp posted = stop_posts here server stamp
room_posts false here server acted stamp posted = posted

fault_posts : (end : CommitEnd) (here : JobContext) (server : Server) (queue : List Job) (stamp : ℕ)
    → ArePosted (actor.Server here.me) stamp (stamped stamp (faults here server queue end).letters)
fault_posts Before here server queue stamp = stop_posts here server stamp
fault_posts After here server queue stamp = stop_posts here (works here server queue).server stamp

-- a server that boots tells of the incarnation before, where its journal has room
woken_posts : (full : Bool) (here : JobContext) (server : Server) (stamp : ℕ)
    → ArePosted (actor.Server here.me) stamp (stamped stamp (if full then stays server else wakes here (awake (raised server))).letters)
woken_posts true here server stamp = record { sender = sender here; posts = []; from = refl; are = refl }
woken_posts false here server stamp = record {
  sender = record { from = actor.Server here.me; inc = server.life.inc + 1; rev = rev_of (awake (raised server)).log };
  posts = down_posts here.me here.inc (servers_of here.state);
  from = refl;
  are = refl;
}

boot_posts : (end : WorkEnd) (here : JobContext) (server : Server) (stamp : ℕ)
    → ArePosted (actor.Server here.me) stamp (stamped stamp (boots here server end).letters)
boot_posts work_end.Done here server stamp = woken_posts (has_full_log (raised server)) here server stamp
boot_posts (work_end.Fault Before) here server stamp = record { sender = sender here; posts = []; from = refl; are = refl }
boot_posts (work_end.Fault After) here server stamp = record { sender = sender here; posts = []; from = refl; are = refl }

glance_from : (running : Bool) (here : JobContext)
    → (if running then sender here else record { from = actor.Server here.me; inc = 0; rev = 0 }).from ≡ actor.Server here.me
glance_from true here = refl
glance_from false here = refl

glance_posts : (line round : ℕ) (here : JobContext) (server : Server) (stamp : ℕ)
    → ArePosted (actor.Server here.me) stamp (stamped stamp (glances here line round server).letters)
glance_posts line round here server stamp = record {
  sender = glance_sender here server;
  posts = record { to = actor.Client operator; body = shown line round server } ∷ [];
  from = glance_from server.life.running here;
  are = refl;
}

work_posts : (queue : List Job) (state : State) (n stamp : ℕ) (server : Server)
    → ArePosted (actor.Server n) stamp (stamped stamp (works (here_of state n server) server queue).letters)
work_posts [] state n stamp server = record { sender = sender (here_of state n server); posts = []; from = refl; are = refl }
work_posts (first ∷ rest) state n stamp server =
    let here = here_of state n server in
    room_posts (is_overfull (job_done here server first rest).server) here server (job_done here server first rest) stamp
    (done_posts first here server rest stamp)

server_posts : (what : Step) (state : State) (n stamp : ℕ) (server : Server)
    → ArePosted (actor.Server n) stamp (stamped stamp (server_step what state n server).letters)
server_posts Tick state n stamp server = record { sender = sender (here_of state n server); posts = _; from = refl; are = refl }
server_posts (Work work_end.Done) state n stamp server = work_posts server.queue state n stamp server
server_posts (Work (work_end.Fault end)) state n stamp server = fault_posts end (here_of state n server) server server.queue stamp
server_posts (StopIn end) state n stamp server = fault_posts end (here_of state n server) server server.queue stamp
server_posts Stop state n stamp server = stop_posts (here_of state n server) server stamp
server_posts (Boot end) state n stamp server = boot_posts end (here_of state n server) server stamp
server_posts (Glance line round) state n stamp server = glance_posts line round (here_of state n server) server stamp
server_posts _ state n stamp server = record { sender = sender (here_of state n server); posts = []; from = refl; are = refl }

module _ (setting : Setting) (w : World) (actors : Actors) (h : Shows setting w actors) (n : ℕ) (what : Step) (stamp : ℕ)
    (may : MayServer what setting w n) where
  abbrev desk : Desk
  desk = desk_of setting w n

  abbrev by_server : StepResult
  by_server = step (actor.Server n) what setting w stamp

  abbrev acts_so : Acted
  acts_so = server_step what (server_state setting w n) n (w.servers n)

  -- what is left of the server shows the step as the server does
  left : StepsLeft setting.servers n (w.servers n) what
  left = steps_left setting.servers n (w.servers n) what (allowed setting w n what may)

  own_letters : stamped stamp acts_so.letters ≡ server_letters desk what stamp
  own_letters = ap (λ (letters : List Letter). stamped stamp letters) (sym left.letters)

  server_sent : by_server.world.sent ≡ server_letters desk what stamp ++ w.sent
  unfolding step
  server_sent = ap (λ (letters : List Letter). letters ++ w.sent) own_letters

  server_clock : clock_of by_server.world (actor.Server n) ≡ stamp
  unfolding step
  server_clock = put_same w.server_clocks n stamp

  server_grows : clock_of w (actor.Server n) < stamp → (a : Actor) → clock_of w a ≤ clock_of by_server.world a
  unfolding step
  server_grows less (actor.Client d) = omega arith
  server_grows less (actor.Server m) = put_grows w.server_clocks n stamp less m

  own_desk : record { site = site_after desk.site what; clock = stamp } ≡ desk_of setting by_server.world n
  unfolding step
  own_desk =
      let server = left.left ∙ ap (λ (s : Server). left_of s) (sym (put_same w.servers n acts_so.server)) in
      let clock : stamp ≡ put_at w.server_clocks n stamp n = sym (put_same w.server_clocks n stamp) in
      λ i. record { site = record { me = n; servers = setting.servers; server = server i }; clock = clock i }

  other_desk : (k : ℕ) → k ≢ n → desk_of setting w k ≡ desk_of setting by_server.world k
  unfolding step
  other_desk k ne =
      let server : w.servers k ≡ put_at w.servers n acts_so.server k = sym (put_apart w.servers n acts_so.server k ne) in
      let clock : w.server_clocks k ≡ put_at w.server_clocks n stamp k = sym (put_apart w.server_clocks n stamp k ne) in
      λ i. record { site = record { me = k; servers = setting.servers; server = left_of (server i) }; clock = clock i }

  same_seat : (c : ℕ) → seat_of setting w c ≡ seat_of setting by_server.world c
  unfolding step
  same_seat c = refl

  server_waits : Await setting.lines by_server.world.answers actors.waiting
  unfolding step
  server_waits = h.waiting

  server_controls : controls what n actors.control ≡ by_server.world.control
  unfolding step
  server_controls = ap (λ (own : Control). controls what n own) h.control

  abbrev posts : ArePosted (actor.Server n) stamp (server_letters desk what stamp)
  posts = server_posts what (state_in setting.servers (left_of (w.servers n)).log) n stamp (left_of (w.servers n))

  -- what is kept after a server's step is that of the world after it
  pub server_shows : (desks : List Equipped) → bare desks ≡ slice_set (bare actors.desks) n (record { site = site_after desk.site what; clock = stamp })
      → n < setting.servers → clock_of w (actor.Server n) < stamp → Shows setting by_server.world (with_server actors n desk what stamp desks)
  server_shows desks are within less = record {
    seats = h.seats ∙ same_range (seat_of setting w) (seat_of setting by_server.world) 9 same_seat;
    desks = are ∙ ap (λ desks. slice_set desks n (record { site = site_after desk.site what; clock = stamp })) h.desks
        ∙ set_range (desk_of setting w) (desk_of setting by_server.world) setting.servers n _ within own_desk other_desk;
    sent = subst (λ (ls : List Letter). Lists (with_letters actors.sent (server_letters desk what stamp)) ls) (sym server_sent)
        (posted_kept w (actor.Server n) stamp actors.sent (server_letters desk what stamp) posts h.past less h.sent);
    waiting = server_waits;
    control = server_controls;
    past = posted_past w by_server.world (actor.Server n) stamp (server_letters desk what stamp) posts server_sent server_clock (server_grows less) h.past;
  }

  pub server_gives : (by_server.letters ≡ server_letters desk what stamp) × (by_server.answer ≡ None)
  unfolding step
  server_gives = (own_letters, refl)

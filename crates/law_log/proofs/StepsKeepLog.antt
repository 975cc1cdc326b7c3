-- Each legal step keeps what is kept, from the start on.
use Rattle.law_log.proofs.Imports.{[], ◌++◌, ◌+◌, ◌<◌, ◌∷◌, ◌≡◌, ◌≤◌, Accepted, Actor, Among, AreStepsFrom, Asked, Ballot, Body, Call, Client, Command}
use Rattle.law_log.proofs.Imports.{Deliver, In, Inc, IsAnnounced, Letter, Line, List, MayActor, MayClient, Pax, Reaction, Record, Setting, Some, Step, Tick}
use Rattle.law_log.proofs.Imports.{all_put_apart, ap, arith, begin, calls, client_sender, client_state, client_step, in-append, in_later, inl, inr, less_by}
use Rattle.law_log.proofs.Imports.{less_test, next_line, none_some, put_same, reacts, refl, run, server_state, server_step, slice_get, stamped, start, step}
use Rattle.law_log.proofs.Imports.{stepped, subst, sym, world_after, ℕ}
use Rattle.spec_rules.specs.Server.{letters_of}
use Rattle.spec_rules.specs.World.{World}
use Rattle.law_log.specs.AgreedLog.{IsBacked, IsCalledAnywhere, IsSaidBy, IsOpen, Logged, Minded}
use Rattle.law_log.specs.ProposedCommands.{IsRequested, calls_in}
use Rattle.law_log.proofs.ClientStepsKeepLog.{IsFine, Reacts, IsOf, IsClients, calls_so, hears_so, ticks_so}
use Rattle.law_log.proofs.OneCommandEachPlace.{IsFair, scripted_anywhere}
use Rattle.law_log.proofs.ServerStepsKeepLog.{server_steps}
use Rattle.law_log.proofs.ScheduleTurns.{backed_more}
use Rattle.law_log.proofs.ServersKeepWorlds.{AllRemember, Goes, Remembers, called_more, may_more, posted_by, same_life, started_same}
use Rattle.petal_msg.specs.declared.body.Body.TheVariants as body
use Rattle.petal_msg.specs.declared.letter.Actor.TheVariants as actor
use Rattle.spec_paxos.specs.Schedule as schedule

-- ### A client's step

requested_more : (lines : List Line) (a b : ℕ → ℕ) → ((c : ℕ) → a c ≤ b c) → (command : Command) → IsRequested lines a command → IsRequested lines b command
requested_more lines a b le command r = record {
  client = r.client;
  before = r.before;
  line = r.line;
  is = r.is;
  so = r.so;
  past = (let f = le r.client in let g = r.past in omega arith);
}

clients_backed : (p : schedule.World) (PairState Good : Command → Type 0) (Said : Pax → Type 0) → ((c : Command) → PairState c → Good c) → (what : Body)
    → IsClients PairState what → IsBacked p Good Said what
clients_backed p PairState Good Said good (body.Down server inc) h = absurd h
clients_backed p PairState Good Said good (body.Propose command) h = good command h
clients_backed p PairState Good Said good (body.Pax said) h = absurd h
clients_backed p PairState Good Said good (body.News after commands) h = absurd h
clients_backed p PairState Good Said good _ h = tt

module _ {Was : Minded} (setting : Setting) (w : World) (l : Logged Was setting w) (c stamp : ℕ) where
  abbrev P : schedule.World
  P = run setting.servers l.events begin

  abbrev Told : ℕ → Command → Type 0
  Told place command = IsAnnounced P place command

  abbrev After : Reaction → World
  After reacted = (reacts w c stamp reacted).world

  client_goes : (reacted : Reaction) → Reacts Told setting.lines c (w.clients c).seq reacted → Goes Was setting w (After reacted)
  client_goes reacted r =
      let called : (d : ℕ) → calls_in w d ≤ calls_in (After reacted) d =
      all_put_apart w.clients c reacted.client (λ d (x : Client). (w.clients d).seq ≤ x.seq) (λ d ne. omega arith) r.later in
      let more : (command : Command) → IsCalledAnywhere setting w command → IsCalledAnywhere setting (After reacted) command =
      called_more setting w (After reacted) (requested_more setting.lines (calls_in w) (calls_in (After reacted)) called)
      (λ s. same_life (w.servers s).life) in
      let now : calls_in (After reacted) c ≡ reacted.client.seq = ap (λ (x : Client). x.seq) (put_same w.clients c reacted.client) in
      record {
        grown = λ s place ballot command i. i;
        logged = record {
          events = l.events;
          is = record {
            servers = l.is.servers;
            known = l.is.known;
            incs = l.is.incs;
            first = l.is.first;
            busy = l.is.busy;
            low = l.is.low;
            sent = λ letter i. elim (in-append letter (stamped stamp (letters_of (client_sender c reacted.client) 0 reacted.posts)) w.sent i) [
              | inl new ↦ (
                  let post = posted_by (client_sender c reacted.client) stamp 0 reacted.posts letter new in
                  let backed = clients_backed P (IsOf setting.lines c reacted.client.seq) (IsCalledAnywhere setting (After reacted)) (IsSaidBy P letter.from)
                  (λ command o. scripted_anywhere setting (After reacted) command (record {
                    client = c;
                    before = o.before;
                    line = o.line;
                    is = o.is;
                    so = o.so;
                    past =
                        subst (λ k. o.before < k) (sym now) o.past;
                  }))
                  post.0.body (r.posts post.0 post.1) in
                  subst (IsBacked P (IsCalledAnywhere setting (After reacted)) (IsSaidBy P letter.from)) (sym post.2) backed)
              | inr old ↦ backed_more P P _ _ (IsSaidBy P letter.from) (IsSaidBy P letter.from) (λ x i. i) more (λ said h. h) letter.body (l.is.sent letter old)
            ];
            wanted = λ place command h.
                may_more setting w (After reacted) w.servers w.servers P P more (λ s. started_same (w.servers s)) (λ x i. i) place command
                (l.is.wanted place command h);
            wants = λ s command i. more command (l.is.wants s command i);
            leaves = λ s command i. more command (l.is.leaves s command i);
            queued = λ s letter i. in_later letter _ w.sent (l.is.queued s letter i);
            applied = all_put_apart w.clients c reacted.client (λ d (x : Client). (i : ℕ) (command : Command) → slice_get x.applied i ≡ Some command
                → IsAnnounced P (i + 1) command)
                (λ d ne. l.is.applied d) r.fine.applied;
            asked = all_put_apart w.clients c reacted.client (λ d (x : Client). (asked : Asked) → x.asked ≡ Some asked → IsOpen setting.lines d x.seq asked)
                (λ d ne. l.is.asked d) r.fine.asked;
          };
        };
      }

  fine_now : IsFine Told setting.lines c (w.clients c)
  fine_now = record { applied = l.is.applied c; asked = l.is.asked c }

  news_told : (letter : Letter) → Among letter w.sent → (after : ℕ) (commands : List Command) → letter.body ≡ body.News after commands
      → (i : ℕ) (command : Command) → slice_get commands i ≡ Some command → Told (after + i + 1) command
  news_told letter i after commands e = subst (IsBacked P (IsCalledAnywhere setting w) (IsSaidBy P letter.from)) e (l.is.sent letter i)

  client_steps : (what : Step) → MayClient what setting w c
      → Goes Was setting w (After (client_step what (client_state setting w c) c (w.clients c) (next_line setting.lines c (w.clients c))))
  client_steps (Call number) may =
      client_goes _
      (subst (λ line. Reacts Told setting.lines c (w.clients c).seq (calls (client_state setting w c) c (w.clients c) line)) (sym may.next)
      (calls_so Told setting.lines c (client_state setting w c) (w.clients c) fine_now may.line may.next))
  client_steps (Deliver letter) may =
      client_goes _ (hears_so Told setting.lines c (client_state setting w c) (w.clients c) fine_now letter (news_told letter may.sent))
  client_steps Tick may = client_goes _ (ticks_so Told setting.lines c (client_state setting w c) (w.clients c) fine_now)
  client_steps _ may = absurd may

-- ### A step, and a history

pub step_goes : {Was : Minded} (setting : Setting) → IsFair setting → (w : World) → Logged Was setting w → (who : Actor) (what : Step) (stamp : ℕ)
    → MayActor who what setting w → AllRemember Was setting.servers w (step who what setting w stamp).world
    → Goes Was setting w (step who what setting w stamp).world
unfolding step
step_goes {Was} setting fair w l (actor.Server n) what stamp may remember =
    server_steps fair w l n stamp may.0 what may.1
    (subst (Remembers Was setting.servers n (w.servers n))
    (put_same w.servers n (server_step what (server_state setting w n) n (w.servers n)).server) (remember n))
step_goes setting fair w l (actor.Client c) what stamp may remember = client_steps setting w l c stamp what may.1

-- each step remembers
pub history_goes : {Was : Minded} (setting : Setting) → IsFair setting → (records : List Record) (w : World) → Logged Was setting w
    → AreStepsFrom setting w records → ((before : List Record) (own : Record) (later : List Record) → records ≡ before ++ own ∷ later
    → AllRemember Was setting.servers (world_after setting w before) (world_after setting w (before ++ own ∷ [])))
    → Goes Was setting w (world_after setting w records)
history_goes setting fair [] w l legal remember = record { logged = l; grown = λ s place ballot command i. i }
history_goes setting fair (own ∷ later) w l legal remember =
    let first = step_goes setting fair w l own.actor own.step own.stamp legal.0.may.may (remember [] own later refl) in
    let rest = history_goes setting fair later (stepped setting w own).world first.logged legal.1
    (λ before last end is. remember (own ∷ before) last end (ap (λ xs. own ∷ xs) is)) in
    record { logged = rest.logged; grown = λ s place ballot command i. rest.grown s place ballot command (first.grown s place ballot command i) }

-- ### The start

no_vote : {B : Type 0} (place : ℕ) (ballot : Ballot) (command : Command) → In (Accepted place ballot command) (Inc 1 ∷ []) → B
unfolding In
no_vote place ballot command (inl e) = let f : Accepted place ballot command ≡ Inc 1 = e in absurd cc
no_vote place ballot command (inr h) = absurd h

pub start_logged : {Was : Minded} (setting : Setting) → Logged Was setting (start setting)
unfolding In Among
start_logged setting = record {
  events = [];
  is = record {
    servers = λ s. record {
      acceptors = λ place. refl;
      known = λ place. refl;
      inc = refl;
      votes = λ place ballot command. (λ h. absurd h, λ h. no_vote place ballot command h);
      told = λ place command e. none_some refl e;
      applied = λ i command e. none_some refl e;
    };
    known = λ s e. less_by s setting.servers e;
    incs = λ s. refl;
    first = λ s. omega arith;
    busy = λ s lt. record { proposer = (less_test s setting.servers lt, tt); asked = tt };
    low = record { acceptors = λ s place ballot e. none_some refl e; letters = λ from said h. absurd h };
    sent = λ letter h. absurd h;
    wanted = λ place command h. absurd h;
    wants = λ s command h. absurd h;
    leaves = λ s command h. absurd h;
    queued = λ s letter h. absurd h;
    applied = λ c i command e. none_some refl e;
    asked = λ c asked e. none_some refl e;
  };
}

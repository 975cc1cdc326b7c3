-- What is kept of a world is kept by what one server does.
use Rattle.law_log.proofs.Imports.{[], ◌++◌, ◌+◌, ◌<◌, ◌∙◌, ◌∷◌, ◌≡◌, ◌≤◌, ◌⊎◌, Accepted, Actor, Among, Ballot, Caught, Command, Drained, Event, HasFlag, In}
use Rattle.law_log.proofs.Imports.{IsWanted, Job, JobContext, Join, Leave, Letter, Life, LinkId, LinkRow, List, LogDone, Moved, None, PairState, Pax, Sender}
use Rattle.law_log.proofs.Imports.{Sent, Server, Setting, Some, State, Step, acts, all_put_apart, ap, arith, begin, devices, false, fill_of, has_held_write}
use Rattle.law_log.proofs.Imports.{here_of, in-append, in_later, inc_of, inl, inr, is_flagged, is_in, length, letters_of, link_at, put_at, refl}
use Rattle.law_log.proofs.Imports.{region_to_move, run, run-append, sent, server_state, stamped, state_after, subst, sym, true, ℕ}
use Rattle.law_log.proofs.OneCommandEachPlace.{IsFair}
use Rattle.spec_rules.specs.Posts.{Post}
use Rattle.spec_rules.specs.World.{World}
use Rattle.law_log.specs.AgreedLog.{Catches, IsCalledAnywhere, IsSeenAt, IsBusyAs, IsBacked, IsSaidBy, IsLogged, Logged, MayWant, Minded, Drains, Moves}
use Rattle.law_log.specs.AgreedLog.{Returns, Waits}
use Rattle.law_log.specs.ProposedCommands.{HasStopped, IsCalledFor, IsOfLives, IsScripted}
use Rattle.law_log.proofs.ScheduleTurns.{Turns, HasTurn, seen_apart, busy_same, told_more, reached_more, backed_more, wanted_on}
use Rattle.petal_msg.specs.declared.letter.Actor.TheVariants as actor
use Rattle.spec_paxos.specs.Schedule as schedule
use Rattle.spec_rules.specs.declared.job.Job.TheVariants as job

-- ### Letters of a step

pub posted_by : (who : Sender) (stamp nth : ℕ) (posts : List Post) (letter : Letter) → Among letter (stamped stamp (letters_of who nth posts))
    → (post : Post) × Among post posts × (letter.body ≡ post.body) × (letter.from ≡ who.from)
unfolding Among
posted_by who stamp nth [] letter h = absurd h
posted_by who stamp nth (post ∷ posts) letter (inl e) = (post, inl refl, ap (λ (l : Letter). l.body) e, ap (λ (l : Letter). l.from) e)
posted_by who stamp nth (post ∷ posts) letter (inr h) = let later = posted_by who stamp (nth + 1) posts letter h in (later.0, inr later.1, later.2, later.3)

pub said_more : (p q : schedule.World) → ((x : Sent) → In x p.letters → In x q.letters) → (who : Actor) (said : Pax) → IsSaidBy p who said → IsSaidBy q who said
said_more p q more (actor.Server n) said h = more _ h
said_more p q more (actor.Client c) said h = tt

-- ### What a step leaves

-- each vote stays
abbrev pub IsGrown : World → World → Type 0
IsGrown w v = (s place : ℕ) (ballot : Ballot) (command : Command) → In (Accepted place ballot command) (devices w s)
    → In (Accepted place ballot command) (devices v s)

pub record Goes (Was : Minded) (setting : Setting) (w v : World) : Type 0 where
  pub logged : Logged Was setting v
  pub grown : IsGrown w v

-- a life goes on, or is over, or the next one has begun
pub record IsLaterLife (before later : Life) : Type 0 where
  pub inc : before.inc ≤ later.inc
  pub over : before.running ≡ false → (later.running ≡ false) ⊎ (before.inc < later.inc)

stopped_more : (w v : World) (server inc : ℕ) → IsLaterLife (w.servers server).life (v.servers server).life → HasStopped w server inc → HasStopped v server inc
stopped_more w v server inc later (inl h) = elim (later.over h.0) [
  | inl over ↦ inl (over, let e = later.inc in let le = h.1 in omega arith)
  | inr raised ↦ inr (let le = h.1 in omega arith)
]
stopped_more w v server inc later (inr lt) = inr (let e = later.inc in omega arith)

lives_more : (w v : World) → ((s : ℕ) → IsLaterLife (w.servers s).life (v.servers s).life) → (c : Command) → IsOfLives w c → IsOfLives v c
lives_more w v later (Leave server inc) h = stopped_more w v server inc (later server) h
lives_more w v later (Join server inc blank) h = (h.0, (let e = (later server).inc in let le = h.1 in omega arith))
lives_more w v later _ h = absurd h

called_for_more : (setting : Setting) (w v : World) → ((c : Command) → IsScripted setting w c → IsScripted setting v c)
    → ((s : ℕ) → IsLaterLife (w.servers s).life (v.servers s).life) → (c : Command) → IsCalledFor setting w c → IsCalledFor setting v c
called_for_more setting w v more later c (inl h) = inl (more c h)
called_for_more setting w v more later c (inr h) = inr (lives_more w v later c h)

pub called_more : (setting : Setting) (w v : World) → ((c : Command) → IsScripted setting w c → IsScripted setting v c)
    → ((s : ℕ) → IsLaterLife (w.servers s).life (v.servers s).life) → (c : Command) → IsCalledAnywhere setting w c → IsCalledAnywhere setting v c
called_more setting w v more later c h = (called_for_more setting w v more later c h.0, h.1)

-- a ballot that a server has started for a Caught it has in mind, or its incarnation is over
abbrev pub KeepsStarted : (before later : Server) → Type 0
KeepsStarted before later =
    (before.life.inc < later.life.inc) ⊎ ((before.life.inc ≡ later.life.inc) × ((rev : ℕ) (id : LinkId) → HasFlag before rev id → HasFlag later rev id))

pub started_same : (server : Server) → KeepsStarted server server
started_same server = inr (refl, λ rev id h. h)

started_by : (before later : Server) → KeepsStarted before later → (inc rev : ℕ) (id : LinkId)
    → (inc < before.life.inc) ⊎ ((inc ≡ before.life.inc) × HasFlag before rev id) → (inc < later.life.inc) ⊎ ((inc ≡ later.life.inc) × HasFlag later rev id)
started_by before later (inl lt) inc rev id (inl h) = inl (omega arith)
started_by before later (inl lt) inc rev id (inr h) = let e = h.0 in inl (omega arith)
started_by before later (inr kept) inc rev id (inl h) = let e = kept.0 in inl (omega arith)
started_by before later (inr kept) inc rev id (inr h) = inr (h.0 ∙ kept.0, kept.1 rev id h.1)

begun_by : (before later : Server) → KeepsStarted before later → (inc : ℕ) → inc ≤ before.life.inc → inc ≤ later.life.inc
begun_by before later (inl lt) inc le = omega arith
begun_by before later (inr kept) inc le = let e = kept.0 in omega arith

returns_more : (servers : ℕ) (actors later : ℕ → Server) → ((s : ℕ) → KeepsStarted (actors s) (later s)) → (prefix : List Command) (c : Command)
    → Returns servers actors prefix c → Returns servers later prefix c
returns_more servers actors later keeps prefix (Join server inc blank) h =
    record { may = h.may; later = h.later; begun = begun_by (actors server) (later server) (keeps server) inc h.begun }
returns_more servers actors later keeps prefix (Caught of link holder inc other other_inc) h = record {
  may = h.may;
  holds = h.holds;
  joins = h.joins;
  started = started_by (actors holder) (later holder) (keeps holder) inc (length prefix) (record { map = of; link = link }) h.started;
}
returns_more servers actors later keeps prefix (Drained server inc fence) h = h
returns_more servers actors later keeps prefix (Moved of region link) h = h
returns_more servers actors later keeps prefix _ h = absurd h

pub may_more : {Was : Minded} (setting : Setting) (w v : World) (actors later : ℕ → Server) (p q : schedule.World)
    → ((c : Command) → IsCalledAnywhere setting w c → IsCalledAnywhere setting v c)
    → ((s : ℕ) → KeepsStarted (actors s) (later s)) → ((x : Sent) → In x p.letters → In x q.letters) → (place : ℕ) (c : Command)
    → MayWant Was setting w actors p place c → MayWant Was setting v later q place c
may_more setting w v actors later p q more keeps letters place c h = (
  elim h.0 [
    | inl called ↦ inl (more c called)
    | inr returns ↦ inr (record {
      prefix = returns.prefix;
      told = record { many = returns.told.many; told = λ i d e. told_more p q letters (i + 1) d (returns.told.told i d e) };
      is = returns_more setting.servers actors later keeps returns.prefix c returns.is;
      was = returns.was;
    })
  ],
  reached_more p q letters place h.1,
)

-- a server that is In as itself is to move the region of a link, and has nothing left of it
pub record HasMoved (state : State) (server inc : ℕ) (own : PairState) (row : LinkRow) (region : ℕ) : Type 0 where
  pub seated : is_in state server inc ≡ true
  pub linked : link_at state.links row.map row.link ≡ Some row
  pub moves : region_to_move state server row ≡ Some region
  pub left : fill_of state server row own ≡ None

-- of a step of the server it is remembered whether its store waited to be filled before, that nothing was under way before that the active
-- fence held, of which links it had moved all, and each ballot for a Caught that it has in mind after
pub record Remembers (Was : Minded) (servers n : ℕ) (before later : Server) : Type 0 where
  pub waits : before.life.running ≡ true → Was n before.life.inc before.log.applied (Waits before.own.store.fresh)
  pub drains : before.life.running ≡ true → has_held_write (state_after servers before.log.applied) before.own ≡ false
      → Was n before.life.inc before.log.applied Drains
  pub moves : before.life.running ≡ true → (row : LinkRow) (region : ℕ)
      → HasMoved (state_after servers before.log.applied) n before.life.inc before.own row region
      → Was n before.life.inc before.log.applied (Moves row.map region row.link)
  pub catches : (id : LinkId) → is_flagged later.own id ≡ true → Was n later.life.inc later.log.applied (Catches id)

abbrev pub AllRemember : Minded → (servers : ℕ) → (before later : World) → Type 0
AllRemember Was servers w v = (n : ℕ) → Remembers Was servers n (w.servers n) (v.servers n)

pub same_life : (life : Life) → IsLaterLife life life
same_life life = record { inc = omega arith; over = λ e. inl e }

-- a server after a step, as a schedule has it
pub record Acts (Was : Minded) (setting : Setting) (w : World) (p : schedule.World) (n : ℕ) (to : Server) (posts : List Post) : Type 0 where
  pub life : IsLaterLife (w.servers n).life to.life
  pub incs : inc_of to.log.records ≡ to.life.inc
  pub wants : (c : Command) → Among c to.log.wants → IsCalledAnywhere setting w c
  pub leaves : (c : Command) → Among c to.log.leaves → IsCalledAnywhere setting w c
  pub queued : (letter : Letter) → Among (job.Letter letter) to.queue → Among letter w.sent
  pub started : KeepsStarted (w.servers n) to
  pub turn : HasTurn setting.servers n to.life.running to.log posts p (MayWant Was setting w (put_at w.servers n to) p)

-- a step of a server, after a world that is logged
pub record ServerStep : Type 1 where
  pub Was : Minded
  pub setting : Setting
  pub fair : IsFair setting
  pub w : World
  pub l : Logged Was setting w
  pub n : ℕ
  pub stamp : ℕ
  pub member : n < setting.servers
  pub what : Step

abbrev pub server_at : {Was : Minded} {setting : Setting} → IsFair setting → {w : World} → Logged Was setting w → (n stamp : ℕ) → n < setting.servers → Step
    → ServerStep
server_at {Was} {setting} fair {w} l n stamp member what =
    record { Was = Was; setting = setting; fair = fair; w = w; l = l; n = n; stamp = stamp; member = member; what = what }

-- the world of its schedule; where the server is; what may be wanted, where the step leaves the server so; and what a job of the log leaves,
-- whatever it does to the pairs
pub record Before : Type 1 where
  pub P : schedule.World
  pub here : JobContext
  pub Good : Server → ℕ → Command → Type 0
  pub left : LogDone → PairState → List Job → Server

abbrev pub before_of : ServerStep → Before
before_of it = record {
  P = run it.setting.servers it.l.events begin;
  here = here_of (server_state it.setting it.w it.n) it.n (it.w.servers it.n);
  Good = λ to. MayWant it.Was it.setting it.w (put_at it.w.servers it.n to) (run it.setting.servers it.l.events begin);
  left = λ done own queue. record (it.w.servers it.n) { log = done.log; own = own; queue = queue };
}

module _ (it : ServerStep) (who : Sender) (own : who.from ≡ actor.Server it.n) where
  open it use {Was, setting, w, l, n, stamp, member, what}
  open before_of it use {P}

  module _ (posts others : List Post) (to : Server) (acted : Acts Was setting w P n to others) where
    open acted use {life, incs, wants, leaves, queued, started}

    abbrev After : World
    After = (acts setting w n what stamp (record { server = to; letters = letters_of who 0 posts })).world

    lives : (s : ℕ) → IsLaterLife (w.servers s).life (After.servers s).life
    lives = all_put_apart w.servers n to (λ s (x : Server). IsLaterLife (w.servers s).life x.life) (λ s ne. same_life (w.servers s).life) life

    pub more : (c : Command) → IsCalledAnywhere setting w c → IsCalledAnywhere setting After c
    more = called_more setting w After (λ c h. h) lives

    keeps_started : (s : ℕ) → KeepsStarted (w.servers s) (After.servers s)
    keeps_started = all_put_apart w.servers n to (λ s (x : Server). KeepsStarted (w.servers s) x) (λ s ne. started_same (w.servers s)) started

    pub kept_by : (new : List Event) (q : schedule.World)
        → ((place : ℕ) (c : Command) → IsWanted new place c → MayWant Was setting w (put_at w.servers n to) P place c)
        → Turns setting.servers n to.life.running to.log others P q
        → ((post : Post) → Among post posts → IsBacked q (IsCalledAnywhere setting After) (λ said. In (sent n said) q.letters) post.body)
        → IsLogged Was setting After (l.events ++ new) q
    kept_by new q wanted t posted = record {
      servers = all_put_apart w.servers n to (λ s (x : Server). IsSeenAt s x.log.records x.log.applied q)
          (λ s ne. seen_apart s n (w.servers s).log.records (w.servers s).log.applied P q ne t.apart (l.is.servers s)) t.seen;
      known = all_put_apart w.servers n to (λ s (x : Server). x.life.running ≡ true → s < setting.servers) (λ s ne. l.is.known s) (λ e. member);
      incs = all_put_apart w.servers n to (λ s (x : Server). inc_of x.log.records ≡ x.life.inc) (λ s ne. l.is.incs s) incs;
      first = all_put_apart w.servers n to (λ s (x : Server). 1 ≤ x.life.inc) (λ s ne. l.is.first s)
          (let old = l.is.first n in let more = life.inc in omega arith);
      busy = all_put_apart w.servers n to (λ s (x : Server). s < setting.servers → IsBusyAs setting.servers s x.life.running x.log.phase q)
          (λ s ne lt. busy_same setting.servers s (w.servers s).life.running (w.servers s).log.phase P q t.apart.letters (t.apart.proposers s ne)
          (l.is.busy s lt))
          (λ lt. t.busy);
      low = t.low;
      sent = λ letter i. elim (in-append letter (stamped stamp (letters_of who 0 posts)) w.sent i) [
        | inl new ↦ (
            let post = posted_by who stamp 0 posts letter new in
            let backed = backed_more q q (IsCalledAnywhere setting After) (IsCalledAnywhere setting After) (λ said. In (sent n said) q.letters)
            (IsSaidBy q letter.from)
            (λ x i. i) (λ c h. h)
            (λ said i. subst (λ who. IsSaidBy q who said) (sym (post.3 ∙ own)) i) post.0.body (posted post.0 post.1) in
            subst (IsBacked q (IsCalledAnywhere setting After) (IsSaidBy q letter.from)) (sym post.2) backed)
        | inr old ↦ backed_more P q _ _ (IsSaidBy P letter.from) (IsSaidBy q letter.from) t.apart.letters more
            (said_more P q t.apart.letters letter.from) letter.body (l.is.sent letter old)
      ];
      wanted = λ place c h. elim (wanted_on l.events new place c h) [
        | inl old ↦ may_more setting w After w.servers After.servers P q more keeps_started t.apart.letters place c (l.is.wanted place c old)
        | inr now ↦ may_more setting w After After.servers After.servers P q more
            (λ s. started_same (After.servers s)) t.apart.letters place c (wanted place c now)
      ];
      wants = all_put_apart w.servers n to (λ s (x : Server). (c : Command) → Among c x.log.wants → IsCalledAnywhere setting After c)
          (λ s ne c i. more c (l.is.wants s c i)) (λ c i. more c (wants c i));
      leaves = all_put_apart w.servers n to (λ s (x : Server). (c : Command) → Among c x.log.leaves → IsCalledAnywhere setting After c)
          (λ s ne c i. more c (l.is.leaves s c i)) (λ c i. more c (leaves c i));
      queued = all_put_apart w.servers n to (λ s (x : Server). (letter : Letter) → Among (job.Letter letter) x.queue → Among letter After.sent)
          (λ s ne letter i. in_later letter _ w.sent (l.is.queued s letter i)) (λ letter i. in_later letter _ w.sent (queued letter i));
      applied = λ c i command is. told_more P q t.apart.letters (i + 1) command (l.is.applied c i command is);
      asked = l.is.asked;
    }

  -- what it sends is backed by the world after the step
  pub server_sends : (to : Server) (posts others : List Post) → (acted : Acts Was setting w P n to others)
      → ((post : Post) → Among post posts → IsBacked (run setting.servers acted.turn.events P)
      (IsCalledAnywhere setting (acts setting w n what stamp (record { server = to; letters = letters_of who 0 posts })).world)
      (λ said. In (sent n said) (run setting.servers acted.turn.events P).letters) post.body)
      → Goes Was setting w (acts setting w n what stamp (record { server = to; letters = letters_of who 0 posts })).world
  server_sends to posts others acted posted =
      let q = run setting.servers acted.turn.events P in
      let kept = kept_by posts others to acted acted.turn.events q acted.turn.wanted acted.turn.turns posted in
      record {
        logged = record {
          events = l.events ++ acted.turn.events;
          is = subst (IsLogged Was setting (acts setting w n what stamp (record { server = to; letters = letters_of who 0 posts })).world
              (l.events ++ acted.turn.events))
              (sym (run-append setting.servers begin l.events acted.turn.events)) kept;
        };
        grown = λ s place ballot command i.
            ((kept.servers s).votes place ballot command).0 (acted.turn.turns.apart.more _ (((l.is.servers s).votes place ballot command).1 i));
      }

  pub server_goes : (to : Server) (posts : List Post) → Acts Was setting w P n to posts
      → Goes Was setting w (acts setting w n what stamp (record { server = to; letters = letters_of who 0 posts })).world
  server_goes to posts acted =
      let q = run setting.servers acted.turn.events P in
      server_sends to posts posts acted (λ post i.
      backed_more q q (λ c. ⊥) (IsCalledAnywhere setting (acts setting w n what stamp (record { server = to; letters = letters_of who 0 posts })).world)
      (λ said. In (sent n said) q.letters) (λ said. In (sent n said) q.letters) (λ x j. j) (λ c h. absurd h) (λ said h. h) post.body
      (acted.turn.turns.posted post i))

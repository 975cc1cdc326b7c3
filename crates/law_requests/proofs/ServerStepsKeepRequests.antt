-- A step of a server keeps what is known of requests.
use Rattle.law_requests.proofs.Imports.{◌+◌, ◌<◌, ◌∙◌, ◌≡◌, ◌≢◌, ◌≤◌, ◌⊎◌, Acted, Actor, Body, Cell, Firm, In, IsPrefix, Letter, List, None, PairState}
use Rattle.law_requests.proofs.Imports.{Pending, Rests, Server, Setting, Some, State, Step, Was, World, acts, all_put, all_put_apart, ap, arith, at, cell_cmp}
use Rattle.law_requests.proofs.Imports.{in-append, in_later, inl, inr, is_clients, is_in, length, prefix_itself, prefix_on, prefix_same, put_apart, put_same}
use Rattle.law_requests.proofs.Imports.{server_state, stamped, state_in, subst, sym, true, was_same, ℕ}
use Rattle.law_steps.proofs.Restages.{IsSame}
use Rattle.law_requests.specs.AskedRequests.{IsWrite, IsOpen}
use Rattle.law_requests.specs.KnownRequests.{Lives, LedBy, lives_after, seen, done_by, EndKnownAt, NothingKnownAt, Known, KnownLetter, asked_for, IsLedAlong}
use Rattle.law_requests.specs.KnownRequests.{PendingFor, IsUsed, Has_pending, AskingBy, KnowsReports}
use Rattle.law_requests.proofs.RequestsKnownLater.{Later, known_later, pending_further, way_later}
use Rattle.law_requests.proofs.IncarnationsGoOn.{Lived, done_now, dones_rise, lived_on, lives_still, ran_same}
use Rattle.law_requests.proofs.OpenWhileRunning.{PendingHere}
use Rattle.petal_msg.specs.declared.body.Body.TheVariants as body
use Rattle.petal_msg.specs.declared.letter.Actor.TheVariants as actor

-- ### What a job shows

-- the server, which runs, finishes the client's open write, which is then pending no more
pub record Ends (setting : Setting) (w : World) (n : ℕ) (new : PairState) (c : ℕ) : Type 0 where
  pub seq : ℕ
  pub cell : Cell
  pub bytes : List ℕ
  pub write : IsWrite (server_state setting w n) setting.lines c seq cell bytes
  pub runs : (w.servers n).life.running ≡ true
  pub still : IsOpen (w.clients c) seq
  pub old : seq ≤ (w.clients c).seq
  pub before : done_by (w.servers n).own c ≤ seq
  pub after : done_by new c ≡ seq + 1
  pub gone : at cell_cmp new.pairs.pending cell ≡ None

-- a reply that ends a write tells of one that this server, which leads the cell, is past
pub record Tells (setting : Setting) (w : World) (n : ℕ) (new : PairState) (client seq : ℕ) : Type 0 where
  pub cell : Cell
  pub bytes : List ℕ
  pub write : IsWrite (server_state setting w n) setting.lines client seq cell bytes
  pub led : LedBy (server_state setting w n) n (w.servers n).life.inc cell
  pub old : seq ≤ (w.clients client).seq
  pub past : seq < done_by new client

abbrev pub TellsAt : Setting → World → ℕ → PairState → ℕ → Actor → Type 0
TellsAt setting w n new seq (actor.Client c) = Tells setting w n new c seq
TellsAt setting w n new seq (actor.Server m) = ⊥

-- what a server says of requests in a step
abbrev pub SaysOk : Setting → World → Lives → ℕ → PairState → Actor → Body → Type 0
SaysOk setting w lives n new to (body.Written seq) = TellsAt setting w n new seq to
SaysOk setting w lives n new to (body.Full seq) = TellsAt setting w n new seq to
SaysOk setting w lives n new to (body.NotHere seq) = NothingKnownAt setting (seen lives w) seq (length (w.servers n).log.applied) to
SaysOk setting w lives n new to (body.Write client seq cell epoch bytes) = ⊥
SaysOk setting w lives n new to (body.Read client seq cell epoch) = ⊥
SaysOk setting w lives n new to _ = Unit {0}

-- an operation was pending, or was opened in this step, by the entries that the server had
abbrev pub WasOrNew : World → ℕ → Cell → Pending → Type 0
WasOrNew w n cell op = Was (w.servers n).own cell op ⊎ (op.rev ≡ length (w.servers n).log.applied)

pub record JobTells (setting : Setting) (w : World) (lives : Lives) (n : ℕ) (new : PairState) : Type 0 where
  pub finished : (c : ℕ) → (done_by new c ≡ done_by (w.servers n).own c) ⊎ Ends setting w n new c
  pub pending : (cell : Cell) (op : Pending) → at cell_cmp new.pairs.pending cell ≡ Some op → is_clients op.kind ≡ true
      → Was (w.servers n).own cell op ⊎ PendingHere setting w lives n (asked_for cell op) op.rev × (op.rev ≡ length (w.servers n).log.applied)

-- the operation was opened for the same
pub same_want : (cell : Cell) (a b : Pending) → IsSame a b → asked_for cell a ≡ asked_for cell b
same_want cell a b e = λ i. record { client = e.client i; seq = e.seq i; cell = cell; epoch = (e.key i).epoch; bytes = e.bytes i }

-- a world in which requests are as they should be
pub record Scene : Type 0 where
  pub setting : Setting
  pub state : State
  pub w : World
  pub lives : Lives
  pub firm : Firm setting w
  pub rests : Rests setting w
  pub asking : AskingBy setting w lives
  pub reports : KnowsReports setting w lives

-- what is pending or was finished is that of the incarnation that ran last, which its own state has In
pub record IsSettled (scene : Scene) (n : ℕ) (new : Server) : Type 0 where
  pub same : new.life.running ≡ true → new.life.inc ≡ scene.lives.ran n
  pub seated : is_in (state_in scene.setting.servers new.log) n (scene.lives.ran n) ≡ true

-- an operation that a step leaves: the incarnation that ran last leads its cell on, as far as the server has come
pub record StepPending (scene : Scene) (n : ℕ) (new : Server) (cell : Cell) (op : Pending) : Type 0 where
  pub was : PendingHere scene.setting scene.w scene.lives n (asked_for cell op) op.rev
  pub since : WasOrNew scene.w n cell op
  pub along : IsLedAlong scene.setting.servers (scene.w.servers n).log.applied new.log.applied n (scene.lives.ran n) cell
  pub unfinished : done_by new.own op.client ≤ op.seq

-- what a server's step does to it: it goes on, or begins; its entries are more, and plain; and each operation is of a write that
-- it is not past, and of a cell that it leads
pub record IsStepped (scene : Scene) (n : ℕ) (new : Server) : Type 0 where
  pub life : Lived scene.lives n (scene.w.servers n) new
  pub more : IsPrefix (scene.w.servers n).log.applied new.log.applied
  pub bound : (c : ℕ) → done_by new.own c ≤ (scene.w.clients c).seq + 1
  pub used : IsUsed new.own → IsSettled scene n new
  pub pending : (cell : Cell) (op : Pending) → at cell_cmp new.own.pairs.pending cell ≡ Some op → is_clients op.kind ≡ true
      → StepPending scene n new cell op

-- ### The world after a server's step

module _ (scene : Scene) (n stamp : ℕ) (what : Step) (acted : Acted) (step : IsStepped scene n acted.server) where
  open scene use {setting, w, lives, asking}

  abbrev later : World
  later = (acts setting w n what stamp acted).world

  abbrev after : Lives
  after = lives_after lives later

  server_now : later.servers n ≡ acted.server
  server_now = put_same w.servers n acted.server

  pub steps : (m : ℕ) → Lived lives m (w.servers m) (later.servers m)
  steps = all_put w.servers n acted.server (λ m (x : Server). Lived lives m (w.servers m) x)
      (lives_still lives w asking.lived) step.life

  pub goes_on : Later setting (seen lives w) (seen after later)
  goes_on = record {
    sent = λ letter h. in_later letter (stamped stamp acted.letters) w.sent h;
    seqs = λ c. omega arith;
    clients = λ c. prefix_itself (w.clients c).applied;
    logs = all_put w.servers n acted.server (λ m (x : Server). IsPrefix (w.servers m).log.applied x.log.applied)
        (λ m. prefix_itself (w.servers m).log.applied) step.more;
    dones = dones_rise lives w later asking.lived steps;
    closes = λ want rev sent is. inl is;
  }

  ran_here : (acted.server.life.running ≡ true → acted.server.life.inc ≡ lives.ran n) → after.ran n ≡ lives.ran n
  ran_here same = ran_same lives w later asking.lived steps n
      (subst (λ (x : Server). x.life.running ≡ true → x.life.inc ≡ lives.ran n) (sym server_now) same)

  ran_beside : (m : ℕ) → m ≢ n → after.ran m ≡ lives.ran m
  ran_beside m ne = ran_same lives w later asking.lived steps m
      (subst (λ (x : Server). x.life.running ≡ true → x.life.inc ≡ lives.ran m) (sym (put_apart w.servers n acted.server m ne))
      (λ on. sym (asking.lived.ran m on)))

  done_of : (m : ℕ) → after.ran m ≡ lives.ran m → (c : ℕ) → after.done m (lives.ran m) c ≡ done_by (later.servers m).own c
  done_of m e c = ap (λ i. after.done m i c) (sym e) ∙ done_now lives w later asking.lived steps m c

  -- an operation of the incarnation that ran last, as far as the server has come
  abbrev PendingUpto : ℕ → Server → Cell → Pending → Type 0
  PendingUpto m x cell op = (q : PendingFor setting (seen after later) m (after.ran m) (asked_for cell op) op.rev)
      × (q.upto ≡ x.log.applied)

  goes_pending : (m : ℕ) → after.ran m ≡ lives.ran m → (cell : Cell) (op : Pending)
      → (p : PendingFor setting (seen lives w) m (lives.ran m) (asked_for cell op) op.rev)
      → done_by (later.servers m).own op.client ≤ op.seq
      → (x : Server) → later.servers m ≡ x → IsPrefix p.upto x.log.applied
      → IsLedAlong setting.servers p.upto x.log.applied m (lives.ran m) cell
      → PendingUpto m x cell op
  goes_pending m e cell op p le x same on along =
      let now = done_of m e op.client in
      subst (λ i. (q : PendingFor setting (seen after later) m i (asked_for cell op) op.rev) × (q.upto ≡ x.log.applied)) (sym e)
      (pending_further setting (seen lives w) (seen after later) goes_on m (lives.ran m) (asked_for cell op) op.rev p
      (omega arith) x.log.applied on
      (prefix_same x.log.applied _ (ap (λ (y : Server). y.log.applied) same)) along)

  -- of the server that took the step
  pending_acted : (cell : Cell) (op : Pending) → at cell_cmp acted.server.own.pairs.pending cell ≡ Some op → is_clients op.kind ≡ true
      → PendingUpto n acted.server cell op
  pending_acted cell op there clients =
      let p = step.pending cell op there clients in
      let ran = ran_here (step.used (Has_pending cell op there)).same in
      let unfinished : done_by (later.servers n).own op.client ≤ op.seq =
      subst (λ (x : Server). done_by x.own op.client ≤ op.seq) (sym server_now) p.unfinished in
      goes_pending n ran cell op p.was.known unfinished acted.server server_now
      (subst (λ own. IsPrefix own acted.server.log.applied) (sym p.was.here) step.more)
      (subst (λ own. IsLedAlong setting.servers own acted.server.log.applied n (lives.ran n) cell) (sym p.was.here) p.along)

  -- of another one
  pending_beside : (m : ℕ) → m ≢ n → (cell : Cell) (op : Pending) → at cell_cmp (w.servers m).own.pairs.pending cell ≡ Some op
      → is_clients op.kind ≡ true → PendingUpto m (w.servers m) cell op
  pending_beside m ne cell op there clients =
      let server : later.servers m ≡ w.servers m = put_apart w.servers n acted.server m ne in
      let p = asking.pending m cell op there clients in
      let come = asking.come m cell op there clients in
      let tied = asking.lived.tied m op.client in
      let un = p.unfinished in
      let unfinished : done_by (later.servers m).own op.client ≤ op.seq =
      subst (λ (x : Server). done_by x.own op.client ≤ op.seq) (sym server) (omega arith) in
      goes_pending m (ran_beside m ne) cell op p unfinished (w.servers m) server (prefix_same p.upto (w.servers m).log.applied (sym come))
      (λ log more lies. p.along log (prefix_on _ p.upto log p.opened more) (subst (IsPrefix log) (sym come) lies))

  pending_now : (m : ℕ) (cell : Cell) (op : Pending) → at cell_cmp (later.servers m).own.pairs.pending cell ≡ Some op
      → is_clients op.kind ≡ true → PendingUpto m (later.servers m) cell op
  pending_now = all_put_apart w.servers n acted.server
      (λ m (x : Server). (cell : Cell) (op : Pending) → at cell_cmp x.own.pairs.pending cell ≡ Some op → is_clients op.kind ≡ true → PendingUpto m x cell op)
      pending_beside pending_acted

  -- each operation was pending, or is new
  pub opened_now : (m : ℕ) (cell : Cell) (op : Pending) → at cell_cmp (later.servers m).own.pairs.pending cell ≡ Some op → is_clients op.kind ≡ true
      → WasOrNew w m cell op
  opened_now = all_put_apart w.servers n acted.server
      (λ m (x : Server). (cell : Cell) (op : Pending) → at cell_cmp x.own.pairs.pending cell ≡ Some op → is_clients op.kind ≡ true → WasOrNew w m cell op)
      (λ m ne cell op is clients. inl (was_same (w.servers m).own cell op is)) (λ cell op is clients. (step.pending cell op is clients).since)

  used_now : (m : ℕ) → IsUsed (later.servers m).own → is_in (server_state setting later m) m (after.ran m) ≡ true
  used_now = all_put_apart w.servers n acted.server (λ m (x : Server). IsUsed x.own → is_in (state_in setting.servers x.log) m (after.ran m) ≡ true)
      (λ m ne u. subst (λ i. is_in (server_state setting w m) m i ≡ true) (sym (ran_beside m ne)) (asking.used m u))
      (λ u.
      let k = step.used u in
      subst (λ i. is_in (state_in setting.servers acted.server.log) n i ≡ true) (sym (ran_here k.same)) k.seated)

  -- what a job shows keeps what is known of requests
  pub step_asking : ((letter : Letter) → In letter (stamped stamp acted.letters) → KnownLetter setting (seen after later) letter)
      → AskingBy setting later after
  step_asking says = record {
    lived = lived_on lives w later asking.lived steps;
    asked = asking.asked;
    ways = λ c asked is. way_later setting (seen lives w) (seen after later) goes_on c asked (asking.ways c asked is);
    letters = λ letter h. elim (in-append letter (stamped stamp acted.letters) w.sent h) [
      | inl new ↦ says letter new
      | inr sent ↦ known_later setting (seen lives w) (seen after later) goes_on letter.from letter.to letter.rev letter.body (asking.letters letter sent)
    ];
    pending = λ m cell op is clients. (pending_now m cell op is clients).0;
    come = λ m cell op is clients. (pending_now m cell op is clients).1;
    finished = all_put w.servers n acted.server (λ m (x : Server). (c : ℕ) → done_by x.own c ≤ (w.clients c).seq + 1) asking.finished step.bound;
    used = used_now;
  }

  -- ### What it says

  module _ (runs : (w.servers n).life.running ≡ true) (same : acted.server.life.inc ≡ (w.servers n).life.inc) where
    past_now : (c : ℕ) → after.done n (w.servers n).life.inc c ≡ done_by acted.server.own c
    past_now c =
        let ran = asking.lived.ran n runs in
        ap (λ i. after.done n i c) (sym ran) ∙ done_of n (ran_here (λ on. same ∙ sym ran)) c ∙ ap (λ (x : Server). done_by x.own c) server_now

    told : (seq rev : ℕ) (to : Actor) → length (w.servers n).log.applied ≡ rev → TellsAt setting w n acted.server.own seq to
        → EndKnownAt setting (seen after later) seq rev (actor.Server n) to
    told seq rev (actor.Server m) long t = t
    told seq rev (actor.Client c) long t =
        let now = past_now c in
        let past = t.past in
        record {
          inc = (w.servers n).life.inc;
          cell = t.cell;
          bytes = t.bytes;
          old = t.old;
          at = record { prefix = (w.servers n).log.applied; lies = goes_on.logs n; long = long };
          write = t.write;
          led = record { seated = t.led.seated; leads = t.led.leads };
          past = omega arith;
        }

    pub says_known : (rev : ℕ) → length (w.servers n).log.applied ≡ rev → (to : Actor) (what : Body) → SaysOk setting w lives n acted.server.own to what
        → Known setting (seen after later) (actor.Server n) to rev what
    says_known rev long to (body.Written seq) h = told seq rev to long h
    says_known rev long to (body.Full seq) h = told seq rev to long h
    says_known rev long to (body.NotHere seq) h =
        known_later setting (seen lives w) (seen after later) goes_on (actor.Server n) to rev (body.NotHere seq)
        (subst (λ (r : ℕ). NothingKnownAt setting (seen lives w) seq r to) long h)
    says_known rev long to (body.Write client seq cell epoch bytes) h = absurd h
    says_known rev long to (body.Read client seq cell epoch) h = absurd h
    says_known rev long to _ h = tt

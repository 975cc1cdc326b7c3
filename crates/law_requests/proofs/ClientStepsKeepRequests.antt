-- A step of a client keeps what is known of requests.
use Rattle.law_requests.proofs.Imports.{◌∙◌, ◌≡◌, ◌≤◌, ◌⊎◌, Actor, Asked, Body, Cell, Client, In, IsOnward, IsPrefix, Letter, List, Pending, Post, Reaction}
use Rattle.law_requests.proofs.Imports.{Setting, Some, Wanted, World, all_put, ap, arith, at, cell_cmp, client_sender, in-append, in_later, inl, inr}
use Rattle.law_requests.proofs.Imports.{is_clients, is_in, length, letters_of, prefix_itself, prefix_long, prefix_on, prefix_same, put_at, reacts, said}
use Rattle.law_requests.proofs.Imports.{server_state, stamped, subst, sym, true, ℕ}
use Rattle.law_requests.specs.AskedRequests.{HasItsWay, IsAsked, IsOpenFrom}
use Rattle.law_requests.specs.KnownRequests.{Lives, Seen, lives_after, seen, done_by, AreLate, IsSent, Known, PendingFor, asked_for, AskingBy}
use Rattle.law_requests.proofs.ServerStepsKeepRequests.{Scene}
use Rattle.law_requests.proofs.RequestsKnownLater.{Later, known_later, pending_further, way_later}
use Rattle.law_requests.proofs.IncarnationsGoOn.{Lived, done_now, dones_rise, lived_on, lives_still, ran_same}

-- a write that the client has sent under this number comes too late
abbrev pub Closed : Setting → World → Lives → (after : Seen) → (c seq rev : ℕ) → Type 0
Closed setting w lives after c seq rev =
    (cell : Cell) (epoch : ℕ) (bytes : List ℕ)
    → (sent : IsSent setting (seen lives w) (record { client = c; seq = seq; cell = cell; epoch = epoch; bytes = bytes }) rev)
    → AreLate setting.servers after (record { client = c; seq = seq; cell = cell; epoch = epoch; bytes = bytes }) sent.at.prefix

pub record TurnOk (setting : Setting) (w : World) (lives : Lives) (after : Seen) (c : ℕ) (client : Client) (posts : List Post) : Type 0 where
  pub seqs : (w.clients c).seq ≤ client.seq
  pub asked : (asked : Asked) → client.asked ≡ Some asked → IsAsked setting.lines c client asked
  pub ways : (asked : Asked) → client.asked ≡ Some asked → HasItsWay w.sent c asked
  pub closes : (seq rev : ℕ) → rev ≤ length (w.clients c).applied → IsOpenFrom (w.clients c) seq rev
      → IsOpenFrom client seq rev ⊎ Closed setting w lives after c seq rev
  pub says : (post : Post) → In post posts → (from : Actor) → Known setting after from post.to (length client.applied) post.body

-- what is seen after a client's step, by which these letters are sent
abbrev pub seen_with : Lives → World → List Letter → (c : ℕ) → Client → Seen
seen_with lives w sent c client = seen (lives_after lives w) (record w { clients = put_at w.clients c client; sent = sent })

module _ (scene : Scene) (c stamp : ℕ) (reacted : Reaction)
    (turn : TurnOk scene.setting scene.w scene.lives (seen_with scene.lives scene.w (reacts scene.w c stamp reacted).world.sent c reacted.client)
    c reacted.client reacted.posts)
    (onward : IsOnward scene.setting.servers scene.state (scene.w.clients c).applied reacted.client.applied) where
  open scene use {setting, w, lives, asking}

  abbrev later : World
  later = (reacts w c stamp reacted).world

  abbrev after : Lives
  after = lives_after lives later

  -- no server does anything
  steps : (n : ℕ) → Lived lives n (w.servers n) (later.servers n)
  steps = lives_still lives w asking.lived

  ran_still : (n : ℕ) → after.ran n ≡ lives.ran n
  ran_still n = ran_same lives w later asking.lived steps n (λ on. sym (asking.lived.ran n on))

  pub turn_later : Later setting (seen lives w) (seen after later)
  turn_later = record {
    sent = λ letter h. in_later letter (stamped stamp (letters_of (client_sender c reacted.client) 0 reacted.posts)) w.sent h;
    seqs = all_put w.clients c reacted.client (λ j client. (w.clients j).seq ≤ client.seq) (λ j. omega arith) turn.seqs;
    clients = all_put w.clients c reacted.client (λ j (x : Client). IsPrefix (w.clients j).applied x.applied)
        (λ j. prefix_itself (w.clients j).applied) onward.grows;
    logs = λ n. prefix_itself (w.servers n).log.applied;
    dones = dones_rise lives w later asking.lived steps;
    closes = λ want rev sent is. closed want.client want.seq rev (prefix_at want rev sent) is want.cell want.epoch want.bytes sent;
  }
    where
      prefix_at : (want : Wanted) (rev : ℕ) → IsSent setting (seen lives w) want rev → rev ≤ length (w.clients want.client).applied
      prefix_at want rev sent = let le = prefix_long sent.at.prefix _ sent.at.lies in let e = sent.at.long in omega arith

      closed : (j seq rev : ℕ) → rev ≤ length (w.clients j).applied → IsOpenFrom (w.clients j) seq rev → (cell : Cell) (epoch : ℕ) (bytes : List ℕ)
          → (sent : IsSent setting (seen lives w) (record { client = j; seq = seq; cell = cell; epoch = epoch; bytes = bytes }) rev)
          → IsOpenFrom (later.clients j) seq rev
          ⊎ AreLate setting.servers (seen after later) (record { client = j; seq = seq; cell = cell; epoch = epoch; bytes = bytes }) sent.at.prefix
      closed j seq rev le is cell epoch bytes sent = elim (by j seq rev le is) [ inl still ↦ inl still | inr late ↦ inr (late cell epoch bytes sent) ]
        where
          by : (i : ℕ) (seq rev : ℕ) → rev ≤ length (w.clients i).applied → IsOpenFrom (w.clients i) seq rev
              → IsOpenFrom (later.clients i) seq rev ⊎ Closed setting w lives (seen after later) i seq rev
          by = all_put w.clients c reacted.client
              (λ i client. (seq rev : ℕ) → rev ≤ length (w.clients i).applied → IsOpenFrom (w.clients i) seq rev
              → IsOpenFrom client seq rev ⊎ Closed setting w lives (seen after later) i seq rev) (λ i seq rev le is. inl is) turn.closes

  -- an operation, as far as its server has come
  pending_now : (n : ℕ) (cell : Cell) (op : Pending) → at cell_cmp (w.servers n).own.pairs.pending cell ≡ Some op
      → is_clients op.kind ≡ true → (q : PendingFor setting (seen after later) n (after.ran n) (asked_for cell op) op.rev)
      × (q.upto ≡ (w.servers n).log.applied)
  pending_now n cell op is clients =
      let p = asking.pending n cell op is clients in
      let come = asking.come n cell op is clients in
      let e = ran_still n in
      let now : after.done n (lives.ran n) op.client ≡ done_by (w.servers n).own op.client =
      ap (λ i. after.done n i op.client) (sym e) ∙ done_now lives w later asking.lived steps n op.client in
      let tied = asking.lived.tied n op.client in
      let un = p.unfinished in
      let own = (w.servers n).log.applied in
      subst (λ i. (q : PendingFor setting (seen after later) n i (asked_for cell op) op.rev) × (q.upto ≡ own)) (sym e)
      (pending_further setting (seen lives w) (seen after later) turn_later n (lives.ran n) (asked_for cell op) op.rev p
      (omega arith) own
      (prefix_same p.upto own (sym come)) (prefix_itself own)
      (λ log more lies. p.along log (prefix_on _ p.upto log p.opened more) (subst (IsPrefix log) (sym come) lies)))

  ways_now : (j : ℕ) (asked : Asked) → (later.clients j).asked ≡ Some asked → HasItsWay w.sent j asked
  ways_now = all_put w.clients c reacted.client (λ j (x : Client). (asked : Asked) → x.asked ≡ Some asked → HasItsWay w.sent j asked)
      asking.ways turn.ways

  pub turn_asking : AskingBy setting later after
  turn_asking = record {
    lived = lived_on lives w later asking.lived steps;
    asked = all_put w.clients c reacted.client (λ j client. (asked : Asked) → client.asked ≡ Some asked → IsAsked setting.lines j client asked)
        asking.asked turn.asked;
    ways = λ j asked is. way_later setting (seen lives w) (seen after later) turn_later j asked (ways_now j asked is);
    letters = λ letter h. elim (in-append letter _ w.sent h) [
      | inl new ↦
          let s = said (client_sender c reacted.client) stamp 0 reacted.posts letter new in
          let k = turn.says s.post s.there letter.from in
          subst (λ (b : Body). Known setting (seen after later) letter.from letter.to letter.rev b) (sym s.body)
          (subst (λ (r : ℕ). Known setting (seen after later) letter.from letter.to r s.post.body) (sym s.rev)
          (subst (λ (a : Actor). Known setting (seen after later) letter.from a (length reacted.client.applied) s.post.body) (sym s.to) k))
      | inr sent ↦
          known_later setting (seen lives w) (seen after later) turn_later letter.from letter.to letter.rev letter.body (asking.letters letter sent)
    ];
    pending = λ n cell op is clients. (pending_now n cell op is clients).0;
    come = λ n cell op is clients. (pending_now n cell op is clients).1;
    finished = λ n j. let b = asking.finished n j in let up = turn_later.seqs j in omega arith;
    used = λ n u. subst (λ i. is_in (server_state setting w n) n i ≡ true) (sym (ran_still n)) (asking.used n u);
  }

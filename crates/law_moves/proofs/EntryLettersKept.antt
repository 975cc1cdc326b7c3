-- Each step keeps what letters of entries that move say, and what operations for them were opened for.
use Rattle.law_moves.proofs.Imports.{[], ◌&&◌, ◌<◌, ◌||◌, ◌∙◌, ◌∷◌, ◌≡◌, Body, Cell, Chain, Command, Fills, Handled, HasProperTuples, In, IsNextFill}
use Rattle.law_moves.proofs.Imports.{IsPrefix, Is_next, Is_other, Key, Letter, List, OneMore, PairState, Pending, Post, Server, Some, State, Stood, Store}
use Rattle.law_moves.proofs.Imports.{Table, Writes, ap, at, at-empty, cell_cmp, cell_of, chain_in, chosen_log, comes_before, did_come, did_fills, ends_of}
use Rattle.law_moves.proofs.Imports.{false, id_of, is_clients, is_fill, is_of_entries, key_at, length, less_test, link_named, log_plain, log_rev, nat_cmp}
use Rattle.law_moves.proofs.Imports.{nat_lt, next_on, none_some, number_itself, or_true, own_place, prefix_on, prefix_plain, refl, same_some, server_state}
use Rattle.law_moves.proofs.Imports.{source, stage_facts, subject_of, subst, sym, true, true_false, ℕ}
use Rattle.law_moves.proofs.StepsTellEntries.{Goes_on, Is_bare, Keeps, Awakes, Before, IsJob, IsPosted, Other, Posted, Works, chosen_on, gone, knows, sent}
use Rattle.law_moves.specs.Fills.{Has, IsFrozen, WasFilled}
use Rattle.law_moves.specs.LeftToMove.{IsKept, IsOurs}
use Rattle.law_moves.proofs.FrozenIsWhatCounted.{frozen_stays}
use Rattle.law_moves.proofs.AllKeptOfMoves.{WasKnown}
use Rattle.law_moves.proofs.Movers.{had, three, way}
use Rattle.law_moves.proofs.NextFill.{next_is}
use Rattle.law_moves.proofs.LeadsWereTold.{HasTold, lift, same_frozen}
use Rattle.law_moves.proofs.LeadsRememberMoved.{done_told}
use Rattle.law_moves.proofs.MoveScenes.{IsMover}
use Rattle.petal_msg.specs.declared.body.Body.TheVariants as body

abbrev key_said : Key → Body → Key
key_said other (body.Fill key bytes) = key
key_said other _ = other

abbrev bytes_said : List ℕ → Body → List ℕ
bytes_said other (body.Fill key bytes) = bytes
bytes_said other _ = other

module _ (it : OneMore) (known : WasKnown it) where
  open it use {prior, prior.{script, sound, records as prefix}, legal}
  open ends_of it use {setting, w, v}

  abbrev Was : ℕ → Server
  Was n = w.servers n

  -- ### Letters

  pub frozen_on : (rev : ℕ) (key : Key) (bytes : List ℕ) → IsFrozen setting w rev key bytes → IsFrozen setting v rev key bytes
  frozen_on rev key bytes f = record {
    prefix = f.prefix;
    lies = prefix_on f.prefix (chosen_log setting w) (chosen_log setting v) f.lies (chosen_on it);
    long = f.long;
    old = f.old;
    from = f.from;
    before = f.before;
    frozen = frozen_stays script prefix (it.own ∷ []) f.old f.before sound legal f.frozen;
    entry = f.entry;
    newer = λ epoch lt has. lift it known 0 (key_at (cell_of key) epoch) (f.newer epoch lt has);
  }

  -- what a server that runs says of the next entry of a link
  module _ (y : ℕ) (runs : (Was y).life.running ≡ true) (now : PairState) (post : Post) (kept : now.store ≡ (Was y).own.store)
      (told : HasTold it known y now.filled)
      (f : IsNextFill (own_place setting w y) now post) where
    abbrev log : List Command
    log = (Was y).log.applied

    abbrev here : State
    here = server_state setting w y

    abbrev old : Cell
    old = cell_of f.key

    lies : IsPrefix log (chosen_log setting w)
    lies = (knows it).servers y

    lies_v : IsPrefix log (chosen_log setting v)
    lies_v = prefix_on log (chosen_log setting w) (chosen_log setting v) lies (chosen_on it)

    plain : HasProperTuples script.servers log
    plain = prefix_plain script.servers log (chosen_log setting w) (knows it).plain lies

    named : link_named here (id_of f.row) ≡ Some f.row
    named = (log_plain script.servers log plain).found f.row f.there

    abbrev mover : IsMover setting w y
    mover = record { runs = runs; seat = f.seated; row = f.row; there = named; region = f.region; moves = f.moves }

    on : IsOurs here f.row f.region old
    on = let o = next_on here f.row f.region now f.key f.next in record { on = o.0; of = o.1 }

    abbrev chain : Chain
    chain = chain_in (Was y).own.store.chains old

    frozen_now : v.frozen old ≡ Some chain
    frozen_now =
        same_frozen it known y log lies old
        (three prior known y mover old on)
        ∙ had prior known y mover old on

    from_old : source here f.cell ≡ Some old
    from_old =
        let goes = (stage_facts script.servers log plain old).targets
        (three prior known y mover old on) in
        subst (λ (c : Cell). source here c ≡ Some old) (same_some (sym goes.1 ∙ f.goes_to)) goes.2

    newer_told : (epoch : ℕ) → f.key.epoch < epoch → Has chain epoch → WasFilled v (key_at f.cell epoch)
    newer_told epoch lt has =
        let n = next_is here f.row f.region now f.key f.next in
        let held : IsKept now old epoch = subst (λ (s : Store). Has (chain_in s.chains old) epoch) (sym kept) has in
        let earlier : comes_before (key_at old epoch) f.key ≡ true =
        (λ i. nat_lt f.key.block f.key.block || (number_itself f.key.block i && less_test f.key.epoch epoch lt i))
        ∙ or_true (nat_lt f.key.block f.key.block) true refl in
        let k = n.before old epoch on held earlier in
        told log old f.cell f.row k.until lies_v
        (way prior known y mover old on f.cell f.goes_to)
        k.is chain epoch frozen_now has (record { region = on.of ∙ sym k.of; so = k.so })

    pub next_frozen : IsFrozen setting v (length log) (key_at f.cell f.key.epoch) f.entry.bytes
    next_frozen = record {
      prefix = log;
      lies = lies_v;
      long = refl;
      old = old;
      from = from_old;
      before = chain;
      frozen = frozen_now;
      entry = (f.entry.version, ap (λ (s : Store). at nat_cmp (chain_in s.chains old) f.key.epoch) (sym kept) ∙ f.stored);
      newer = newer_told;
    }

  pub sent_next : (letter : Letter) (key : Key) (bytes : List ℕ) → In letter v.sent → letter.body ≡ body.Fill key bytes
      → IsFrozen setting v letter.rev key bytes
  sent_next letter key bytes i e = elim (sent it letter i) [
    | Before was ↦ frozen_on letter.rev key bytes (known.filled.sent letter key bytes was e)
    | Posted p ↦ posted_frozen p
    | Other none ↦ true_false (ap (λ b. is_of_entries (subject_of b)) e) none
  ]
    where
      posted_frozen : IsPosted it letter → IsFrozen setting v letter.rev key bytes
      posted_frozen p = elim (did_fills (Handled w p.n) (own_place setting w p.n) (Was p.n).own p.job.done p.job.did p.post p.there) [
        | Is_other apart ↦ true_false (ap is_fill (sym p.body ∙ e)) apart
        | Is_next now kept told f ↦
            let said : body.Fill key bytes ≡ body.Fill (key_at f.cell f.key.epoch) f.entry.bytes =
            sym e ∙ p.body ∙ ap (λ (post : Post). post.body) f.is in
            let key_is : key ≡ key_at f.cell f.key.epoch = ap (key_said key) said in
            let bytes_is : bytes ≡ f.entry.bytes = ap (bytes_said bytes) said in
            subst (λ r. IsFrozen setting v r key bytes) (sym p.rev)
            (subst (λ (k : Key). IsFrozen setting v (length (Was p.n).log.applied) k bytes) (sym key_is)
            (subst (IsFrozen setting v (length (Was p.n).log.applied) (key_at f.cell f.key.epoch)) (sym bytes_is)
            (next_frozen p.n p.job.runs now p.post kept (subst (HasTold it known p.n) (sym told) (done_told it known p.n p.to p.job)) f)))
      ]

  -- ### Operations

  abbrev AreAsked : Table Cell Pending → Type 0
  AreAsked pending = (cell : Cell) (op : Pending) → at cell_cmp pending cell ≡ Some op → is_clients op.kind ≡ false
      → IsFrozen setting v op.rev op.key op.bytes

  still_asked : (m : ℕ) → AreAsked (Was m).own.pairs.pending
  still_asked m cell op is fills = frozen_on op.rev op.key op.bytes (known.filled.asked m cell op is fills)

  job_asked : (m : ℕ) (to : Server) (job : IsJob it m to) → AreAsked job.done.own.pairs.pending
  job_asked m to job cell op is fills = elim (did_come (Handled w m) (own_place setting w m) (Was m).own job.done job.did cell op is) [
    | Stood was ↦
        let f = still_asked m cell was.was was.is (ap is_clients was.same.kind ∙ fills) in
        subst (λ r. IsFrozen setting v r op.key op.bytes) was.same.rev
        (subst (λ (k : Key). IsFrozen setting v was.was.rev k op.bytes) was.same.key
        (subst (IsFrozen setting v was.was.rev was.was.key) was.same.bytes f))
    | Writes write ↦ true_false (ap is_clients write) fills
    | Fills opened ↦
        let h = opened.asked in
        let f = frozen_on h.letter.rev opened.moving.key opened.moving.bytes
        (known.filled.sent h.letter opened.moving.key opened.moving.bytes h.sent h.is) in
        let rev : h.letter.rev ≡ op.rev = h.at ∙ sym (opened.rev ∙ log_rev script.servers (Was m).log.applied) in
        subst (λ r. IsFrozen setting v r op.key op.bytes) rev
        (subst (λ (k : Key). IsFrozen setting v h.letter.rev k op.bytes) (sym opened.key)
        (subst (IsFrozen setting v h.letter.rev opened.moving.key) (sym opened.bytes) f))
  ]

  pub asked_next : (m : ℕ) (cell : Cell) (op : Pending) → at cell_cmp (v.servers m).own.pairs.pending cell ≡ Some op → is_clients op.kind ≡ false
      → IsFrozen setting v op.rev op.key op.bytes
  asked_next m = elim (gone it m) [
    | Goes_on (Keeps kept) same ↦ subst AreAsked (sym kept.pending) (still_asked m)
    | Goes_on (Works job) same ↦ subst (λ (o : PairState). AreAsked o.pairs.pending) (sym job.own_is) (job_asked m (v.servers m) job)
    | Goes_on (Awakes asleep is) same ↦
        subst (λ (s : Server). AreAsked s.own.pairs.pending) (sym is) (λ cell op is. none_some (at-empty cell_cmp cell) is)
    | Is_bare asleep bare same ↦ subst (λ (s : Server). AreAsked s.own.pairs.pending) (sym bare) (still_asked m)
  ]

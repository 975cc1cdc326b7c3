-- Each step keeps that what a new map has of a block, and what letters tell of it, is newest.
use Rattle.law_moves.proofs.Imports.{◌∙◌, ◌≡◌, ◌≤◌, A_fill, A_write, AreWithin, BeforeBlank, Blanks, Body, Cell, Chain, Command, Handled, Happens, In}
use Rattle.law_moves.proofs.Imports.{IsMoverOwn, IsNextFill, IsOpenedFor, IsPrefix, IsWithin, Letter, List, OfKey, OneMore, Option, PairState, Pending, Post}
use Rattle.law_moves.proofs.Imports.{Server, Serves, Some, State, Store, Table, Turns, WasComing, World, all_put, always_firm, ap, arith, at, below_itself}
use Rattle.law_moves.proofs.Imports.{blank_joins_in, by_bool, cell_cmp, cell_of, chosen_log, chosen_state, comes_after, did_kept, did_said, ends_of, false}
use Rattle.law_moves.proofs.Imports.{inl, inr, is_clients, kept, key_at, last_happens, length, log_below, log_comes, mover_store, next_comes, none_within}
use Rattle.law_moves.proofs.Imports.{of_key_on, of_no_key, own_place, own_plain, prefix_itself, prefix_on, prefixes_meet, refl, resting, same_some, source}
use Rattle.law_moves.proofs.Imports.{stage_at, start, start_comes, start_rests, subst, sym, true, true_false, was_opened, ℕ}
use Rattle.law_moves.proofs.StepsTellEntries.{Goes_on, HasStore, Is_bare, Keeps, Awakes, Before, Other, Posted, Works, chosen_on, gone, knows, knows_now, sent}
use Rattle.law_epochs.proofs.EntriesNeverEarly.{kept_by}
use Rattle.law_moves.proofs.FrozenIsWhatCounted.{frozen_same}
use Rattle.law_moves.proofs.AllKeptOfMoves.{WasKnown}
use Rattle.law_moves.proofs.NewestOfMovingCells.{at_coming, frozen_newest, has_left}
use Rattle.law_moves.proofs.NewestByLetters.{AllNewest, IsNewest}
use Rattle.law_moves.proofs.EntryLettersKept.{frozen_on, next_frozen}
use Rattle.law_moves.proofs.FrozenEpochs.{frozen_then}
use Rattle.law_moves.proofs.LeadsWereTold.{HasTold, lift, told_before, told_now}
use Rattle.law_moves.proofs.MoveWorlds.{facts_at, plain_at}
use Rattle.petal_msg.specs.declared.operation.OpKind.TheVariants as kind

module _ (it : OneMore) (known : WasKnown it) (old : AllNewest (ends_of it).setting (ends_of it).w) where
  open it use {prior, prior.{script, sound, records as prefix}, legal}
  open ends_of it use {setting, w, records, v, By, present}

  abbrev Was : ℕ → Server
  Was n = w.servers n

  abbrev New : Cell → ℕ → Type 0
  New = IsNewest setting v

  on : IsPrefix (chosen_log setting w) (chosen_log setting v)
  on = chosen_on it

  -- a cell that was born by some of what was chosen is so by all that is chosen now
  born_on : (log : List Command) → IsPrefix log (chosen_log setting v) → (cell : Cell) → 1 ≤ stage_at (By log) cell → 1 ≤ stage_at (chosen_state setting v) cell
  born_on log lies cell born =
      let up = (log_below script.servers log (chosen_log setting v) (knows_now it).plain lies).stages cell in omega arith

  -- ### What was newest is so still

  -- the prefix at which the cells of a move are known was chosen before
  record IsKnownThen (cell old_cell : Cell) : Type 0 where
    f : List Command
    lies : IsPrefix f (chosen_log setting w)
    comes : source (By f) cell ≡ Some old_cell
    low : stage_at (By f) cell ≤ 1

  known_then : (f : List Command) (old_cell cell : Cell) → IsPrefix f (chosen_log setting v) → source (By f) cell ≡ Some old_cell → stage_at (By f) cell ≤ 1
      → 1 ≤ stage_at (chosen_state setting w) cell → IsKnownThen cell old_cell
  known_then f old_cell cell lies comes low born = elim (prefixes_meet f (chosen_log setting w) (chosen_log setting v) lies on) [
    | inl back ↦ record { f = f; lies = back; comes = comes; low = low }
    | inr more ↦
        let plain_f = plain_at present f lies in
        let up = (log_below script.servers (chosen_log setting w) f plain_f more).stages cell in
        let moved = log_comes script.servers f plain_f old_cell cell comes in
        let there = at_coming present f (chosen_log setting w) lies on old_cell cell moved (omega arith) in
        record { f = chosen_log setting w; lies = prefix_itself (chosen_log setting w); comes = there.0; low = (omega arith) }
  ]

  grown : (cell : Cell) (epoch : ℕ) → IsNewest setting w cell epoch → New cell epoch
  grown cell epoch k = record {
    born = born_on (chosen_log setting w) on cell k.born;
    newest = λ f old_cell before later lies comes low frozen lt has.
        let moved = log_comes script.servers f (plain_at present f lies) old_cell cell comes in
        let left = has_left present f (chosen_log setting w) lies on old_cell cell moved low k.born in
        let was : w.frozen old_cell ≡ Some before = sym (frozen_same it old_cell (inl left.three)) ∙ frozen in
        let t = known_then f old_cell cell lies comes low k.born in
        lift it known 0 (key_at cell later) (k.newest t.f old_cell before later t.lies t.comes t.low was lt has);
  }

  -- ### What is pending

  write_newest : (n : ℕ) (cell : Cell) (op : Pending) → at cell_cmp (Was n).own.pairs.pending cell ≡ Some op → is_clients op.kind ≡ true → New cell op.key.epoch
  write_newest n cell op is clients =
      let o = was_opened script sound prefix prior.legal n cell op is clients in
      let opened = prefix_on o.opened (chosen_log setting w) (chosen_log setting v) o.lies on in
      record {
        born = born_on o.opened opened cell o.timely.born;
        newest = λ f old_cell before later lies comes low frozen lt has.
            let moved = log_comes script.servers f (plain_at present f lies) old_cell cell comes in
            let left = has_left present f o.opened lies opened old_cell cell moved low o.timely.born in
            let le = frozen_then script records sound legal old_cell before later o.opened frozen has opened left.three in
            let epoch = o.timely.epoch in
            let one = left.epochs in
            absurd (omega arith);
      }

  coming_born : (rev : ℕ) (cell : Cell) → WasComing setting w rev cell → 1 ≤ stage_at (chosen_state setting v) cell
  coming_born rev cell c =
      let lies = prefix_on c.prefix (chosen_log setting w) (chosen_log setting v) c.lies on in
      let one = (facts_at present c.prefix lies cell).comes c.coming in
      born_on c.prefix lies cell (omega arith)

  is_fill : (op : Pending) → IsOpenedFor op → is_clients op.kind ≡ false → op.kind ≡ kind.Fill
  is_fill op (A_write e) f = true_false (ap is_clients e) f
  is_fill op (A_fill e one two) f = e

  pending_newest : (n : ℕ) (cell : Cell) (op : Pending) → at cell_cmp (Was n).own.pairs.pending cell ≡ Some op → IsWithin New op.key
  pending_newest n cell op is =
      let staged = ((resting script sound prefix prior.legal).pending n).staged cell op is in
      by_bool (is_clients op.kind)
      (λ clients. subst (λ (c : Cell). New c op.key.epoch) (sym staged.keyed) (write_newest n cell op is clients))
      (λ fills.
      let frozen = frozen_on it known op.rev op.key op.bytes (known.filled.asked n cell op is fills) in
      let comes = (comes_after setting (start setting) prefix (always_firm script prefix sound prior.legal) (start_rests script)
      (start_comes script) prior.legal).opened n cell op is (is_fill op staged.opened fills) in
      frozen_newest present op.rev op.key op.bytes frozen
      (subst (λ (c : Cell). 1 ≤ stage_at (chosen_state setting v) c) (sym staged.keyed) (coming_born op.rev cell comes)))

  told_newest : (n : ℕ) (said : Body) → Handled w n said → OfKey (IsWithin New) said
  told_newest n said h =
      subst (OfKey (IsWithin New)) h.is
      (of_key_on (IsWithin (IsNewest setting w)) (IsWithin New) (λ key k. grown (cell_of key) key.epoch k) h.letter.body (old.letters h.letter h.sent))

  moves_newest : (n : ℕ) → (Was n).life.running ≡ true → (now : PairState) (post : Post) → IsMoverOwn (Handled w n) (own_place setting w n) (Was n).own now
      → IsNextFill (own_place setting w n) now post → OfKey (IsWithin New) post.body
  moves_newest n runs now post mover f =
      let T = HasTold it known n in
      let told : T now.filled = elim mover [
        | inl same ↦ subst T (ap (λ (o : PairState). o.filled) (sym same)) (told_before it known n runs)
        | inr t ↦ subst T (ap (λ (o : PairState). o.filled) (sym t.is)) (told_now it known n runs t.key t.row t.told t.next)
      ] in
      let kept_store = mover_store (Handled w n) (own_place setting w n) (Was n).own now mover in
      let frozen = next_frozen it known n runs now post kept_store told f in
      let log = (Was n).log.applied in
      let lies = prefix_on log (chosen_log setting w) (chosen_log setting v) ((knows it).servers n) on in
      let comes = next_comes script.servers log (own_plain setting w (knows it) n) (own_place setting w n) refl now post f in
      let one = (facts_at present log lies f.cell).comes comes in
      subst (λ (p : Post). OfKey (IsWithin New) p.body) (sym f.is)
      (frozen_newest present (length log) (key_at f.cell f.key.epoch) f.entry.bytes frozen (born_on log lies f.cell (omega arith)))

  -- ### Stores

  abbrev AreNew : Table Cell Chain → Type 0
  AreNew chains = AreWithin New chains

  now_newest : (n : ℕ) → AreNew (Was n).own.store.chains
  now_newest n cell epoch entry is = grown cell epoch (old.now n cell epoch entry is)

  stores_by : (n : ℕ) (to : Server) (b : Option BeforeBlank) → HasStore it n to b → AreNew to.own.store.chains
  stores_by n to b (Goes_on (Keeps kept) same) = subst AreNew (sym kept.chains) (now_newest n)
  stores_by n to b (Goes_on (Works job) same) =
      subst (λ (o : PairState). AreNew o.store.chains) (sym job.own_is)
      (did_kept New (Handled w n) (own_place setting w n) (Was n).own (now_newest n) (pending_newest n) (told_newest n) job.done job.did)
  stores_by n to b (Goes_on (Awakes asleep is) same) = subst (λ (s : Server). AreNew s.own.store.chains) (sym is) (now_newest n)
  stores_by n to b (Is_bare asleep bare same) = subst (λ (s : Server). AreNew s.own.store.chains) (sym bare) (none_within New)

  abbrev Before_blank : World → Type 0
  Before_blank u = (n : ℕ) (b : BeforeBlank) → u.before_blank n ≡ Some b → AreNew b.store.chains

  before_newest : Before_blank w
  before_newest n b is cell epoch entry there = grown cell epoch (old.before n b is cell epoch entry there)

  before_by : (state : State) (u : World) → Happens setting state w u → Before_blank u
  before_by state _ (Serves n stamp what acted lt within unblanked serving) = λ k b is.
      before_newest k b (ap (λ (f : ℕ → Option BeforeBlank). f k) (sym unblanked) ∙ is)
  before_by state _ (Blanks n stamp lt within asleep) =
      let counts : AreNew (kept setting w n).chains =
      kept_by (λ (s : Store). AreNew s.chains) (blank_joins_in setting (chosen_log setting w) n) (w.before_blank n) (Was n).own.store
      (before_newest n) (now_newest n) in
      all_put w.before_blank n (Some (record { joins = blank_joins_in setting (chosen_log setting w) n; store = kept setting w n }))
      (λ k (o : Option BeforeBlank). (b : BeforeBlank) → o ≡ Some b → AreNew b.store.chains) before_newest
      (λ b is. subst (λ (x : BeforeBlank). AreNew x.store.chains) (same_some is) counts)
  before_by state _ (Turns c stamp in_call reacted lt within turned onward) = before_newest

  -- ### Letters

  letters_newest : (letter : Letter) → In letter v.sent → OfKey (IsWithin New) letter.body
  letters_newest letter i = elim (sent it letter i) [
    | Before was ↦
        of_key_on (IsWithin (IsNewest setting w)) (IsWithin New) (λ key k. grown (cell_of key) key.epoch k) letter.body (old.letters letter was)
    | Posted p ↦
        subst (OfKey (IsWithin New)) (sym p.body)
        (did_said New (Handled w p.n) (own_place setting w p.n) (Was p.n).own (now_newest p.n) (pending_newest p.n) (told_newest p.n)
        (moves_newest p.n p.job.runs) p.job.done p.job.did p.post p.there)
    | Other none ↦ of_no_key (IsWithin New) letter.body none
  ]

  pub newest_next : AllNewest setting v
  newest_next =
      let state = chosen_state setting v in
      record {
        now = λ n. stores_by n (v.servers n) _ (gone it n);
        before = before_by state v (last_happens script prefix it.own (always_firm script records sound legal) legal state (below_itself state));
        letters = letters_newest;
      }

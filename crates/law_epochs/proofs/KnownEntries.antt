-- Every step keeps that no server has in its stores, nor has pending, an entry of an epoch that it doesn't know of, or of a cell that is not live yet.
use Rattle.law_epochs.proofs.Imports.{[], ◌==◌, ◌∙◌, ◌≡◌, ◌≤◌, Acted, BeforeBlank, Blanks, Body, By_ballot, By_entry, By_job, Cell, Command, Fails, Fills}
use Rattle.law_epochs.proofs.Imports.{Firm, Goes, Handled, Happens, HasProperTuples, In, IsPrefix, JobResult, Key, Letter, List, Log, None, Option, Pairs}
use Rattle.law_epochs.proofs.Imports.{Pending, Server, Serves, Serving, Setting, Some, State, Stays, Step, Stood, Store, Table, Turns, Wakes, Worked, World}
use Rattle.law_epochs.proofs.Imports.{Writes, all_put, ap, arith, at, at-empty, ballot_store, blank_joins_in, blanked, by_bool, by_test, cell_cmp, cell_of}
use Rattle.law_epochs.proofs.Imports.{chosen_log, crossed, did_come, epoch_at, false, is_clients, kept, kept_store, length, log_below, none_some, one_prefix}
use Rattle.law_epochs.proofs.Imports.{own_place, own_plain, prefix_on, proposed_pairs, refl, same_some, server_state, settling, stage_at, start, state_after}
use Rattle.law_epochs.proofs.Imports.{subst, sym, true, true_false, ℕ}
use Rattle.law_steps.specs.DidStep.{Ends}
use Rattle.law_epochs.proofs.PendingIsInTime.{firm, opened_by, was_opened}
use Rattle.law_epochs.proofs.EntriesAfterJobs.{did_kept}
use Rattle.law_epochs.proofs.ReportedHaveNoPending.{resting}
use Rattle.law_epochs.proofs.EntryPredicates.{AreWithin, IsWithin, OfKey, none_within, of_key_on}
use Rattle.law_epochs.proofs.EpochScenes.{OneMore, ends_of}

-- by these entries the epoch is one that the cell's disk has, or has had, and the cell is live, or has been
pub record IsKnownBy (servers : ℕ) (log : List Command) (cell : Cell) (epoch : ℕ) : Type 0 where
  pub within : epoch ≤ epoch_at (state_after servers log) cell
  pub born : 1 ≤ stage_at (state_after servers log) cell

-- so it is by more of them
pub known_more : (servers : ℕ) (prefix whole : List Command) → HasProperTuples servers whole → IsPrefix prefix whole → (cell : Cell) (epoch : ℕ)
    → IsKnownBy servers prefix cell epoch → IsKnownBy servers whole cell epoch
known_more servers prefix whole plain is_prefix cell epoch k =
    let below = log_below servers prefix whole plain is_prefix in
    let epochs = below.epochs cell in
    let stages = below.stages cell in
    let within = k.within in
    let born = k.born in
    record { within = omega arith; born = omega arith }

-- the key is known by as many of the chosen entries
pub record IsKnown (setting : Setting) (w : World) (rev : ℕ) (key : Key) : Type 0 where
  pub prefix : List Command
  pub lies : IsPrefix prefix (chosen_log setting w)
  pub long : length prefix ≡ rev
  pub early : IsWithin (IsKnownBy setting.servers prefix) key

-- so are the entries of stores and the entries for which operations were opened, by what the server has applied; and the keys that letters tell
-- of, by the letters' revisions
pub record AllEarly (setting : Setting) (w : World) : Type 0 where
  pub now : (n : ℕ) → AreWithin (IsKnownBy setting.servers (w.servers n).log.applied) (w.servers n).own.store.chains
  pub before : (n : ℕ) (b : BeforeBlank) → w.before_blank n ≡ Some b → AreWithin (IsKnownBy setting.servers (w.servers n).log.applied) b.store.chains
  pub fills : (n : ℕ) (cell : Cell) (op : Pending) → at cell_cmp (w.servers n).own.pairs.pending cell ≡ Some op → is_clients op.kind ≡ false
      → IsWithin (IsKnownBy setting.servers (w.servers n).log.applied) op.key
  pub letters : (letter : Letter) → In letter w.sent → OfKey (IsKnown setting w letter.rev) letter.body

pub start_early : (setting : Setting) → AllEarly setting (start setting)
unfolding In
start_early setting = record {
  now = λ n. none_within (IsKnownBy setting.servers []);
  before = λ n before is. none_some refl is;
  fills = λ n cell op is. none_some (at-empty cell_cmp cell) is;
  letters = λ letter i. absurd i;
}

-- the store that counts is the one from before a blank, or the one now
pub kept_by : (P : Store → Type 0) (joins : ℕ) (o : Option BeforeBlank) (store : Store) → ((b : BeforeBlank) → o ≡ Some b → P b.store) → P store
    → P (kept_store joins o store)
kept_by P joins None store before now = now
kept_by P joins (Some b) store before now = by_test P (b.joins == joins) b.store store (λ same. before b refl) (λ other. now)

-- what is posted of this is said of this
module _ (it : OneMore) (old : AllEarly (ends_of it).setting (ends_of it).w) where
  open it use {prior, prior.{script, sound, records as prefix}}
  open ends_of it use {setting, w, v, top_whole}

  knows : Firm setting w
  knows = firm script sound prefix prior.legal

  abbrev Own_log : ℕ → List Command
  Own_log n = (w.servers n).log.applied

  -- by the server's own entries
  abbrev bound : ℕ → Cell → ℕ → Type 0
  bound n = IsKnownBy setting.servers (Own_log n)

  pub known_on : (rev : ℕ) (key : Key) → IsKnown setting w rev key → IsKnown setting v rev key
  known_on rev key k = record { prefix = k.prefix; lies = prefix_on k.prefix _ _ k.lies top_whole; long = k.long; early = k.early }

  -- what a server has pending is known to it: a write was asked for at an epoch of then, and an entry that moves was heard of
  write_within : (n : ℕ) (cell : Cell) (op : Pending) → at cell_cmp (w.servers n).own.pairs.pending cell ≡ Some op → is_clients op.kind ≡ true
      → IsWithin (bound n) op.key
  write_within n cell op is clients =
      let o = was_opened script sound prefix prior.legal n cell op is clients in
      let on = opened_by script sound prefix prior.legal n cell op is clients in
      let epoch = o.timely.epoch in
      let keyed = (((resting script sound prefix prior.legal).pending n).staged cell op is).keyed in
      known_more script.servers o.opened (Own_log n) (own_plain setting w knows n) on (cell_of op.key) op.key.epoch
      (subst (λ (q : Cell). IsKnownBy script.servers o.opened q op.key.epoch) (sym keyed) (record { within = omega arith; born = o.timely.born }))

  pub pending_within : (n : ℕ) (cell : Cell) (op : Pending) → at cell_cmp (w.servers n).own.pairs.pending cell ≡ Some op → IsWithin (bound n) op.key
  pending_within n cell op is = by_bool (is_clients op.kind) (write_within n cell op is) (old.fills n cell op is)

  -- and so is what it hears at its own revision
  pub told_within : (n : ℕ) (what : Body) → Handled w n what → OfKey (IsWithin (bound n)) what
  told_within n what h =
      subst (OfKey (IsWithin (bound n))) h.is
      (of_key_on (IsKnown setting w h.letter.rev) (IsWithin (bound n)) (λ key k.
      let same : k.prefix ≡ Own_log n = one_prefix k.prefix (Own_log n) (chosen_log setting w) k.lies (knows.servers n) (k.long ∙ h.at) in
      subst (λ log. IsWithin (IsKnownBy setting.servers log) key) same k.early) h.letter.body (old.letters h.letter h.sent))

  pub now_within : (n : ℕ) → AreWithin (bound n) (w.servers n).own.store.chains
  now_within n = old.now n

  -- ### Stores

  worked_within : (n : ℕ) (log : Log) (done : JobResult) → Worked setting w n log done → AreWithin (bound n) done.own.store.chains
  worked_within n _ _ (By_job log done same did seat) =
      did_kept (bound n) (Handled w n) (own_place setting w n) (w.servers n).own (now_within n) (pending_within n) (told_within n) done did
  worked_within n _ _ (By_ballot log started posts same starts says) =
      subst (λ (s : Store). AreWithin (bound n) s.chains) (sym (ballot_store (server_state setting w n) (w.servers n).own started)) (now_within n)
  worked_within n _ _ (By_entry log entry more onward) =
      let here = own_place setting w n in
      subst (AreWithin (bound n)) (sym (settling here entry (crossed here.state entry (w.servers n).own)).chains) (now_within n)

  serves_within : (n : ℕ) (what : Step) (acted : Acted) → Serving setting w n what acted → AreWithin (bound n) acted.server.own.store.chains
  serves_within n what _ (Goes log done queue runs worked queued works) = worked_within n log done worked
  serves_within n what _ (Ends log done runs worked) = worked_within n log done worked
  serves_within n what _ (Stays who posts from shown) = now_within n
  serves_within n what _ (Wakes booted asleep) = now_within n
  serves_within n what _ (Fails booted asleep) = now_within n

  abbrev Stores : World → Type 0
  Stores u = (n : ℕ) → AreWithin (bound n) (u.servers n).own.store.chains

  abbrev Before : World → Type 0
  Before u = (n : ℕ) (b : BeforeBlank) → u.before_blank n ≡ Some b → AreWithin (bound n) b.store.chains

  pub stores_within : (state : State) (u : World) → Happens setting state w u → Stores u
  stores_within state _ (Serves n stamp what acted lt within unblanked serving) =
      all_put w.servers n acted.server (λ k (x : Server). AreWithin (bound k) x.own.store.chains) now_within (serves_within n what acted serving)
  stores_within state _ (Blanks n stamp lt within asleep) =
      all_put w.servers n (blanked (w.servers n)) (λ k (x : Server). AreWithin (bound k) x.own.store.chains) now_within (none_within (bound n))
  stores_within state _ (Turns c stamp in_call reacted lt within turned onward) = now_within

  pub before_within : (state : State) (u : World) → Happens setting state w u → Before u
  before_within state _ (Serves n stamp what acted lt within unblanked serving) = λ k b is.
      old.before k b (ap (λ (f : ℕ → Option BeforeBlank). f k) (sym unblanked) ∙ is)
  before_within state _ (Blanks n stamp lt within asleep) =
      let counts : AreWithin (bound n) (kept setting w n).chains =
      kept_by (λ (s : Store). AreWithin (bound n) s.chains) (blank_joins_in setting (chosen_log setting w) n) (w.before_blank n) (w.servers n).own.store
      (old.before n) (now_within n) in
      all_put w.before_blank n (Some (record { joins = blank_joins_in setting (chosen_log setting w) n; store = kept setting w n }))
      (λ k (o : Option BeforeBlank). (b : BeforeBlank) → o ≡ Some b → AreWithin (bound k) b.store.chains) old.before
      (λ b is. subst (λ (x : BeforeBlank). AreWithin (bound n) x.store.chains) (same_some is) counts)
  before_within state _ (Turns c stamp in_call reacted lt within turned onward) = old.before

  -- ### Entries for which operations were opened

  abbrev AreFills : (n : ℕ) → Table Cell Pending → Type 0
  AreFills n pending = (cell : Cell) (op : Pending) → at cell_cmp pending cell ≡ Some op → is_clients op.kind ≡ false → IsWithin (bound n) op.key

  same_fills : (n : ℕ) (pending : Table Cell Pending) → pending ≡ (w.servers n).own.pairs.pending → AreFills n pending
  same_fills n pending same = subst (AreFills n) (sym same) (old.fills n)

  worked_fills : (n : ℕ) (log : Log) (done : JobResult) → Worked setting w n log done → AreFills n done.own.pairs.pending
  worked_fills n _ _ (By_job log done same did seat) = λ cell op is fills.
      elim (did_come (Handled w n) (own_place setting w n) (w.servers n).own done did cell op is) [
        | Stood was ↦ subst (IsWithin (bound n)) was.same.key (old.fills n cell was.was was.is (ap is_clients was.same.kind ∙ fills))
        | Writes write ↦ true_false (ap is_clients write) fills
        | Fills opened ↦ subst (IsWithin (bound n)) (sym opened.key) (told_within n _ opened.asked)
      ]
  worked_fills n _ _ (By_ballot log started posts same starts says) =
      same_fills n _ (ap (λ (p : Pairs). p.pending) (proposed_pairs (server_state setting w n) (w.servers n).own started))
  worked_fills n _ _ (By_entry log entry more onward) =
      let here = own_place setting w n in
      same_fills n _ (ap (λ (p : Pairs). p.pending) (settling here entry (crossed here.state entry (w.servers n).own)).pairs)

  serves_fills : (n : ℕ) (what : Step) (acted : Acted) → Serving setting w n what acted → AreFills n acted.server.own.pairs.pending
  serves_fills n what _ (Goes log done queue runs worked queued works) = worked_fills n log done worked
  serves_fills n what _ (Ends log done runs worked) = worked_fills n log done worked
  serves_fills n what _ (Stays who posts from shown) = old.fills n
  serves_fills n what _ (Wakes booted asleep) = λ cell op is. none_some (at-empty cell_cmp cell) is
  serves_fills n what _ (Fails booted asleep) = old.fills n

  pub fills_within : (state : State) (u : World) → Happens setting state w u → (n : ℕ) → AreFills n (u.servers n).own.pairs.pending
  fills_within state _ (Serves n stamp what acted lt within unblanked serving) =
      all_put w.servers n acted.server (λ k (x : Server). AreFills k x.own.pairs.pending) old.fills (serves_fills n what acted serving)
  fills_within state _ (Blanks n stamp lt within asleep) =
      all_put w.servers n (blanked (w.servers n)) (λ k (x : Server). AreFills k x.own.pairs.pending) old.fills (old.fills n)
  fills_within state _ (Turns c stamp in_call reacted lt within turned onward) = old.fills

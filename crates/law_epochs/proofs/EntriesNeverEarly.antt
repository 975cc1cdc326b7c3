-- Every step keeps that no server has an entry of an epoch that it doesn't know of, or of a cell that is not live yet, nor a letter of its
-- revision tells of one.
use Rattle.law_epochs.proofs.Imports.{[], ◌∙◌, ◌∷◌, ◌≡◌, ◌≢◌, ◌≤◌, Acted, AreSteps, Aside, At, BeforeBlank, Cell, Chain, Command, Firm, Handled, Happens, In}
use Rattle.law_epochs.proofs.Imports.{IsNextFill, IsOfJob, IsSound, Key, Letter, List, Of_job, PairState, Post, Record, Script, Some, State, Step, Store}
use Rattle.law_epochs.proofs.Imports.{Was_sent, always_firm, ap, arith, at, below_itself, by_run, cell_of, chain_in, chosen_state, happens_sent, last_happens}
use Rattle.law_epochs.proofs.Imports.{length, log_rev, nat_cmp, next_comes, own_place, own_plain, prefix_on, refl, run_of, setting_of, slice_get, stage_at}
use Rattle.law_epochs.proofs.Imports.{stage_facts, state_after, subject_of, subst, sym, twins_epoch, ℕ}
use Rattle.law_epochs.specs.EntryEpochs.{AreEarly, HaveEarlyEntries}
use Rattle.law_epochs.proofs.RowKeysHold.{at_key}
use Rattle.law_epochs.proofs.PendingIsInTime.{firm}
use Rattle.law_epochs.proofs.ReportedHaveNoPending.{grows}
use Rattle.law_epochs.proofs.KeysToldByJobs.{IsMoverOwn, did_said, mover_store}
use Rattle.law_epochs.proofs.EntryPredicates.{AreWithin, IsWithin, OfKey, aside_none, of_key_on, of_no_key}
use Rattle.law_epochs.proofs.KnownEntries.{AllEarly, IsKnown, before_within, fills_within, known_more, known_on, now_within, pending_within, start_early}
use Rattle.law_epochs.proofs.KnownEntries.{stores_within, told_within}
use Rattle.law_epochs.proofs.EpochScenes.{OneMore, ends_of}
pub use Rattle.law_epochs.proofs.KnownEntries.{IsKnownBy, kept_by}

-- ### A step

module _ (it : OneMore) (old : AllEarly (ends_of it).setting (ends_of it).w) where
  open it use {prior, prior.{script, sound, records as prefix}, own, legal}
  open ends_of it use {setting, w, v, top_whole, records}

  knows : Firm setting w
  knows = firm script sound prefix prior.legal

  abbrev Own_log : ℕ → List Command
  Own_log n = (w.servers n).log.applied

  -- by the server's own entries
  abbrev bound : ℕ → Cell → ℕ → Type 0
  bound n = IsKnownBy setting.servers (Own_log n)

  -- an entry that a server moves is of an epoch that the new map's disk has too: it is the same disk; and the region is on its way
  moves_within : (n : ℕ) (own : PairState) (post : Post) → IsMoverOwn (Handled w n) (own_place setting w n) (w.servers n).own own
      → IsNextFill (own_place setting w n) own post → OfKey (IsWithin (bound n)) post.body
  moves_within n own post mover f =
      let same : own.store ≡ (w.servers n).own.store = mover_store (Handled w n) (own_place setting w n) (w.servers n).own own mover in
      let log = Own_log n in
      let plain = own_plain setting w knows n in
      let stored = ap (λ (s : Store). at nat_cmp (chain_in s.chains (cell_of f.key)) f.key.epoch) (sym same) ∙ f.stored in
      let old_known = old.now n (cell_of f.key) f.key.epoch f.entry stored in
      let epochs = twins_epoch script.servers log plain (cell_of f.key) f.cell f.goes_to in
      let comes = next_comes script.servers log plain (own_place setting w n) refl own post f in
      let within = old_known.within in
      let one = (stage_facts script.servers log plain f.cell).comes comes in
      subst (λ (p : Post). OfKey (IsWithin (bound n)) p.body) (sym f.is) (record { within = omega arith; born = omega arith })

  -- ### Letters

  -- a server says of its own revision what it knows
  own_known : (n rev : ℕ) → length (Own_log n) ≡ rev → (key : Key) → IsWithin (bound n) key → IsKnown setting v rev key
  own_known n rev long key early = record { prefix = Own_log n; lies = prefix_on (Own_log n) _ _ (knows.servers n) top_whole; long = long; early = early }

  job_said : (n stamp : ℕ) (what : Step) (acted : Acted) (letter : Letter) → IsOfJob setting w n stamp what acted letter
      → OfKey (IsKnown setting v letter.rev) letter.body
  job_said n stamp what acted letter job =
      subst (OfKey (IsKnown setting v letter.rev)) (sym job.body)
      (of_key_on (IsWithin (bound n)) (IsKnown setting v letter.rev)
      (own_known n letter.rev (sym (log_rev setting.servers (Own_log n)) ∙ sym job.rev)) job.post.body
      (did_said (bound n) (Handled w n) (own_place setting w n) (w.servers n).own (now_within it old n) (pending_within it old n) (told_within it old n)
      (moves_within n) job.done job.did job.post job.there))

  letters_said : (state : State) → Happens setting state w v → (letter : Letter) → In letter v.sent → OfKey (IsKnown setting v letter.rev) letter.body
  letters_said state happened letter i = elim (happens_sent setting state w v happened letter i) [
    | Was_sent before ↦ of_key_on (IsKnown setting w letter.rev) (IsKnown setting v letter.rev) (known_on it old letter.rev) letter.body
        (old.letters letter before)
    | Of_job n stamp what acted job now others ↦ job_said n stamp what acted letter job
    | Aside apart ↦ of_no_key (IsKnown setting v letter.rev) letter.body (aside_none (subject_of letter.body) apart)
  ]

  -- ### The world after the step

  grown : (n : ℕ) (cell : Cell) (epoch : ℕ) → bound n cell epoch → IsKnownBy setting.servers (v.servers n).log.applied cell epoch
  grown n = known_more script.servers (Own_log n) (v.servers n).log.applied (own_plain setting v (firm script sound records legal) n)
      (grows script sound records legal prefix (own ∷ []) refl n)

  -- also by what the server had applied before the step
  pub now_then : (n : ℕ) → AreWithin (bound n) (v.servers n).own.store.chains
  now_then =
      let state = chosen_state setting v in
      stores_within it old state v
      (last_happens script prefix own (always_firm script records sound legal) legal state (below_itself state))

  pub before_then : (n : ℕ) (b : BeforeBlank) → v.before_blank n ≡ Some b → AreWithin (bound n) b.store.chains
  before_then =
      let state = chosen_state setting v in
      before_within it old state v
      (last_happens script prefix own (always_firm script records sound legal) legal state (below_itself state))

  pub early_next : AllEarly setting v
  early_next =
      let state = chosen_state setting v in
      let happened = last_happens script prefix own (always_firm script records sound legal) legal state (below_itself state) in
      record {
        now = λ n cell epoch entry is. grown n cell epoch (stores_within it old state v happened n cell epoch entry is);
        before = λ n b is cell epoch entry there. grown n cell epoch
            (before_within it old state v happened n b is cell epoch entry there);
        fills = λ n cell op is fills. grown n (cell_of op.key) op.key.epoch (fills_within it old state v happened n cell op is fills);
        letters = letters_said state happened;
      }

pub all_early : (script : Script) (records : List Record) → IsSound script → AreSteps script records → AllEarly (setting_of script) (At script records)
all_early script records sound legal =
    by_run (λ run. AllEarly (setting_of run.script) (At run.script run.records)) (λ script sound legal. start_early (setting_of script)) early_next
    (run_of script sound records legal)

-- ### As it is told above

-- a chain that is not empty has an entry
early_so : (servers : ℕ) (log : List Command) (store : Store) → AreWithin (IsKnownBy servers log) store.chains → AreEarly servers log store
early_so servers log store all = record {
  known = λ cell epoch entry is. (all cell epoch entry is).within;
  lived = λ cell some. by cell (chain_in store.chains cell) refl some;
}
  where
    by : (cell : Cell) (chain : Chain) → chain_in store.chains cell ≡ chain → chain_in store.chains cell ≢ [] → 1 ≤ stage_at (state_after servers log) cell
    by cell [] is some = absurd (some is)
    by cell (row ∷ rows) is some =
        let there = at_key (chain_in store.chains cell) 0 row (ap (λ (c : Chain). slice_get c 0) is) in
        (all cell row.0 there.0 there.1).born

pub early_entries : (script : Script) (records : List Record) → IsSound script → AreSteps script records
    → HaveEarlyEntries script.servers (At script records)
early_entries script records sound legal =
    let all = all_early script records sound legal in
    record {
      now = λ n. early_so script.servers _ _ (all.now n);
      before = λ n b is. early_so script.servers _ _ (all.before n b is);
    }

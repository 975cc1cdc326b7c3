-- What a job of a server may change of a cell whose link the server serves, by its own state or by a later one by which it is In still: it puts an operation
-- that it has pending, or what the lead asked it to put. No copy changes it: by the later state the server serves the link, so a Caught stands between
-- the two, which the holder had started at the server's own place, and nothing was left to copy then.
use Rattle.law_moves.proofs.Imports.{[], ◌==◌, ◌∙◌, ◌∷◌, ◌≡◌, ◌≤◌, AliveIn, AreCopying, Body, Bool, Cell, Chain, Command, Copying, Did, Handled, HasSent}
use Rattle.law_moves.proofs.Imports.{IsCaught, IsLeft, IsLinked, IsOther, IsPrefix, IsSeatedOrMute, IsServing, IsSteady, IsTold, JobResult, Key, LastCopy}
use Rattle.law_moves.proofs.Imports.{LinkRow, List, Named, Only, Option, PairState, Pending, Run, Setting, Some, Store, Stored, Table, World, about}
use Rattle.law_moves.proofs.Imports.{alone_or_flagged, alone_row, ap, arith, at, at_most_or_above, by_bool, cell_cmp, cell_holder, cell_of, chain_apart}
use Rattle.law_moves.proofs.Imports.{chain_in, chosen_caught_was, chosen_state, copying_on, end_of, false, held_by, id_of, inl, inr, is_alone, is_alone_on}
use Rattle.law_moves.proofs.Imports.{is_clients, is_flagged, is_in, is_second, kept, last_copy, last_on, live, nat_cmp, none_some, number_itself}
use Rattle.law_moves.proofs.Imports.{option_map_or, other_apart, other_of, other_than, own_place, place_by, prefix_itself, put, refl, running_timely}
use Rattle.law_moves.proofs.Imports.{same_cell_or_apart, same_numbers, same_some, server_state, serves, serves_alone, stage_at, stage_live, state_after}
use Rattle.law_moves.proofs.Imports.{subst, sym, taking, true, true_false, unseen_beyond, ℕ}
use Rattle.law_copies.specs.CopyProgress.{links_of}
use Rattle.law_copies.proofs.ServedAtLaterPrefixes.{holder_is_one}
use Rattle.law_moves.proofs.JobsChangeOneChain.{A_copy, An_asked, An_own, CopiesSo, Is_dropped, Is_dropped_first, Is_put, NeverRetired, Nothing_new}
use Rattle.law_moves.proofs.JobsChangeOneChain.{Of_the_retired, StoresSo, copied_apart, did_stores, put_on}
use Rattle.law_moves.proofs.MoveWorlds.{firm, good, own_counts, rests, steady_at, up}
use Rattle.petal_msg.specs.declared.body.Body.TheVariants as body
use Rattle.petal_msg.specs.declared.operation.FollowProgress.TheVariants as follow_progress

-- no fill is pending at a server that runs but while its cell comes
abbrev pub AreOpenedComing : Setting → World → Type 0
AreOpenedComing setting w = (m : ℕ) (cell : Cell) (op : Pending) → (w.servers m).life.running ≡ true
    → at cell_cmp (w.servers m).own.pairs.pending cell ≡ Some op → is_clients op.kind ≡ false → stage_at (chosen_state setting w) cell ≡ 1

-- the chain with an entry put
abbrev pub IsPutOn : (old new : Chain) → ℕ → List ℕ → Type 0
IsPutOn old new epoch bytes = (entry : Stored) × (entry.bytes ≡ bytes) × (new ≡ put nat_cmp old epoch entry)

module _ (it : Run) (opened : AreOpenedComing (end_of it).setting (end_of it).w) (n : ℕ) (runs : ((end_of it).w.servers n).life.running ≡ true) where
  open it use {script, sound, records, legal}
  open end_of it use {setting, w, chosen}

  abbrev own : PairState
  own = (w.servers n).own

  abbrev mine : List Command
  mine = (w.servers n).log.applied

  mine_chosen : IsPrefix mine chosen
  mine_chosen = (firm it).servers n

  -- nothing is pending on a retired cell
  pub never_retired : NeverRetired (own_place setting w n) own
  never_retired now op taken off =
      let k = taking own now op taken in
      let staged = ((rests it).pending n).staged op.cell k.old k.was in
      let born = staged.born in
      let le = up it mine chosen mine_chosen (prefix_itself chosen) op.cell in
      let low : stage_at (server_state setting w n) op.cell ≤ 2 = by_bool (is_clients k.old.kind)
      (λ clients. let stays = (running_timely script records sound legal n op.cell k.old runs k.was clients).stays in omega arith)
      (λ fills. let one = opened n op.cell k.old runs k.was fills in omega arith) in
      true_false (stage_live (server_state setting w n) op.cell born (omega arith)) off

  module _ (prefix : List Command) (on : IsPrefix mine prefix) (lies : IsPrefix prefix chosen)
      (seat : is_in (server_state setting w n) n (w.servers n).life.inc ≡ true) (cell : Cell)
      (low : stage_at (state_after script.servers prefix) cell ≤ 3) (serving : IsServing (state_after script.servers prefix) n cell) where
    own_alive : AliveIn (server_state setting w n) cell
    own_alive = let le = up it mine prefix on lies cell in omega arith

    abbrev stores : ℕ → Store
    stores = kept setting w

    -- ### The server doesn't hold its copy for another one

    module _ (holder : ℕ) (held : cell_holder (own_place setting w n) cell ≡ Some holder) where
      abbrev o : (row : LinkRow) × IsOther (own_place setting w n) cell row holder
      o = held_by (own_place setting w n) cell holder held

      abbrev row : LinkRow
      row = o.0

      is : IsLinked setting mine cell row
      is = o.1.is

      abbrev h : ℕ
      h = other_of n row

      on_it : is_alone_on (server_state setting w n) h cell ≡ true
      on_it = ap (λ x. option_map_or (λ (r : LinkRow). is_alone h r.state) x false) o.1.is ∙ o.1.alone

      abbrev whole : Bool
      whole = (alone_row (server_state setting w n) h cell on_it).whole

      alone : row.state ≡ Only h whole
      alone =
          let a = alone_row (server_state setting w n) h cell on_it in
          ap (λ (r : LinkRow). r.state) (same_some (sym o.1.is ∙ a.is)) ∙ a.alone

      steady : IsSteady (server_state setting w n)
      steady = steady_at it mine mine_chosen

      apart : (h == n) ≡ false
      apart = by_bool (h == n) (λ t. absurd (other_apart row n (steady.linked cell row o.1.is).apart (same_numbers h n t))) (λ f. f)

      other_is : other_of h row ≡ n
      other_is = other_than h n row (holder_is_one (server_state setting w n) steady h cell row o.1.is alone) o.1.one_of apart

      abbrev place : ℕ
      place = place_by setting mine row

      abbrev visit : ℕ → Option PairState
      visit k = (good it).visits k place cell

      -- what it has in memory of the place is what it has now
      visit_mine : visit (other_of h row) ≡ Some own
      visit_mine =
          let here = (good it).here n cell row is seat own_alive in
          ap visit other_is ∙ here.is
          ∙ ap Some (here.same ∙ (λ i. record own { store = own_counts it n runs mine mine_chosen seat i }))

      -- the holder had started a ballot for the Caught at the place
      flagged : (by : PairState) × (visit h ≡ Some by) × (is_flagged by (id_of row) ≡ true)
      flagged = elim (alone_or_flagged setting records w stores (firm it) (good it)
          (chosen_caught_was script records sound legal) mine prefix cell row serving.row h whole on lies is alone serving.is (omega arith)
          (λ p lt. ap (λ k. (good it).visits k p cell) other_is
          ∙ unseen_beyond setting records w stores (firm it) (good it) n cell row is p lt)) [
            | inl still ↦ true_false (ap (λ k. k == n) (sym (serves_alone h n serving.row still.1 serving.so)) ∙ number_itself n) apart
            | inr (inl lost) ↦ true_false serving.so (ap (serves n serving.row) lost)
            | inr (inr flag) ↦ flag
          ]

      copying : AreCopying (links_of (server_state setting w n) cell.map) row cell (visit h) (visit (other_of h row))
      copying = ((good it).alone mine cell row h whole mine_chosen is alone).copying

      caught : IsCaught flagged.0 row cell
      caught = copying.caught flagged.0 flagged.1 flagged.2

      not_left : (by : PairState) → visit h ≡ Some by → IsLeft by row cell → ⊥
      not_left by met left = elim (subst (λ (x : PairState). IsLeft x row cell) (same_some (sym met ∙ flagged.1)) left) [
        | inl marked ↦ caught.unmarked marked
        | inr rest ↦ caught.copied rest.0 rest.1
      ]

      not_copying : (by : PairState) (copy : Copying) → visit h ≡ Some by → copying_on by cell ≡ Some copy → ⊥
      not_copying by copy met there =
          none_some caught.idle (ap (λ (x : PairState). copying_on x cell) (same_some (sym flagged.1 ∙ met)) ∙ there)

      told : (said : Body) → Handled w n said → (about said).cell ≡ Some cell → IsTold row (visit h) (visit (other_of h row)) said
      told said hears of = subst (λ (b : Body). (about b).cell ≡ Some cell → IsTold row (visit h) (visit (other_of h row)) b) hears.is
          (((good it).letters hears.letter hears.sent mine cell row mine_chosen (sym hears.at) is own_alive).alone h whole alone)
          of

      never_copied : (chains : Table Cell Chain) → CopiesSo (Handled w n) own cell chains → ⊥
      never_copied chains (Is_put entry last e hears there number index same) =
          let sent = subst (λ (q : Cell). HasSent row (visit h) (visit (other_of h row)) q entry.op entry.index (entry.key.epoch, entry.stored)) e
          (told _ hears (ap Some e)) in
          let past = sent.trimmed.past in
          let mine_is : past.own ≡ own = same_some (sym past.met ∙ visit_mine) in
          let last_is : last ≡ past.last = same_some (sym there ∙ ap (λ (x : PairState). last_copy x cell) (sym mine_is) ∙ past.is) in
          let of = sent.of_last (number ∙ ap (λ (l : LastCopy). l.op) last_is) in
          not_left of.own of.met (of.left (index ∙ ap (λ (l : LastCopy). l.index) last_is))
      never_copied chains (Is_dropped_first number epochs epoch hears newer same) = elim (told _ hears refl) [
        | inl past ↦
            let mine_is : past.own ≡ own = same_some (sym past.met ∙ visit_mine) in
            let lt = newer past.last (ap (λ (x : PairState). last_copy x cell) (sym mine_is) ∙ past.is) in
            let le = past.past in
            absurd (omega arith)
        | inr asked ↦ not_copying asked.own asked.trimming.copy asked.met asked.trimming.is
      ]
      never_copied chains (Is_dropped last epoch epochs there beyond same) =
          let l = copying.lasts own last visit_mine there in
          elim l.trimmed [
            | inl none ↦ (let f : [] ≡ epoch ∷ epochs = sym none ∙ beyond in absurd cc)
            | inr trimming ↦ not_copying l.by trimming.copy l.met trimming.is
          ]

    -- ### What a job leaves

    abbrev chain : Chain
    chain = chain_in own.store.chains cell

    pub data ChainSo (new : Chain) : Type 0 where
      Same : new ≡ chain → ChainSo new
      Own_put : (op : Pending) → at cell_cmp own.pairs.pending cell ≡ Some op → op.stage.put ≡ false → IsPutOn chain new op.key.epoch op.bytes → ChainSo new
      Asked_put : (number : ℕ) (key : Key) (version : ℕ) (origin : Option Named) (bytes : List ℕ)
          → Handled w n (body.Replicate number key version origin bytes) → cell_of key ≡ cell → is_second (server_state setting w n) n cell ≡ true
          → last_on own cell ≡ Some (record { op = number; progress = follow_progress.Reserved }) → IsPutOn chain new key.epoch bytes → ChainSo new

    stored_so : (new : Table Cell Chain) → StoresSo (Handled w n) (own_place setting w n) own new → ChainSo (chain_in new cell)
    stored_so new (Nothing_new same) = Same (ap (λ c. chain_in c cell) same)
    stored_so new (An_own p) =
        let keyed = (((rests it).pending n).staged p.op.cell p.op p.is).keyed in
        elim (same_cell_or_apart cell p.op.cell) [
          | inl e ↦ Own_put p.op (ap (at cell_cmp own.pairs.pending) e ∙ p.is) p.fresh (
            p.entry,
            p.bytes,
            ap (λ c. chain_in c cell) p.chains ∙ put_on own.store.chains p.op.key p.entry cell (keyed ∙ sym e),
          )
          | inr ne ↦ Same (ap (λ c. chain_in c cell) p.chains ∙ chain_apart own.store.chains (cell_of p.op.key) _ cell (λ f. ne (f ∙ keyed)))
        ]
    stored_so new (An_asked p) = elim (same_cell_or_apart (cell_of p.key) cell) [
      | inl e ↦ Asked_put p.number p.key p.version p.origin p.bytes p.asked e
          (subst (λ (q : Cell). is_second (server_state setting w n) n q ≡ true) e p.seconds)
          (subst (λ (q : Cell). last_on own q ≡ Some (record { op = p.number; progress = follow_progress.Reserved })) e p.last)
          (p.entry, p.put, ap (λ c. chain_in c cell) p.chains ∙ put_on own.store.chains p.key p.entry cell e)
      | inr ne ↦ Same (ap (λ c. chain_in c cell) p.chains ∙ chain_apart own.store.chains (cell_of p.key) _ cell (λ f. ne (sym f)))
    ]
    stored_so new (A_copy p) = elim (same_cell_or_apart cell p.cell) [
      | inl e ↦ absurd (never_copied p.holder (ap (cell_holder (own_place setting w n)) e ∙ p.held) new
          (subst (λ (q : Cell). CopiesSo (Handled w n) own q new) (sym e) p.how))
      | inr ne ↦ Same (copied_apart (Handled w n) own p.cell new p.how cell ne)
    ]
    stored_so new (Of_the_retired p) = elim (same_cell_or_apart cell p.cell) [
      | inl e ↦ (let none = unborn (ap (live (server_state setting w n)) e ∙ p.off) in Same (p.none cell none ∙ sym none))
      | inr ne ↦ Same (p.others cell ne)
    ]
      where
        -- a cell that is not live yet has nothing
        unborn : live (server_state setting w n) cell ≡ false → chain ≡ []
        unborn off =
            let le = own_alive in
            let none : stage_at (server_state setting w n) cell ≡ 0 = elim (at_most_or_above (stage_at (server_state setting w n) cell) 0) [
              | inl zero_or ↦ omega arith
              | inr more ↦ true_false (stage_live (server_state setting w n) cell more own_alive) off
            ] in
            let bare = ((good it).unheard n cell none).bare in
            ap (λ (x : Store). chain_in x.chains cell) (sym (own_counts it n runs mine mine_chosen seat)) ∙ bare.chain

    pub chain_so : (done : JobResult) → Did (Handled w n) (own_place setting w n) own done → IsSeatedOrMute (own_place setting w n) own done
        → ChainSo (chain_in done.own.store.chains cell)
    chain_so done did seated =
        stored_so done.own.store.chains (did_stores (Handled w n) (own_place setting w n) own never_retired done seated did)

-- Steps that leave two copies as they are: glances, boots, what clients do, and jobs of a server that is not In as itself.
use Rattle.law_copies.proofs.Imports.{[], ◌++◌, ◌∙◌, ◌∷◌, ◌≡◌, ◌⊎◌, Body, Bool, Cell, Command, In, IsPrefix, Letter, LinkRow, List, Only, PairState, Post}
use Rattle.law_copies.proofs.Imports.{Record, Sender, Setting, Some, Store, ap, blank_joins_in, false, has_server, id_of, inl, inr, is_between, is_flagged}
use Rattle.law_copies.proofs.Imports.{is_in, letters_of, log_steady, prefix_plain, said, same_or_apart, same_some, stamped, state_after, state_in, subject_of}
use Rattle.law_copies.proofs.Imports.{subst, sym, true, true_false, ℕ}
use Rattle.law_copies.specs.Visits.{AliveIn, IsLinked, Visits, place_by, store_by}
use Rattle.law_copies.proofs.VisitsAfterSteps.{then_of, IsAt, IsThen, KeepsFlags, stored_apart, stored_by, stored_frozen, visited_beside, visited_by}
use Rattle.law_copies.proofs.VisitsAfterSteps.{visited_here, was_stored}
use Rattle.law_copies.proofs.AtStep.{AtStep}
use Rattle.law_copies.proofs.FramesKeepPrefixes.{LeavesBoth, LeavesStore, alone_framed, both_framed, said_framed, store_same}
use Rattle.law_copies.proofs.ServedAtLaterPrefixes.{holder_is_one}
use Rattle.law_copies.proofs.MuteLettersTellNothing.{no_page, said_mute}
use Rattle.law_copies.proofs.StepsKeepCopies.{GoesOn, IsSoundOwn, IsTrue, KeepsPrefixes, good_after}

-- a letter that speaks neither of pairs nor of copies is true
pub mute_true : (setting : Setting) (top : List Command) (stores : ℕ → ℕ → Store) (visits : Visits) (reached : Cell → ℕ) (letter : Letter)
    → is_between (subject_of letter.body) ≡ false → IsTrue setting top stores visits reached letter
mute_true setting top stores visits reached letter e = record {
  rev = λ between. true_false between e;
  said = λ prefix cell row is_prefix long is alive. said_mute setting top stores visits reached prefix letter.body cell row e;
  lives = λ between prefix is_prefix long cell of. true_false between e;
  page = λ prefix is_prefix long map link block after is. no_page letter.body e map link after (Some block) is;
}

-- posts of which none speaks of pairs or copies
pub posts_mute : (setting : Setting) (top : List Command) (stores : ℕ → ℕ → Store) (visits : Visits) (reached : Cell → ℕ) (who : Sender)
    (stamp : ℕ) (posts : List Post)
    → ((post : Post) → In post posts → is_between (subject_of post.body) ≡ false) → (letter : Letter) → In letter (stamped stamp (letters_of who 0 posts))
    → IsTrue setting top stores visits reached letter
posts_mute setting top stores visits reached who stamp posts quiet letter there =
    let s = said who stamp 0 posts letter there in
    mute_true setting top stores visits reached letter (ap (λ (b : Body). is_between (subject_of b)) s.body ∙ quiet s.post s.there)

module _ (it : AtStep) where
  open it use {setting, records, top, w, v, k, server, good, step}
  open then_of it use {visits, reached, next as next_stores}

  -- a step that leaves a cell's chain and marks at the server leaves them in all stores
  pub stores_leave : (cell : Cell) → LeavesStore (w.servers k).own.store server.own.store cell → (prefix : List Command) (n : ℕ)
      → LeavesStore (store_by setting good.stores prefix n) (store_by setting next_stores prefix n) cell
  stores_leave cell same prefix n = elim (same_or_apart n k) [
    | inl e ↦ subst (λ m. LeavesStore (store_by setting good.stores prefix m) (store_by setting next_stores prefix m) cell)
        (sym e)
        (elim (same_or_apart (blank_joins_in setting prefix k) (blank_joins_in setting top k)) [
          | inl is ↦ subst (λ a. LeavesStore a (store_by setting next_stores prefix k) cell)
              (sym (was_stored it prefix is))
              (subst (λ b. LeavesStore (w.servers k).own.store b cell) (sym (stored_by it prefix is)) same)
          | inr ne ↦ store_same _ _ cell (stored_frozen it k (blank_joins_in setting prefix k) ne)
        ])
    | inr ne ↦ store_same _ _ cell (stored_apart it n (blank_joins_in setting prefix n) ne)
  ]

  -- a server that is not In as itself is nowhere
  pub out_visits : is_in (state_in setting.servers server.log) k server.life.inc ≡ false → (n place : ℕ) (cell : Cell)
      → visits n place cell ≡ good.visits n place cell
  out_visits out n place cell =
      visited_beside it n place cell (λ (a : IsAt setting k server place cell). true_false a.seat out)

  -- one that has done nothing is where it was
  pub same_visits : server.own ≡ (w.servers k).own → server.log.applied ≡ (w.servers k).log.applied → server.life.inc ≡ (w.servers k).life.inc
      → (n place : ℕ) (cell : Cell) → visits n place cell ≡ good.visits n place cell
  same_visits own applied inc n place cell = elim (visited_by it n place cell) [
    | inl same ↦ same
    | inr now ↦
        let there = now.there in
        let h = good.here k cell there.row (subst (λ g. IsLinked setting g cell there.row) applied there.linked)
        (subst (λ i. is_in (state_after setting.servers (w.servers k).log.applied) k i ≡ true) inc
        (subst (λ g. is_in (state_after setting.servers g) k server.life.inc ≡ true) applied there.seat))
        (subst (λ g. AliveIn (state_after setting.servers g) cell) applied there.alive) in
        now.is ∙ ap Some (own ∙ sym h.same) ∙ sym h.is
        ∙ (λ i. good.visits (sym now.who i) (place_by setting (sym applied i) there.row) cell)
        ∙ ap (λ p. good.visits n p cell) (sym there.at)
  ]

  module _ (still : (n place : ℕ) (cell : Cell) → visits n place cell ≡ good.visits n place cell)
      (stores : (cell : Cell) → AliveIn (state_after setting.servers top) cell → LeavesStore (w.servers k).own.store server.own.store cell) where
    store_leaves : (prefix : List Command) (n : ℕ) (cell : Cell) → AliveIn (state_after setting.servers top) cell → LeavesStore
        (store_by setting good.stores prefix n) (store_by setting next_stores prefix n) cell
    store_leaves prefix n cell alive = stores_leave cell (stores cell alive) prefix n

    leaves : (prefix : List Command) (place : ℕ) (cell : Cell) (row : LinkRow)
        → LeavesBoth it prefix place cell row
    leaves prefix place cell row n has = record { visit = still n place cell; store = λ alive. store_leaves prefix n cell alive }

    holds : (prefix : List Command) (cell : Cell) (row : LinkRow) (holder : ℕ) → IsPrefix prefix top → IsLinked setting prefix cell row
        → (whole : Bool) → row.state ≡ Only holder whole → has_server holder row ≡ true
    holds prefix cell row holder is_prefix is whole alone =
        holder_is_one (state_after setting.servers prefix) (log_steady setting.servers prefix (prefix_plain setting.servers prefix top step.plain is_prefix))
        holder cell row is alone

    unchanged_prefixes : KeepsPrefixes it
    unchanged_prefixes = record {
      both = λ prefix cell row is_prefix is both.
          both_framed it prefix cell row
          (leaves prefix (place_by setting prefix row) cell row)
          (good.both prefix cell row is_prefix is both);
      alone = λ prefix cell row holder whole is_prefix is alone.
          alone_framed it prefix cell row holder
          (holds prefix cell row holder is_prefix is whole alone)
          (leaves prefix (place_by setting prefix row) cell row) (good.alone prefix cell row holder whole is_prefix is alone);
      said = λ letter there prefix cell row is_prefix long is alive.
          said_framed it prefix letter.body cell row
          (λ holder whole alone. holds prefix cell row holder is_prefix is whole alone) (leaves prefix (place_by setting prefix row) cell row)
          (good.letters letter there prefix cell row is_prefix long is alive);
    }

    unchanged_flags : KeepsFlags it
    unchanged_flags cell row own whole is alive alone seat visit flagged =
        let same : own ≡ server.own =
        same_some (sym visit ∙ sym (still k (place_by setting server.log.applied row) cell)
        ∙ visited_here it cell row is seat alive) in
        ap (λ (o : PairState). is_flagged o (id_of row)) (sym same) ∙ flagged

    pub quiet_good : (own : Record) → IsThen setting (records ++ own ∷ []) v → IsSoundOwn setting v k server
        → ((letter : Letter) → In letter v.sent → In letter w.sent ⊎ IsTrue setting top next_stores visits reached letter)
        → GoesOn setting records top top w v good own
    quiet_good own then_is sound sent = good_after it own then_is unchanged_flags sound unchanged_prefixes sent

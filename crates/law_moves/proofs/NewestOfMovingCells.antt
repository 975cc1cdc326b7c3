-- The two cells of a move by any two prefixes; what is newest of entries that move; and that of a server that serves a coming cell all that is newer is
-- there.
use Rattle.law_moves.proofs.Imports.{◌∙◌, ◌≡◌, ◌≤◌, AreWithin, Cell, Chain, Command, HasNewer, IsFilledFrom, IsMoved, IsPrefix, IsServing, Key, List, Run}
use Rattle.law_moves.proofs.Imports.{Some, Store, ap, arith, at_most_or_above, blank_joins_in, cell_of, chain_in, chosen_state, end_of, epoch_at, gone_twin}
use Rattle.law_moves.proofs.Imports.{inl, inr, kept, key_at, log_below, log_comes, prefix_itself, prefixes_meet, same_some, source, stage_at, start_same}
use Rattle.law_moves.proofs.Imports.{subst, sym, twins_later, ℕ}
use Rattle.law_epochs.proofs.EntriesNeverEarly.{kept_by}
use Rattle.law_moves.specs.Fills.{Has, IsFrozen, IsThere, WasFilled}
use Rattle.law_moves.proofs.NewestByLetters.{AllNewest, IsNewest}
use Rattle.law_moves.proofs.FrozenEpochs.{entry_of}
use Rattle.law_moves.proofs.MoveWorlds.{facts_at, plain_at}

module _ (it : Run) where
  open it use {script}
  open end_of it use {setting, w, chosen, By}

  -- ### The two cells of a move

  pub one_start : (a b : List Command) → IsPrefix a chosen → IsPrefix b chosen → (old other cell : Cell) → IsMoved (By a) old cell → IsMoved (By b) other cell
      → other ≡ old
  one_start a b la lb old other cell one two = elim (prefixes_meet a b chosen la lb) [
    | inl on ↦ start_same script.servers a b (plain_at it b lb) on cell old other one two
    | inr back ↦ sym (start_same script.servers b a (plain_at it a la) back cell other old two one)
  ]

  -- by entries by which the new cell is born, the old one is leaving, or has left; and both are of one epoch
  pub record HasLeft (a : List Command) (old cell : Cell) : Type 0 where
    pub three : 3 ≤ stage_at (By a) old
    pub epochs : epoch_at (By a) cell ≡ epoch_at (By a) old

  pub at_coming : (f a : List Command) → IsPrefix f chosen → IsPrefix a chosen → (old cell : Cell) → IsMoved (By f) old cell → stage_at (By a) cell ≡ 1
      → (source (By a) cell ≡ Some old) × HasLeft a old cell
  at_coming f a lf la old cell moved one =
      let s = (facts_at it a la cell).sources one in
      let there = log_comes script.servers a (plain_at it a la) s.0 cell s.1 in
      let same : s.0 ≡ old = one_start f a lf la old s.0 cell moved there in
      let at_old = subst (λ (c : Cell). IsMoved (By a) c cell) same there in
      let three : stage_at (By a) old ≡ 3 = subst (λ (c : Cell). stage_at (By a) c ≡ 3) same s.3.stage_is in (
        s.1 ∙ ap Some same,
        record {
          three = omega arith;
          epochs = twins_later script.servers a a (plain_at it a la) (prefix_itself a) old cell at_old;
        },
      )

  pub has_left : (f a : List Command) → IsPrefix f chosen → IsPrefix a chosen → (old cell : Cell) → IsMoved (By f) old cell → stage_at (By f) cell ≤ 1
      → 1 ≤ stage_at (By a) cell → HasLeft a old cell
  has_left f a lf la old cell moved low born = elim (at_most_or_above (stage_at (By a) cell) 1) [
    | inl one ↦ (at_coming f a lf la old cell moved (omega arith)).1
    | inr two ↦ elim (prefixes_meet f a chosen lf la) [
      | inl on ↦
          let plain_a = plain_at it a la in
          let gone = gone_twin script.servers f a plain_a on old cell moved two in
          record { three = (omega arith); epochs = twins_later script.servers f a plain_a on old cell moved }
      | inr back ↦
          let up = (log_below script.servers a f (plain_at it f lf) back).stages cell in
          absurd (omega arith)
    ]
  ]

  -- ### What is newest

  -- of a frozen entry that moves
  pub frozen_newest : (rev : ℕ) (key : Key) (bytes : List ℕ) → IsFrozen setting w rev key bytes → 1 ≤ stage_at (chosen_state setting w) (cell_of key)
      → IsNewest setting w (cell_of key) key.epoch
  frozen_newest rev key bytes f born = record {
    born = born;
    newest = λ a old before later lies comes low frozen lt has.
        let one = log_comes script.servers a (plain_at it a lies) old (cell_of key) comes in
        let two = log_comes script.servers f.prefix (plain_at it f.prefix f.lies) f.old (cell_of key) f.from in
        let same : f.old ≡ old = one_start a f.prefix lies f.lies old f.old (cell_of key) one two in
        let chain : before ≡ f.before = same_some (sym frozen ∙ ap w.frozen (sym same) ∙ f.frozen) in
        f.newer later lt (subst (λ (c : Chain). Has c later) chain has);
  }

  -- of a server that serves a cell whose region is on its way, all that is newer is there
  pub stored_newest : AllNewest setting w → ((key : Key) → WasFilled w key → IsThere setting w (cell_of key) key.epoch) → (cell : Cell) (n epoch : ℕ)
      (before : Chain) → stage_at (chosen_state setting w) cell ≡ 1 → IsFilledFrom setting w cell before → IsServing (chosen_state setting w) n cell
      → Has (chain_in (kept setting w n).chains cell) epoch → HasNewer before epoch (chain_in (kept setting w n).chains cell)
  stored_newest all filled cell n epoch before one from serving has later lt there =
      let stores : AreWithin (IsNewest setting w) (kept setting w n).chains =
      kept_by (λ (s : Store). AreWithin (IsNewest setting w) s.chains) (blank_joins_in setting chosen n) (w.before_blank n) (w.servers n).own.store
      (all.before n) (all.now n) in
      let entry = entry_of (chain_in (kept setting w n).chains cell) epoch has in
      let told = (stores cell epoch entry.0 entry.1).newest chosen from.old before later (prefix_itself chosen) from.is (omega arith) from.frozen lt there in
      (filled (key_at cell later) told).now n (omega arith) (omega arith) serving

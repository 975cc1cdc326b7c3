-- What is kept of an old map's cells as their region's fence took effect: the step that chooses that entry writes it, from the copy that counts
-- then, and no other one changes it.
use Rattle.law_moves.proofs.Imports.{[], if◌then◌else◌, ◌&&◌, ◌++◌, ◌∙◌, ◌∷◌, ◌≡◌, ◌≢◌, ◌≤◌, ◌⊎◌, AreSteps, At, Blanks, Bool, Cell, Chain, Happens}
use Rattle.law_moves.proofs.Imports.{HasProperTuples, HasStage, IsSound, List, None, OneMore, Option, Record, Script, Serves, Setting, Some, State, Turns}
use Rattle.law_moves.proofs.Imports.{World, after, always_firm, ap, arith, at_most_or_above, before_part, begins_to_leave, below_itself, both_true, by_bool}
use Rattle.law_moves.proofs.Imports.{by_run, chain_that_counts, chosen_log, chosen_state, ends_of, false, frozen_by, history_grows, history_is_firm, inl, inr}
use Rattle.law_moves.proofs.Imports.{last_happens, leaving, log_below, none_some, not, refl, run_of, setting_in, setting_of, since, stage_at, stage_facts}
use Rattle.law_moves.proofs.Imports.{true, true_false, ℕ}

-- ### One step

-- a client's step chooses nothing
stays_frozen : (leaves : Bool) (made kept : Option Chain) → kept ≡ (if leaves && not leaves then made else kept)
stays_frozen true made kept = refl
stays_frozen false made kept = refl

frozen_is : (setting : Setting) (state : State) (w v : World) → Happens setting state w v → (cell : Cell) → v.frozen cell ≡ frozen_by setting w v cell
frozen_is setting state w _ (Serves n stamp what acted lt within unblanked serving) cell = refl
frozen_is setting state w _ (Blanks n stamp lt within asleep) cell = refl
frozen_is setting state w v (Turns c stamp in_call reacted lt within turned onward) cell =
    stays_frozen (leaving (chosen_state setting w) cell) (chain_that_counts setting v cell) (w.frozen cell)

module _ (it : OneMore) (cell : Cell) where
  open it use {prior.{script, sound, records as prefix}, own, legal}
  open ends_of it use {setting, w, v, records}

  abbrev stage_was : ℕ
  stage_was = stage_at (chosen_state setting w) cell

  abbrev stage_now : ℕ
  stage_now = stage_at (chosen_state setting v) cell

  was_frozen : v.frozen cell ≡ frozen_by setting w v cell
  was_frozen =
      let state = chosen_state setting v in
      frozen_is setting state w v (last_happens script prefix own (always_firm script records sound legal) legal state (below_itself state)) cell

  plain_was : HasProperTuples script.servers (chosen_log setting w)
  plain_was = (history_is_firm script prefix sound (before_part script prefix (own ∷ []) legal)).plain

  plain_now : HasProperTuples script.servers (chosen_log setting v)
  plain_now = (history_is_firm script records sound legal).plain

  pub stage_grows : stage_was ≤ stage_now
  stage_grows =
      (log_below script.servers (chosen_log setting w) (chosen_log setting v) plain_now
      (history_grows script records sound legal prefix (own ∷ []) refl)).stages cell

  facts_was : HasStage (chosen_state setting w) cell
  facts_was = stage_facts script.servers (chosen_log setting w) plain_was cell

  facts_now : HasStage (chosen_state setting v) cell
  facts_now = stage_facts script.servers (chosen_log setting v) plain_now cell

  begins : Bool
  begins = begins_to_leave setting w v cell

  -- it begins to leave where it comes to the stage of leaving
  begins_so : begins ≡ true → (stage_was ≤ 2) × (stage_now ≡ 3)
  unfolding begins
  begins_so e =
      let both = both_true (leaving (chosen_state setting v) cell) (not (leaving (chosen_state setting w) cell)) e in
      let now = facts_now.leaves both.0 in
      let up = stage_grows in (
        elim (at_most_or_above stage_was 2) [
          | inl low ↦ low
          | inr high ↦ true_false both.1 (ap not (facts_was.left (omega arith)))
        ],
        now,
      )

  so_begins : stage_was ≤ 2 → stage_now ≡ 3 → begins ≡ true
  unfolding begins
  so_begins low three =
      let stays : leaving (chosen_state setting w) cell ≡ false =
      by_bool (leaving (chosen_state setting w) cell) (λ t. let is = facts_was.leaves t in absurd (omega arith)) (λ no. no) in
      (λ i. facts_now.left three i && not (stays i))

  pub frozen_same : (3 ≤ stage_was) ⊎ (stage_now ≢ 3) → v.frozen cell ≡ w.frozen cell
  unfolding begins
  frozen_same why =
      was_frozen ∙ ap (λ b. if b then chain_that_counts setting v cell else w.frozen cell) (by_bool begins
      (λ t. let so = begins_so t in elim why [ inl three ↦ let low = so.0 in absurd (omega arith) | inr apart ↦ absurd (apart so.1) ]) (λ no. no))

  -- what is written is the copy that counts, by what is then chosen
  pub frozen_at : stage_was ≤ 2 → stage_now ≡ 3 → v.frozen cell ≡ chain_that_counts setting v cell
  unfolding begins
  frozen_at low three = was_frozen ∙ ap (λ b. if b then chain_that_counts setting v cell else w.frozen cell) (so_begins low three)

-- ### Every history

abbrev NoneEarly : Script → World → Type 0
NoneEarly script w = (cell : Cell) → stage_at (chosen_state (setting_of script) w) cell ≤ 2 → w.frozen cell ≡ None

-- nothing is frozen of a cell that has not begun to leave
pub none_early : (script : Script) (records : List Record) → IsSound script → AreSteps script records → NoneEarly script (At script records)
none_early script records sound legal =
    by_run (λ run. NoneEarly run.script (At run.script run.records)) (λ script sound legal cell low. refl)
    (λ it old cell low. let up = stage_grows it cell in frozen_same it cell (inr (λ three. omega arith)) ∙ old cell (omega arith))
    (run_of script sound records legal)

-- so what is frozen stays so
pub frozen_stays : (script : Script) (prefix suffix : List Record) (cell : Cell) (before : Chain) → IsSound script → AreSteps script (prefix ++ suffix)
    → (At script prefix).frozen cell ≡ Some before → (At script (prefix ++ suffix)).frozen cell ≡ Some before
frozen_stays script prefix suffix cell before sound legal is =
    since (λ run. (after run).frozen cell ≡ Some before) (λ it old.
    elim (at_most_or_above (stage_at (chosen_state (setting_in it.prior) (after it.prior)) cell) 2) [
      | inl low ↦ none_some (none_early it.prior.script it.prior.records it.prior.sound it.prior.legal cell low) old
      | inr high ↦ frozen_same it cell (inl high) ∙ old
    ]) (run_of script sound (prefix ++ suffix) legal) prefix suffix refl (λ part. is)

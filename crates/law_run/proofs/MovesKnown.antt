-- What is known of moves after each legal history.
use Rattle.law_run.proofs.Imports.{[], if◌then◌else◌, ◌++◌, ◌∙◌, ◌∷◌, ◌≡◌, ◌≤◌, ◌⊎◌, Actor, AreSteps, At, Bool, Cell, Chain, Drained, Firm, IsPrefix}
use Rattle.law_run.proofs.Imports.{IsRising, IsSound, List, None, Option, Pairs, Pending, Record, Script, Setting, Some, State, Step, WasThere, World}
use Rattle.law_run.proofs.Imports.{always_firm, ap, arith, asking_along, at, at_row, authority, begins_to_leave, by_run, cases_lt, cell_cmp, cell_of}
use Rattle.law_run.proofs.Imports.{chain_in, chain_that_counts, chosen_log, chosen_state, comes_after, false, filling_after, good_after, held}
use Rattle.law_run.proofs.Imports.{history_is_firm, inl, inr, is_all_held, is_in, is_some, kept, known_after, log_unread, nat_cmp, nat_cmp_total, none_some}
use Rattle.law_run.proofs.Imports.{one_prefix, option_map, over_after, prefix_itself, prefix_legal, prefix_long, refl, reports_known, rests_after}
use Rattle.law_run.proofs.Imports.{retired_frozen, run_of, runs_now, same_some, second_after, server_state, setting_in, setting_of, stage_at, start}
use Rattle.law_run.proofs.Imports.{start_rests, state_after, step, stepped, subst, sym, true, true_false, world_more, ℕ}
use Rattle.law_jobs.proofs.Runs.{after}
use Rattle.law_run.specs.MachineTies.{IsFrozenSo, KnowMoves}
use Rattle.petal_msg.specs.declared.letter.Actor.TheVariants as actor

-- ### Steps

-- what is frozen after a step was so before, or counts after it
frozen_or_counts : (setting : Setting) (w : World) (who : Actor) (what : Step) (stamp : ℕ) (cell : Cell) (before : Chain)
    → (step who what setting w stamp).world.frozen cell ≡ Some before
    → (w.frozen cell ≡ Some before) ⊎ (chain_that_counts setting (step who what setting w stamp).world cell ≡ Some before)
unfolding step
frozen_or_counts setting w (actor.Client c) what stamp cell before e = inl e
frozen_or_counts setting w (actor.Server n) what stamp cell before e = by
    (begins_to_leave setting w (step (actor.Server n) what setting w stamp).world cell) e
  where
    by : (begins : Bool) → (if begins then chain_that_counts setting (step (actor.Server n) what setting w stamp).world cell else w.frozen cell) ≡ Some before
        → (w.frozen cell ≡ Some before) ⊎ (chain_that_counts setting (step (actor.Server n) what setting w stamp).world cell ≡ Some before)
    by true e = inr e
    by false e = inl e

-- the chain that counts is one of a server's
counted_one : (chains : ℕ → Chain) (o : Option ℕ) (before : Chain) → option_map chains o ≡ Some before → (n : ℕ) × (chains n ≡ before)
counted_one chains None before e = none_some refl e
counted_one chains (Some n) before e = (n, same_some e)

-- ### Every history

abbrev AreRising : World → Type 0
AreRising w = (cell : Cell) (before : Chain) → w.frozen cell ≡ Some before → IsRising nat_cmp before

rising_after : (script : Script) (records : List Record) → IsSound script → AreSteps script records → AreRising (At script records)
rising_after script records sound legal =
    by_run (λ run. AreRising (after run)) (λ script sound legal cell before is. none_some refl is) (λ it old cell before is.
    let setting = setting_in it.prior in
    let w = after it.prior in
    let own = it.own in
    let v = (stepped setting w own).world in
    let e = world_more setting (start setting) it.prior.records own in
    elim (frozen_or_counts setting w own.actor own.step own.stamp cell before (subst (λ u. u.frozen cell ≡ Some before) e is)) [
      | inl was ↦ old cell before was
      | inr counts ↦
          let k = counted_one (λ n. chain_in (kept setting v n).chains cell) (authority (chosen_state setting v) cell) before counts in
          subst (IsRising nat_cmp) k.1
          (subst (λ u. IsRising nat_cmp (chain_in (kept setting u k.0).chains cell)) e
          ((good_after it.prior.script (it.prior.records ++ own ∷ []) it.prior.sound it.legal).rising k.0 cell))
    ]) (run_of script sound records legal)

module _ (script : Script) (records : List Record) (sound : IsSound script) (legal : AreSteps script records) where
  abbrev setting : Setting
  setting = setting_of script

  abbrev w : World
  w = At script records

  abbrev chosen : State
  chosen = chosen_state setting w

  firm : Firm setting w
  firm = history_is_firm script records sound legal

  frozen_so : (cell : Cell) (before : Chain) → w.frozen cell ≡ Some before → IsFrozenSo setting w cell before
  frozen_so cell before is = record {
    rising = rises;
    left = elim (cases_lt (stage_at chosen cell) 3) [
      | inl lt ↦ none_some ((known_after script sound records legal).still.early cell (omega arith)) is
      | inr le ↦ le
    ];
    early = λ row there. (known_after script sound records legal).early cell before row.0 is (ap is_some (at_row nat_cmp_total before row rises there));
  }
    where
      rises : IsRising nat_cmp before
      rises = rising_after script records sound legal cell before is

  -- a region begins to leave after the reports of all that read it
  unread : (n : ℕ) (cell : Cell) → (w.servers n).life.running ≡ true → is_in (server_state setting w n) n (w.servers n).life.inc ≡ true
      → is_all_held (held (server_state setting w n) cell) ≡ false → 1 ≤ stage_at (server_state setting w n) cell
      → stage_at (server_state setting w n) cell ≤ 2 → stage_at chosen cell ≤ 2
  unread n cell runs seat free low high =
      let own = (w.servers n).log.applied in
      elim (log_unread setting.servers own (chosen_log setting w) n (w.servers n).life.inc cell firm.plain (firm.servers n) seat
      (runs_now setting w firm n runs seat) free low high) [
        | inl still ↦ still
        | inr report ↦
            let k = asking_along script sound records legal in
            let ran : k.asks.lives.ran n ≡ (w.servers n).life.inc = k.asks.known.lived.ran n runs in
            let reached = (reports_known script sound records legal k).reached n report.fence report.until
            (subst (λ (i : ℕ). IsPrefix (report.until ++ Drained n i report.fence ∷ []) (chosen_log setting w)) (sym ran) report.stands) in
            let same : report.until ≡ own =
            one_prefix report.until own own reached (prefix_itself own)
            (let a = prefix_long report.until own reached in let b = prefix_long own report.until report.following in omega arith) in
            true_false (subst (λ log. is_all_held (held (state_after setting.servers log) cell) ≡ true) same report.holds) free
      ]

  keyed : (n place : ℕ) (cell : Cell) (pairs : Pairs) (op : Pending) → WasThere setting records n place cell pairs
      → at cell_cmp pairs.pending cell ≡ Some op → cell_of op.key ≡ cell
  keyed n place cell pairs op was is =
      let past = (prefix_legal setting (start setting) was.before was.later (subst (AreSteps script) was.is legal)).0 in
      let rests = rests_after setting (start setting) was.before (always_firm script was.before sound past) (start_rests script) past in
      ((rests.pending n).staged cell op (ap (λ (p : Pairs). at cell_cmp p.pending cell) was.had ∙ is)).keyed

  pub moves_known : KnowMoves setting records w
  moves_known = record {
    frozen = frozen_so;
    died = retired_frozen script records sound legal;
    unread = unread;
    still = (known_after script sound records legal).still;
    fills = (known_after script sound records legal).filled;
    over = over_after script records sound legal;
    coming = λ n place cell pairs op row was is fills linked spot rev most.
        comes_after script records sound legal n place cell pairs op was is fills row linked spot;
    keyed = keyed;
    filling = filling_after script records sound legal;
    second = second_after script records sound legal;
  }

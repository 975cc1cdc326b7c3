-- A step keeps that the copies of a cell that is leaving are what was frozen; and where it chooses the entry with which the region's fence takes effect, they
-- are equal then.
use Rattle.law_moves.proofs.Imports.{◌==◌, ◌∙◌, ◌≡◌, ◌≤◌, AreSteps, At, BeforeBlank, ByBoth, ByNone, ByOne, Cell, Chain, Command, IsPrefix, IsServing, List}
use Rattle.law_moves.proofs.Imports.{OneMore, Option, Server, Some, Store, alone_authority, ap, arith, at_most_or_above, before_last, before_part}
use Rattle.law_moves.proofs.Imports.{both_authority, by_bool, chain_in, chosen_log, either_true, ends_of, history_grows, history_is_firm, in_counts, inl, inr}
use Rattle.law_moves.proofs.Imports.{is_in, kept, kept_by, kept_store, moved_was_wanted, option_map, prefix_itself, prefix_on, prefixes_meet, refl, region_of}
use Rattle.law_moves.proofs.Imports.{same_numbers, serves, serves_alone, stage_at, stage_most, subst, sym, true, true_false, ℕ}
use Rattle.law_moves.proofs.StepsTellEntries.{gone, Goes_on, HasStore, Is_bare, here}
use Rattle.law_moves.specs.FrozenCopies.{AreStill}
use Rattle.law_moves.proofs.FrozenIsWhatCounted.{frozen_at, frozen_same, none_early}
use Rattle.law_moves.proofs.ServersOfGrownLog.{It_came, It_did, same_joins, served_before}
use Rattle.law_moves.proofs.LeavingCellsGainNothing.{before, kept_same, same_on}
use Rattle.law_moves.proofs.AllKeptOfMoves.{Known, WereKnown}
use Rattle.law_moves.proofs.MovedRegionsHaveAll.{retired_moved}
use Rattle.law_moves.proofs.MoveWorlds.{facts_at, own_counts, serving_on, steady_at, up}
use Rattle.law_moves.proofs.EqualCopies.{equal_now}
use Rattle.law_moves.proofs.MoveScenes.{FillsSo}

module _ (it : OneMore) (all : WereKnown it) where
  open it use {prior, prior.{script, sound, records as prefix}, own, legal}
  open ends_of it use {setting, w, records, v, top, whole, By, top_whole, present}

  known : Known script prefix
  known = before it all

  -- a region that was not on its way has not left in one step: its Moved was wanted where it was
  pub not_jumped : (cell : Cell) → stage_at (By top) cell ≤ 2 → stage_at (By whole) cell ≤ 3
  not_jumped cell low = elim (at_most_or_above (stage_at (By whole) cell) 3) [
    | inl three ↦ three
    | inr more ↦
        let most = stage_most (By whole) cell in
        let m = retired_moved present cell (omega arith) in
        let was = moved_was_wanted script records sound legal m.until cell.map (region_of cell.block) m.row.link m.stands in
        let rest = before_last prefix own was.before was.own was.later was.is in
        let legal_there = before_part script was.before rest.0 (subst (AreSteps script) rest.1 prior.legal) in
        let within = prefix_on _ (chosen_log setting (At script was.before)) top ((history_is_firm script was.before sound legal_there).servers was.server)
        (history_grows script prefix sound prior.legal was.before rest.0 rest.1) in
        let le = up prior m.until top (subst (λ l. IsPrefix l top) was.at within) (prefix_itself top) cell in
        let three = m.leaves in
        absurd (omega arith)
  ]

  -- ### After what was chosen before the step

  abbrev chain_by : List Command → ℕ → Cell → Chain
  chain_by f n cell = chain_in (kept_by setting f v n).chains cell

  still_at : (cell : Cell) → stage_at (By top) cell ≡ 3 → (f : List Command) → IsPrefix top f → IsPrefix f whole → stage_at (By f) cell ≡ 3 → (n : ℕ)
      → IsServing (By f) n cell → w.frozen cell ≡ Some (chain_by f n cell)
  still_at cell three f on lies here_three n serving =
      let link = (steady_at prior top (prefix_itself top)).lives cell
      ((facts_at prior top (prefix_itself top) cell).alive (omega arith) (omega arith)) in
      let joins = same_joins it f on lies n cell link.row link.is (omega arith) serving in
      subst (λ j. w.frozen cell ≡ Some (chain_in (kept_store j (v.before_blank n) (v.servers n).own.store).chains cell)) (sym joins)
      (elim (served_before it f on lies n cell link.row link.is (omega arith) serving) [
        | It_did did ↦ now_of n did
        | It_came h serves same ↦ now_of h serves ∙ ap Some (sym same)
      ])
    where
      now_of : (k : ℕ) → IsServing (By top) k cell → w.frozen cell ≡ Some (chain_by top k cell)
      now_of k serves =
          known.still.now k cell three serves
          ∙ ap Some (sym (kept_same it all k cell (omega arith) serves (omega arith) _ refl))

  -- ### Where the region begins to leave

  module _ (now_so : FillsSo setting v) where
    -- what is frozen is the copy that counts, and so is that of each server that serves the link
    begins : (cell : Cell) → stage_at (By top) cell ≤ 2 → stage_at (By whole) cell ≡ 3 → (n : ℕ) → IsServing (By whole) n cell
        → v.frozen cell ≡ Some (chain_in (kept setting v n).chains cell)
    begins cell low three n serving =
        let lives = (facts_at present whole (prefix_itself whole) cell).alive (omega arith) (omega arith) in
        let linked = (steady_at present whole (prefix_itself whole)).linked cell serving.row serving.is in
        frozen_at it cell low three ∙ elim linked.served [
          | ByBoth so first second ↦
              ap (option_map (λ k. chain_in (kept setting v k).chains cell)) (both_authority (By whole) cell serving.row serving.is lives so)
              ∙ ap Some (by_bool (serving.row.primary == n)
              (λ t. sym (equal_now it all now_so cell three serving.row serving.is so)
              ∙ ap (λ k. chain_in (kept setting v k).chains cell) (same_numbers serving.row.primary n t))
              (λ f. ap (λ k. chain_in (kept setting v k).chains cell) (same_numbers serving.row.secondary n
              (either_true (serving.row.primary == n) (serving.row.secondary == n) serving.one_of f))))
          | ByOne holder other fills so pair out ↦
              ap (option_map (λ k. chain_in (kept setting v k).chains cell)) (alone_authority (By whole) cell serving.row serving.is lives holder fills so)
              ∙ ap (λ k. Some (chain_in (kept setting v k).chains cell)) (sym (serves_alone holder n serving.row so serving.so))
          | ByNone one other so pair out ↦ true_false serving.so (ap (serves n serving.row) so)
        ]

    -- ### All of it

    now_next : (n : ℕ) (cell : Cell) → stage_at (By whole) cell ≡ 3 → IsServing (By whole) n cell
        → v.frozen cell ≡ Some (chain_in (kept setting v n).chains cell)
    now_next n cell three serving = elim (at_most_or_above (stage_at (By top) cell) 2) [
      | inl low ↦ begins cell low three n serving
      | inr high ↦
          let le = up present top whole top_whole (prefix_itself whole) cell in
          frozen_same it cell (inl high) ∙ still_at cell (omega arith) whole top_whole (prefix_itself whole) three n serving
    ]

    -- a server's own copy, by a prefix that was chosen before the step
    own_within : (n : ℕ) (f : List Command) (cell : Cell) → (v.servers n).life.running ≡ true → IsPrefix (v.servers n).log.applied f → IsPrefix f top
        → is_in (By f) n (v.servers n).life.inc ≡ true → stage_at (By f) cell ≡ 3 → IsServing (By f) n cell
        → v.frozen cell ≡ Some (chain_in (v.servers n).own.store.chains cell)
    own_within n f cell runs on lies seat three serving =
        let h = here it n runs f (prefix_on f top whole lies top_whole) seat in
        let on_was = prefix_on (w.servers n).log.applied (v.servers n).log.applied f h.onward on in
        let le = up prior f top lies (prefix_itself top) cell in
        frozen_same it cell (inl (omega arith))
        ∙ known.still.own n f cell h.runs on_was lies (subst (λ i. is_in (By f) n i ≡ true) h.inc_is seat) three serving
        ∙ ap Some (sym (by (v.servers n) (v.before_blank n) (gone it n) runs on_was))
      where
        by : (to : Server) (b : Option BeforeBlank) → HasStore it n to b → to.life.running ≡ true
            → IsPrefix (w.servers n).log.applied f → chain_in to.own.store.chains cell ≡ chain_in (w.servers n).own.store.chains cell
        by to b (Goes_on g same) up_now on_was =
            let le = up prior f top lies (prefix_itself top) cell in
            same_on it all n f on_was lies cell (omega arith) serving (omega arith) to g
        by to b (Is_bare asleep bare same) up_now on_was = true_false (ap (λ (s : Server). s.life.running) (sym bare) ∙ up_now) asleep

    -- by one that is chosen in it
    own_beyond : (n : ℕ) (f : List Command) (cell : Cell) → (v.servers n).life.running ≡ true → IsPrefix top f → IsPrefix f whole
        → is_in (By f) n (v.servers n).life.inc ≡ true → stage_at (By f) cell ≡ 3 → IsServing (By f) n cell
        → v.frozen cell ≡ Some (chain_in (v.servers n).own.store.chains cell)
    own_beyond n f cell runs on lies seat three serving =
        let counts = ap (λ (s : Store). chain_in s.chains cell) (own_counts present n runs f lies seat) in
        let le = up present top f on lies cell in
        let more = up present f whole lies (prefix_itself whole) cell in
        elim (at_most_or_above (stage_at (By top) cell) 2) [
          | inl low ↦ (
              let jumped = not_jumped cell low in
              now_next n cell (omega arith) (serving_on present n runs f whole lies (prefix_itself whole) seat cell jumped serving)
              ∙ ap Some counts)
          | inr high ↦ (
              let joins = in_counts script records n f sound legal lies seat in
              frozen_same it cell (inl high) ∙ still_at cell (omega arith) f on lies three n serving
              ∙ ap (λ j. Some (chain_in (kept_store j (v.before_blank n) (v.servers n).own.store).chains cell)) joins ∙ ap Some counts)
        ]

    pub still_next : AreStill setting v
    still_next = record {
      now = now_next;
      own = λ n f cell runs on lies seat three serving. elim (prefixes_meet f top whole lies top_whole) [
        | inl within ↦ own_within n f cell runs on within seat three serving
        | inr beyond ↦ own_beyond n f cell runs beyond lies seat three serving
      ];
      early = none_early script records sound legal;
    }

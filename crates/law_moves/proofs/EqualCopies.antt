-- Where a region begins to leave, the two copies of a link in Both are equal: whatever its first server has pending then, the second one has followed.
use Rattle.law_moves.proofs.Imports.{◌++◌, ◌+◌, ◌∙◌, ◌≡◌, ◌≤◌, AreCopies, AreSteps, AreTwins, At, Bool, Both, Cell, Chain, IsLinked, IsServing, IsSound, Key}
use Rattle.law_moves.proofs.Imports.{LinkRow, List, None, OneMore, Option, PairState, Pairs, Pending, Record, Run, Script, Some, Store, WasThere, Working, ap}
use Rattle.law_moves.proofs.Imports.{arith, at, at-empty, at_most_or_above, before_last, blank_joins_in, by_bool, cell_cmp, cell_of, chain_in, cut, ends_of}
use Rattle.law_moves.proofs.Imports.{false, far, half, half_store, history_grows, inl, inr, is_clients, is_some, kept, none_some, pair_at, place_by}
use Rattle.law_moves.proofs.Imports.{place_timely, prefix_itself, prefix_long, prefix_on, refl, secondary_is_one, serves, setting_of, split_last, stage_at}
use Rattle.law_moves.proofs.Imports.{subst, sym, true, true_false, ℕ}
use Rattle.law_moves.specs.Fills.{Has, IsFrozen}
use Rattle.law_moves.proofs.FrozenIsWhatCounted.{frozen_stays}
use Rattle.law_moves.proofs.AllKeptOfMoves.{WereKnown}
use Rattle.law_moves.proofs.MovedsHadNothingLeft.{filled_stays, moved_all}
use Rattle.law_moves.proofs.PendingWasOpened.{opened_within}
use Rattle.law_moves.proofs.MovedRegionsHaveAll.{AllMoved}
use Rattle.law_moves.proofs.ToldEntriesAreThere.{told_already}
use Rattle.law_moves.proofs.MoveWorlds.{chosen_twins, good, rests, row_serving}
use Rattle.law_moves.proofs.MoveScenes.{FillsSo}

-- what is known of an entry that moves stays so
pub frozen_on : (script : Script) (sound : IsSound script) (past later : List Record) (legal : AreSteps script (past ++ later)) (rev : ℕ) (key : Key)
    (bytes : List ℕ) → IsFrozen (setting_of script) (At script past) rev key bytes → IsFrozen (setting_of script) (At script (past ++ later)) rev key bytes
frozen_on script sound past later legal rev key bytes f = record {
  prefix = f.prefix;
  lies = prefix_on f.prefix _ _ f.lies (history_grows script (past ++ later) sound legal past later refl);
  long = f.long;
  old = f.old;
  from = f.from;
  before = f.before;
  frozen = frozen_stays script past later f.old f.before sound legal f.frozen;
  entry = f.entry;
  newer = λ epoch lt has. filled_stays script past later sound legal _ (f.newer epoch lt has);
}

module _ (it : OneMore) (all : WereKnown it) where
  open it use {prior.{script, sound, records as prefix}, own, legal}
  open ends_of it use {setting, records, v, whole, By, present}

  -- at each Moved that is chosen all of its link was told to be at the new map
  pub moved_now : AllMoved setting v
  moved_now = moved_all present (λ past one later e. let rest = before_last prefix own past one later e in all past rest.0 rest.1)

  -- ### Where the region begins to leave

  -- what a server had pending at a place was pending at that moment, for an entry that moves
  module _ (now_so : FillsSo setting v) where
    pub asked_then : (past later : List Record) → records ≡ past ++ later → (m : ℕ) (cell : Cell) (op : Pending)
        → at cell_cmp ((At script past).servers m).own.pairs.pending cell ≡ Some op → is_clients op.kind ≡ false
        → IsFrozen setting v op.rev op.key op.bytes
    asked_then past later e m cell op is fills = elim (split_last prefix own past later e) [
      | inl same ↦ now_so.asked m cell op (subst (λ rs. at cell_cmp ((At script rs).servers m).own.pairs.pending cell ≡ Some op) same is) fills
      | inr more ↦ subst (λ rs. IsFrozen setting (At script rs) op.rev op.key op.bytes) (sym e)
          (frozen_on script sound past later (subst (AreSteps script) e legal) op.rev op.key op.bytes
          ((all past more.0 more.1).filled.asked m cell op is fills))
    ]

    -- the two copies of a link in Both by what is chosen
    module _ (cell : Cell) (three : stage_at (By whole) cell ≡ 3) (row : LinkRow) (is : IsLinked setting whole cell row) (both : row.state ≡ Both) where
      abbrev place : ℕ
      place = place_by setting whole row

      abbrev visit : ℕ → Option PairState
      visit n = (good present).visits n place cell

      abbrev stores : ℕ → Store
      stores n = (good present).stores n (blank_joins_in setting whole n)

      twins : AreTwins stores (good present).visits place cell row.primary row.secondary
      twins = chosen_twins present cell row is both (omega arith)

      second_serves : IsServing (By whole) row.secondary cell
      second_serves =
          let has = secondary_is_one row row.secondary refl in
          row_serving (By whole) row.secondary cell row is has (ap (serves row.secondary row) both ∙ has)

      module _ (by : PairState) (op : Pending) (there : visit row.primary ≡ Some by) (pending : at cell_cmp by.pairs.pending cell ≡ Some op) where
        was : WasThere setting records row.primary place cell by.pairs
        was = (good present).came row.primary place cell by there

        pending_then : at cell_cmp ((At script was.before).servers row.primary).own.pairs.pending cell ≡ Some op
        pending_then = ap (λ (p : Pairs). at cell_cmp p.pending cell) was.had ∙ pending

        abbrev then : Run
        then = cut present was.before was.later was.is

        -- no client's write is
        no_write : is_clients op.kind ≡ true → ⊥
        no_write clients =
            let rev = opened_within then row.primary cell op pending_then clients in
            let on = history_grows script records sound legal was.before was.later was.is in
            let long = prefix_long _ whole on in
            let stays = (place_timely script records sound legal row.primary place cell by.pairs op whole row was pending clients (prefix_itself whole) is
            refl (omega arith)).stays in
            omega arith

        -- and a fill that is was told to be there
        told : is_clients op.kind ≡ false → Has (chain_in (kept setting v row.secondary).chains cell) op.key.epoch
        told fills =
            let keyed = (((rests then).pending row.primary).staged cell op pending_then).keyed in
            let frozen = asked_then was.before was.later was.is row.primary cell op pending_then fills in
            let two : 2 ≤ stage_at (By whole) (cell_of op.key) = subst (λ (q : Cell). 2 ≤ stage_at (By whole) q) (sym keyed) (omega arith) in
            let said = told_already present moved_now op.rev op.key op.bytes frozen two in
            subst (λ (q : Cell). 1 ≤ stage_at (By whole) q → stage_at (By whole) q ≤ 3 → IsServing (By whole) row.secondary q
            → Has (chain_in (kept setting v row.secondary).chains q) op.key.epoch) keyed ((now_so.there op.key said).now row.secondary) (omega arith)
            (omega arith) second_serves

        followed : is_clients op.kind ≡ false
            → op.op + op.op + 1 ≤ far (pair_at stores (good present).visits place cell row.primary row.secondary)
        followed fills = elim (at_most_or_above (op.op + op.op + 1)
            (far (pair_at stores (good present).visits place cell row.primary row.secondary))) [
              | inl past ↦ past
              | inr low ↦
                  let lacks = twins.lacks by op there pending fills (omega arith) in
                  let has = subst (λ (s : Store). Has (chain_in s.chains cell) op.key.epoch) (sym ((good present).now row.secondary))
                  (told fills) in
                  true_false has (ap is_some lacks)
            ]

      equal_by : (first second : Chain) (far_is : ℕ) (o : Option Pending) → AreCopies first second far_is o
          → ((op : Pending) → o ≡ Some op → op.op + op.op + 1 ≤ far_is) → first ≡ second
      equal_by first second far_is None same past = same
      equal_by first second far_is (Some op) copies past = by op.stage.put copies
        where
          by : (put : Bool) → Working first second far_is op put → first ≡ second
          by false even = even.even
          by true ahead = ahead.even (past op refl)

      has_followed : (op : Pending) → at cell_cmp (half (visit row.primary) (stores row.primary)).pairs.pending cell ≡ Some op
          → op.op + op.op + 1 ≤ far (pair_at stores (good present).visits place cell row.primary row.secondary)
      has_followed op is_op = by (visit row.primary) refl is_op
        where
          by : (o : Option PairState) → visit row.primary ≡ o → at cell_cmp (half o (stores row.primary)).pairs.pending cell ≡ Some op
              → op.op + op.op + 1 ≤ far (pair_at stores (good present).visits place cell row.primary row.secondary)
          by None e there = none_some (at-empty cell_cmp cell) there
          by (Some o) e there = by_bool (is_clients op.kind) (λ clients. absurd (no_write o op e there clients)) (λ fills. followed o op e there fills)

      pub equal_now : chain_in (kept setting v row.primary).chains cell ≡ chain_in (kept setting v row.secondary).chains cell
      equal_now =
          let pair = pair_at stores (good present).visits place cell row.primary row.secondary in
          let of = λ (n : ℕ). ap (λ (s : Store). chain_in s.chains cell) (half_store (visit n) (stores n) ∙ (good present).now n) in
          sym (of row.primary) ∙ equal_by pair.first pair.second (far pair) pair.pending twins.pair.copies has_followed ∙ of row.secondary
      -- what is frozen is the copy that counts, and so is that of each server that serves the link

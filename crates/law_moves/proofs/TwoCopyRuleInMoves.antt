-- The two-copy rule in a region that is on its way follows from what is kept of moves.
use Rattle.law_moves.proofs.Imports.{◌∙◌, ◌≡◌, ◌≤◌, Cell, Chain, HasNewer, HasStage, IsFilledFrom, IsSteady, Key, LinkRow, List, Matters, Moves, Run, Some}
use Rattle.law_moves.proofs.Imports.{State, ap, arith, authority, by_bool, cell_link, cell_of, chain_in, chosen_state, coming, end_of, false, inl, kept}
use Rattle.law_moves.proofs.Imports.{key_at, leaving, log_comes, log_noted, log_plain, log_steady, map_of, noted, prefix_itself, region_of, resting}
use Rattle.law_moves.proofs.Imports.{running_timely, same_some, source, source_same, stage_at, subst, sym, true, ℕ}
use Rattle.law_moves.specs.Fills.{AreFilled, Has, IsFrozen, WasFilled}
use Rattle.law_moves.specs.FrozenCopies.{AreStill}
use Rattle.law_moves.proofs.MovedRegionsHaveAll.{all_plain, link_slot, moved_filled, on_own_link}
use Rattle.law_moves.proofs.ServersOfLinks.{authority_serves, first_serves, matters_serves, second_serves}
use Rattle.law_moves.proofs.MoveWorlds.{facts_at}

module _ (it : Run) (still : AreStill (end_of it).setting (end_of it).w) (filled : AreFilled (end_of it).setting (end_of it).w) where
  open it use {script, sound, records, legal}
  open end_of it use {setting, w, chosen}

  abbrev now : State
  now = chosen_state setting w

  steady : IsSteady now
  steady = log_steady script.servers chosen (all_plain it)

  by_stage : (cell : Cell) → HasStage now cell
  by_stage cell = facts_at it chosen (prefix_itself chosen) cell

  -- what a letter says to be there is at each server that matters, while the cell is coming
  told_there : (cell : Cell) (n epoch : ℕ) → coming now cell ≡ true → Matters now cell n → WasFilled w (key_at cell epoch)
      → Has (chain_in (kept setting w n).chains cell) epoch
  told_there cell n epoch comes matters told =
      let one = (by_stage cell).comes comes in
      (filled.filled (key_at cell epoch) told).now n (omega arith) (omega arith) (matters_serves now steady cell n matters)

  -- so all that is newer than a frozen entry that moves is there
  newer_there : (key : Key) (bytes : List ℕ) (rev n : ℕ) (before : Chain) → IsFrozen setting w rev key bytes → coming now (cell_of key) ≡ true
      → Matters now (cell_of key) n → IsFilledFrom setting w (cell_of key) before
      → HasNewer before key.epoch (chain_in (kept setting w n).chains (cell_of key))
  newer_there key bytes rev n before f comes matters from epoch later has =
      let old : from.old ≡ f.old =
      source_same script.servers f.prefix chosen (all_plain it) f.lies (cell_of key) f.old from.old f.from from.is in
      let same : before ≡ f.before = same_some (sym from.frozen ∙ ap w.frozen old ∙ f.frozen) in
      told_there (cell_of key) n epoch comes matters (f.newer epoch later (subst (λ (c : Chain). Has c epoch) same has))

  stays : (cell : Cell) → stage_at now cell ≤ 2 → leaving now cell ≡ false
  stays cell two = by_bool (leaving now cell) (λ t. let three = (by_stage cell).leaves t in absurd (omega arith)) (λ no. no)

  noted_there : (cell old : Cell) (row : LinkRow) (n epoch : ℕ) (before : Chain) → coming now cell ≡ true → source now cell ≡ Some old
      → w.frozen old ≡ Some before → cell_link now old ≡ Some row → noted now row.map (region_of cell.block) row.link ≡ true
      → authority now cell ≡ Some n → Has before epoch → Has (chain_in (kept setting w n).chains cell) epoch
  noted_there cell old row n epoch before comes from frozen linked is counts has =
      let plain = all_plain it in
      let m = log_comes script.servers chosen plain old cell from in
      let twin = (by_stage cell).sources ((by_stage cell).comes comes) in
      let same : twin.0 ≡ old = same_some (sym twin.1 ∙ from) in
      let three : stage_at now old ≡ 3 = subst (λ (c : Cell). stage_at now c ≡ 3) same twin.3.stage_is in
      let map_is = map_of script.servers now (log_plain script.servers chosen plain) old row linked in
      let marked : noted now old.map (region_of old.block) row.link ≡ true =
      (λ i. noted now (sym map_is i) (region_of (sym m.block i)) row.link) ∙ is in
      let moved = log_noted script.servers chosen old row.link plain three marked in
      let own = on_own_link it old row.link moved (link_slot it chosen (prefix_itself chosen) old row linked) in
      told_there cell n epoch comes (inl counts)
      (moved_filled it filled.moved old cell own chosen (prefix_itself chosen) m before epoch frozen has)

  pub rule_kept : Moves setting w
  rule_kept = record {
    unwritten = λ n cell op runs is clients. stays cell (running_timely script records sound legal n cell op runs is clients).stays;
    still = λ cell n leaves counts. still.now n cell ((by_stage cell).leaves leaves) (authority_serves now steady cell n counts);
    equal = λ cell n m leaves one two.
        let three = (by_stage cell).leaves leaves in
        same_some (sym (still.now n cell three (first_serves now steady cell n one)) ∙ still.now m cell three (second_serves now steady cell m two));
    stored = λ cell n epoch before comes matters from.
        filled.stored cell n epoch before ((by_stage cell).comes comes) from (matters_serves now steady cell n matters);
    pending = λ cell n m before op comes matters from runs is fills.
        let keyed = (((resting script sound records legal).pending m).staged cell op is).keyed in
        subst (λ (c : Cell). HasNewer before op.key.epoch (chain_in (kept setting w n).chains c)) keyed
        (newer_there op.key op.bytes op.rev n before (filled.asked m cell op is fills)
        (subst (λ (c : Cell). coming now c ≡ true) (sym keyed) comes) (subst (λ (c : Cell). Matters now c n) (sym keyed) matters)
        (subst (λ (c : Cell). IsFilledFrom setting w c before) (sym keyed) from));
    sent = λ letter key bytes n before i is comes matters from.
        newer_there key bytes letter.rev n before (filled.sent letter key bytes i is) comes matters from;
    noted = noted_there;
  }

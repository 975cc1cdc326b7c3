-- A fill that comes to the copy that counts comes in its turn: of the frozen chain all that is newer is there, and so is it of all that is there.
use Rattle.law_run.proofs.Imports.{◌∙◌, ◌≡◌, Cell, Chain, DiskRow, Has, HasNewer, In, IsFilledFrom, IsFrozen, IsRising, IsServing, Key, List, None, Some}
use Rattle.law_run.proofs.Imports.{State, ap, arith, at, authority, cell_of, chain_in, chosen_log, chosen_state, has_map, kept, nat_cmp, old_cell, refl}
use Rattle.law_run.proofs.Imports.{source, stage_at, subst, sym, true, ℕ}
use Rattle.law_run.proofs.ChosenDisks.{disks_now, plain_now, rows_in}
use Rattle.law_run.proofs.CountingServerServes.{counts_serves}
use Rattle.law_run.proofs.Overlay.{IsFill}
use Rattle.law_run.proofs.SourceCells.{source_here, source_stays}
use Rattle.law_run.proofs.RunScenes.{Grounded}

module _ (g : Grounded) where
  open g use {setting, w, firm, ground}

  abbrev chosen : State
  chosen = chosen_state setting w

  -- the cell from which a cell that is coming is filled
  pub old_source : (cell : Cell) → stage_at chosen cell ≡ 1 → (row : DiskRow) → In row (rows_in setting w) → has_map cell.map row ≡ true
      → source chosen cell ≡ Some (old_cell row cell.block)
  old_source cell one row there has =
      source_here setting.servers chosen (plain_now setting w firm) (disks_now setting w firm) cell row there has one

  -- a frozen entry of a cell that is coming, the cell's disk, and the server whose copy of the cell counts
  pub record ComesTo : Type 0 where
    pub key : Key
    pub bytes : List ℕ
    pub one : stage_at chosen (cell_of key) ≡ 1
    pub rev : ℕ
    pub frozen : IsFrozen setting w rev key bytes
    pub row : DiskRow
    pub there : In row (rows_in setting w)
    pub has : has_map (cell_of key).map row ≡ true
    pub n : ℕ
    pub counts : authority chosen (cell_of key) ≡ Some n

  module _ (to : ComesTo) where
    open to use {key, bytes, one, frozen, row, there, has, n, counts}

    abbrev cell : Cell
    cell = cell_of key

    serves : IsServing chosen n cell
    serves = counts_serves setting w firm cell n counts

    old_is : frozen.old ≡ old_cell row cell.block
    old_is = source_stays setting.servers frozen.prefix (chosen_log setting w) firm.plain frozen.lies cell frozen.old frozen.from row there has one

    pub frozen_old : w.frozen (old_cell row cell.block) ≡ Some frozen.before
    frozen_old = ap w.frozen (sym old_is) ∙ frozen.frozen

    from : IsFilledFrom setting w cell frozen.before
    from = record { old = frozen.old; is = old_source cell one row there has ∙ ap Some (sym old_is); frozen = frozen.frozen }

    newer_kept : HasNewer frozen.before key.epoch (chain_in (kept setting w n).chains cell)
    newer_kept later lt there_before =
        (ground.moves.fills.filled _ (frozen.newer later lt there_before)).now n (omega (arith, one)) (omega (arith, one)) serves

    pub fill_there : (chain : Chain) → chain_in (kept setting w n).chains cell ≡ chain → at nat_cmp chain key.epoch ≡ None
        → IsFill chain frozen.before key.epoch bytes
    fill_there chain is lacks = record {
      rising = subst (IsRising nat_cmp) is (ground.good.rising n cell);
      frozen_rising = (ground.moves.frozen frozen.old frozen.before frozen.frozen).rising;
      frozen = record { version = frozen.entry.0; bytes = bytes };
      is = frozen.entry.1;
      bytes_is = refl;
      lacks = lacks;
      newer = subst (HasNewer frozen.before key.epoch) is newer_kept;
      stored = λ other has_other. subst (HasNewer frozen.before other) is
          (ground.moves.fills.stored cell n other frozen.before one from serves (subst (λ c. Has c other) (sym is) has_other));
    }

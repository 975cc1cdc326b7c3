-- A write of a prefix is the same at a later one by which its cell takes writes still; and a read of a cell that is coming asks the new map.
use Rattle.law_requests.proofs.Imports.{◌∙◌, ◌≡◌, ◌≤◌, Bool, Cell, Command, DiskView, HasProperTuples, IsPrefix, Line, List, Some, State, ap, arith}
use Rattle.law_requests.proofs.Imports.{asked_only, cell_asked, disk_on, false, find, has_stage, log_below, log_grown, log_plain, made_for, prefix_plain}
use Rattle.law_requests.proofs.Imports.{refl, stage_at, state_after, subst, sym, told_settled_at, true, ℕ}
use Rattle.spec_state.specs.CellState.{coming}
use Rattle.law_requests.specs.AskedRequests.{IsRead, IsWrite}

-- ### By a log

-- a read of a cell that is coming was not told that the new map has nothing
pub coming_untold : (servers : ℕ) (log : List Command) → HasProperTuples servers log
    → (lines : List Line) (client seq : ℕ) (told : Bool) (cell : Cell) (epoch : ℕ)
    → IsRead (state_after servers log) lines client seq told cell epoch → coming (state_after servers log) cell ≡ true → told ≡ false
coming_untold servers log plain lines client seq false cell epoch read comes = refl
coming_untold servers log plain lines client seq true cell epoch read comes =
    let p = log_plain servers log plain in
    let one = (has_stage (state_after servers log) p.rows p.homes cell).comes comes in
    let two = subst (λ (q : Cell). 2 ≤ stage_at (state_after servers log) q) (sym read.cell_is)
    (told_settled_at servers (state_after servers log) p read.name read.disk read.found read.block) in
    absurd (omega arith)

-- ### By a longer log

module _ (servers : ℕ) (prefix whole : List Command) (plain : HasProperTuples servers whole) (is_prefix : IsPrefix prefix whole) where
  abbrev earlier : State
  earlier = state_after servers prefix

  abbrev later : State
  later = state_after servers whole

  -- a cell under which a block was named is so still, while it takes writes
  pub asked_stays : (name : List ℕ) (disk now : DiskView) (block : ℕ) → find earlier name ≡ Some disk → find later name ≡ Some now → now.disk ≡ disk.disk
      → 1 ≤ stage_at later (cell_asked earlier disk block false) → stage_at later (cell_asked earlier disk block false) ≤ 2
      → cell_asked earlier disk block false ≡ cell_asked later now block false
  asked_stays name disk now block was is same low most =
      let p = log_plain servers prefix (prefix_plain servers prefix whole plain is_prefix) in
      let q = log_plain servers whole plain in
      let cell = cell_asked earlier disk block false in
      asked_only servers later q name now is block cell refl
      (disk_on earlier.maps later.maps cell.map disk.disk (log_grown servers prefix whole plain is_prefix).maps
      (made_for servers earlier p name disk was block) ∙ ap Some (sym same))
      low most

  -- so is a write of it
  pub write_stays : (lines : List Line) (client seq : ℕ) (cell : Cell) (bytes : List ℕ) → IsWrite earlier lines client seq cell bytes
      → 1 ≤ stage_at later cell → stage_at later cell ≤ 2 → IsWrite later lines client seq cell bytes
  write_stays lines client seq cell bytes one low most =
      let h = (log_below servers prefix whole plain is_prefix).finds one.name one.disk one.found in
      record {
        by_line = one.by_line;
        disk = h.now;
        found = h.is;
        cell_is = one.cell_is ∙ asked_stays one.name one.disk h.now one.block one.found h.is h.disk_is
            (subst (λ (q : Cell). 1 ≤ stage_at later q) one.cell_is low) (subst (λ (q : Cell). stage_at later q ≤ 2) one.cell_is most);
        bytes_is = one.bytes_is;
      }

-- What a pending operation is that a holder that is alone takes up.
use Rattle.law_steps.proofs.Imports.{◌≡◌, ◌≢◌, Bool, Cell, PairState, Pending, Some, Table, cell_apart, cell_cmp, cell_cmp_total, cell_same, pending_on, put}
use Rattle.law_steps.proofs.Imports.{refl}
use Rattle.law_steps.specs.DidLead.{Taken, As_it_is, As_told, told}
use Rattle.law_steps.specs.Ready.{IsRising}
use Rattle.law_steps.proofs.TablesOfPuts.{put_rises}

-- it is one that was pending, but for what letters told of it, and nothing else is changed
pub record IsTaken (own now : PairState) (op : Pending) : Type 0 where
  pub old : Pending
  pub reserved : Bool
  pub paired : Bool
  pub is : op ≡ told old reserved paired
  pub was : pending_on own op.cell ≡ Some old
  pub there : pending_on now op.cell ≡ Some op
  pub others : (cell : Cell) → cell ≢ op.cell → pending_on now cell ≡ pending_on own cell
  pub rises : IsRising cell_cmp own.pairs.pending → IsRising cell_cmp now.pairs.pending
  pub store : now.store ≡ own.store
  pub next : now.pairs.next ≡ own.pairs.next
  pub finished : now.pairs.finished ≡ own.pairs.finished
  pub last : now.pairs.last ≡ own.pairs.last
  pub copies : now.copies ≡ own.copies
  pub filled : now.filled ≡ own.filled

-- a part of which only what is pending is changed
abbrev with_table : PairState → Table Cell Pending → PairState
with_table own t = record own { pairs = record own.pairs { pending = t } }

taken_by : (own : PairState) (t : Table Cell Pending) (op old : Pending) (reserved paired : Bool) → op ≡ told old reserved paired
    → pending_on own op.cell ≡ Some old
    → pending_on (with_table own t) op.cell ≡ Some op
    → ((cell : Cell) → cell ≢ op.cell → pending_on (with_table own t) cell ≡ pending_on own cell)
    → (IsRising cell_cmp own.pairs.pending → IsRising cell_cmp t) → IsTaken own (with_table own t) op
taken_by own t op old reserved paired is was there others rises = record {
  old = old;
  reserved = reserved;
  paired = paired;
  is = is;
  was = was;
  there = there;
  others = others;
  rises = rises;
  store = refl;
  next = refl;
  finished = refl;
  last = refl;
  copies = refl;
  filled = refl;
}

pub taking : (own now : PairState) (op : Pending) → Taken own now op → IsTaken own now op
taking own _ _ (As_it_is op is) =
    taken_by own own.pairs.pending op op op.stage.reserved op.stage.paired refl is is (λ cell ne. refl) (λ h. h)
taking own _ _ (As_told op reserved paired is) =
    let t = own.pairs.pending in
    let new = told op reserved paired in
    taken_by own (put cell_cmp t op.cell new) new op reserved paired refl is (cell_same t op.cell new) (λ cell ne. cell_apart t op.cell new cell ne)
    (λ h. put_rises cell_cmp_total t op.cell new h)

-- A pending operation was pending before, in whatever stage.
use Rattle.law_steps.proofs.Imports.{◌∙◌, ◌≡◌, Cell, PairState, Pending, Some, Table, ap, at, cell_cmp, cell_gone, cell_gone_apart, inl, inr, none_some, refl}
use Rattle.law_steps.proofs.Imports.{sym, without}
use Rattle.law_steps.specs.DidLead.{As_it_is, As_told, Taken}
use Rattle.law_steps.proofs.OperationsRest.{same_cell_or_apart}

-- two operations differ in stage and version alone
pub record IsSame (old new : Pending) : Type 0 where
  pub number : old.op ≡ new.op
  pub kind : old.kind ≡ new.kind
  pub client : old.client ≡ new.client
  pub seq : old.seq ≡ new.seq
  pub rev : old.rev ≡ new.rev
  pub key : old.key ≡ new.key
  pub bytes : old.bytes ≡ new.bytes

pub same_itself : (op : Pending) → IsSame op op
same_itself op = record { number = refl; kind = refl; client = refl; seq = refl; rev = refl; key = refl; bytes = refl }

pub same_on : (a b c : Pending) → IsSame a b → IsSame b c → IsSame a c
same_on a b c one two = record {
  number = one.number ∙ two.number;
  kind = one.kind ∙ two.kind;
  client = one.client ∙ two.client;
  seq = one.seq ∙ two.seq;
  rev = one.rev ∙ two.rev;
  key = one.key ∙ two.key;
  bytes = one.bytes ∙ two.bytes;
}

-- the operation was pending on the cell, in whatever stage
pub record Was (own : PairState) (cell : Cell) (op : Pending) : Type 0 where
  pub was : Pending
  pub is : at cell_cmp own.pairs.pending cell ≡ Some was
  pub same : IsSame was op

pub was_same : (own : PairState) (cell : Cell) (op : Pending) → at cell_cmp own.pairs.pending cell ≡ Some op → Was own cell op
was_same own cell op is = record { was = op; is = is; same = same_itself op }

-- what stands at a cell after a removal stood there before
pub stood : {X : Type 0} (t : Table Cell X) (cell q : Cell) (x : X) → at cell_cmp (without cell_cmp t cell) q ≡ Some x → at cell_cmp t q ≡ Some x
stood t cell q x is = elim (same_cell_or_apart q cell) [
  | inl e ↦ none_some (cell_gone t cell) (ap (at cell_cmp (without cell_cmp t cell)) (sym e) ∙ is)
  | inr ne ↦ sym (cell_gone_apart t cell q ne) ∙ is
]

-- so was one that is taken up
pub was_taken : (own now : PairState) (op : Pending) → Taken own now op → Was own op.cell op
was_taken own _ _ (As_it_is op is) = was_same own op.cell op is
was_taken own _ _ (As_told op reserved paired is) = record {
  was = op;
  is = is;
  same = record { number = refl; kind = refl; client = refl; seq = refl; rev = refl; key = refl; bytes = refl };
}

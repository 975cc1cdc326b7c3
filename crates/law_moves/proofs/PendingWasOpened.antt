-- A client's write that is pending was opened by some of what is chosen.
use Rattle.law_moves.proofs.Imports.{◌≡◌, ◌≤◌, Cell, Pending, Run, Some, arith, at, cell_cmp, end_of, is_clients, length, opened_by, prefix_long, true}
use Rattle.law_moves.proofs.Imports.{was_opened, ℕ}

module _ (h : Run) (n : ℕ) (cell : Cell) (op : Pending) where
  open h use {script, sound, records, legal}
  open end_of h use {w, chosen}

  pub opened_within : at cell_cmp (w.servers n).own.pairs.pending cell ≡ Some op → is_clients op.kind ≡ true → op.rev ≤ length chosen
  opened_within is clients =
      let o = was_opened script sound records legal n cell op is clients in
      let long = o.long in
      let le = prefix_long o.opened chosen o.lies in
      omega arith

  -- and by some of what its server has applied
  pub opened_mine : at cell_cmp (w.servers n).own.pairs.pending cell ≡ Some op → is_clients op.kind ≡ true → op.rev ≤ length (w.servers n).log.applied
  opened_mine is clients =
      let o = was_opened script sound records legal n cell op is clients in
      let long = o.long in
      let le = prefix_long o.opened (w.servers n).log.applied (opened_by script sound records legal n cell op is clients) in
      omega arith

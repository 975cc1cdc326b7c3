-- A client's write that is pending on a cell of which the active fence holds the writes keeps its server from a report.
use Rattle.law_requests.proofs.Imports.{◌&&◌, ◌∙◌, ◌≡◌, Cell, PairState, Pending, Some, State, any_at, ap, at, cell_cmp, cell_cmp_same, has_held_write, held}
use Rattle.law_requests.proofs.Imports.{is_clients, is_writes_held, subst, true}

pub held_write : (state : State) (own : PairState) (cell : Cell) (op : Pending) → at cell_cmp own.pairs.pending cell ≡ Some op → is_clients op.kind ≡ true
    → is_writes_held (held state cell) ≡ true → has_held_write state own ≡ true
held_write state own cell op is clients holds =
    any_at cell_cmp (λ (row : Cell × Pending). is_clients row.1.kind && is_writes_held (held state row.0)) own.pairs.pending cell op is
    (λ key tie. ap (λ b. b && is_writes_held (held state key)) clients
    ∙ subst (λ (q : Cell). is_writes_held (held state q) ≡ true) (cell_cmp_same cell key tie) holds)

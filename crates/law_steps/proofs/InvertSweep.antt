-- What a server drops of cells that are no longer live is what the relation names.
use Rattle.law_steps.proofs.Imports.{[], ◌∷◌, ◌≡◌, Body, Cell, Chain, JobContext, List, Mark, None, Option, PairState, Retired, Some, State, Store, by_test}
use Rattle.law_steps.proofs.Imports.{false, is_in, live, next_retired, none_some, refl, retired_in, retired_key, retired_mark, same_some, subst, sweeps}
use Rattle.law_steps.proofs.Imports.{sweeps_with, true}
use Rattle.law_steps.specs.Did.{Did, Ignores, By_sweep}
use Rattle.law_steps.specs.DidSweep.{Sweeps, cell_swept}
use Rattle.petal_msg.specs.declared.retired.Retired.TheVariants as retired

-- what is to be dropped is of a cell that is not live
abbrev IsOut : State → Option Retired → Retired → Type 0
IsOut state o what = o ≡ Some what → live state (cell_swept what) ≡ false

mark_out : (state : State) (marks : List Mark) (what : Retired) → IsOut state (retired_mark state marks) what
mark_out state [] what e = none_some refl e
mark_out state (m ∷ marks) what e =
    by_test (λ o. IsOut state o what) (live state m.cell) (retired_mark state marks) (Some (retired.Mark m.kind m.cell))
    (λ on f. mark_out state marks what f)
    (λ off f. subst (λ (d : Retired). live state (cell_swept d) ≡ false) (same_some f) off) e

chain_out : (state : State) (cell : Cell) (chain : Chain) (other : Option Retired) (what : Retired) → live state cell ≡ false → IsOut state other what
    → IsOut state (retired_key cell chain other) what
chain_out state cell [] other what off h e = h e
chain_out state cell (row ∷ rows) other what off h e = subst (λ (d : Retired). live state (cell_swept d) ≡ false) (same_some e) off

chains_out : (state : State) (chains : List (Cell × Chain)) (other : Option Retired) (what : Retired) → IsOut state other what
    → IsOut state (retired_in state chains other) what
chains_out state [] other what h e = h e
chains_out state (held ∷ chains) other what h e =
    let rest : IsOut state (retired_in state chains other) what = chains_out state chains other what h in
    by_test (λ o. IsOut state o what) (live state held.0) (retired_in state chains other) (retired_key held.0 held.1 (retired_in state chains other))
    (λ on f. rest f) (λ off. chain_out state held.0 held.1 (retired_in state chains other) what off rest) e

pub next_out : (state : State) (store : Store) (what : Retired) → next_retired state store ≡ Some what → live state (cell_swept what) ≡ false
unfolding next_retired
next_out state store what = chains_out state store.chains (retired_mark state store.marks) what (mark_out state store.marks what)

pub did_sweeps : (heard : Body → Type 0) (here : JobContext) (own : PairState) → is_in here.state here.me here.inc ≡ true → Did heard here own (sweeps here own)
unfolding sweeps
did_sweeps heard here own seated = by (next_retired here.state own.store) refl
  where
    by : (o : Option Retired) → next_retired here.state own.store ≡ o → Did heard here own (sweeps_with own o)
    by None e = Ignores
    by (Some what) e = By_sweep _ (Sweeps what seated e (next_out here.state own.store what e))

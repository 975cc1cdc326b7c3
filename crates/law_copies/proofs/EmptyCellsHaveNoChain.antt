-- A cell without entries has no chain, whatever a server does.
use Rattle.law_copies.proofs.Imports.{[], ◌∙◌, ◌∷◌, ◌≡◌, ◌≢◌, Body, Cell, Chain, Did, JobContext, JobResult, Key, PairState, Some, Store, Stored, Table, ap}
use Rattle.law_copies.proofs.Imports.{at, at-empty, at_same, cell_apart, cell_cmp, cell_gone, cell_gone_apart, cell_of, cell_same, chain_in, chains_at}
use Rattle.law_copies.proofs.Imports.{chains_keep, inl, inr, is_some, nat_cmp, none_some, put, same_cell_or_apart, same_some, some_or_none, sym, true}
use Rattle.law_copies.proofs.Imports.{true_false, unwrap_or, without, without_entry, ℕ}
use Rattle.law_copies.specs.LoneSteps.{AreFilled}

pub no_entries : {A : Type 0} (chain : Chain) (epoch : ℕ) (stored : Stored) → put nat_cmp chain epoch stored ≡ [] → A
no_entries chain epoch stored none =
    none_some (ap (λ (t : Chain). at nat_cmp t epoch) none ∙ at-empty nat_cmp epoch) (at_same chain epoch stored)

put_filled : (chains : Table Cell Chain) (cell : Cell) (chain : Chain) → AreFilled chains → chain ≢ [] → AreFilled (put cell_cmp chains cell chain)
put_filled chains cell chain all some q is = elim (same_cell_or_apart q cell) [
  | inl e ↦ some (same_some (sym (cell_same chains cell chain) ∙ ap (at cell_cmp (put cell_cmp chains cell chain)) (sym e) ∙ is))
  | inr ne ↦ all q (sym (cell_apart chains cell chain q ne) ∙ is)
]

entry_filled : (chains : Table Cell Chain) (cell : Cell) (epoch : ℕ) (stored : Stored) → AreFilled chains
    → AreFilled (put cell_cmp chains cell (put nat_cmp (chain_in chains cell) epoch stored))
entry_filled chains cell epoch stored all = put_filled chains cell (put nat_cmp (chain_in chains cell) epoch stored) all
    (λ none. no_entries (chain_in chains cell) epoch stored none)

gone_filled : (chains : Table Cell Chain) (cell : Cell) → AreFilled chains → AreFilled (without cell_cmp chains cell)
gone_filled chains cell all q is = elim (same_cell_or_apart q cell) [
  | inl e ↦ none_some (ap (at cell_cmp (without cell_cmp chains cell)) e ∙ cell_gone chains cell) is
  | inr ne ↦ all q (sym (cell_gone_apart chains cell q ne) ∙ is)
]

set_filled : (chains : Table Cell Chain) (cell : Cell) (chain : Chain) → AreFilled chains → AreFilled (chains_at chains cell chain)
set_filled chains cell [] all = gone_filled chains cell all
set_filled chains cell (row ∷ later) all = put_filled chains cell (row ∷ later) all (λ none. cc)

drop_filled : (store : Store) (key : Key) → AreFilled store.chains → AreFilled (without_entry store key).chains
drop_filled store key all = set_filled store.chains (cell_of key) (without nat_cmp (chain_in store.chains (cell_of key)) key.epoch) all

pub did_filled : (heard : Body → Type 0) (here : JobContext) (own : PairState) → AreFilled own.store.chains → (done : JobResult) → Did heard here own done
    → AreFilled done.own.store.chains
did_filled heard here own all done d =
    chains_keep AreFilled heard here own (λ chains key stored noted why kept. entry_filled chains (cell_of key) key.epoch stored kept) drop_filled all done d

-- a chain that is there has an entry
pub has_entry : (chains : Table Cell Chain) → AreFilled chains → (cell : Cell) → is_some (at cell_cmp chains cell) ≡ true
    → chain_in chains cell ≢ []
has_entry chains all cell there none = elim (some_or_none (at cell_cmp chains cell)) [
  | inl h ↦ all cell (h.1 ∙ ap Some (sym (ap (λ o. unwrap_or {T = Chain} o []) h.1) ∙ none))
  | inr gone ↦ true_false there (ap is_some gone)
]

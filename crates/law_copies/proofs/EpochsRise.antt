-- The epochs of each chain rise, whatever a server does.
use Rattle.law_copies.proofs.Imports.{[], ◌∙◌, ◌∷◌, Body, Cell, Chain, Did, IsRising, JobContext, JobResult, Key, PairState, Store, Stored, Table, ap}
use Rattle.law_copies.proofs.Imports.{cell_cmp, cell_of, chain_apart, chain_in, chain_put, chains_at, chains_keep, gone_apart, gone_chain, inl, inr}
use Rattle.law_copies.proofs.Imports.{nat_cmp, nat_cmp_total, put, put_rises, same_cell_or_apart, subst, sym, without, without_entry, without_rises, ℕ}

-- each chain rises
abbrev pub AreRising : Table Cell Chain → Type 0
AreRising chains = (cell : Cell) → IsRising nat_cmp (chain_in chains cell)

put_chain : (chains : Table Cell Chain) (cell : Cell) (chain : Chain) → AreRising chains → IsRising nat_cmp chain → AreRising (put cell_cmp chains cell chain)
put_chain chains cell chain all rises q = elim (same_cell_or_apart q cell) [
  | inl e ↦ subst (IsRising nat_cmp) (sym (ap (chain_in (put cell_cmp chains cell chain)) e ∙ chain_put chains cell chain)) rises
  | inr ne ↦ subst (IsRising nat_cmp) (sym (chain_apart chains cell chain q ne)) (all q)
]

pub put_entry : (chains : Table Cell Chain) (cell : Cell) (epoch : ℕ) (stored : Stored) → AreRising chains
    → AreRising (put cell_cmp chains cell (put nat_cmp (chain_in chains cell) epoch stored))
put_entry chains cell epoch stored all = put_chain chains cell _ all (put_rises nat_cmp_total (chain_in chains cell) epoch stored (all cell))

all_gone : (chains : Table Cell Chain) (cell : Cell) → AreRising chains → AreRising (without cell_cmp chains cell)
all_gone chains cell all q = elim (same_cell_or_apart q cell) [
  | inl e ↦ subst (IsRising nat_cmp) (sym (ap (chain_in (without cell_cmp chains cell)) e ∙ gone_chain chains cell)) tt
  | inr ne ↦ subst (IsRising nat_cmp) (sym (gone_apart chains cell q ne)) (all q)
]

set_chain : (chains : Table Cell Chain) (cell : Cell) (chain : Chain) → AreRising chains → IsRising nat_cmp chain → AreRising (chains_at chains cell chain)
set_chain chains cell [] all rises = all_gone chains cell all
set_chain chains cell (row ∷ later) all rises = put_chain chains cell (row ∷ later) all rises

drop_entry : (store : Store) (key : Key) → AreRising store.chains → AreRising (without_entry store key).chains
drop_entry store key all =
    set_chain store.chains (cell_of key) _ all (without_rises nat_cmp (chain_in store.chains (cell_of key)) key.epoch (all (cell_of key)))

pub did_rising : (heard : Body → Type 0) (here : JobContext) (own : PairState) → AreRising own.store.chains → (done : JobResult) → Did heard here own done
    → AreRising done.own.store.chains
did_rising heard here own all done d =
    chains_keep AreRising heard here own (λ chains key stored noted why kept. put_entry chains (cell_of key) key.epoch stored kept) drop_entry all done d

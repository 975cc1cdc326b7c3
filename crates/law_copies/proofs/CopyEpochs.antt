-- The epochs of a copy: what the other server has beyond them, and when its chain is the holder's.
use Rattle.law_copies.proofs.Imports.{[], ◌<◌, ◌∙◌, ◌≡◌, Cell, Chain, In, IsRising, List, PairState, Some, Stored, ap, at, at_apart, at_row, chain_in}
use Rattle.law_copies.proofs.Imports.{epochs_beyond, epochs_of, false, filter, in_get, in_map, inl, inr, length, list_any, nat_cmp, nat_cmp_total, nat_eq}
use Rattle.law_copies.proofs.Imports.{none_some, not, number_itself, option_map, put, same_numbers, same_or_apart, slice_get, slice_get-map, slice_get_within}
use Rattle.law_copies.proofs.Imports.{some_or_none, sym, true, was_true, ℕ}
use Rattle.law_copies.proofs.ChainsRise.{all_left, any_in, at_in, in_any, in_mapped, none_left, place_of, same_tables}

-- each entry of the chain is of one of these epochs
abbrev pub IsWithin : Chain → List ℕ → Type 0
IsWithin chain kept = (epoch : ℕ) (stored : Stored) → at nat_cmp chain epoch ≡ Some stored → list_any (nat_eq epoch) kept ≡ true

pub within : (own : PairState) (cell : Cell) (kept : List ℕ) → epochs_beyond own cell kept ≡ [] → IsWithin (chain_in own.store.chains cell) kept
within own cell kept none epoch stored is =
    let chain = chain_in own.store.chains cell in
    was_true (list_any (nat_eq epoch) kept)
    (none_left (λ e. not (list_any (nat_eq e) kept)) (epochs_of chain) none epoch
    (in_mapped (λ (row : ℕ × Stored). row.0) chain (epoch, stored) (at_in chain epoch stored is)))

pub beyond : (own : PairState) (cell : Cell) (kept : List ℕ) → IsRising nat_cmp (chain_in own.store.chains cell)
    → IsWithin (chain_in own.store.chains cell) kept
    → epochs_beyond own cell kept ≡ []
beyond own cell kept rises all = all_left (λ e. not (list_any (nat_eq e) kept)) (epochs_of (chain_in own.store.chains cell))
    (λ epoch i. by epoch i)
  where
    by : (epoch : ℕ) → In epoch (epochs_of (chain_in own.store.chains cell)) → not (list_any (nat_eq epoch) kept) ≡ false
    by epoch i =
        let row = in_map (λ (r : ℕ × Stored). r.0) (chain_in own.store.chains cell) epoch i in
        let there = at_row nat_cmp_total (chain_in own.store.chains cell) row.0 rises row.1 in
        ap (λ e. not (list_any (nat_eq e) kept)) row.2 ∙ ap not (all row.0.0 row.0.1 there)

-- the same chain has the same beyond
pub same_beyond : (own to : PairState) (cell : Cell) (kept : List ℕ) → chain_in to.store.chains cell ≡ chain_in own.store.chains cell
    → epochs_beyond to cell kept ≡ epochs_beyond own cell kept
same_beyond own to cell kept e = ap (λ chain. filter (λ epoch. not (list_any (nat_eq epoch) kept)) (epochs_of chain)) e

-- an epoch of the list
pub among : (kept : List ℕ) (index epoch : ℕ) → slice_get kept index ≡ Some epoch → list_any (nat_eq epoch) kept ≡ true
among kept index epoch is = any_in (nat_eq epoch) kept epoch (in_get kept index epoch is) (number_itself epoch)

-- an entry of one of the epochs is put
pub within_put : (chain : Chain) (kept : List ℕ) (epoch : ℕ) (stored : Stored) → IsWithin chain kept → list_any (nat_eq epoch) kept ≡ true
    → IsWithin (put nat_cmp chain epoch stored) kept
within_put chain kept epoch stored all new e other is = elim (same_or_apart e epoch) [
  | inl same ↦ ap (λ k. list_any (nat_eq k) kept) same ∙ new
  | inr ne ↦ all e other (sym (at_apart chain epoch stored e ne) ∙ is)
]

-- the epoch of a holder's entry stands at the entry's place
pub epoch_at : (chain : Chain) (index : ℕ) (row : ℕ × Stored) → slice_get chain index ≡ Some row
    → slice_get (epochs_of chain) index ≡ Some row.0
epoch_at chain index row is = slice_get-map (λ (r : ℕ × Stored). r.0) chain index ∙ ap (option_map (λ (r : ℕ × Stored). r.0)) is

-- and a place of an epoch is that of an entry
pub epoch_place : (chain : Chain) (index epoch : ℕ) → slice_get (epochs_of chain) index ≡ Some epoch → index < length chain
epoch_place chain index epoch is = elim (some_or_none (slice_get chain index)) [
  | inl there ↦ slice_get_within chain index there.0 there.1
  | inr none ↦ none_some (slice_get-map (λ (r : ℕ × Stored). r.0) chain index ∙ ap (option_map (λ (r : ℕ × Stored). r.0)) none) is
]

-- all entries of the holder stand at the other server, and nothing but of their epochs: the chains are one
pub same_chains : (chain other : Chain) → IsRising nat_cmp chain → IsRising nat_cmp other → IsWithin other (epochs_of chain)
    → ((index : ℕ) (row : ℕ × Stored) → slice_get chain index ≡ Some row → at nat_cmp other row.0 ≡ Some row.1) → chain ≡ other
same_chains chain other rises other_rises all put = same_tables chain other rises other_rises same
  where
    there : (epoch : ℕ) → list_any (nat_eq epoch) (epochs_of chain) ≡ true → (stored : Stored) × (at nat_cmp chain epoch ≡ Some stored)
    there epoch any =
        let e = in_any (nat_eq epoch) (epochs_of chain) any in
        let row = in_map (λ (r : ℕ × Stored). r.0) chain e.0 e.1 in
        let same : epoch ≡ row.0.0 = same_numbers epoch e.0 e.2 ∙ row.2 in
        (row.0.1, ap (at nat_cmp chain) same ∙ at_row nat_cmp_total chain row.0 rises row.1)

    same : (epoch : ℕ) → at nat_cmp chain epoch ≡ at nat_cmp other epoch
    same epoch = elim (some_or_none (at nat_cmp chain epoch)) [
      | inl is ↦ (let place = place_of chain epoch is.0 is.1 in is.1 ∙ sym (put place.0 (epoch, is.0) place.1))
      | inr none ↦ elim (some_or_none (at nat_cmp other epoch)) [
        | inl is ↦ none_some none (there epoch (all epoch is.0 is.1)).1
        | inr gone ↦ none ∙ sym gone
      ]
    ]

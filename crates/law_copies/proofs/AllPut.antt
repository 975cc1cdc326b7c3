-- Where the other server has put all entries of a copy that is under way: it has the holder's chain, and no entry is left to be put.
use Rattle.law_copies.proofs.Imports.{◌<◌, ◌∙◌, ◌≡◌, ◌⊎◌, Cell, Chain, Copying, IsRising, LastCopy, LinkRow, Option, PairState, Some, Store, ap, arith}
use Rattle.law_copies.proofs.Imports.{chain_in, copying_on, epochs_beyond, epochs_of, false, inl, inr, last_copy, length, nat_cmp, refl, same_some, slice_get}
use Rattle.law_copies.proofs.Imports.{slice_get_within, subst, sym, true_false, ℕ}
use Rattle.law_copies.specs.CopyProgress.{AreCopying, IsCopied, IsCopying, IsFollowed}
use Rattle.law_copies.specs.LoneSteps.{IsStill}
use Rattle.law_copies.proofs.CopyEpochs.{epoch_place, same_chains, within}

module _ {links : ℕ} {row : LinkRow} {cell : Cell} {vo : Option PairState} {own : PairState} (old : AreCopying links row cell (Some own) vo)
    (all : IsCopied own cell) where
  abbrev chain : Chain
  chain = chain_in own.store.chains cell

  abbrev c : IsCopying row own vo cell all.copy
  c = old.copying own all.copy refl all.is

  abbrev g : IsFollowed own c.beside cell all.copy
  g = c.followed all.trimmed

  -- the other server has the holder's chain
  copied_chain : IsRising nat_cmp (chain_in c.beside.store.chains cell) → chain ≡ chain_in c.beside.store.chains cell
  copied_chain rises = same_chains chain (chain_in c.beside.store.chains cell) (old.risen own refl) rises
      (within c.beside cell (epochs_of chain) (ap (λ epochs. epochs_beyond c.beside cell epochs) (sym g.epochs_are) ∙ g.trimmed))
      (λ i r there. g.put i r
      (let lt = slice_get_within chain i r there in let le = g.past in let past = all.past in omega arith) there)

  -- as it is now
  pub copied_now : (now : Store) → IsStill cell vo now → IsRising nat_cmp (chain_in now.chains cell) → chain ≡ chain_in now.chains cell
  copied_now now still rises =
      let same = still c.beside c.met in
      copied_chain (subst (IsRising nat_cmp) (sym same) rises) ∙ same

  -- no entry is left to be put
  pub none_left_to_put : {A : Type 0} (o : PairState) (last : LastCopy) (index epoch : ℕ) → vo ≡ Some o → last_copy o cell ≡ Some last
      → slice_get last.epochs index ≡ Some epoch → index ≡ last.index → A
  none_left_to_put o last index epoch met there at_index e =
      let same : last ≡ g.last = same_some (sym (ap (λ x. last_copy x cell) (same_some (sym c.met ∙ met)) ∙ there) ∙ g.is) in
      let lt = epoch_place chain index epoch
      (ap (λ epochs. slice_get epochs index) (sym g.epochs_are ∙ ap (λ (l : LastCopy). l.epochs) (sym same)) ∙ at_index) in
      let le = g.past in
      let past = all.past in
      let last_is : last.index ≡ g.last.index = ap (λ (l : LastCopy). l.index) same in
      absurd (omega arith)

  -- this copy is not one of which something is left
  pub all_put : {A : Type 0} (copy : Copying) → copying_on own cell ≡ Some copy → (copy.trimmed ≡ false) ⊎ (copy.index < length chain) → A
  all_put copy is waits =
      let same : all.copy ≡ copy = same_some (sym all.is ∙ is) in
      elim waits [
        | inl fresh ↦ true_false (ap (λ (x : Copying). x.trimmed) (sym same) ∙ all.trimmed) fresh
        | inr lt ↦ (let index = ap (λ (x : Copying). x.index) same in let past = all.past in absurd (omega arith))
      ]

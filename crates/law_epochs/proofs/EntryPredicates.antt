-- What is so of each entry of a store by its cell and epoch, and of the keys that letters tell of.
use Rattle.law_epochs.proofs.Imports.{[], ◌∙◌, ◌∷◌, ◌≡◌, Body, Bool, Cell, Chain, Copied, Filling, Key, Logged, Paired, Some, Store, Stored, Subject, Table}
use Rattle.law_epochs.proofs.Imports.{ap, at, at-empty, at_apart, cell_cmp, cell_of, chain_apart, chain_in, chain_put, chains_at, chains_with, drop_apart}
use Rattle.law_epochs.proofs.Imports.{false, gone_apart, gone_chain, gone_same, inl, inr, is_aside, is_logged, nat_cmp, none_some, put, refl}
use Rattle.law_epochs.proofs.Imports.{same_cell_or_apart, same_or_apart, subject_of, subst, sym, true, true_false, unwrap_or, without, without_entry, ℕ}
use Rattle.petal_msg.specs.declared.body.Body.TheVariants as body

abbrev pub IsWithin : (bound : Cell → ℕ → Type 0) → Key → Type 0
IsWithin bound key = bound (cell_of key) key.epoch

abbrev pub AreWithin : (bound : Cell → ℕ → Type 0) → Table Cell Chain → Type 0
AreWithin bound chains = (cell : Cell) (epoch : ℕ) (entry : Stored) → at nat_cmp (chain_in chains cell) epoch ≡ Some entry → bound cell epoch

-- ### Letters

-- of a letter that tells of an entry this is so of the entry's key
abbrev pub OfKey : (Key → Type 0) → Body → Type 0
OfKey P (body.Replicate number key version origin bytes) = P key
OfKey P (body.Sync number key version index bytes) = P key
OfKey P (body.Fill key bytes) = P key
OfKey P _ = Unit {0}

pub of_key_on : (P Q : Key → Type 0) → ((key : Key) → P key → Q key) → (said : Body) → OfKey P said → OfKey Q said
of_key_on P Q on (body.Replicate number key version origin bytes) h = on key h
of_key_on P Q on (body.Sync number key version index bytes) h = on key h
of_key_on P Q on (body.Fill key bytes) h = on key h
of_key_on P Q on _ h = tt

-- of which letters of other subjects tell nothing
abbrev pub is_of_entries : Subject → Bool
is_of_entries Paired = true
is_of_entries Copied = true
is_of_entries Filling = true
is_of_entries _ = false

pub of_no_key : (P : Key → Type 0) (said : Body) → is_of_entries (subject_of said) ≡ false → OfKey P said
of_no_key P (body.Replicate number key version origin bytes) e = cc
of_no_key P (body.Sync number key version index bytes) e = cc
of_no_key P (body.Fill key bytes) e = cc
of_no_key P _ e = tt

pub logged_none : (s : Subject) → is_logged s ≡ true → is_of_entries s ≡ false
logged_none Logged e = refl
logged_none _ e = cc

pub aside_none : (s : Subject) → is_aside s ≡ true → is_of_entries s ≡ false
aside_none Paired e = true_false e refl
aside_none Copied e = true_false e refl
aside_none Filling e = true_false e refl
aside_none _ e = refl

-- ### Chains

module _ (bound : Cell → ℕ → Type 0) where
  pub none_within : AreWithin bound []
  none_within cell epoch entry is =
      none_some (ap (λ o. at nat_cmp (unwrap_or {T = Chain} o []) epoch) (at-empty cell_cmp cell) ∙ at-empty nat_cmp epoch) is

  pub put_within : (chains : Table Cell Chain) (key : Key) (stored : Stored) → AreWithin bound chains → IsWithin bound key
      → AreWithin bound (chains_with chains key stored)
  put_within chains key stored old new cell epoch entry is =
      let chain = put nat_cmp (chain_in chains (cell_of key)) key.epoch stored in
      elim (same_cell_or_apart cell (cell_of key)) [
        | inl e ↦ elim (same_or_apart epoch key.epoch) [
          | inl same ↦ subst (λ (c : Cell). bound c epoch) (sym e) (subst (bound (cell_of key)) (sym same) new)
          | inr ne ↦ (
              let there = ap (λ c. at nat_cmp (chain_in (chains_with chains key stored) c) epoch) e
              ∙ ap (λ c. at nat_cmp c epoch) (chain_put chains (cell_of key) chain)
              ∙ at_apart (chain_in chains (cell_of key)) key.epoch stored epoch ne in
              old cell epoch entry (ap (λ c. at nat_cmp (chain_in chains c) epoch) e ∙ sym there ∙ is))
        ]
        | inr ne ↦ old cell epoch entry (sym (ap (λ c. at nat_cmp c epoch) (chain_apart chains (cell_of key) chain cell ne)) ∙ is)
      ]

  set_here : (chains : Table Cell Chain) (cell : Cell) (chain : Chain) → chain_in (chains_at chains cell chain) cell ≡ chain
  set_here chains cell [] = gone_chain chains cell
  set_here chains cell (row ∷ later) = chain_put chains cell (row ∷ later)

  -- what is left of a chain was there
  was_left : (chain : Chain) (gone epoch : ℕ) (entry : Stored) → at nat_cmp (without nat_cmp chain gone) epoch ≡ Some entry
      → at nat_cmp chain epoch ≡ Some entry
  was_left chain gone epoch entry is = elim (same_or_apart epoch gone) [
    | inl e ↦ none_some (gone_same chain gone) (ap (at nat_cmp (without nat_cmp chain gone)) (sym e) ∙ is)
    | inr ne ↦ sym (gone_apart chain gone epoch ne) ∙ is
  ]

  pub drop_within : (store : Store) (key : Key) → AreWithin bound store.chains → AreWithin bound (without_entry store key).chains
  drop_within store key old cell epoch entry is = elim (same_cell_or_apart cell (cell_of key)) [
    | inl e ↦
        let chain = chain_in store.chains (cell_of key) in
        let left : at nat_cmp (without nat_cmp chain key.epoch) epoch ≡ Some entry =
        sym (ap (λ c. at nat_cmp (chain_in (without_entry store key).chains c) epoch) e
        ∙ ap (λ c. at nat_cmp c epoch) (set_here store.chains (cell_of key) (without nat_cmp chain key.epoch))) ∙ is in
        old cell epoch entry (ap (λ c. at nat_cmp (chain_in store.chains c) epoch) e ∙ was_left chain key.epoch epoch entry left)
    | inr ne ↦ old cell epoch entry (sym (ap (λ c. at nat_cmp c epoch) (drop_apart store key cell ne)) ∙ is)
  ]

-- What the other server of a link does is what the rules say.
use Rattle.std.proofs.Common.{◌≡◌, inl, inr, ℕ, ◌==◌, not, Bool, true, false, List, [], ◌∷◌, Option, Some, None, nat_lt, refl, sym, ap, ◌∙◌, arith}
use Rattle.std.proofs.lemmas.Bool.{cases_Bool}
use Rattle.std.proofs.lemmas.Bool.Decides.{nat_tests}
use Rattle.std.specs.Prelude.{filter, find, nat_eq, option_map}
use Rattle.std.specs.List.{list_any}
use Rattle.petal_base.specs.declared.cell.Cell.{Cell}
use Rattle.petal_table.specs.Table.{at}
use Rattle.petal_msg.specs.declared.body.Body.TheVariants as body
use Rattle.petal_msg.specs.declared.copying.LastCopy.{LastCopy}
use Rattle.spec_rules.specs.Copies.{cell_holder, epochs_beyond, hears_trim, hears_trim_of, on_trim, trims_again, trims_first, trims_for, trims_newly, trims_on}
use Rattle.spec_rules.specs.Progress.{with_last_copy}
use Rattle.spec_rules.specs.Server.{PairState, JobContext, silent, says_to}
use Rattle.spec_rules.specs.Store.{cell_cmp, chain_in, epochs_of}
use Rattle.spec_rules.proofs.CellTables.{cell_same}
use Rattle.copy_transfer.specs.Entries.{dropped}

module _ (test : ℕ → Bool) where
  none_left : (xs : List ℕ) → find test xs ≡ None → filter test xs ≡ []
  none_left [] is = refl
  none_left (x ∷ xs) is = elim (cases_Bool (test x)) [
    | inl has ↦ absurd (let e : Some x ≡ None = rw has at is in cc)
    | inr has ↦ rw has (none_left xs (rw has at is))
  ]

  first_left : (xs : List ℕ) (x : ℕ) → find test xs ≡ Some x → (rest : List ℕ) × (filter test xs ≡ x ∷ rest)
  first_left [] x is = absurd (cc)
  first_left (y ∷ ys) x is = elim (cases_Bool (test y)) [
    | inl has ↦ let same : y ≡ x = (let e : Some y ≡ Some x = rw has at is in cc) in (filter test ys, rw has (ap (λ (n : ℕ). n ∷ filter test ys) same))
    | inr has ↦ let more = first_left ys x (rw has at is) in (more.0, rw has more.1)
  ]

  pub found_there : (xs : List ℕ) (x : ℕ) → find test xs ≡ Some x → list_any (nat_eq x) xs ≡ true
  found_there [] x is = absurd (cc)
  found_there (y ∷ ys) x is = elim (cases_Bool (test y)) [
    | inl has ↦
        let same : y ≡ x = (let e : Some y ≡ Some x = rw has at is in cc) in
        let here : nat_eq x y ≡ true = grind (arith, nat_tests, same) in
        rw here refl
    | inr has ↦ elim (cases_Bool (nat_eq x y)) [
      | inl here ↦ rw here refl
      | inr here ↦ rw here (found_there ys x (rw has at is))
    ]
  ]

-- the epoch is not among those that the holder has
abbrev pub is_beyond : List ℕ → ℕ → Bool
is_beyond kept epoch = not (list_any (nat_eq epoch) kept)

abbrev pub own_epochs : PairState → Cell → List ℕ
own_epochs own cell = epochs_of (chain_in own.store.chains cell)

module _ (own : PairState) (cell : Cell) (kept : List ℕ) where
  pub beyond_none : find (is_beyond kept) (own_epochs own cell) ≡ None → epochs_beyond own cell kept ≡ []
  beyond_none is = none_left (is_beyond kept) (own_epochs own cell) is

  pub beyond_there : (epoch : ℕ) → find (is_beyond kept) (own_epochs own cell) ≡ Some epoch → list_any (nat_eq epoch) (own_epochs own cell) ≡ true
  beyond_there epoch is = found_there (is_beyond kept) (own_epochs own cell) epoch is

  -- nothing is left to drop
  pub first_none : (number holder : ℕ) (left : PairState) → find (is_beyond kept) (own_epochs own cell) ≡ None
      → trims_first left cell number holder [] ≡ trims_first left cell number holder (epochs_beyond own cell kept)
  first_none number holder left is = ap (trims_first left cell number holder) (sym (beyond_none is))

  -- an entry is dropped
  pub first_some : (number holder epoch : ℕ) (left : PairState) → find (is_beyond kept) (own_epochs own cell) ≡ Some epoch
      → dropped left cell epoch ≡ trims_first left cell number holder (epochs_beyond own cell kept)
  first_some number holder epoch left is =
      let found = first_left (is_beyond kept) (own_epochs own cell) epoch is in
      ap (trims_first left cell number holder) (sym found.1)

  -- an equal number
  pub again_none : (number holder : ℕ) → find (is_beyond kept) (own_epochs own cell) ≡ None
      → says_to own (Some holder) (body.Trimmed number cell) ≡ trims_again own cell number holder (epochs_beyond own cell kept)
  again_none number holder is = ap (trims_again own cell number holder) (sym (beyond_none is))

  pub again_some : (number holder epoch : ℕ) → find (is_beyond kept) (own_epochs own cell) ≡ Some epoch
      → silent own ≡ trims_again own cell number holder (epochs_beyond own cell kept)
  again_some number holder epoch is =
      let found = first_left (is_beyond kept) (own_epochs own cell) epoch is in
      ap (trims_again own cell number holder) (sym found.1)

-- ### Trim

-- a copy that is new here
pub newly_is : (here : JobContext) (own : PairState) (cell : Cell) (holder : ℕ) (last : LastCopy) → cell_holder here cell ≡ Some holder
    → trims_for (with_last_copy own cell last) cell (Some holder) (Some last) ≡ trims_on here (with_last_copy own cell last) cell
unfolding trims_on
newly_is here own cell holder last is =
    λ i. trims_for (with_last_copy own cell last) cell (sym is i) (sym (cell_same own.copies.last cell last) i)

module _ (here : JobContext) (own : PairState) (cell : Cell) (copy : LastCopy) (holder : ℕ) (is : cell_holder here cell ≡ Some holder)
    (begins : copy.index ≡ 0) where
  -- the copy as the letter begins it
  begun : with_last_copy own cell (record { op = copy.op; epochs = copy.epochs; index = 0 }) ≡ with_last_copy own cell copy
  begun = λ i. with_last_copy own cell (record { op = copy.op; epochs = copy.epochs; index = sym begins i })

  trim_is : (found : Option LastCopy) → at cell_cmp own.copies.last cell ≡ found
      → on_trim here own copy.op cell copy.epochs ≡ hears_trim here own copy.op cell copy.epochs holder found
  unfolding on_trim
  trim_is found last = ap (hears_trim_of here own copy.op cell copy.epochs) is ∙ ap (hears_trim here own copy.op cell copy.epochs holder) last

  trims_newly_is : trims_for (with_last_copy own cell copy) cell (Some holder) (Some copy) ≡ trims_newly here own copy.op cell copy.epochs
  trims_newly_is = newly_is here own cell holder copy is ∙ ap (λ (left : PairState). trims_on here left cell) (sym begun)

  pub trim_new : at cell_cmp own.copies.last cell ≡ None
      → trims_for (with_last_copy own cell copy) cell (Some holder) (Some copy) ≡ on_trim here own copy.op cell copy.epochs
  trim_new none = trims_newly_is ∙ sym (trim_is None none)

  pub trim_newer : (last : LastCopy) → at cell_cmp own.copies.last cell ≡ Some last → nat_lt copy.op last.op ≡ false → (copy.op == last.op) ≡ false
      → trims_for (with_last_copy own cell copy) cell (Some holder) (Some copy) ≡ on_trim here own copy.op cell copy.epochs
  trim_newer last there older other =
      let rest : hears_trim here own copy.op cell copy.epochs holder (Some last) ≡ trims_newly here own copy.op cell copy.epochs = rw (older, other) refl in
      trims_newly_is ∙ sym (trim_is (Some last) there ∙ rest)

  pub trim_equal : (last : LastCopy) → at cell_cmp own.copies.last cell ≡ Some last → nat_lt copy.op last.op ≡ false → (copy.op == last.op) ≡ true
      → trims_again own cell copy.op holder (epochs_beyond own cell last.epochs) ≡ on_trim here own copy.op cell copy.epochs
  trim_equal last there older same =
      let rest : hears_trim here own copy.op cell copy.epochs holder (Some last) ≡ trims_again own cell copy.op holder (epochs_beyond own cell last.epochs) =
      rw (older, same) refl in
      sym (trim_is (Some last) there ∙ rest)

  pub trim_older : (last : LastCopy) → at cell_cmp own.copies.last cell ≡ Some last → nat_lt copy.op last.op ≡ true
      → silent own ≡ on_trim here own copy.op cell copy.epochs
  trim_older last there older =
      let rest : hears_trim here own copy.op cell copy.epochs holder (Some last) ≡ silent own = rw older refl in
      sym (trim_is (Some last) there ∙ rest)

pub one_copy : (a b : LastCopy) → Some a ≡ Some b → a ≡ b
one_copy a b is = cc

-- the copy whose number is known
pub known_copy : (o : Option LastCopy) (number : ℕ) → option_map (λ last. last.op) o ≡ Some number → (last : LastCopy) × ((o ≡ Some last) × (last.op ≡ number))
known_copy None number is = absurd (cc)
known_copy (Some last) number is = (last, (refl, number_is last.op number is))
  where
    number_is : (a b : ℕ) → Some a ≡ Some b → a ≡ b
    number_is a b same = cc

pub none_known : (o : Option LastCopy) → None ≡ option_map (λ (last : LastCopy). last.op) o → o ≡ None
none_known None is = refl
none_known (Some last) is = absurd (cc)

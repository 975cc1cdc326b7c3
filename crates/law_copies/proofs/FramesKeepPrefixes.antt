-- What is kept at a prefix where a step leaves the cell as it is at both servers of the link: what they were at the place, and their
-- stores' chain and marks.
use Rattle.law_copies.proofs.Imports.{[], ◌+◌, ◌==◌, ◌∙◌, ◌≡◌, ◌≤◌, ◌⊎◌, Body, Bool, Busy, Cell, Command, IsMarked, IsToBeCopied, LinkRow, List, MarkKind}
use Rattle.law_copies.proofs.Imports.{Only, Option, PairState, Pending, Some, Stale, Store, ap, arith, at, by_test, chain_in, has_server, inl, inr, is_marked}
use Rattle.law_copies.proofs.Imports.{is_some, nat_cmp, none_some, other_of, primary_is_one, refl, secondary_is_one, some_or_none, state_after, subst, sym}
use Rattle.law_copies.proofs.Imports.{true, ℕ}
use Rattle.law_copies.specs.CopyProgress.{AreAlike, AreCopying, IsCovered, IsPage, IsTold, Is_equal, Is_marked_here, Is_marked_there, Is_to_be_copied}
use Rattle.law_copies.specs.CopyProgress.{links_of}
use Rattle.law_copies.specs.GoodCopies.{AloneOk, AreBeside, AreTwins, BothOk, SaidOk, pair_at, StaysLeft}
use Rattle.law_copies.specs.Pair.{IsRecalled, Known, PairOk, far, pair_of}
use Rattle.law_copies.specs.Visits.{AliveIn, HasFilled, Visits, half, place_by}
use Rattle.law_copies.proofs.PlacesByPrefixes.{has_filled_on}
use Rattle.law_copies.proofs.VisitsAfterSteps.{then_of, counted_up, none_before}
use Rattle.law_copies.proofs.AtStep.{AtStep}

-- ### Stores

-- the cell's chain and marks stay
pub record LeavesStore (old new : Store) (cell : Cell) : Type 0 where
  pub chain : chain_in new.chains cell ≡ chain_in old.chains cell
  pub marks : (kind : MarkKind) → is_marked new kind cell ≡ is_marked old kind cell

pub store_itself : (store : Store) (cell : Cell) → LeavesStore store store cell
store_itself store cell = record { chain = refl; marks = λ kind. refl }

-- the same store by another name
pub store_same : (old new : Store) (cell : Cell) → new ≡ old → LeavesStore old new cell
store_same old new cell same = record { chain = λ i. chain_in (same i).chains cell; marks = λ kind i. is_marked (same i) kind cell }

pub marked_on : (old new : Store) (cell : Cell) → LeavesStore old new cell → IsMarked old cell → IsMarked new cell
marked_on old new cell same (inl busy) = inl (same.marks Busy ∙ busy)
marked_on old new cell same (inr stale) = inr (same.marks Stale ∙ stale)

pub marks_back : (old new : Store) (cell : Cell) → ((kind : MarkKind) → is_marked new kind cell ≡ is_marked old kind cell)
    → IsMarked new cell → IsMarked old cell
marks_back old new cell same (inl busy) = inl (sym (same Busy) ∙ busy)
marks_back old new cell same (inr stale) = inr (sym (same Stale) ∙ stale)

pub marked_back : (old new : Store) (cell : Cell) → LeavesStore old new cell → IsMarked new cell → IsMarked old cell
marked_back old new cell same = marks_back old new cell same.marks

pub recalled_on : (old new : Store) (cell : Cell) (op : Pending) → LeavesStore old new cell → IsRecalled op old cell → IsRecalled op new cell
recalled_on old new cell op same r = record {
  rests = r.rests;
  marks = record {
    busy = λ e. same.marks Busy ∙ r.marks.busy e;
    stale = λ e. same.marks Stale ∙ r.marks.stale e;
    lacks = λ fill unput. ap (λ c. at nat_cmp c op.key.epoch) same.chain ∙ r.marks.lacks fill unput;
  };
}

-- ### Pairs

-- the pair of the same memory and the same chains
pub pair_same : (one other : Option PairState) (a b a' b' : Store) (cell : Cell) → chain_in a'.chains cell ≡ chain_in a.chains cell
    → chain_in b'.chains cell ≡ chain_in b.chains cell → pair_of (half one a) (half other b) cell ≡ pair_of (half one a') (half other b') cell
pair_same one other a b a' b' cell e f = λ i. record (pair_of (half one a) (half other b) cell) { first = sym e i; second = sym f i }

-- ### Alike

-- what is to be copied is so still
pub to_copy_on : (row : LinkRow) (old new : Store) (cell : Cell) → chain_in new.chains cell ≡ chain_in old.chains cell → IsToBeCopied row old cell
    → IsToBeCopied row new cell
to_copy_on row old new cell same all = record { whole = all.whole; stored = λ none. all.stored (sym same ∙ none) }

-- and what was left to copy is
pub left_on : (row : LinkRow) (cell : Cell) (own : PairState) (old new : Store) → LeavesStore old new cell → StaysLeft row cell own old
    → StaysLeft row cell own new
left_on row cell own old new same left =
    (λ marked. marked_on old new cell same (left.0 marked), λ all copied. to_copy_on row old new cell same.chain (left.1 all copied))

pub covered_same : (row : LinkRow) (cell : Cell) (a b a' b' : Store) (visit : Option PairState) → LeavesStore a a' cell → LeavesStore b b' cell
    → IsCovered row cell a b visit → IsCovered row cell a' b' visit
covered_same row cell a b a' b' visit one two (Is_equal same) = Is_equal (one.chain ∙ same ∙ sym two.chain)
covered_same row cell a b a' b' visit one two (Is_marked_here marked) = Is_marked_here (marked_on a a' cell one marked)
covered_same row cell a b a' b' visit one two (Is_marked_there marked ahead) = Is_marked_there (marked_on b b' cell two marked) ahead
covered_same row cell a b a' b' visit one two (Is_to_be_copied all copied) = Is_to_be_copied (to_copy_on row a a' cell one.chain all) copied

pub alike_same : (row : LinkRow) (cell : Cell) (a b a' b' : Store) (visit : Option PairState) → LeavesStore a a' cell → LeavesStore b b' cell
    → AreAlike row cell a b visit → AreAlike row cell a' b' visit
alike_same row cell a b a' b' visit one two alike = record {
  covered = covered_same row cell a b a' b' visit one two alike.covered;
  caught = λ own is flagged. one.chain ∙ alike.caught own is flagged ∙ sym two.chain;
}

-- the other one of a link's two servers is one of them
pub other_is_one : (row : LinkRow) (n : ℕ) → has_server (other_of n row) row ≡ true
other_is_one row n = by_test (λ m. has_server m row ≡ true) (row.primary == n) row.secondary row.primary
    (λ e. secondary_is_one row row.secondary refl) (λ e. primary_is_one row row.primary refl)

-- what is so of two visits is so of the same ones by other names
pub both_same : {a b a' b' : Option PairState} (P : Option PairState → Option PairState → Type 0) → a' ≡ a → b' ≡ b → P a b → P a' b'
both_same {b = b} {a' = a'} P e f h = subst (λ y. P a' y) (sym f) (subst (λ x. P x b) (sym e) h)

-- ### At a place, by the stores and visits before and then

module _ (olds news : ℕ → Store) (visits later : Visits) (place : ℕ) (cell : Cell) where
  -- a server's visit stays, and what it has of the cell
  pub record StaysAt (n : ℕ) : Type 0 where
    pub visit : later n place cell ≡ visits n place cell
    pub store : LeavesStore (olds n) (news n) cell

  module _ (n m : ℕ) (one : StaysAt n) (two : StaysAt m) where
    pub pair_stays : pair_at olds visits place cell n m ≡ pair_at news later place cell n m
    pair_stays =
        pair_same (visits n place cell) (visits m place cell) (olds n) (olds m) (news n) (news m) cell one.store.chain two.store.chain
        ∙ (λ i. pair_of (half (sym one.visit i) (news n)) (half (sym two.visit i) (news m)) cell)

    pub twins_stay : AreTwins olds visits place cell n m → AreTwins news later place cell n m
    twins_stay twins = record {
      pair = subst PairOk pair_stays twins.pair;
      recalled = λ own op is there. recalled_on (olds n) (news n) cell op one.store (twins.recalled own op (sym one.visit ∙ is) there);
      lacks = λ own op is there fill le.
          ap (λ c. at nat_cmp c op.key.epoch) two.store.chain
          ∙ twins.lacks own op (sym one.visit ∙ is) there fill (subst (λ p. far p ≤ op.op + op.op) (sym pair_stays) le);
    }

    pub beside_stays : (row : LinkRow) → AreBeside olds visits place row cell n m → AreBeside news later place row cell n m
    beside_stays row beside = record {
      alike = subst (AreAlike row cell (news n) (news m)) (sym one.visit)
          (alike_same row cell (olds n) (olds m) (news n) (news m) (visits n place cell) one.store two.store beside.alike);
      still = λ own is. beside.still own (sym two.visit ∙ is) ∙ sym two.store.chain;
    }

  page_stays : (other : ℕ) → StaysAt other → (after block : Option ℕ) → IsPage cell (olds other) (visits other place cell) after block
      → IsPage cell (news other) (later other place cell) after block
  page_stays other two after block page = record {
    met = ap is_some two.visit ∙ page.met;
    least = λ ahead upto marked. page.least ahead upto (marked_back (olds other) (news other) cell two.store marked);
  }

-- where the stores are the same
pub same_stays : (old new : ℕ → Store) (visits : Visits) (place : ℕ) (cell : Cell) (n : ℕ) → new n ≡ old n → StaysAt old new visits visits place cell n
same_stays old new visits place cell n same = record { visit = refl; store = store_same (old n) (new n) cell same }

-- ### At a prefix

module _ (it : AtStep) where
  open it use {setting, top, good, good.{visits}}
  open then_of it use {visits as later, reached, next, olds, news}

  -- the cell is as before at a server of its link: its store, too, unless the cell is retired
  pub record LeavesAt (prefix : List Command) (n place : ℕ) (cell : Cell) : Type 0 where
    pub visit : later n place cell ≡ visits n place cell
    pub store : AliveIn (state_after setting.servers top) cell → LeavesStore (olds prefix n) (news prefix n) cell

  -- at both
  abbrev pub LeavesBoth : List Command → (place : ℕ) → Cell → LinkRow → Type 0
  LeavesBoth prefix place cell row = (n : ℕ) → has_server n row ≡ true → LeavesAt prefix n place cell

  stays : (prefix : List Command) (n place : ℕ) (cell : Cell) → AliveIn (state_after setting.servers top) cell → LeavesAt prefix n place cell
      → StaysAt (olds prefix) (news prefix) visits later place cell n
  stays prefix n place cell alive one = record { visit = one.visit; store = one.store alive }

  somes : (n place : ℕ) (cell : Cell) (own : PairState) → visits n place cell ≡ Some own → (o : PairState) × (later n place cell ≡ Some o)
  somes n place cell own visit = elim (some_or_none (later n place cell)) [ inl h ↦ h | inr none ↦ none_some (none_before it n place cell none) visit ]

  -- what was empty is so, or the holder has been at a place
  pub filled_on : (prefix : List Command) (cell : Cell) (holder other : ℕ) → HasFilled setting top visits prefix cell holder other
      → HasFilled setting top later prefix cell holder other
  filled_on prefix cell holder other f =
      let now = somes holder (place_by setting f.more f.row) cell f.own f.visited in
      has_filled_on f f.within refl now.0 now.1

  pub filled_framed : (prefix : List Command) (cell : Cell) (holder other : ℕ)
      → chain_in (news prefix other).chains cell ≡ chain_in (olds prefix other).chains cell
      → (chain_in (olds prefix other).chains cell ≡ []) ⊎ HasFilled setting top visits prefix cell holder other
      → (chain_in (news prefix other).chains cell ≡ []) ⊎ HasFilled setting top later prefix cell holder other
  filled_framed prefix cell holder other same (inl empty) = inl (same ∙ empty)
  filled_framed prefix cell holder other same (inr f) = inr (filled_on prefix cell holder other f)

  -- what counts less still counts less
  pub last_before : (cell : Cell) (place : ℕ) → reached cell ≤ place → good.reached cell ≤ place
  last_before cell place le = let more = counted_up it cell in omega arith

  pub both_framed : (prefix : List Command) (cell : Cell) (row : LinkRow) → LeavesBoth prefix (place_by setting prefix row) cell row
      → BothOk setting top good.stores visits good.reached prefix cell row → BothOk setting top next later reached prefix cell row
  both_framed prefix cell row leaves ok = record {
    twins = λ alive last. let place = place_by setting prefix row in
        twins_stay (olds prefix) (news prefix) visits later place cell row.primary row.secondary
        (stays prefix row.primary place cell alive (leaves row.primary (primary_is_one row row.primary refl)))
        (stays prefix row.secondary place cell alive (leaves row.secondary (secondary_is_one row row.secondary refl)))
        (ok.twins alive (last_before cell place last));
  }

  pub alone_framed : (prefix : List Command) (cell : Cell) (row : LinkRow) (holder : ℕ) → has_server holder row ≡ true
      → LeavesBoth prefix (place_by setting prefix row) cell row → AloneOk setting top good.stores visits good.reached prefix cell row holder
      → AloneOk setting top next later reached prefix cell row holder
  alone_framed prefix cell row holder has leaves ok =
      let place = place_by setting prefix row in
      let other = other_of holder row in
      let one = leaves holder has in
      let two = leaves other (other_is_one row holder) in
      record {
        copying = both_same (λ a b. AreCopying (links_of (state_after setting.servers prefix) cell.map) row cell a b) one.visit two.visit ok.copying;
        beside = λ alive last. beside_stays (olds prefix) (news prefix) visits later place cell holder other (stays prefix holder place cell alive one)
            (stays prefix other place cell alive two) row (ok.beside alive (last_before cell place last));
        stays = λ alive own is beyond.
            left_on row cell own (olds prefix holder) (news prefix holder) (one.store alive)
            (ok.stays alive own (sym one.visit ∙ is) (λ p lt. none_before it other p cell (beyond p lt)));
        unfilled = λ alive whole. filled_framed prefix cell holder other (two.store alive).chain (ok.unfilled alive whole);
      }

  pub said_framed : (prefix : List Command) (said : Body) (cell : Cell) (row : LinkRow)
      → ((holder : ℕ) (whole : Bool) → row.state ≡ Only holder whole → has_server holder row ≡ true)
      → LeavesBoth prefix (place_by setting prefix row) cell row → SaidOk setting top good.stores visits good.reached prefix said cell row
      → SaidOk setting top next later reached prefix said cell row
  said_framed prefix said cell row has leaves ok =
      let place = place_by setting prefix row in
      record {
        both = λ alive both last of. subst (λ p. Known p said)
            (pair_stays (olds prefix) (news prefix) visits later place cell row.primary row.secondary
            (stays prefix row.primary place cell alive (leaves row.primary (primary_is_one row row.primary refl)))
            (stays prefix row.secondary place cell alive (leaves row.secondary (secondary_is_one row row.secondary refl))))
            (ok.both alive both (last_before cell place last) of);
        alone = λ holder whole alone of.
            both_same (λ a b. IsTold row a b said) (leaves holder (has holder whole alone)).visit
            (leaves (other_of holder row) (other_is_one row holder)).visit
            (ok.alone holder whole alone of);
        page = λ alive holder whole after block alone is last.
            page_stays (olds prefix) (news prefix) visits later place cell (other_of holder row)
            (stays prefix (other_of holder row) place cell alive (leaves (other_of holder row) (other_is_one row holder))) after block
            (ok.page alive holder whole after block alone is (last_before cell place last));
        met = λ holder whole after block alone is.
            ap is_some (leaves (other_of holder row) (other_is_one row holder)).visit ∙ ok.met holder whole after block alone is;
      }

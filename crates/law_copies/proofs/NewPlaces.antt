-- Two copies at a new place of their link, and by other stores that have the same of the cell.
use Rattle.law_copies.proofs.Imports.{[], ◌∙◌, ◌≡◌, ◌⊎◌, Cell, Command, LinkRow, List, None, Option, PairState, Pending, Setting, Some, Store, ap, arith, at}
use Rattle.law_copies.proofs.Imports.{at-empty, cell_cmp, chain_in, has_server, inl, inr, needs_full_copy, none_some, other_between, other_of, refl}
use Rattle.law_copies.proofs.Imports.{some_or_none, state_after, subst, sym, true, ℕ}
use Rattle.law_copies.specs.CopyProgress.{IsCovered, Is_equal, Is_marked_here, Is_marked_there, Is_to_be_copied}
use Rattle.law_copies.specs.BothSteps.{LacksFill}
use Rattle.law_copies.specs.GoodCopies.{AloneOk, AreTwins}
use Rattle.law_copies.specs.Pair.{PairOk, pair_of}
use Rattle.law_copies.specs.Visits.{AliveIn, HasFilled, Visits, half, place_by, store_by}
use Rattle.law_copies.proofs.UnequalIsMarked.{AreRecalled, covered_first, covered_second}

-- ### The other server

-- what a holder and the other server have in common, the primary and the secondary have
pub in_common : {X : Type 0} (f : ℕ → X) (row : LinkRow) (holder : ℕ) → has_server holder row ≡ true → f holder ≡ f (other_of holder row)
    → f row.primary ≡ f row.secondary
in_common f row holder has same = elim (other_between row holder has) [
  | inl pair ↦ ap f pair.0 ∙ sym same ∙ ap f (sym pair.1)
  | inr pair ↦ ap f pair.0 ∙ same ∙ ap f (sym pair.1)
]

-- ### Two copies of a link in Both

pub half_store : (visit : Option PairState) (store : Store) → (half visit store).store ≡ store
half_store visit store = refl

-- what two servers that were at the place have in mind, and what each of them has: both tell the same
module _ (stores : ℕ → Store) (visits : Visits) (place : ℕ) (cell : Cell) (n m : ℕ) where
  abbrev lead : PairState
  lead = half (visits n place cell) (stores n)

  abbrev second : PairState
  second = half (visits m place cell) (stores m)

  pending_at : {own : PairState} → visits n place cell ≡ Some own → at cell_cmp lead.pairs.pending cell ≡ at cell_cmp own.pairs.pending cell
  pending_at visit = ap (λ o. at cell_cmp (half o (stores n)).pairs.pending cell) visit

  -- one of them that is pending was in mind
  minded : {A : Type 0} (op : Pending) → at cell_cmp lead.pairs.pending cell ≡ Some op
      → ((own : PairState) → visits n place cell ≡ Some own → at cell_cmp own.pairs.pending cell ≡ Some op → A) → A
  minded op there so = elim (some_or_none (visits n place cell)) [
    | inl h ↦ so h.0 h.1 (sym (pending_at h.1) ∙ there)
    | inr none ↦ none_some (ap (λ o. at cell_cmp (half o (stores n)).pairs.pending cell) none ∙ at-empty cell_cmp cell) there
  ]

  pub twins_recalled : AreTwins stores visits place cell n m → AreRecalled lead cell
  twins_recalled twins op there = minded op there (λ own visit is. twins.recalled own op visit is)

  pub twins_lacking : AreTwins stores visits place cell n m → LacksFill lead second cell
  twins_lacking twins op there fill le = minded op there (λ own visit is. twins.lacks own op visit is fill le)

  pub twins_of : PairOk (pair_of lead second cell) → AreRecalled lead cell → LacksFill lead second cell → AreTwins stores visits place cell n m
  twins_of pair recalled lacking = record {
    pair = pair;
    recalled = λ own op visit there. recalled op (pending_at visit ∙ there);
    lacks = λ own op visit there fill le. lacking op (pending_at visit ∙ there) fill le;
  }

module _ (stores : ℕ → Store) (visits : Visits) (place : ℕ) (row now : LinkRow) (cell : Cell)
    (twins : AreTwins stores visits place cell row.primary row.secondary) where
  abbrev lead_half : PairState
  lead_half = half (visits row.primary place cell) (stores row.primary)

  abbrev second_half : PairState
  second_half = half (visits row.secondary place cell) (stores row.secondary)

  recalled : AreRecalled lead_half cell
  recalled = twins_recalled stores visits place cell row.primary row.secondary twins

  -- where one of them holds it alone from then on, an unequal block is marked
  pub both_cover : (holder : ℕ) → has_server holder row ≡ true → IsCovered now cell (stores holder) (stores (other_of holder row)) None
  both_cover holder has = elim (other_between row holder has) [
    | inr pair ↦
        subst (λ n. IsCovered now cell (stores n) (stores (other_of holder row)) None) pair.0
        (subst (λ m. IsCovered now cell (stores row.primary) (stores m) None) pair.1 (covered_first now lead_half second_half cell None twins.pair recalled))
    | inl pair ↦
        subst (λ n. IsCovered now cell (stores n) (stores (other_of holder row)) None) pair.1
        (subst (λ m. IsCovered now cell (stores row.secondary) (stores m) None) pair.0 (covered_second now lead_half second_half cell twins.pair recalled))
  ]

-- what covers the copies at one place covers them at the next one, at which the holder has heard of no block
pub cover_again : (row now : LinkRow) (cell : Cell) (a b : Store) (visit : Option PairState)
    → (needs_full_copy row.state ≡ true → needs_full_copy now.state ≡ true)
    → IsCovered row cell a b visit → IsCovered now cell a b None
cover_again row now cell a b visit whole (Is_equal same) = Is_equal same
cover_again row now cell a b visit whole (Is_marked_here marked) = Is_marked_here marked
cover_again row now cell a b visit whole (Is_marked_there marked ahead) = Is_marked_there marked tt
cover_again row now cell a b visit whole (Is_to_be_copied all copied) = Is_to_be_copied (record { whole = whole all.whole; stored = all.stored }) tt

-- ### A new place

-- two equal copies, of which nobody has anything in memory
pub new_twins : (stores : ℕ → Store) (visits : Visits) (place : ℕ) (cell : Cell) (n m : ℕ) → ((k : ℕ) → visits k place cell ≡ None)
    → chain_in (stores n).chains cell ≡ chain_in (stores m).chains cell → AreTwins stores visits place cell n m
unfolding at
new_twins stores visits place cell n m unseen same = record {
  pair = subst (λ o. PairOk (pair_of (half o (stores n)) (half (visits m place cell) (stores m)) cell)) (sym (unseen n))
      (subst (λ o. PairOk (pair_of (half None (stores n)) (half o (stores m)) cell)) (sym (unseen m))
      (record { copies = same; below = omega arith; fresh = omega arith; counted = omega arith }));
  recalled = λ own op visited there. none_some (unseen n) visited;
  lacks = λ own op visited there fill le. none_some (unseen n) visited;
}

-- nobody has anything in memory of a place at which one server holds the link alone
pub new_alone : (setting : Setting) (top : List Command) (stores : ℕ → ℕ → Store) (visits : Visits) (reached : Cell → ℕ) (prefix : List Command) (cell : Cell)
    (row : LinkRow) (holder : ℕ) → ((k : ℕ) → visits k (place_by setting prefix row) cell ≡ None)
    → (AliveIn (state_after setting.servers top) cell
    → IsCovered row cell (store_by setting stores prefix holder) (store_by setting stores prefix (other_of holder row)) None)
    → (AliveIn (state_after setting.servers top) cell → needs_full_copy row.state ≡ true →
    (chain_in (store_by setting stores prefix (other_of holder row)).chains cell ≡ [])
    ⊎ HasFilled setting top visits prefix cell holder (other_of holder row))
    → AloneOk setting top stores visits reached prefix cell row holder
new_alone setting top stores visits reached prefix cell row holder unseen covered unfilled = record {
  copying = record {
    risen = λ own visited. none_some (unseen holder) visited;
    copying = λ own copy visited there. none_some (unseen holder) visited;
    lasts = λ own last visited there. none_some (unseen (other_of holder row)) visited;
    caught = λ own visited flagged. none_some (unseen holder) visited;
    met = λ own visited page. none_some (unseen holder) visited;
    ordered = λ own visited. none_some (unseen holder) visited;
  };
  beside = λ alive last. record {
    alike = record {
      covered = subst (IsCovered row cell (store_by setting stores prefix holder) (store_by setting stores prefix (other_of holder row)))
          (sym (unseen holder)) (covered alive);
      caught = λ own visited flagged. none_some (unseen holder) visited;
    };
    still = λ own visited. none_some (unseen (other_of holder row)) visited;
  };
  stays = λ alive own visited beyond. none_some (unseen holder) visited;
  unfilled = unfilled;
}

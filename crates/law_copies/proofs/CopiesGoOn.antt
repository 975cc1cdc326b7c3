-- How the copies of a link go on at its holder, for a cell of it on which the job is not at work: the greatest copied block, and the
-- copies of later blocks.
use Rattle.law_copies.proofs.Imports.{◌<◌, ◌∙◌, ◌≡◌, ◌≢◌, ◌⊎◌, Cell, Copying, IsMarked, IsToBeCopied, LinkId, LinkRow, None, Option, PairState, Progress}
use Rattle.law_copies.proofs.Imports.{Some, State, Table, above, ap, arith, at, begins_copy, by_bool, by_test, cell_apart, cell_at, cell_cmp, cell_gone}
use Rattle.law_copies.proofs.Imports.{cell_gone_apart, cell_link, copying_on, ended_copy, eq_by_cmp, false, first_copy, id_of, inl, inr, is_some, least}
use Rattle.law_copies.proofs.Imports.{link_cmp, link_of, live, nat_lt, nat_tests, no_progress, none_some, progress, progress_beside, progress_here}
use Rattle.law_copies.proofs.Imports.{progress_on, refl, row_named, same_cell_or_apart, same_id, same_or_apart, same_some, subst, sym, true, unwrap_or}
use Rattle.law_copies.proofs.Imports.{with_copied, with_copying, with_progress, without_copying, ℕ}
use Rattle.law_copies.specs.CopyProgress.{AreInOrder, HasPage, IsCopied, NotCopied, links_of}
use Rattle.law_copies.proofs.BlocksOnLinks.{block_on, on_block}
use Rattle.law_copies.proofs.HolderPace.{IsPaced, paced_copied}
use Rattle.law_copies.proofs.LeftToCopy.{HasAny, IsNext, to_be_copied_left}
use Rattle.law_copies.proofs.RolesOfWorkers.{cell_map, one_named}

-- the greatest copied block only rises; with a later block that is copied, this one was to be copied only if it is marked or the
-- other server has it all; and a copy of a later block began only where this one wasn't to be copied
pub record IsOnward (links : ℕ) (row : LinkRow) (cell : Cell) (own to : PairState) : Type 0 where
  pub late : NotCopied (Some to) row cell.block → NotCopied (Some own) row cell.block
  pub yet : IsToBeCopied row own.store cell → NotCopied (Some own) row cell.block
      → NotCopied (Some to) row cell.block ⊎ IsMarked own.store cell ⊎ IsCopied own cell
  pub others : (later : ℕ) (copy : Copying) → cell.block < later → link_of links later ≡ row.link
      → copying_on to (cell_at row later) ≡ Some copy
      → ((was : Copying) × (copying_on own (cell_at row later) ≡ Some was))
      ⊎ (IsToBeCopied row own.store cell → NotCopied (Some own) row cell.block → ⊥)
  pub page : HasPage to row → HasPage own row

module _ (links : ℕ) (row : LinkRow) (cell : Cell) (own to : PairState) where
  -- where no more is copied, and no copy is new
  pub onward_by : IsPaced row own to → (progress_on to row).copied ≡ (progress_on own row).copied
      → ((later : ℕ) (copy : Copying) → cell.block < later → link_of links later ≡ row.link → copying_on to (cell_at row later) ≡ Some copy
      → ((was : Copying) × (copying_on own (cell_at row later) ≡ Some was))
      ⊎ (IsToBeCopied row own.store cell → NotCopied (Some own) row cell.block → ⊥))
      → IsOnward links row cell own to
  onward_by paced copied others = record {
    late = λ ahead. ap (λ o. above o cell.block) (sym copied) ∙ ahead;
    yet = λ all ahead. inl (ap (λ o. above o cell.block) copied ∙ ahead);
    others = others;
    page = λ page. elim page [
      | inl p ↦ inl (sym paced.paged ∙ p)
      | inr (inl a) ↦ inr (inl (ap is_some (sym paced.after) ∙ a))
      | inr (inr c) ↦ inr (inr (ap is_some (sym copied) ∙ c))
    ];
  }

  -- where all copies are as they were
  pub onward_tables : to.copies.progress ≡ own.copies.progress → to.copies.pending ≡ own.copies.pending → IsPaced row own to
      → IsOnward links row cell own to
  onward_tables progress pending paced = onward_by paced
      (ap (λ (t : Table LinkId Progress). (unwrap_or (at link_cmp t (id_of row)) no_progress).copied) progress)
      (λ later copy lt on is. inl (copy, ap (λ (t : Table Cell Copying). at cell_cmp t (cell_at row later)) (sym pending) ∙ is))

-- ### A copied block

-- the block that was copied is above what was copied, and below what is above it
above_later : (o : Option ℕ) (a b : ℕ) → above o a ≡ true → nat_lt a b ≡ true → above o b ≡ true
above_later None a b past lt = refl
above_later (Some n) a b past lt = grind (arith, nat_tests)

module _ (own : PairState) (of : LinkRow) (block : ℕ) (row : LinkRow) where
  abbrev to : PairState
  to = with_copied (Some of) own block

  -- of another link
  pub copied_apart : eq_by_cmp link_cmp (id_of row) (id_of of) ≡ false → progress_on to row ≡ progress_on own row
  copied_apart other = by_test (λ (x : PairState). progress_on x row ≡ progress_on own row) (above (progress_on own of).copied block)
      (with_progress own of (record (progress_on own of) { copied = Some block })) own
      (λ t. progress_beside own of (record (progress_on own of) { copied = Some block }) row other) (λ f. refl)

  -- of this one
  module _ (same : eq_by_cmp link_cmp (id_of row) (id_of of) ≡ true) where
    was : progress_on own of ≡ progress_on own row
    was = ap (λ id. unwrap_or (at link_cmp own.copies.progress id) no_progress) (sym (same_id (id_of row) (id_of of) same))

    here : (progress_on (with_progress own of (record (progress_on own of) { copied = Some block })) row).copied ≡ Some block
    here = ap (λ (p : Progress). p.copied) (progress_here own of (record (progress_on own of) { copied = Some block }) row same)

    late_here : (other : ℕ) → above (progress_on to row).copied other ≡ true → above (progress_on own row).copied other ≡ true
    late_here other = by_test (λ (x : PairState). above (progress_on x row).copied other ≡ true → above (progress_on own row).copied other ≡ true)
        (above (progress_on own of).copied block) (with_progress own of (record (progress_on own of) { copied = Some block })) own
        (λ t past. above_later (progress_on own row).copied block other (ap (λ (p : Progress). above p.copied block) (sym was) ∙ t)
        (ap (λ o. above o other) (sym here) ∙ past))
        (λ f past. past)

    yet_here : (other : ℕ) → nat_lt block other ≡ true → above (progress_on own row).copied other ≡ true
        → above (progress_on to row).copied other ≡ true
    yet_here other lt past = by_test (λ (x : PairState). above (progress_on x row).copied other ≡ true)
        (above (progress_on own of).copied block) (with_progress own of (record (progress_on own of) { copied = Some block })) own
        (λ t. ap (λ o. above o other) here ∙ lt) (λ f. past)

    -- the block itself is copied
    pub copied_itself : above (progress_on to row).copied block ≡ false
    copied_itself = by_test (λ (x : PairState). above (progress_on x row).copied block ≡ false)
        (above (progress_on own of).copied block) (with_progress own of (record (progress_on own of) { copied = Some block })) own
        (λ t. ap (λ o. above o block) here ∙ not_itself block) (λ f. ap (λ (p : Progress). above p.copied block) (sym was) ∙ f)
      where
        not_itself : (n : ℕ) → nat_lt n n ≡ false
        not_itself n = grind (arith, nat_tests)

-- what was copied only grows
pub copied_late : (o : Option LinkRow) (own : PairState) (block : ℕ) (row : LinkRow) (other : ℕ)
    → above (progress_on (with_copied o own block) row).copied other ≡ true → above (progress_on own row).copied other ≡ true
copied_late None own block row other past = past
copied_late (Some of) own block row other past = by_bool (eq_by_cmp link_cmp (id_of row) (id_of of))
    (λ t. late_here own of block row t other past)
    (λ no. ap (λ (p : Progress). above p.copied other) (sym (copied_apart own of block row no)) ∙ past)

-- what is above the block that was copied is not copied yet; and of another link nothing is
pub copied_yet : (of : LinkRow) (own : PairState) (block : ℕ) (row : LinkRow) (other : ℕ)
    → (eq_by_cmp link_cmp (id_of row) (id_of of) ≡ false) ⊎ (nat_lt block other ≡ true)
    → above (progress_on own row).copied other ≡ true → above (progress_on (with_copied (Some of) own block) row).copied other ≡ true
copied_yet of own block row other (inl beside) past = ap (λ (p : Progress). above p.copied other) (copied_apart own of block row beside) ∙ past
copied_yet of own block row other (inr lt) past = by_bool (eq_by_cmp link_cmp (id_of row) (id_of of))
    (λ t. yet_here own of block row t other lt past)
    (λ no. ap (λ (p : Progress). above p.copied other) (copied_apart own of block row no) ∙ past)

-- ### A copy of another cell

-- the copy that is under way on this other cell is of a cell of the link, or of another link's
module _ (state : State) (links : ℕ) (row : LinkRow) (cell : Cell) (is : cell_link state cell ≡ Some row)
    (links_are : links_of state cell.map ≡ links) (c : Cell) (ne : cell ≢ c) where
  -- a later block on the link is one of its cells
  later_on : (later : ℕ) → link_of links later ≡ row.link → cell_link state (cell_at row later) ≡ Some row
  later_on later on = on_block state cell row is later (ap (λ n. link_of n later) links_are ∙ on)

  module _ (own : PairState) where
    -- a copy of the other cell begins, and no block below it is left
    pub begun_onward : (r : LinkRow) → IsNext state r own c → (HasAny own cell → live state cell ≡ true)
        → IsOnward links row cell own (begins_copy own c)
    begun_onward r next lives = onward_by links row cell own (begins_copy own c) (record { paged = refl; after = refl; flag = refl }) refl
        (λ later copy lt on there. elim (same_cell_or_apart (cell_at row later) c) [
          | inl e ↦ inr (λ all ahead.
              let same : r ≡ row = same_some (sym next.is ∙ ap (cell_link state) (sym e) ∙ later_on later on) in
              let one = subst (λ (x : LinkRow). IsNext state x own c) same next in
              let le = one.least cell.block (to_be_copied_left state (id_of row) row own (row_named state cell row is) cell is lives all ahead) in
              let block : later ≡ c.block = ap (λ (q : Cell). q.block) e in
              absurd (omega arith))
          | inr apart ↦ inl (copy, sym (cell_apart own.copies.pending c (first_copy own.pairs.next) (cell_at row later) apart) ∙ there)
        ])

    -- it goes on
    pub going_onward : (was copy : Copying) → copying_on own c ≡ Some was → IsOnward links row cell own (with_copying own c copy)
    going_onward was copy before = onward_by links row cell own (with_copying own c copy)
        (record { paged = refl; after = refl; flag = refl }) refl
        (λ later other lt on there. elim (same_cell_or_apart (cell_at row later) c) [
          | inl e ↦ inl (was, ap (copying_on own) e ∙ before)
          | inr apart ↦ inl (other, sym (cell_apart own.copies.pending c copy (cell_at row later) apart) ∙ there)
        ])

    -- it ends
    pub ended_onward : IsOnward links row cell own (without_copying own c)
    ended_onward = onward_by links row cell own (without_copying own c) (record { paged = refl; after = refl; flag = refl }) refl
        (λ later other lt on there. elim (same_cell_or_apart (cell_at row later) c) [
          | inl e ↦ none_some (ap (copying_on (without_copying own c)) e ∙ cell_gone own.copies.pending c) there
          | inr apart ↦ inl (other, sym (cell_gone_apart own.copies.pending c (cell_at row later) apart) ∙ there)
        ])

    -- and the block is copied then
    module _ (ordered : AreInOrder links row cell own) (copy : Copying) (there : copying_on own c ≡ Some copy) (of : LinkRow)
        (of_is : cell_link state c ≡ Some of) (paged : (progress_on own of).paged ≡ true) where
      abbrev closed : Option LinkRow → PairState
      closed o = ended_copy o own c

      -- on the link's name, it is of the link
      one_link : eq_by_cmp link_cmp (id_of row) (id_of of) ≡ true → row ≡ of
      one_link t = one_named state cell row (id_of of) of is (row_named state c of of_is)
          (same_id (id_of row) (id_of of) t)

      module _ (same : row ≡ of) where
        paged_here : (progress_on own row).paged ≡ true
        paged_here = ap (λ (x : LinkRow). (progress_on own x).paged) same ∙ paged

        on_here : cell_link state c ≡ Some row
        on_here = of_is ∙ ap Some (sym same)

        map_is : c.map ≡ row.map
        map_is = cell_map state c row on_here

        maps_are : c.map ≡ cell.map
        maps_are = map_is ∙ sym (cell_map state cell row is)

        c_is : c ≡ cell_at row c.block
        c_is = λ i. record { map = map_is i; block = c.block }

        block_here : link_of links c.block ≡ row.link
        block_here = ap (λ n. link_of n c.block) (sym links_are ∙ ap (links_of state) (sym maps_are)) ∙ block_on state c row on_here

        yet_same : IsToBeCopied row own.store cell → NotCopied (Some own) row cell.block
            → NotCopied (Some (closed (Some of))) row cell.block ⊎ IsMarked own.store cell ⊎ IsCopied own cell
        yet_same all ahead = by_bool (nat_lt c.block cell.block)
            (λ lt. inl (copied_yet of (without_copying own c) c.block row cell.block (inr lt) ahead))
            (λ no. elim (same_or_apart c.block cell.block) [
              | inl e ↦ absurd (ne (λ i. record { map = sym maps_are i; block = sym e i }))
              | inr apart ↦ inr (ordered paged_here c.block copy (greater c.block cell.block no apart) block_here
                  (ap (copying_on own) (sym c_is) ∙ there) all ahead)
            ])
          where
            greater : (a b : ℕ) → nat_lt a b ≡ false → a ≢ b → b < a
            greater a b least apart = grind (arith, nat_tests)

      closed_row : IsOnward links row cell own (closed (Some of))
      closed_row = record {
        late = copied_late (Some of) (without_copying own c) c.block row cell.block;
        yet = λ all ahead. by_bool (eq_by_cmp link_cmp (id_of row) (id_of of))
            (λ t. yet_same (one_link t) all ahead)
            (λ no. inl (copied_yet of (without_copying own c) c.block row cell.block (inl no) ahead));
        others = ended_onward.others;
        page = λ page. by_bool (eq_by_cmp link_cmp (id_of row) (id_of of))
            (λ t. inl (paged_here (one_link t)))
            (λ no.
            let paced = paced_copied (Some of) (without_copying own c) c.block row in
            let copied = copied_apart (without_copying own c) of c.block row no in
            elim page [
              | inl p ↦ inl (sym paced.paged ∙ p)
              | inr (inl a) ↦ inr (inl (ap is_some (sym paced.after) ∙ a))
              | inr (inr x) ↦ inr (inr (ap (λ (p : Progress). is_some p.copied) (sym copied) ∙ x))
            ]);
      }

      -- what a step that ends the copy leaves
      pub closed_onward : IsOnward links row cell own (closed (cell_link state c))
      closed_onward = subst (λ o. IsOnward links row cell own (closed o)) (sym of_is) closed_row

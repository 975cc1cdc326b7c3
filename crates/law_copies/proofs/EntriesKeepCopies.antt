-- What is kept after an entry that a server applies.
use Rattle.law_copies.proofs.Imports.{[], ◌++◌, ◌<◌, ◌==◌, ◌∙◌, ◌∷◌, ◌≡◌, ◌≤◌, ◌⊎◌, Body, Bool, Both, Cell, Command, In, IsMarked, IsPrefix, IsRising}
use Rattle.law_copies.proofs.Imports.{IsToBeCopied, Letter, LinkRow, List, None, Only, Option, PairState, Pairs, Pending, Progress, Record, Some, StaysSo}
use Rattle.law_copies.proofs.Imports.{Store, World, about, ap, arith, at, cell_cmp, chain_in, chosen_log, false, has_mark, has_server, id_of, inc_of, inl}
use Rattle.law_copies.proofs.Imports.{inr, is_flagged, is_in, is_some, length, log_steady, mark_on, nat_cmp, none_some, option_map_or, other_between}
use Rattle.law_copies.proofs.Imports.{other_of, pending_on, prefix_plain, primary_is_one, refl, same_or_apart, same_some, secondary_is_one, server_state}
use Rattle.law_copies.proofs.Imports.{state_after, state_in, subst, sym, true, ℕ}
use Rattle.law_copies.specs.CopyProgress.{AreAlike, AreCopying, IsPage, IsTold, links_of}
use Rattle.law_copies.specs.GoodCopies.{AloneOk, BothOk, SaidOk, StaysLeft, pair_at}
use Rattle.law_copies.specs.Pair.{pair_of}
use Rattle.law_copies.specs.LoneSteps.{AreFilled}
use Rattle.law_copies.specs.Visits.{AliveIn, IsLinked, half, place_by, with_stores}
use Rattle.law_copies.proofs.VisitsAfterSteps.{then_of, IsAt, IsThen, KeepsFlags, counted_up, none_before, some_after, stored_by, visited_apart, visited_by}
use Rattle.law_copies.proofs.AtEntry.{AtEntry, step_of}
use Rattle.law_copies.proofs.BlankJoinsMakePlaces.{joins_at}
use Rattle.law_copies.proofs.LeftByEntry.{KeepsAll}
use Rattle.law_copies.proofs.FramesKeepPrefixes.{LeavesStore, alike_same, filled_framed, left_on, marked_back, other_is_one, pair_same, recalled_on}
use Rattle.law_copies.proofs.NewcomersRememberNothing.{IsFresh, fresh_alike, fresh_first, fresh_first_known, fresh_holder, fresh_holder_told, fresh_other}
use Rattle.law_copies.proofs.NewcomersRememberNothing.{fresh_other_told, fresh_second}
use Rattle.law_copies.proofs.NewPlaces.{twins_lacking, twins_of, twins_recalled}
use Rattle.law_copies.proofs.UnequalIsMarked.{AreRecalled}
use Rattle.law_copies.proofs.ServedAtLaterPrefixes.{holder_is_one}
use Rattle.law_copies.proofs.PlacesByPrefixes.{one_row}
use Rattle.law_copies.proofs.StepsLeaveCopies.{stores_leave}
use Rattle.law_copies.proofs.StepsKeepCopies.{GoesOn, IsSoundOwn, IsTrue, KeepsPrefixes, good_after}
use Rattle.law_copies.proofs.UnchangedCells.{holder_stays, other_stays, stays_alike, PairGoes, goes_on, goes_same}
use Rattle.law_copies.proofs.EntriesComeToPlaces as entering

module _ (it : AtEntry) where
  open it use {setting, records, w, stores, v, k, server, good, step, left, inc, counts}
  open then_of (step_of it) use {visits, reached, next as next_stores, olds, news}

  abbrev top : List Command
  top = chosen_log setting w

  -- the world before, by the stores that count
  abbrev u : World
  u = with_stores w stores

  abbrev old : PairState
  old = (u.servers k).own

  abbrev new : PairState
  new = server.own

  up : (cell : Cell) → good.reached cell ≤ reached cell
  up = counted_up (step_of it)

  counts_on : 1 ≤ new.pairs.next
  counts_on = subst (λ (p : Pairs). 1 ≤ p.next) (sym left.pairs) (good.counts k)

  rising_on : (cell : Cell) → IsRising nat_cmp (chain_in new.store.chains cell)
  rising_on cell = subst (λ t. IsRising nat_cmp (chain_in t cell)) (sym left.chains) (good.rising k cell)

  -- chains and marks stay
  leaves_own : (cell : Cell) → LeavesStore old.store new.store cell
  leaves_own cell = record { chain = ap (λ t. chain_in t cell) left.chains; marks = λ kind. ap (has_mark (mark_on kind cell)) left.marks }

  leaves : (prefix : List Command) (n : ℕ) (cell : Cell) → LeavesStore (olds prefix n) (news prefix n) cell
  leaves prefix n cell = stores_leave (step_of it) cell (leaves_own cell) prefix n

  -- ### The server's visit of a place

  -- what it was there, and what it is then
  data Arriving (row : LinkRow) (cell : Cell) : Option PairState → Option PairState → Type 0 where
    Is_as_it_was : (visit : Option PairState) → Arriving row cell visit visit
    Has_come : IsFresh new row cell → (row.state ≡ Both → pending_on new cell ≡ None) → Arriving row cell None (Some new)
    Has_stayed : KeepsAll old new row cell → Arriving row cell (Some old) (Some new)

  abbrev Arrives : (n place : ℕ) → Cell → LinkRow → Type 0
  Arrives n place cell row = Arriving row cell (good.visits n place cell) (visits n place cell)

  arriving_by : (n place : ℕ) (cell : Cell) (row : LinkRow) (was now : Option PairState) → good.visits n place cell ≡ was → visits n place cell ≡ now
      → Arriving row cell was now → Arrives n place cell row
  arriving_by n place cell row was now e f arriving =
      subst (λ o. Arriving row cell o (visits n place cell)) (sym e) (subst (Arriving row cell was) (sym f) arriving)

  stands_there : (n place : ℕ) (cell : Cell) (row : LinkRow) → visits n place cell ≡ good.visits n place cell → Arrives n place cell row
  stands_there n place cell row same =
      let visit = good.visits n place cell in arriving_by n place cell row visit visit refl same (Is_as_it_was visit)

  alive_there : (cell : Cell) → AliveIn (state_in setting.servers server.log) cell → AliveIn (server_state setting w k) cell
  alive_there = entering.alive_before it

  -- it was In as itself where it is so after an entry that does not touch a link of its own
  seat_before : (row : LinkRow) (cell : Cell) → has_server k row ≡ true → StaysSo cell row (server_state setting w k) (state_in setting.servers server.log)
      → is_in (state_in setting.servers server.log) k server.life.inc ≡ true → is_in (server_state setting w k) k (w.servers k).life.inc ≡ true
  seat_before row cell has so seat =
      ap (λ o. option_map_or (λ present. present == (w.servers k).life.inc) o false) (sym present_same)
      ∙ ap (is_in (state_in setting.servers server.log) k) (sym inc) ∙ seat
    where
      present_same : inc_of (state_in setting.servers server.log) k ≡ inc_of (server_state setting w k) k
      present_same = elim (other_between row k has) [
        | inl two ↦ subst (λ n. inc_of (state_in setting.servers server.log) n ≡ inc_of (server_state setting w k) n) two.1 so.secondary
        | inr two ↦ subst (λ n. inc_of (state_in setting.servers server.log) n ≡ inc_of (server_state setting w k) n) two.0 so.primary
      ]

  same_row : (prefix : List Command) (cell : Cell) (row : LinkRow) → IsPrefix prefix top → IsLinked setting prefix cell row
      → (there : IsAt setting k server (place_by setting prefix row) cell) → there.row ≡ row
  same_row prefix cell row is_prefix is there =
      one_row setting top step.plain prefix server.log.applied cell row there.row is_prefix step.within is there.linked there.at

  -- where it is there, its store is the one that counts by the prefix
  store_there : (prefix : List Command) (cell : Cell) (row : LinkRow) → IsPrefix prefix top → IsLinked setting prefix cell row → has_server k row ≡ true
      → IsAt setting k server (place_by setting prefix row) cell → news prefix k ≡ new.store
  store_there prefix cell row is_prefix is has there =
      let has_there : has_server k there.row ≡ true = ap (has_server k) (same_row prefix cell row is_prefix is there) ∙ has in
      stored_by (step_of it) prefix
      (joins_at setting top step.plain prefix server.log.applied cell row there.row k is_prefix step.within is there.linked has has_there there.at
      ∙ counts there.seat)

  arriving_here : (prefix : List Command) (cell : Cell) (row : LinkRow) → IsPrefix prefix top → IsLinked setting prefix cell row → has_server k row ≡ true
      → Arrives k (place_by setting prefix row) cell row
  arriving_here prefix cell row is_prefix is has = elim (visited_by (step_of it) k (place_by setting prefix row) cell) [
    | inl same ↦ stands_there k (place_by setting prefix row) cell row same
    | inr now ↦ (
        let there = now.there in
        let one = same_row prefix cell row is_prefix is there in
        let end = subst (IsLinked setting server.log.applied cell) one there.linked in
        let place : place_by setting prefix row ≡ place_by setting server.log.applied row = there.at ∙ ap (place_by setting server.log.applied) one in
        elim (entering.comes_or_stays it cell row end there.alive) [
          | inl c ↦ arriving_by k (place_by setting prefix row) cell row None (Some new) (ap (λ p. good.visits k p cell) place ∙ c.unseen) now.is
              (Has_come c.fresh (λ both. ap (λ (p : Pairs). at cell_cmp p.pending cell) left.pairs ∙ c.free both))
          | inr s ↦ (
              let h = good.here k cell row s.linked (seat_before row cell has s.so there.seat) (alive_there cell there.alive) in
              arriving_by k (place_by setting prefix row) cell row (Some old) (Some new)
              (ap (λ p. good.visits k p cell) (place ∙ s.place) ∙ h.is ∙ ap Some h.same) now.is (Has_stayed s.keeps))
        ])
  ]

  arriving : (prefix : List Command) (cell : Cell) (row : LinkRow) → IsPrefix prefix top → IsLinked setting prefix cell row → (n : ℕ)
      → has_server n row ≡ true → Arrives n (place_by setting prefix row) cell row
  arriving prefix cell row is_prefix is n has = elim (same_or_apart n k) [
    | inl e ↦ subst (λ m. Arrives m (place_by setting prefix row) cell row) (sym e)
        (arriving_here prefix cell row is_prefix is (subst (λ m. has_server m row ≡ true) e has))
    | inr ne ↦ stands_there n (place_by setting prefix row) cell row (visited_apart (step_of it) n (place_by setting prefix row) cell ne)
  ]

  -- ### In Both

  module _ (cell : Cell) (row : LinkRow) (both : row.state ≡ Both) (store : Store) (beside : PairState) where
    -- the server is the first one
    first_goes : (one one' : Option PairState) → Arriving row cell one one'
        → PairGoes (pair_of (half one store) beside cell) (pair_of (half one' store) beside cell)
    first_goes _ _ (Is_as_it_was visit) = goes_same _ _ refl
    first_goes _ _ (Has_come fresh free) = record {
      ok = fresh_first new row cell fresh store beside counts_on (free both);
      known = λ said. fresh_first_known new row cell fresh store beside said counts_on (free both);
      lacks = λ h op there. none_some (free both) there;
    }
    first_goes _ _ (Has_stayed keeps) = goes_same _ _
        (λ i. record (pair_of (half (Some new) store) beside cell) { pending = sym keeps.keeps.rest.pending i; next = sym keeps.next i })

    -- it is the second one
    second_goes : (two two' : Option PairState) → Arriving row cell two two'
        → pair_of beside (half two store) cell ≡ pair_of beside (half two' store) cell
    second_goes _ _ (Is_as_it_was visit) = refl
    second_goes _ _ (Has_come fresh free) = fresh_second new row cell fresh store beside
    second_goes _ _ (Has_stayed keeps) = λ i. record (pair_of beside (half (Some new) store) cell) { last = sym keeps.keeps.rest.followed i }

    -- what is pending there was so before
    was_pending : (one one' : Option PairState) → Arriving row cell one one' → (op : Pending)
        → at cell_cmp (half one' store).pairs.pending cell ≡ Some op → at cell_cmp (half one store).pairs.pending cell ≡ Some op
    was_pending _ _ (Is_as_it_was visit) op there = there
    was_pending _ _ (Has_come fresh free) op there = none_some (free both) there
    was_pending _ _ (Has_stayed keeps) op there = sym keeps.keeps.rest.pending ∙ there

  module _ (prefix : List Command) (cell : Cell) (row : LinkRow) (is_prefix : IsPrefix prefix top) (is : IsLinked setting prefix cell row)
      (both : row.state ≡ Both) where
    abbrev at_place : ℕ
    at_place = place_by setting prefix row

    first_arrives : Arrives row.primary at_place cell row
    first_arrives = arriving prefix cell row is_prefix is row.primary (primary_is_one row row.primary refl)

    pair_goes : PairGoes (pair_at (olds prefix) good.visits at_place cell row.primary row.secondary)
        (pair_at (news prefix) visits at_place cell row.primary row.secondary)
    pair_goes =
        let one = olds prefix row.primary in
        let two = olds prefix row.secondary in
        let first = visits row.primary at_place cell in
        let was = good.visits row.secondary at_place cell in
        let second = visits row.secondary at_place cell in
        goes_on (first_goes cell row both one (half was two) (good.visits row.primary at_place cell) first first_arrives)
        (goes_same _ _ (second_goes cell row both two (half first one) was second
        (arriving prefix cell row is_prefix is row.secondary (secondary_is_one row row.secondary refl))
        ∙ pair_same first second one two (news prefix row.primary) (news prefix row.secondary) cell (leaves prefix row.primary cell).chain
        (leaves prefix row.secondary cell).chain))

    first_recalled : AreRecalled (half (good.visits row.primary at_place cell) (olds prefix row.primary)) cell
        → AreRecalled (half (visits row.primary at_place cell) (news prefix row.primary)) cell
    first_recalled recalled op there =
        let was = was_pending cell row both (olds prefix row.primary) new (good.visits row.primary at_place cell) (visits row.primary at_place cell)
        first_arrives op there in
        recalled_on (olds prefix row.primary) (news prefix row.primary) cell op (leaves prefix row.primary cell) (recalled op was)

  pub both_entered : (prefix : List Command) (cell : Cell) (row : LinkRow) → IsPrefix prefix top → IsLinked setting prefix cell row → row.state ≡ Both
      → BothOk setting top next_stores visits reached prefix cell row
  both_entered prefix cell row is_prefix is both = record {
    twins = λ lives last.
        let place = place_by setting prefix row in
        let twins = (good.both prefix cell row is_prefix is both).twins lives (let more = up cell in omega arith) in
        let goes = pair_goes prefix cell row is_prefix is both in
        twins_of (news prefix) visits place cell row.primary row.secondary (goes.ok twins.pair)
        (first_recalled prefix cell row is_prefix is both (twins_recalled (olds prefix) good.visits place cell row.primary row.secondary twins))
        (goes.lacks (twins_lacking (olds prefix) good.visits place cell row.primary row.secondary twins));
  }

  -- ### Alone

  -- what is so of the two servers' parts, and of letters, is so then
  record AloneGoes (links : ℕ) (cell : Cell) (row : LinkRow) (one two one' two' : Option PairState) : Type 0 where
    copying : AreCopying links row cell one two → AreCopying links row cell one' two'
    told : AreCopying links row cell one two → (said : Body) → (about said).cell ≡ Some cell → IsTold row one two said → IsTold row one' two' said
    alike : (a b : Store) → AreAlike row cell a b one → AreAlike row cell a b one'

  module _ (links : ℕ) (cell : Cell) (row : LinkRow) (beside : Option PairState) where
    -- of the holder
    holder_goes : (one one' : Option PairState) → Arriving row cell one one' → AloneGoes links cell row one beside one' beside
    holder_goes _ _ (Is_as_it_was visit) = record { copying = λ h. h; told = λ h said of t. t; alike = λ a b h. h }
    holder_goes _ _ (Has_come fresh free) = record {
      copying = fresh_holder new row cell fresh links beside (rising_on cell);
      told = λ h said of. fresh_holder_told new row cell fresh beside said of;
      alike = fresh_alike new row cell fresh;
    }
    holder_goes _ _ (Has_stayed keeps) = record {
      copying = λ h. (holder_stays links old new row cell beside keeps h).0;
      told = λ h said of. (holder_stays links old new row cell beside keeps h).1 said of;
      alike = λ a b. stays_alike old new row cell a b keeps.pages;
    }

    -- of the other server
    other_goes : (two two' : Option PairState) → Arriving row cell two two' → AloneGoes links cell row beside two beside two'
    other_goes _ _ (Is_as_it_was visit) = record { copying = λ h. h; told = λ h said of t. t; alike = λ a b h. h }
    other_goes _ _ (Has_come fresh free) = record {
      copying = fresh_other new row cell fresh links beside;
      told = λ h said of. fresh_other_told new row cell fresh beside said;
      alike = λ a b h. h;
    }
    other_goes _ _ (Has_stayed keeps) = record {
      copying = λ h. (other_stays links old new row cell beside keeps h).0;
      told = λ h said of. (other_stays links old new row cell beside keeps h).1 said of;
      alike = λ a b h. h;
    }

  module _ (prefix : List Command) (cell : Cell) (row : LinkRow) (holder : ℕ) (whole : Bool) (is_prefix : IsPrefix prefix top)
      (is : IsLinked setting prefix cell row) (alone : row.state ≡ Only holder whole) where
    abbrev place : ℕ
    place = place_by setting prefix row

    abbrev other : ℕ
    other = other_of holder row

    holds : has_server holder row ≡ true
    holds = holder_is_one (state_after setting.servers prefix)
        (log_steady setting.servers prefix (prefix_plain setting.servers prefix top step.plain is_prefix))
        holder cell row is alone

    abbrev links : ℕ
    links = links_of (state_after setting.servers prefix) cell.map

    alone_goes : AloneGoes links cell row (good.visits holder place cell) (good.visits other place cell) (visits holder place cell) (visits other place cell)
    alone_goes =
        let one = holder_goes links cell row (good.visits other place cell) (good.visits holder place cell) (visits holder place cell)
        (arriving prefix cell row is_prefix is holder holds) in
        let two = other_goes links cell row (visits holder place cell) (good.visits other place cell) (visits other place cell)
        (arriving prefix cell row is_prefix is other (other_is_one row holder)) in
        record {
          copying = λ h. two.copying (one.copying h);
          told = λ h said of t. two.told (one.copying h) said of (one.told h said of t);
          alike = one.alike;
        }

    -- a visit is as it was, or it is the server's own part as it is then, with the store that counts by the prefix
    visit_so : (n : ℕ) (own : PairState) → has_server n row ≡ true → visits n place cell ≡ Some own
        → (good.visits n place cell ≡ Some own) ⊎ (own.store ≡ news prefix n)
    visit_so n own has e = elim (visited_by (step_of it) n place cell) [
      | inl same ↦ inl (sym same ∙ e)
      | inr now ↦ inr (ap (λ (o : PairState). o.store) (same_some (sym e ∙ now.is))
          ∙ sym (store_there prefix cell row is_prefix is (subst (λ m. has_server m row ≡ true) now.who has) now.there) ∙ ap (news prefix) (sym now.who))
    ]

    keeps_left : AliveIn (state_after setting.servers top) cell → (own : PairState) → visits holder place cell ≡ Some own →
        ((p : ℕ) → place < p → visits other p cell ≡ None)
        → StaysLeft row cell own (news prefix holder)
    keeps_left lives own e beyond = elim (visit_so holder own holds e) [
      | inl was ↦
          left_on row cell own (olds prefix holder) (news prefix holder) (leaves prefix holder cell)
          ((good.alone prefix cell row holder whole is_prefix is alone).stays lives own was
          (λ p lt. none_before (step_of it) other p cell (beyond p lt)))
      | inr now ↦ (λ marked. subst (λ a. IsMarked a cell) now marked, λ all copied. subst (λ a. IsToBeCopied row a cell) now all)
    ]

    pub alone_entered : AloneOk setting top next_stores visits reached prefix cell row holder
    alone_entered =
        let ok = good.alone prefix cell row holder whole is_prefix is alone in
        record {
          copying = alone_goes.copying ok.copying;
          beside = λ lives last.
              let beside = ok.beside lives (let more = up cell in omega arith) in
              record {
                alike = alike_same row cell (olds prefix holder) (olds prefix other) (news prefix holder) (news prefix other) (visits holder place cell)
                    (leaves prefix holder cell) (leaves prefix other cell) (alone_goes.alike (olds prefix holder) (olds prefix other) beside.alike);
                still = λ own e. elim (visit_so other own (other_is_one row holder) e) [
                  | inl was ↦ beside.still own was ∙ sym (leaves prefix other cell).chain
                  | inr now ↦ ap (λ (s : Store). chain_in s.chains cell) now
                ];
              };
          stays = keeps_left;
          unfilled = λ lives all_of. filled_framed (step_of it) prefix cell holder other
              (leaves prefix other cell).chain (ok.unfilled lives all_of);
        }

    some_goes : is_some (good.visits other place cell) ≡ true → is_some (visits other place cell) ≡ true
    some_goes = some_after (step_of it) other place cell

    page_goes : (after block : Option ℕ) → IsPage cell (olds prefix other) (good.visits other place cell) after block
        → IsPage cell (news prefix other) (visits other place cell) after block
    page_goes after block page = record {
      met = some_goes page.met;
      least = λ ahead upto marked. page.least ahead upto (marked_back (olds prefix other) (news prefix other) cell (leaves prefix other cell) marked);
    }

  pub said_entered : (letter : Letter) → In letter w.sent → (prefix : List Command) (cell : Cell) (row : LinkRow) → IsPrefix prefix top
      → length prefix ≡ letter.rev → IsLinked setting prefix cell row → AliveIn (state_after setting.servers prefix) cell
      → SaidOk setting top next_stores visits reached prefix letter.body cell row
  said_entered letter there prefix cell row is_prefix long is alive =
      let old_said = good.letters letter there prefix cell row is_prefix long is alive in
      record {
        both = λ lives both last of. (pair_goes prefix cell row is_prefix is both).known letter.body
            (old_said.both lives both (let more = up cell in omega arith) of);
        alone = λ holder whole alone of.
            (alone_goes prefix cell row holder whole is_prefix is alone).told
            (good.alone prefix cell row holder whole is_prefix is alone).copying letter.body of
            (old_said.alone holder whole alone of);
        page = λ lives holder whole after block alone said last.
            page_goes prefix cell row holder whole is_prefix is alone after block
            (old_said.page lives holder whole after block alone said (let more = up cell in omega arith));
        met = λ holder whole after block alone said.
            some_goes prefix cell row holder whole is_prefix is alone (old_said.met holder whole after block alone said);
      }

  entered_prefixes : KeepsPrefixes (step_of it)
  entered_prefixes = record { both = both_entered; alone = alone_entered; said = said_entered }

  -- a server that stays at the place of a link forgets nothing of it
  entered_flags : KeepsFlags (step_of it)
  entered_flags cell row own whole is alive alone seat visit flagged =
      elim (entering.comes_or_stays it cell row is alive) [
        | inl c ↦ none_some c.unseen visit
        | inr s ↦ (
            let has = holder_is_one (state_in setting.servers server.log)
            (log_steady setting.servers server.log.applied (prefix_plain setting.servers server.log.applied top step.plain step.within)) k cell row is alone in
            let h = good.here k cell row s.linked (seat_before row cell has s.so seat) (alive_there cell alive) in
            let was : own ≡ old = same_some (sym visit ∙ ap (λ p. good.visits k p cell) s.place ∙ h.is ∙ ap Some h.same) in
            ap (λ p. option_map_or (λ (x : Progress). x.caught) p false) s.keeps.pages
            ∙ ap (λ (o : PairState). is_flagged o (id_of row)) (sym was) ∙ flagged)
      ]

  -- ### All of it

  own_sound : IsSoundOwn setting v k server
  own_sound = record {
    unheard = entering.still_unheard it;
    copied = entering.still_copied it;
    rising = rising_on;
    counts = counts_on;
    filled = subst AreFilled (sym left.chains) (good.filled k);
    marks = λ when. entering.still_marks it;
  }

  pub entered_good : (own : Record) → IsThen setting (records ++ own ∷ []) v
      → ((letter : Letter) → In letter v.sent → In letter w.sent ⊎ IsTrue setting top next_stores visits reached letter)
      → GoesOn setting records top top u v good own
  entered_good own then_is sent = good_after (step_of it) own then_is entered_flags own_sound entered_prefixes sent

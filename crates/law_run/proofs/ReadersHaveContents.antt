-- A server that may read a cell which is not leaving has the copy that counts, and so the contents of the cell's block.
use Rattle.law_run.proofs.Imports.{◌==◌, ◌∙◌, ◌≡◌, ◌≤◌, AliveIn, AreDisks, Bool, Both, ByBoth, ByNone, ByOne, Cell, DiskRow, Firm, HasStage, In, IsLinked}
use Rattle.law_run.proofs.Imports.{IsServing, LinkRow, List, None, Option, PairOk, PairState, Some, Store, Stored, alone_authority, ap, arith, at, authority}
use Rattle.law_run.proofs.Imports.{both_authority, both_leads, by_bool, bytes_of, cases_lt, cell_cmp, chain_in, chosen_steady, coming, counted, either_true}
use Rattle.law_run.proofs.Imports.{entry_at, entry_before, entry_by, entry_of, false, half, has_map, held, inl, inr, is_all_held, is_in, is_lead, is_some}
use Rattle.law_run.proofs.Imports.{is_the_so, leads_link, leaving, linked_between, live, log_roles, named_cell, old_cell, one_row, own_below, own_plain}
use Rattle.law_run.proofs.Imports.{pair_of, place_by, places_up, prefix_itself, readable, refl, retired_not, retired_reader, runs_now, same_numbers}
use Rattle.law_run.proofs.Imports.{same_some, serves, stage_at, stage_facts, subst, sym, true, true_false, ℕ}
use Rattle.law_run.proofs.ContentsByCells.{entry_over, has_over, is_between}
use Rattle.law_run.proofs.ContentsAsked.{reader_serves}
use Rattle.law_run.proofs.OwnPlacesAreLatest.{chosen_store, chosen_twins, equal_pair, visit_here, alive_here}
use Rattle.law_run.proofs.ChosenDisks.{cell_named, content_is, disks_now, has_content_is, named_comes, rows_in}
use Rattle.law_run.proofs.MachineTakesWrites.{was_kept, was_has}
use Rattle.law_run.proofs.EventsOfServerSteps.{ServerStep, ends_of, grounded, plain_chosen}

module _ (this : ServerStep) where
  open ends_of this use {top, chosen, own, own_state}

  -- the bytes of the server's entry
  abbrev pub data_of : Cell → ℕ → List ℕ
  data_of cell epoch = bytes_of (entry_at (chain_in own.store.chains cell) epoch)

  -- ### A server that may read a cell which is not leaving

  -- a read that may be answered, of a cell that is not leaving by the server's own state
  pub record IsReading (cell : Cell) : Type 0 where
    pub runs : (this.w.servers this.n).life.running ≡ true
    pub seat : is_in own_state this.n (this.w.servers this.n).life.inc ≡ true
    pub may : readable own_state this.n cell ≡ true
    pub unheld : is_all_held (held own_state cell) ≡ false
    pub idle : is_lead own_state this.n cell ≡ true → at cell_cmp own.pairs.pending cell ≡ None
    pub stays : leaving own_state cell ≡ false

  module _ (cell : Cell) (r : IsReading cell) where
    abbrev firm : Firm this.setting this.w
    firm = this.along.firm

    own_facts : HasStage own_state cell
    own_facts = stage_facts this.setting.servers (this.w.servers this.n).log.applied (own_plain this.setting this.w firm this.n) cell

    own_lives : live own_state cell ≡ true
    own_lives = by_bool (live own_state cell) (λ t. t) (λ f. true_false r.may (retired_reader own_state cell f this.n))

    own_low : 1 ≤ stage_at own_state cell
    own_low = (own_facts.lives own_lives).0

    own_high : stage_at own_state cell ≤ 2
    own_high = elim (cases_lt (stage_at own_state cell) 3) [
      | inl lt ↦ omega arith
      | inr le ↦ (let most = (own_facts.lives own_lives).1 in true_false (own_facts.left (omega arith)) r.stays)
    ]

    -- it is not leaving by what is chosen either, since the server would have to report to the fence first
    pub now_high : stage_at chosen cell ≤ 2
    now_high = this.ground.moves.unread this.n cell r.runs r.seat r.unheld own_low own_high

    pub now_low : 1 ≤ stage_at chosen cell
    now_low = let low = own_low in let up = (own_below this.setting this.w firm this.n).stages cell in omega arith

    alive : AliveIn chosen cell
    alive = let high = now_high in omega arith

    now_lives : live chosen cell ≡ true
    now_lives = let high = now_high in (stage_facts this.setting.servers top firm.plain cell).alive now_low (omega arith)

    serving : IsServing own_state this.n cell
    serving = reader_serves (grounded this) this.n cell r.may

    pub serving_now : IsServing chosen this.n cell
    serving_now =
        let roles = log_roles this.setting.servers (this.w.servers this.n).log.applied top firm.plain (firm.servers this.n) in
        elim (roles.reads this.n (this.w.servers this.n).life.inc cell r.seat (runs_now this.setting this.w firm this.n r.runs r.seat) serving) [
          | inl now ↦ now
          | inr died ↦ absurd (retired_not chosen cell died alive)
        ]

    -- ### What it has is what counts

    -- the first server of a link in Both has nothing pending where it was at the place: by its own state it leads the cell
    first_none : (b : LinkRow) → IsLinked this.setting top cell b → b.state ≡ Both → b.primary ≡ this.n → (visit : PairState)
        → this.ground.good.visits this.n (place_by this.setting top b) cell ≡ Some visit → at cell_cmp visit.pairs.pending cell ≡ None
    first_none b b_is both mine visit is =
        let applied = (this.w.servers this.n).log.applied in
        let been = this.ground.good.been this.n (place_by this.setting top b) cell visit is in
        let mid = linked_between this.setting top firm.plain been.prefix applied top cell been.row b been.within (firm.servers this.n) (prefix_itself top)
        been.linked b_is in
        let one = places_up this.setting top firm.plain been.prefix applied cell been.row mid.0 been.within (firm.servers this.n) been.linked mid.1 in
        let two = places_up this.setting top firm.plain applied top cell mid.0 b (firm.servers this.n) (prefix_itself top) mid.1 b_is in
        let there = been.at in
        let same : place_by this.setting applied mid.0 ≡ place_by this.setting top b = omega arith in
        let row_is : b ≡ mid.0 =
        one_row this.setting top firm.plain applied top cell mid.0 b (firm.servers this.n) (prefix_itself top) mid.1 b_is same in
        let link : leads_link own_state this.n cell ≡ true =
        is_the_so _ this.n (both_leads own_state cell mid.0 mid.1 (ap (λ (x : LinkRow). x.state) (sym row_is) ∙ both)
        ∙ ap Some (ap (λ (x : LinkRow). x.primary) (sym row_is) ∙ mine)) in
        let lead = own_facts.led this.n link own_low own_high in
        let here = visit_here (grounded this) this.n cell mid.0 r.runs r.seat mid.1
        (alive_here (grounded this) this.n cell alive) in
        let own_is : visit ≡ own = same_some (sym is ∙ ap (λ p. this.ground.good.visits this.n p cell) (sym same) ∙ here) in
        ap (λ (o : PairState). at cell_cmp o.pairs.pending cell) own_is ∙ r.idle lead

    own_entry : (e : ℕ) → entry_by (counted this.setting this.w) cell e (Some this.n) ≡ entry_at (chain_in own.store.chains cell) e
    own_entry e = ap (λ (x : Store). entry_at (chain_in x.chains cell) e) (this.ground.own this.n r.runs r.seat own.store)

    -- so it has what the second server has
    first_is : (e : ℕ) (b : LinkRow) → IsLinked this.setting top cell b → b.state ≡ Both → b.primary ≡ this.n
        → entry_of chosen (counted this.setting this.w) cell e ≡ entry_at (chain_in own.store.chains cell) e
    first_is e b b_is both mine =
        let q = b.secondary in
        let place = place_by this.setting top b in
        let visits = this.ground.good.visits in
        let stores = chosen_store (grounded this) in
        let twins = chosen_twins (grounded this) cell b b_is both alive in
        let pair : PairOk (pair_of (half (visits this.n place cell) (stores this.n)) (half (visits q place cell) (stores q)) cell) =
        subst (λ k. PairOk (pair_of (half (visits k place cell) (stores k)) (half (visits q place cell) (stores q)) cell)) mine twins.pair in
        let equal = equal_pair (visits this.n place cell) (visits q place cell) (stores this.n) (stores q) cell pair
        (first_none b b_is both mine) in
        ap (entry_by (counted this.setting this.w) cell e) (both_authority chosen cell b b_is now_lives both)
        ∙ ap (λ (x : Store). entry_at (chain_in x.chains cell) e) (sym (this.ground.good.now q))
        ∙ ap (λ c. entry_at c e) (sym equal)
        ∙ ap (λ (x : Store). entry_at (chain_in x.chains cell) e) (this.ground.good.now this.n) ∙ own_entry e

    -- and whoever serves the link has what counts
    pub record Counts : Type 0 where
      pub some : is_some (authority chosen cell) ≡ true
      pub entry : (e : ℕ) → entry_of chosen (counted this.setting this.w) cell e ≡ entry_at (chain_in own.store.chains cell) e

    counts : Counts
    counts = elim ((chosen_steady this.setting this.w firm).linked cell serving_now.row serving_now.is).served [
      | ByBoth so one other ↦ record {
        some = ap is_some (both_authority chosen cell serving_now.row serving_now.is now_lives so);
        entry = λ e. by_bool (serving_now.row.primary == this.n)
            (λ t. first_is e serving_now.row serving_now.is so (same_numbers serving_now.row.primary this.n t))
            (λ f.
            let mine = same_numbers serving_now.row.secondary this.n
            (either_true (serving_now.row.primary == this.n) (serving_now.row.secondary == this.n) serving_now.one_of f) in
            ap (entry_by (counted this.setting this.w) cell e) (both_authority chosen cell serving_now.row serving_now.is now_lives so ∙ ap Some mine)
            ∙ own_entry e);
      }
      | ByOne holder other whole so pair out ↦
          let mine : holder ≡ this.n = same_numbers holder this.n (sym (ap (serves this.n serving_now.row) so) ∙ serving_now.so) in
          let held = alone_authority chosen cell serving_now.row serving_now.is now_lives holder whole so in
          record {
            some = ap is_some held;
            entry = λ e. ap (entry_by (counted this.setting this.w) cell e) (held ∙ ap Some mine) ∙ own_entry e;
          }
      | ByNone one other lost pair out ↦ true_false serving_now.so (ap (serves this.n serving_now.row) lost)
    ]

    -- ### The block's content

    module _ (row : DiskRow) (there : In row (rows_in this.setting this.w)) (has : has_map cell.map row ≡ true) where
      disks : AreDisks chosen
      disks = disks_now this.setting this.w firm

      pub named : cell ≡ named_cell row cell.block
      named = cell_named this.setting.servers chosen (plain_chosen this) disks row there cell has now_low now_high

      pub entry_is : (e : ℕ) → entry_of chosen (counted this.setting this.w) (named_cell row cell.block) e ≡ entry_at (chain_in own.store.chains cell) e
      entry_is e = ap (λ (c : Cell). entry_of chosen (counted this.setting this.w) c e) (sym named) ∙ counts.entry e

      pub some_is : is_some (authority chosen (named_cell row cell.block)) ≡ true
      some_is = ap (λ (c : Cell). is_some (authority chosen c)) (sym named) ∙ counts.some

      -- an entry of the cell is the block's, also between two maps
      pub shown_entry : (e : ℕ) (x : Stored) → entry_at (chain_in own.store.chains cell) e ≡ Some x
          → (was_has this row e cell.block ≡ true) × (was_kept this row e cell.block ≡ x.bytes)
      shown_entry e x is = (
        has_content_is this.setting this.w firm row there e cell.block
            ∙ (λ i. has_over (is_between row cell.block) (some_is i) ((entry_is e ∙ is) i) (is_some (this.w.frozen (old_cell row cell.block))))
            ∙ over_has (is_between row cell.block) (is_some (this.w.frozen (old_cell row cell.block))),
        content_is this.setting this.w firm row there e cell.block
            ∙ ap (λ o. bytes_of (entry_over (is_between row cell.block) o (entry_before this.w (old_cell row cell.block) e))) (entry_is e ∙ is)
            ∙ over_first (is_between row cell.block) (entry_before this.w (old_cell row cell.block) e),
      )
        where
          over_has : (between frozen : Bool) → has_over between true (Some x) frozen ≡ true
          over_has true frozen = refl
          over_has false frozen = refl

          over_first : (between : Bool) (below : Option Stored) → bytes_of (entry_over between (Some x) below) ≡ x.bytes
          over_first true below = refl
          over_first false below = refl

      -- where it is not on its way, so is that there is none
      pub shown_none : is_between row cell.block ≡ false → (e : ℕ)
          → (was_has this row e cell.block ≡ true) × (was_kept this row e cell.block ≡ bytes_of (entry_at (chain_in own.store.chains cell) e))
      shown_none apart e = (
        has_content_is this.setting this.w firm row there e cell.block
            ∙ (λ i. has_over (apart i) (some_is i) (entry_of chosen (counted this.setting this.w) (named_cell row cell.block) e)
            (is_some (this.w.frozen (old_cell row cell.block)))),
        content_is this.setting this.w firm row there e cell.block
            ∙ (λ i. bytes_of (entry_over (apart i) (entry_is e i) (entry_before this.w (old_cell row cell.block) e))),
      )

      shown_by : (e : ℕ) (o : Option Stored) → entry_at (chain_in own.store.chains cell) e ≡ o → (o ≡ None → coming own_state cell ≡ false)
          → (was_has this row e cell.block ≡ true) × (was_kept this row e cell.block ≡ bytes_of (entry_at (chain_in own.store.chains cell) e))
      shown_by e (Some x) is none = (let k = shown_entry e x is in (k.0, k.1 ∙ sym (ap bytes_of is)))
      shown_by e None is none = shown_none (by_bool (is_between row cell.block)
          (λ t.
          let one : stage_at chosen cell ≡ 1 = ap (stage_at chosen) named
          ∙ named_comes this.setting.servers chosen (plain_chosen this) disks row there cell.block t in
          let up = (own_below this.setting this.w firm this.n).stages cell in
          let low = own_low in
          true_false (own_facts.came (omega arith)) (none refl))
          (λ f. f)) e

      pub shown : (e : ℕ) → (entry_at (chain_in own.store.chains cell) e ≡ None → coming own_state cell ≡ false)
          → (was_has this row e cell.block ≡ true) × (was_kept this row e cell.block ≡ data_of cell e)
      shown e none = shown_by e (entry_at (chain_in own.store.chains cell) e) refl (λ is. none is)

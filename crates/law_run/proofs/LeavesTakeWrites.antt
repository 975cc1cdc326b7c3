-- What is chosen grows: where a cell's second server leaves, and the first one is one put ahead, the machine takes the first one's write; all
-- else that is told of a block is as before. Of a link that is Lost nothing is told.
use Rattle.law_run.proofs.Imports.{◌&&◌, ◌+◌, ◌||◌, ◌∙◌, ◌≡◌, ◌≤◌, ◌⊎◌, AreDisks, Bool, Cell, DiskRow, In, IsLinked, IsOpen, Letter, None, Option, PairOk}
use Rattle.law_run.proofs.Imports.{Pending, Server, Some, Store, Stored, all_put_apart, ap, arith, at, authority, by_bool, bytes_of, cases_lt, cell_cmp}
use Rattle.law_run.proofs.Imports.{cell_of, chain_in, change_by, counted, entry_at, entry_before, entry_by, entry_of, false, far, first_entry, half}
use Rattle.law_run.proofs.Imports.{half_store, has_map, inl, inr, is_clients, is_some, kept, leader_alone, named_cell, nat_cmp, none_some, old_cell}
use Rattle.law_run.proofs.Imports.{one_put_ahead, one_row, option_and_then, or_true, own_below, owns_of, pair_of, place_by, prefix_itself, put, refl, replay}
use Rattle.law_run.proofs.Imports.{same_some, so_both, stage_at, subject_of, subst, sym, true, true_false, ℕ}
use Rattle.law_run.proofs.ContentsAsRegionsBegin.{IsNow, By_both, By_entry, HasAll, high_after, is_now}
use Rattle.law_run.proofs.FillsComeInTurn.{ComesTo, fill_there, frozen_old}
use Rattle.law_run.proofs.Overlay.{come_over, fill_same}
use Rattle.law_run.proofs.ContentsByCells.{entry_over, has_over, is_between}
use Rattle.law_run.specs.WritesGoOn.{is_held}
use Rattle.law_run.specs.MachineTies.{Is_followed}
use Rattle.law_run.proofs.ChosenDisks.{rows_in, disks_now, plain_now, cell_comes, content_is, has_content_is, named_low, named_map_is, one_row_of, named_high}
use Rattle.law_run.proofs.MachineTakesWrites.{IsGiven, AreGiven, Taken, all_given, given_held, takes_of, was_kept, now_has, now_kept, StaysAt, was_has}
use Rattle.law_run.proofs.ServerFrames.{AreKept, Runs, CountsOk, kept_before, kept_own}
use Rattle.law_run.proofs.EventsPutTogether.{assembled}
use Rattle.law_run.proofs.Machine.{held_onward}
use Rattle.law_run.proofs.OpenWritesAreOnDisks.{Placed, placed_given}
use Rattle.law_run.proofs.DataLetters.{is_written, unended_data, unended_written, is_reply}
use Rattle.law_run.proofs.EventsOfServerSteps.{ServerStep, ServerTold, ends_of, grounded, grounded_after, letters, new, quiet_looks, plain_chosen}
use Rattle.law_run.proofs.OwnPlacesAreLatest.{chosen_store, chosen_twins, op_leads, shared_before, visit_here, alive_here, op_high}
use Rattle.law_run.proofs.FirstIsOneAhead.{put_ahead}
use Rattle.law_run.proofs.ContentChanges.{block_there}
use Rattle.law_run.proofs.CountingAsLogGrows.{steady, IsLeftToFirst, Moves, Stays_there, Is_left, Is_handed_on, Is_lost, moves, entry, was_second, now_first}
use Rattle.law_run.proofs.CountingAsLogGrows.{place, now_entry, below_entry, was_there, fill_frozen, fill_comes, IsPutAhead, Turns, Is_same, Is_gone}
use Rattle.law_run.proofs.CountingAsLogGrows.{Is_written, Is_filled, turns, spot, there}

module _ (this : ServerStep) (same_store : (new this).store.chains ≡ (owns_of this.w this.n).store.chains) where
  open ends_of this use {v, top, chosen, after}

  -- ### What is told of a block

  module _ (row : DiskRow) (h : In row (rows_in this.setting this.w)) (b : ℕ) where
    abbrev cell : Cell
    cell = named_cell row b

    abbrev old : Cell
    old = old_cell row b

    abbrev was_entry : ℕ → Option Stored
    was_entry e = entry_of chosen (counted this.setting this.w) cell e

    abbrev now_entry_of : ℕ → Option Stored
    now_entry_of e = entry_of after (counted this.setting v) cell e

    was_by : (e : ℕ) → was_kept this row e b ≡ bytes_of (entry_over (is_between row b) (was_entry e) (entry_before this.w old e))
    was_by e = content_is this.setting this.w this.along.firm row h e b

    had_by : (e : ℕ) → was_has this row e b
        ≡ has_over (is_between row b) (is_some (authority chosen cell)) (was_entry e) (is_some (this.w.frozen old))
    had_by e = has_content_is this.setting this.w this.along.firm row h e b

    -- where the cell had a copy that counts, and by both entries the content is the same
    abbrev SameOver : ℕ → Type 0
    SameOver e = bytes_of (first_entry (was_entry e) (entry_before this.w old e)) ≡ bytes_of (first_entry (now_entry_of e) (entry_before this.w old e))

    -- by the entry alone, where all has come over
    come_same : (a : HasAll this row h b) → (n : ℕ) → authority after cell ≡ Some n → (e : ℕ)
        → bytes_of (first_entry (now_entry_of e) (entry_before this.w old e)) ≡ bytes_of (now_entry_of e)
    come_same a n counts e =
        let chain = chain_in (kept this.setting v n).chains cell in
        let here : now_entry_of e ≡ entry_at chain e = ap (entry_by (counted this.setting v) cell e) counts in
        let before : entry_before this.w old e ≡ entry_at a.before e = ap (option_and_then (λ c. entry_at c e)) a.frozen in
        (λ i. bytes_of (first_entry (here i) (before i)))
        ∙ ap bytes_of (come_over chain a.before (this.onward.good.rising n cell) (this.ground.moves.frozen old a.before a.frozen).rising
        (λ epoch there. a.all n counts epoch there) e)
        ∙ ap bytes_of (sym here)

    -- what is so of both entries, or of the one alone where the region is not on its way
    stays_now : (counted_was : is_some (authority chosen cell) ≡ true) → (e : ℕ)
        → (is_between row b ≡ false → bytes_of (was_entry e) ≡ bytes_of (now_entry_of e)) → (is_between row b ≡ true → SameOver e)
        → (is_between row b ≡ true → is_some (now_entry_of e) ≡ true → (is_some (was_entry e) ≡ true) ⊎ (is_some (this.w.frozen old) ≡ true))
        → IsNow this row h b → StaysAt this row e b
    stays_now counted_was e plain over from (By_both between bytes has) there = (
      had_by e ∙ (λ i. has_over (between i) (counted_was i) (was_entry e) (is_some (this.w.frozen old))) ∙ some_of,
      was_by e ∙ ap (λ t. bytes_of (entry_over t (was_entry e) (entry_before this.w old e))) between ∙ over between ∙ sym (bytes e),
    )
      where
        some_of : (is_some (was_entry e) || is_some (this.w.frozen old)) ≡ true
        some_of = by_bool (is_some (now_entry_of e))
            (λ t. elim (from between t) [
              | inl was ↦ ap (λ c. c || is_some (this.w.frozen old)) was
              | inr frozen ↦ or_true (is_some (was_entry e)) (is_some (this.w.frozen old)) frozen
            ])
            (λ f. or_true (is_some (was_entry e)) (is_some (this.w.frozen old))
            (of_or (is_some (authority after cell)) (is_some (now_entry_of e)) (is_some (this.w.frozen old)) f (sym (has e) ∙ there)))
          where
            of_or : (c x y : Bool) → x ≡ false → (c && (x || y)) ≡ true → y ≡ true
            of_or true false y f t = t
            of_or true true y f t = true_false refl f
            of_or false x y f t = true_false t refl
    stays_now counted_was e plain over from (By_entry bytes has exact come) there = by_bool (is_between row b)
        (λ between.
        let a = come between in
        let counts = some_at (authority after cell) (has e there) in (
          had_by e
              ∙ (λ i. has_over (between i) (counted_was i) (was_entry e) (is_some (a.frozen i)))
              ∙ or_true (is_some (was_entry e)) true refl,
          was_by e ∙ ap (λ t. bytes_of (entry_over t (was_entry e) (entry_before this.w old e))) between ∙ over between
              ∙ come_same a counts.0 counts.1 e ∙ sym (bytes e),
        ))
        (λ apart. (
          had_by e ∙ (λ i. has_over (apart i) (counted_was i) (was_entry e) (is_some (this.w.frozen old))),
          was_by e ∙ ap (λ t. bytes_of (entry_over t (was_entry e) (entry_before this.w old e))) apart ∙ plain apart ∙ sym (bytes e),
        ))
      where
        some_at : (o : Option ℕ) → is_some o ≡ true → (n : ℕ) × (o ≡ Some n)
        some_at None e = true_false e refl
        some_at (Some n) e = (n, refl)

    same_stays : is_some (authority chosen cell) ≡ true → (e : ℕ) → was_entry e ≡ now_entry_of e → StaysAt this row e b
    same_stays counted_was e same =
        stays_now counted_was e (λ apart. ap bytes_of same) (λ between. ap (λ o. bytes_of (first_entry o (entry_before this.w old e))) same)
        (λ between some. inl (ap is_some same ∙ some)) (is_now this row h b)

    gone_stays : authority after cell ≡ None → (e : ℕ) → StaysAt this row e b
    gone_stays gone e = by (is_now this row h b)
      where
        none : is_some (authority after cell) ≡ false
        none = ap is_some gone

        by : IsNow this row h b → StaysAt this row e b
        by (By_entry bytes has exact come) there = true_false (has e there) none
        by (By_both between bytes has) there =
            true_false (sym (has e) ∙ there) (ap (λ c. c && (is_some (now_entry_of e) || is_some (this.w.frozen old))) none)

    -- a fill is put ahead: what was frozen is told as before
    filled_stays : (left : IsLeftToFirst this same_store cell) (a : IsPutAhead this same_store cell left) (fill : is_clients a.op.kind ≡ false)
        → at nat_cmp (chain_in (kept this.setting this.w left.link.secondary).chains cell) a.op.key.epoch ≡ None → (e : ℕ) → StaysAt this row e b
    filled_stays left a fill lacks e =
        let q = left.link.secondary in
        let keyed : cell_of a.op.key ≡ cell =
        this.ground.moves.keyed left.link.primary (spot this same_store cell left) cell a.own.pairs a.op
        (was_there this same_store cell left a.own a.visit a.op a.is a.ahead fill) a.is in
        let high = named_high this.setting.servers chosen (plain_now this.setting this.w this.along.firm)
        (disks_now this.setting this.w this.along.firm) row h b in
        let one = fill_comes this same_store cell left a.own a.visit a.op a.is a.ahead fill (omega arith) in
        let frozen = fill_frozen this same_store cell left a.own a.visit a.op a.is a.ahead fill in
        let to : ComesTo (grounded this) = record {
          key = a.op.key;
          bytes = a.op.bytes;
          one = ap (stage_at chosen) keyed ∙ one;
          rev = a.op.rev;
          frozen = frozen;
          row = row;
          there = h;
          has = (ap (λ (c : Cell). has_map c.map row) keyed ∙ named_map_is this.setting.servers chosen (plain_now this.setting this.w this.along.firm)
              (disks_now this.setting this.w this.along.firm) row h b);
          n = q;
          counts = (ap (authority chosen) keyed ∙ left.was);
        } in
        let there = fill_there (grounded this) to
        (chain_in (kept this.setting this.w q).chains cell) (ap (chain_in (kept this.setting this.w q).chains) keyed) lacks in
        let frozen_here : this.w.frozen old ≡ Some frozen.before =
        ap (λ (c : Cell). this.w.frozen (old_cell row c.block)) (sym keyed)
        ∙ frozen_old (grounded this) to in
        let before : entry_before this.w old e ≡ entry_at frozen.before e = ap (option_and_then (λ c. entry_at c e)) frozen_here in
        let same : SameOver e =
        (λ i. bytes_of (first_entry (was_second this same_store cell left a.own a.visit a.op a.is a.ahead e i) (before i)))
        ∙ fill_same (chain_in (kept this.setting this.w q).chains cell) frozen.before a.op.key.epoch
        (entry this same_store cell left a.own a.visit a.op a.is a.ahead) a.op.bytes refl there e
        ∙ sym (λ i. bytes_of (first_entry (now_first this same_store cell left a.own a.visit a.op a.is a.ahead e i) (before i))) in
        let between =
        cell_comes this.setting.servers chosen (plain_now this.setting this.w this.along.firm) (disks_now this.setting this.w this.along.firm) row h
        cell (named_map_is this.setting.servers chosen (plain_now this.setting this.w this.along.firm) (disks_now this.setting this.w this.along.firm) row h b)
        one in
        stays_now (ap is_some left.was) e (λ apart. true_false between apart) (λ t. same) (λ t some. inr (ap is_some frozen_here)) (is_now this row h b)

  -- ### A client's write

  module _ (cell : Cell) (left : IsLeftToFirst this same_store cell) (a : IsPutAhead this same_store cell left) (clients : is_clients a.op.kind ≡ true) where
    abbrev put_at : Placed this a.op cell
    put_at = place this same_store cell left a.own a.visit a.op a.is a.ahead clients

    -- at the disk's epoch the block has the write's bytes
    written_bytes : now_kept this put_at.row put_at.row.epoch put_at.block ≡ a.op.bytes
    written_bytes = by (is_now this put_at.row put_at.there put_at.block)
      where
        there_now : entry_of after (counted this.setting v) (named_cell put_at.row put_at.block) put_at.row.epoch
            ≡ Some (entry this same_store cell left a.own a.visit a.op a.is a.ahead)
        there_now = ap (λ (c : Cell). entry_of after (counted this.setting v) c put_at.row.epoch) (sym put_at.at_block)
            ∙ now_entry this same_store cell left a.own a.visit a.op a.is a.ahead clients

        by : IsNow this put_at.row put_at.there put_at.block → now_kept this put_at.row put_at.row.epoch put_at.block ≡ a.op.bytes
        by (By_entry bytes has exact come) = bytes put_at.row.epoch ∙ ap bytes_of there_now
        by (By_both between bytes has) =
            bytes put_at.row.epoch ∙ ap (λ o. bytes_of (first_entry o (entry_before this.w (old_cell put_at.row put_at.block) put_at.row.epoch))) there_now

    written_given : IsGiven this put_at.row put_at.block
    written_given = placed_given this a.op cell put_at written_bytes
        (λ e lt. same_stays put_at.row put_at.there put_at.block
        (ap (λ (c : Cell). is_some (authority chosen c)) (sym put_at.at_block) ∙ ap is_some left.was) e
        (ap (λ (c : Cell). entry_of chosen (counted this.setting this.w) c e) (sym put_at.at_block)
        ∙ below_entry this same_store cell left a.own a.visit a.op a.is a.ahead clients e lt
        ∙ ap (λ (c : Cell). entry_of after (counted this.setting v) c e) put_at.at_block))
        (let stored = there this same_store cell left a.own a.visit a.op a.is a.ahead in
        block_there (change_by this.setting this.w v) left.link.primary (named_cell put_at.row put_at.block).map put_at.block stored.0 left.within
        (ap (at cell_cmp (kept this.setting v left.link.primary).chains) (sym put_at.at_block) ∙ stored.1))

    -- and it has had them, where the cell takes writes still
    written_held : stage_at after cell ≤ 2 → (taken : Taken this) → is_held (replay this.m taken.es) a.op.client ≡ true
    written_held most taken =
        given_held this (replay this.m taken.es) taken.onward taken.stores put_at.row put_at.there put_at.block a.op.client put_at.write
        (has_now (is_now this put_at.row put_at.there put_at.block))
        put_at.under_way put_at.disk_is put_at.block_is (put_at.bytes_is ∙ sym written_bytes)
      where
        counts : is_some (authority after (named_cell put_at.row put_at.block)) ≡ true
        counts = ap (λ (c : Cell). is_some (authority after c)) (sym put_at.at_block) ∙ ap is_some left.now

        some_now : is_some (entry_of after (counted this.setting v) (named_cell put_at.row put_at.block) put_at.row.epoch) ≡ true
        some_now = ap is_some (ap (λ (c : Cell). entry_of after (counted this.setting v) c put_at.row.epoch) (sym put_at.at_block)
            ∙ now_entry this same_store cell left a.own a.visit a.op a.is a.ahead clients)

        has_now : IsNow this put_at.row put_at.there put_at.block → now_has this put_at.row put_at.row.epoch put_at.block ≡ true
        has_now (By_entry bytes has exact come) = exact (subst (λ (c : Cell). stage_at after c ≤ 2) put_at.at_block most) put_at.row.epoch ∙ counts
        has_now (By_both between bytes has) =
            has put_at.row.epoch ∙ (λ i. counts i && (some_now i || is_some (this.w.frozen (old_cell put_at.row put_at.block))))

  -- ### What is told

  all_votes : AreGiven this
  all_votes row h b =
      by (turns this same_store (named_cell row b) (named_low this.setting.servers chosen (plain_chosen this) disks_then row h b) (high_after this row h b))
    where
      disks_then : AreDisks chosen
      disks_then = disks_now this.setting this.w this.along.firm

      by : Turns this same_store (named_cell row b) → ((epoch : ℕ) → StaysAt this row epoch b) ⊎ IsGiven this row b
      by (Is_same counted same) = inl (λ e. same_stays row h b counted e (same e))
      by (Is_gone gone) = inl (gone_stays row h b gone)
      by (Is_filled left a fill lacks) = inl (filled_stays row h b left a fill lacks)
      by (Is_written left a clients) =
          let spot = put_at (named_cell row b) left a clients in
          let row_is : row ≡ spot.row = one_row_of chosen disks_then row spot.row h spot.there
          (named_map_is this.setting.servers chosen (plain_chosen this) disks_then row h b)
          (named_map_is this.setting.servers chosen (plain_chosen this) disks_then spot.row spot.there spot.block) (ap (λ (c : Cell). c.map) spot.at_block) in
          let block_is : b ≡ spot.block = ap (λ (c : Cell). c.block) spot.at_block in
          inr (subst (λ (r : DiskRow). IsGiven this r b) (sym row_is)
          (subst (IsGiven this spot.row) (sym block_is) (written_given (named_cell row b) left a clients)))

  -- an operation that is pending at the first server, which runs
  first_counts : (taken : Taken this) (cell : Cell) (left : IsLeftToFirst this same_store cell) (op : Pending)
      → (this.w.servers left.link.primary).life.running ≡ true
      → at cell_cmp (owns_of this.w left.link.primary).pairs.pending cell ≡ Some op → is_clients op.kind ≡ true → op.stage.put ≡ true
      → IsOpen (this.w.clients op.client) op.seq → stage_at after cell ≤ 2
      → is_held (replay this.m taken.es) op.client ≡ true
  first_counts taken cell left op runs is clients put still most =
      let p = left.link.primary in
      let q = left.link.secondary in
      let firm = this.along.firm in
      let s = shared_before (grounded this) p cell op runs is top left.link (firm.servers p)
      (prefix_itself top) left.linked left.both in
      let f = s.first in
      let row : f.row ≡ left.link = sym (one_row this.setting top firm.plain (this.w.servers p).log.applied top cell f.row left.link
      (firm.servers p) (prefix_itself top)
      f.shares.linked left.linked (sym s.at)) in
      let visit : this.ground.good.visits p (place_by this.setting top left.link) cell ≡ Some (owns_of this.w p) =
      ap (λ k. this.ground.good.visits p k cell) s.at ∙ visit_here (grounded this) p cell f.row
      runs f.shares.seat f.shares.linked (alive_here (grounded this) p cell f.shares.alive) in
      let second = this.ground.good.visits q (place_by this.setting top left.link) cell in
      let twins = chosen_twins (grounded this) cell left.link left.linked left.both f.shares.alive in
      let a_store = chosen_store (grounded this) p in
      let b_store = chosen_store (grounded this) q in
      let pair = pair_of (half (Some (owns_of this.w p)) a_store) (half second b_store) cell in
      let ok : PairOk pair = subst (λ o. PairOk (pair_of (half o a_store) (half second b_store) cell)) visit twins.pair in
      let a = put_ahead pair op ok is put in
      let mine : chain_in a_store.chains cell ≡ chain_in (kept this.setting this.w p).chains cell =
      ap (λ (s : Store). chain_in s.chains cell) (this.ground.good.now p) in
      let theirs : chain_in (half second b_store).store.chains cell ≡ chain_in (kept this.setting this.w q).chains cell =
      ap (λ (s : Store). chain_in s.chains cell) (half_store second b_store ∙ this.ground.good.now q) in
      elim (cases_lt (far pair) (op.op + op.op + 1)) [
        | inl before ↦
            let begun = a.begun in
            let le : far pair ≤ op.op + op.op = omega arith in
            written_held cell left (record {
              own = owns_of this.w p;
              visit = visit;
              op = op;
              is = is;
              ahead = sym mine ∙ a.ahead (omega arith) ∙ ap (λ c. one_put_ahead c op) theirs;
              low = le;
            }) clients most taken
        | inr past ↦ held_onward this.m (replay this.m taken.es) op.client taken.onward
            (this.follow.pending p cell op runs is clients (Is_followed left.link
            (subst (IsLinked this.setting (this.w.servers p).log.applied cell) row f.shares.linked) left.both
            (so_both chosen cell left.link left.linked left.both) put
            (sym mine ∙ a.even past ∙ theirs)) still)
      ]

  -- ### What is told

  module _ (stay : Runs this → AreKept this) where
    was_pending : (i : ℕ) (cell : Cell) (op : Pending) → (v.servers i).life.running ≡ true → at cell_cmp (owns_of v i).pairs.pending cell ≡ Some op
        → ((this.w.servers i).life.running ≡ true) × (at cell_cmp (owns_of this.w i).pairs.pending cell ≡ Some op)
    was_pending = all_put_apart this.w.servers this.n this.acted.server
        (λ i (x : Server). (cell : Cell) (op : Pending) → x.life.running ≡ true → at cell_cmp x.own.pairs.pending cell ≡ Some op
        → ((this.w.servers i).life.running ≡ true) × (at cell_cmp (owns_of this.w i).pairs.pending cell ≡ Some op))
        (λ i ne cell op on is. (on, is)) (λ cell op on is. kept_before this (stay on) cell op is)

    votes_count : (taken : Taken this) → CountsOk this (replay this.m taken.es)
    votes_count taken i cell op on is clients put now still =
        let was = was_pending i cell op on is in
        let low = ((this.ground.ready.rests.pending i).staged cell op was.1).born in
        let up = (own_below this.setting this.w this.along.firm i).stages cell in
        let high = op_high (grounded_after this) i cell op on is in
        by_move high (moves this same_store cell (omega arith) (omega arith)) was.0 was.1
      where
        by_move : stage_at after cell ≤ 2 → Moves this same_store cell → (this.w.servers i).life.running ≡ true
            → at cell_cmp (owns_of this.w i).pairs.pending cell ≡ Some op
            → (authority chosen cell ≡ Some i) ⊎ (is_held (replay this.m taken.es) op.client ≡ true)
        by_move most (Stays_there a was there same) runs pends = inl (was ∙ sym there ∙ now)
        by_move most (Is_lost lost) runs pends = none_some lost now
        by_move most (Is_left left) runs pends =
            let e : i ≡ left.link.primary = same_some (sym now ∙ left.now) in
            inr (first_counts taken cell left op (subst (λ j. (this.w.servers j).life.running ≡ true) e runs)
            (subst (λ j. at cell_cmp (owns_of this.w j).pairs.pending cell ≡ Some op) e pends) clients put still most)
        by_move most (Is_handed_on h) runs pends =
            let leads = op_leads (grounded this) i cell op runs pends in
            let e : i ≡ h.one = leader_alone chosen (steady this same_store) i h.one cell leads h.alone in
            inl (h.was ∙ ap Some (sym e))

    -- what is chosen grows, or not; the blocks stay
    pub votes_told : ((letter : Letter) → In letter (letters this) → is_reply (subject_of letter.body) ≡ false) → ServerTold this
    votes_told quiet =
        let taken = all_given this all_votes in
        let k = replay this.m taken.es in
        assembled this
        (takes_of this taken (kept_own this k taken.onward same_store stay) (votes_count taken)
        (λ letter h c seq to says still. true_false (ap is_written says) (unended_written letter.body (quiet letter h))))
        (quiet_looks this (λ letter h. unended_data letter.body (quiet letter h)))

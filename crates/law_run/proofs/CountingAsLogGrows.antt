-- What is chosen grows: whose copy of a cell counts after the step, and what becomes of its entries. Where the cell's second server leaves, and
-- the first one is one put ahead, the first one's write is taken; and where a link is in Both again, or held by the other server, the copies are equal.
use Rattle.law_run.proofs.Imports.{[], ◌++◌, ◌+◌, ◌<◌, ◌==◌, ◌∙◌, ◌∷◌, ◌≡◌, ◌≢◌, ◌≤◌, ◌⊎◌, AliveIn, AreTwins, Bool, Both, ByBoth, ByNone, ByOne, Cell, Chain}
use Rattle.law_run.proofs.Imports.{Good, HasProperTuples, IsCaughtStill, IsFrozen, IsLast, IsLater, IsLinked, IsOpen, IsSteady, IsTimely, LinkRow, Lost, None}
use Rattle.law_run.proofs.Imports.{Only, PairState, Pending, Some, Store, Stored, WasThere, alone_authority, ap, arith, asked_for, at, authority}
use Rattle.law_run.proofs.Imports.{both_authority, by_bool, cell_cmp, chain_in, chosen_steady, counted, counted_by, entry_at, entry_by, entry_of, epoch_at}
use Rattle.law_run.proofs.Imports.{false, far, half, half_store, has_server, holder_is_one, inl, inr, is_alone_on, is_clients, is_some, kept, length}
use Rattle.law_run.proofs.Imports.{linked_alive, live, log_alone, log_lost, lost_authority, nat_cmp, none_some, number_itself, one_before, one_put_ahead}
use Rattle.law_run.proofs.Imports.{one_row, op_there, open_at_place, other_of, other_than, owns_of, pair_at, pair_of, place_by, places_up, prefix_itself}
use Rattle.law_run.proofs.Imports.{prefix_long, prefix_more, prefix_on, primary_is_one, put, refl, rows_later, same_numbers, same_only, same_or_apart}
use Rattle.law_run.proofs.Imports.{secondary_is_one, serves, so_alone, some_or_none, stage_at, stage_facts, subst, sym, top_last, true, unwrap_or, version_of}
use Rattle.law_run.proofs.Imports.{ℕ}
use Rattle.law_run.specs.MachineTies.{IsRemembered}
use Rattle.law_run.proofs.ChosenDisks.{disks_now, plain_now, named_epoch}
use Rattle.law_run.proofs.EntryAtEpoch.{entry_below, entry_put}
use Rattle.law_run.proofs.ServingStoresCount.{been_within, caught_visit, serving_same, visits}
use Rattle.law_run.proofs.GroundGives.{remembered, write_of, recalled_timely}
use Rattle.law_run.proofs.OpenWritesAreOnDisks.{Placed, placed}
use Rattle.law_run.proofs.EventsOfServerSteps.{ServerStep, ends_of, grounded, joined_now, joined_then, kept_chain, kept_middle, new}
use Rattle.law_run.proofs.OwnPlacesAreLatest.{chosen_last, chosen_store, chosen_twins}
use Rattle.law_run.proofs.FirstIsOneAhead.{copied_low}

module _ (this : ServerStep) (same_store : (new this).store.chains ≡ (owns_of this.w this.n).store.chains) where
  open ends_of this use {v, top, end, chosen, after}

  abbrev plain_end : HasProperTuples this.setting.servers end
  plain_end = this.next.firm.plain

  pub steady : IsSteady chosen
  steady = chosen_steady this.setting this.w this.along.firm

  steady_after : IsSteady after
  steady_after = chosen_steady this.setting v this.next.firm

  -- each server has the blocks that it had, where no other Join of it with an empty store is chosen
  each_chain : (i : ℕ) (cell : Cell) → joined_now this i ≡ joined_then this i
      → chain_in (kept this.setting v i).chains cell ≡ chain_in (kept this.setting this.w i).chains cell
  each_chain i cell same = ap (λ c. chain_in c cell) (kept_chain this same_store i same)

  same_held : (cell : Cell) (i : ℕ) → joined_now this i ≡ joined_then this i
      → (epoch : ℕ) → entry_by (counted this.setting this.w) cell epoch (Some i) ≡ entry_by (counted this.setting v) cell epoch (Some i)
  same_held cell i same epoch = ap (λ c. entry_at c epoch) (sym (each_chain i cell same))

  -- ### By what was chosen before the step

  abbrev middle : Good this.setting this.onward.records top (counted_by this.setting top v)
  middle = this.middle.good

  -- nobody who serves the link has been further
  middle_last : (cell : Cell) (row : LinkRow) → IsLinked this.setting top cell row → IsLast middle.reached this.setting top cell row
  middle_last cell row is = top_last this.setting this.onward.records top (counted_by this.setting top v) this.along.firm.plain middle cell row is

  -- the stores are as before the step
  middle_chain : (i : ℕ) (cell : Cell) → chain_in (middle.stores i (joined_then this i)).chains cell ≡ chain_in (kept this.setting this.w i).chains cell
  middle_chain i cell = ap (λ (s : Store). chain_in s.chains cell) (middle.now i) ∙ ap (λ c. chain_in c cell) (kept_middle this same_store i)

  -- ### Whose copy counts

  -- the second server of the cell has left, and the first one holds it alone
  pub record IsLeftToFirst (cell : Cell) : Type 0 where
    pub link : LinkRow
    pub linked : IsLinked this.setting top cell link
    pub both : link.state ≡ Both
    pub within : link.primary < this.setting.servers
    pub was : authority chosen cell ≡ Some link.secondary
    pub now : authority after cell ≡ Some link.primary
    pub same : joined_now this link.primary ≡ joined_then this link.primary

  -- a server that held it alone has handed it on, to one with an equal copy
  pub record IsHandedOn (cell : Cell) : Type 0 where
    pub one : ℕ
    pub other : ℕ
    pub was : authority chosen cell ≡ Some one
    pub now : authority after cell ≡ Some other
    pub alone : is_alone_on chosen one cell ≡ true
    pub equal : chain_in (kept this.setting this.w one).chains cell ≡ chain_in (kept this.setting v other).chains cell

  pub data Moves (cell : Cell) : Type 0 where
    Stays_there : (a : ℕ) → authority chosen cell ≡ Some a → authority after cell ≡ Some a → joined_now this a ≡ joined_then this a → Moves cell
    Is_left : IsLeftToFirst cell → Moves cell
    Is_handed_on : IsHandedOn cell → Moves cell
    Is_lost : authority after cell ≡ None → Moves cell

  module _ (cell : Cell) (link now : LinkRow) (is : IsLinked this.setting top cell link) (then : IsLinked this.setting end cell now)
      (lives : live chosen cell ≡ true) (lives_after : live after cell ≡ true) (alive : AliveIn after cell) where
    so : IsLater link now
    so = rows_later this.setting end plain_end top end cell link now this.grows (prefix_itself end) is then

    -- a server of the link that serves it after the step has the blocks that it had
    still_has : (n : ℕ) → has_server n link ≡ true → serves n now now.state ≡ true → joined_now this n ≡ joined_then this n
    still_has n has serving = serving_same this cell link now n is then alive has serving

    alive_then : AliveIn chosen cell
    alive_then = let up = this.grown.stages cell in omega arith

    lost_now : now.state ≡ Lost → Moves cell
    lost_now lost = Is_lost (lost_authority after cell now then lives_after lost)

    holder_has : (holder : ℕ) (whole : Bool) → now.state ≡ Only holder whole → has_server holder link ≡ true
        → joined_now this holder ≡ joined_then this holder
    holder_has holder whole alone has = still_has holder has (ap (serves holder now) alone ∙ number_itself holder)

    second_has : now.state ≡ Both → joined_now this link.secondary ≡ joined_then this link.secondary
    second_has both = still_has link.secondary (secondary_is_one link link.secondary refl)
        (ap (serves link.secondary now) both ∙ secondary_is_one now link.secondary so.secondary)

    -- ### From Both

    both_moves : link.state ≡ Both → Moves cell
    both_moves both =
        let linked = steady.linked cell link is in
        let linked_after = steady_after.linked cell now then in
        let was = both_authority chosen cell link is lives both in
        elim linked_after.served [
          | ByBoth again one two ↦ Stays_there link.secondary was
              (both_authority after cell now then lives_after again ∙ ap Some so.secondary) (second_has again)
          | ByOne holder other whole alone pair out ↦
              let counts = alone_authority after cell now then lives_after holder whole alone in
              elim pair [
                | inl first ↦
                    let many = (plain_now this.setting this.w this.along.firm).many in
                    let is_first : holder ≡ link.primary = sym first.0 ∙ so.primary in
                    Is_left (record {
                      link = link;
                      linked = is;
                      both = both;
                      within = subst (λ k. link.primary < k) many linked.primary;
                      was = was;
                      now = counts ∙ ap Some is_first;
                      same = subst (λ k. joined_now this k ≡ joined_then this k) is_first
                          (holder_has holder whole alone (primary_is_one link holder (sym is_first)));
                    })
                | inr second ↦
                    let is_second : holder ≡ link.secondary = sym second.1 ∙ so.secondary in
                    Stays_there link.secondary was (counts ∙ ap Some is_second)
                    (subst (λ k. joined_now this k ≡ joined_then this k) is_second
                    (holder_has holder whole alone (secondary_is_one link holder (sym is_second))))
              ]
          | ByNone one other lost pair out ↦ lost_now lost
        ]

    -- ### From one server alone

    module _ (a : ℕ) (whole : Bool) (held : link.state ≡ Only a whole) where
      was_held : authority chosen cell ≡ Some a
      was_held = alone_authority chosen cell link is lives a whole held

      holds : has_server a link ≡ true
      holds = holder_is_one chosen steady a cell link is held

      stays_there : (holder : ℕ) (later : Bool) → now.state ≡ Only holder later → holder ≡ a → Moves cell
      stays_there holder later alone e = Stays_there a was_held
          (alone_authority after cell now then lives_after holder later alone ∙ ap Some e)
          (subst (λ k. joined_now this k ≡ joined_then this k) e
          (holder_has holder later alone (subst (λ k. has_server k link ≡ true) (sym e) holds)))

      -- in Both again after the holder's Caught, which was done with the link before
      module _ (c : IsCaughtStill this.setting.servers top end cell link a whole) where
        abbrev found : LinkRow
        found = record link { state = Only a c.later }

        caught_equal : chain_in (kept this.setting this.w a).chains cell ≡ chain_in (kept this.setting this.w (other_of a link)).chains cell
        caught_equal =
            let f = c.found in
            let visit = caught_visit this top cell link a whole c alive in
            let seen : visits this a (place_by this.setting f.until found) cell ≡ Some visit.0 =
            subst (λ k. visits this k (place_by this.setting f.until found) cell ≡ Some visit.0) (sym (same_only c.found.acts.alone)) visit.1 in
            let le = been_within this a (place_by this.setting f.until found) cell visit.0 link seen is in
            let until_end = prefix_on f.until (f.until ++ f.entry ∷ []) end (prefix_more f.until f.entry) f.stands in
            let up = places_up this.setting end plain_end top f.until cell link found f.following until_end is f.was in
            let same : place_by this.setting top link ≡ place_by this.setting f.until found = omega arith in
            let beside = (middle.alone top cell link a whole (prefix_itself top) is held).beside alive_then (middle_last cell link is) in
            sym (middle_chain a cell)
            ∙ beside.alike.caught visit.0
            (this.middle.visits_are a (place_by this.setting top link) cell ∙ ap (λ p. visits this a p cell) same ∙ seen) visit.2
            ∙ middle_chain (other_of a link) cell

        handed : (other : ℕ) → other_of a link ≡ other → authority after cell ≡ Some other → joined_now this other ≡ joined_then this other
            → Moves cell
        handed other other_is counts same = Is_handed_on (record {
          one = a;
          other = other;
          was = was_held;
          now = counts;
          alone = so_alone chosen a cell link whole is held;
          equal = caught_equal ∙ ap (λ k. chain_in (kept this.setting this.w k).chains cell) other_is ∙ sym (each_chain other cell same);
        })

        -- the other one of the link's two
        other_is : (other : ℕ) → has_server other link ≡ true → other ≢ a → other_of a link ≡ other
        other_is other has ne = other_than a other link holds has (by_bool (a == other) (λ t. absurd (ne (sym (same_numbers a other t)))) (λ f. f))

        to_both : now.state ≡ Both → Moves cell
        to_both both =
            let counts = both_authority after cell now then lives_after both ∙ ap Some so.secondary in
            let has = secondary_is_one link link.secondary refl in
            elim (same_or_apart link.secondary a) [
              | inl e ↦ Stays_there a was_held (counts ∙ ap Some e)
                  (subst (λ k. joined_now this k ≡ joined_then this k) e (second_has both))
              | inr ne ↦ handed link.secondary (other_is link.secondary has ne) counts (second_has both)
            ]

        to_one : (holder : ℕ) (later : Bool) → now.state ≡ Only holder later → Moves cell
        to_one holder later alone = elim (same_or_apart holder a) [
          | inl e ↦ stays_there holder later alone e
          | inr ne ↦
              let has : has_server holder link ≡ true =
              sym (one_before link now holder so) ∙ holder_is_one after steady_after holder cell now then alone in
              handed holder (other_is holder has ne)
              (alone_authority after cell now then lives_after holder later alone)
              (holder_has holder later alone has)
        ]

        caught_moves : Moves cell
        caught_moves = elim (steady_after.linked cell now then).served [
          | ByBoth both one two ↦ to_both both
          | ByOne holder other later alone pair out ↦ to_one holder later alone
          | ByNone one other lost pair out ↦ lost_now lost
        ]

      alone_moves : Moves cell
      alone_moves = elim (log_alone this.setting.servers top end plain_end this.grows cell link now a whole is held then) [
        | inl still ↦ stays_there a still.0 still.1 refl
        | inr (inl lost) ↦ lost_now lost.0
        | inr (inr c) ↦ caught_moves c
      ]

  -- of a cell that is live before the step and after it
  pub moves : (cell : Cell) → 1 ≤ stage_at chosen cell → stage_at after cell ≤ 3 → Moves cell
  moves cell low high =
      let up = this.grown.stages cell in
      let lives = (stage_facts this.setting.servers top this.along.firm.plain cell).alive low (omega arith) in
      let lives_after = (stage_facts this.setting.servers end plain_end cell).alive (omega arith) high in
      let alive : AliveIn after cell = omega arith in
      let link = steady.lives cell lives in
      let later = linked_alive this.setting end plain_end top end cell link.row this.grows (prefix_itself end) link.is alive in
      elim (steady.linked cell link.row link.is).served [
        | ByBoth both one two ↦ both_moves cell link.row later.0 link.is later.1 lives lives_after alive both
        | ByOne holder other whole alone pair out ↦ alone_moves cell link.row later.0 link.is later.1 lives lives_after alive holder whole alone
        | ByNone one other lost pair out ↦ lost_now cell link.row later.0 link.is later.1 lives lives_after alive
            (log_lost this.setting.servers top end plain_end this.grows cell link.row later.0 link.is lost later.1)
      ]

  -- ### The first server's write

  module _ (cell : Cell) (left : IsLeftToFirst cell) where
    abbrev p : ℕ
    p = left.link.primary

    abbrev q : ℕ
    q = left.link.secondary

    abbrev pub spot : ℕ
    spot = place_by this.setting top left.link

    module _ (own : PairState) (visit : this.ground.good.visits p spot cell ≡ Some own) (op : Pending)
        (is : at cell_cmp own.pairs.pending cell ≡ Some op)
        (ahead : chain_in (kept this.setting this.w p).chains cell ≡ one_put_ahead (chain_in (kept this.setting this.w q).chains cell) op) where
      abbrev pub entry : Stored
      entry = record { version = version_of (chain_in (kept this.setting this.w q).chains cell) + 1; bytes = op.bytes }

      -- what counted before, and what counts
      pub was_second : (e : ℕ) → entry_of chosen (counted this.setting this.w) cell e ≡ entry_at (chain_in (kept this.setting this.w q).chains cell) e
      was_second e = ap (entry_by (counted this.setting this.w) cell e) left.was

      pub now_first : (e : ℕ) → entry_of after (counted this.setting v) cell e
          ≡ entry_at (put nat_cmp (chain_in (kept this.setting this.w q).chains cell) op.key.epoch entry) e
      now_first e =
          ap (entry_by (counted this.setting v) cell e) left.now ∙ sym (same_held cell p left.same e) ∙ ap (λ c. entry_at c e) ahead

      -- the first server's chain is there
      pub there : (chain : Chain) × (at cell_cmp (kept this.setting v p).chains cell ≡ Some chain)
      there = elim (some_or_none (at cell_cmp (kept this.setting v p).chains cell)) [
        | inl some ↦ some
        | inr none ↦ none_some (ap (λ o. entry_at (unwrap_or {T = Chain} o []) op.key.epoch) none)
            (sym (ap (entry_by (counted this.setting v) cell op.key.epoch) left.now) ∙ now_first op.key.epoch
            ∙ entry_put (chain_in (kept this.setting this.w q).chains cell) op.key.epoch entry (this.ground.good.rising q cell))
      ]

      -- ### A client's write

      module _ (clients : is_clients op.kind ≡ true) where
        -- it is open
        first_recalled : IsRemembered this.setting this.w this.ground.lives p spot cell op
        first_recalled = this.ground.recalled top cell left.link p own op (prefix_itself top) left.linked left.both
            (chosen_last (grounded this) cell left.link left.linked) visit is clients

        timely : IsTimely this.setting.servers top cell op
        timely = recalled_timely (grounded this) this.along.steady p p cell left.link left.linked own visit op is
            clients first_recalled

        first_open : IsOpen (this.w.clients op.client) op.seq
        first_open =
            let firm = this.along.firm in
            let known = remembered this.setting this.w this.ground.lives this.ground.asking p spot cell op clients first_recalled in
            let upto = prefix_on known.known.upto _ _ known.known.applied (firm.servers p) in
            let one : known.row ≡ left.link =
            one_row this.setting top firm.plain top known.known.upto cell left.link known.row
            (prefix_itself top) upto left.linked known.linked (sym known.at) in
            open_at_place this.setting this.w firm this.ground.lives p known.inc (asked_for cell op) op.rev known.known left.link
            (subst (IsLinked this.setting known.known.upto cell) one known.linked)
            (sym known.at ∙ ap (place_by this.setting known.known.upto) one) timely.stays

        pub place : Placed this op cell
        place = placed this cell op
            (write_of (grounded this) this.along.steady p p spot cell op clients first_recalled timely)
            first_open

        at_epoch : place.row.epoch ≡ op.key.epoch
        at_epoch =
            sym (named_epoch this.setting.servers chosen (plain_now this.setting this.w this.along.firm) (disks_now this.setting this.w this.along.firm)
            place.row place.there place.block)
            ∙ ap (epoch_at chosen) (sym place.at_block) ∙ timely.epoch

        -- the entry at the disk's epoch is the write's, and at epochs below it is as before
        pub now_entry : entry_of after (counted this.setting v) cell place.row.epoch ≡ Some entry
        now_entry =
            ap (λ e. entry_of after (counted this.setting v) cell e) at_epoch ∙ now_first op.key.epoch
            ∙ entry_put (chain_in (kept this.setting this.w q).chains cell) op.key.epoch entry (this.ground.good.rising q cell)

        pub below_entry : (e : ℕ) → e < place.row.epoch → entry_of chosen (counted this.setting this.w) cell e ≡ entry_of after (counted this.setting v) cell e
        below_entry e lt =
            was_second e
            ∙ sym (entry_below (chain_in (kept this.setting this.w q).chains cell) op.key.epoch entry e (subst (λ k. e < k) at_epoch lt))
            ∙ sym (now_first e)

      -- ### A fill

      module _ (fill : is_clients op.kind ≡ false) where
        pub was_there : WasThere this.setting this.ground.records p spot cell own.pairs
        was_there = this.ground.good.came p spot cell own visit

        pub fill_frozen : IsFrozen this.setting this.w op.rev op.key op.bytes
        fill_frozen = this.ground.moves.filling p spot cell own.pairs op was_there is fill

        rev_low : op.rev ≤ length top
        rev_low = let le = prefix_long fill_frozen.prefix top fill_frozen.lies in let long = fill_frozen.long in omega arith

        pub fill_comes : stage_at chosen cell ≤ 3 → stage_at chosen cell ≡ 1
        fill_comes = this.ground.moves.coming p spot cell own.pairs op left.link was_there is fill left.linked refl rev_low

    -- the copies are equal, or the first one is a put ahead, of an operation that was pending at the place
    pub record IsPutAhead : Type 0 where
      pub own : PairState
      pub visit : this.ground.good.visits p spot cell ≡ Some own
      pub op : Pending
      pub is : at cell_cmp own.pairs.pending cell ≡ Some op
      pub ahead : chain_in (kept this.setting this.w p).chains cell ≡ one_put_ahead (chain_in (kept this.setting this.w q).chains cell) op
      pub low : far (pair_at (chosen_store (grounded this)) this.ground.good.visits spot cell p q) ≤ op.op + op.op

    alive_now : AliveIn chosen cell → AreTwins (chosen_store (grounded this)) this.ground.good.visits spot cell p q
    alive_now alive = chosen_twins (grounded this) cell left.link left.linked left.both alive

    two_copies : AliveIn chosen cell → (chain_in (kept this.setting this.w p).chains cell ≡ chain_in (kept this.setting this.w q).chains cell) ⊎ IsPutAhead
    two_copies alive =
        let twins = alive_now alive in
        let one = this.ground.good.visits p spot cell in
        let other = this.ground.good.visits q spot cell in
        let a = chosen_store (grounded this) p in
        let b = chosen_store (grounded this) q in
        let first : chain_in (half one a).store.chains cell ≡ chain_in (kept this.setting this.w p).chains cell =
        ap (λ (s : Store). chain_in s.chains cell) (half_store one a ∙ this.ground.good.now p) in
        let second : chain_in (half other b).store.chains cell ≡ chain_in (kept this.setting this.w q).chains cell =
        ap (λ (s : Store). chain_in s.chains cell) (half_store other b ∙ this.ground.good.now q) in
        elim (copied_low (pair_of (half one a) (half other b) cell) twins.pair) [
          | inl same ↦ inl (sym first ∙ same ∙ second)
          | inr h ↦ (
              let t = op_there one a cell h.op h.is in
              inr (record {
                own = t.0;
                visit = t.1;
                op = h.op;
                is = t.2;
                ahead = sym first ∙ h.ahead ∙ ap (λ c. one_put_ahead c h.op) second;
                low = h.low;
              }))
        ]

    -- of a fill that is put ahead the second server has nothing of its epoch
    fill_lacks : (alive : AliveIn chosen cell) (a : IsPutAhead) → is_clients a.op.kind ≡ false
        → at nat_cmp (chain_in (kept this.setting this.w q).chains cell) a.op.key.epoch ≡ None
    fill_lacks alive a fill =
        ap (λ (s : Store). at nat_cmp (chain_in s.chains cell) a.op.key.epoch) (sym (this.ground.good.now q))
        ∙ (alive_now alive).lacks a.own a.op a.visit a.is fill a.low

  -- ### What becomes of the entries

  -- by how a cell goes on: its entries stay, or nothing counts any more; or the first server is a put ahead, of a client's write or of a fill
  pub data Turns (cell : Cell) : Type 0 where
    Is_same : is_some (authority chosen cell) ≡ true
        → ((e : ℕ) → entry_of chosen (counted this.setting this.w) cell e ≡ entry_of after (counted this.setting v) cell e)
        → Turns cell
    Is_gone : authority after cell ≡ None → Turns cell
    Is_written : (left : IsLeftToFirst cell) (a : IsPutAhead cell left) → is_clients a.op.kind ≡ true → Turns cell
    Is_filled : (left : IsLeftToFirst cell) (a : IsPutAhead cell left) → is_clients a.op.kind ≡ false
        → at nat_cmp (chain_in (kept this.setting this.w left.link.secondary).chains cell) a.op.key.epoch ≡ None → Turns cell

  pub turns : (cell : Cell) → 1 ≤ stage_at chosen cell → stage_at after cell ≤ 3 → Turns cell
  turns cell low high =
      let up = this.grown.stages cell in
      by (moves cell low high) (omega arith)
    where
      by_left : (left : IsLeftToFirst cell) (alive : AliveIn chosen cell)
          → (chain_in (kept this.setting this.w left.link.primary).chains cell ≡ chain_in (kept this.setting this.w left.link.secondary).chains cell)
          ⊎ IsPutAhead cell left → Turns cell
      by_left left alive (inl same) = Is_same (ap is_some left.was) (λ e.
          ap (entry_by (counted this.setting this.w) cell e) left.was ∙ ap (λ c. entry_at c e) (sym same)
          ∙ same_held cell left.link.primary left.same e ∙ ap (entry_by (counted this.setting v) cell e) (sym left.now))
      by_left left alive (inr a) = by_bool (is_clients a.op.kind) (λ clients. Is_written left a clients)
          (λ fill. Is_filled left a fill (fill_lacks cell left alive a fill))

      by : Moves cell → AliveIn chosen cell → Turns cell
      by (Stays_there a was now same) alive = Is_same (ap is_some was) (λ e.
          ap (entry_by (counted this.setting this.w) cell e) was ∙ same_held cell a same e ∙ ap (entry_by (counted this.setting v) cell e) (sym now))
      by (Is_left left) alive = by_left left alive (two_copies cell left alive)
      by (Is_handed_on on) alive = Is_same (ap is_some on.was) (λ e.
          ap (entry_by (counted this.setting this.w) cell e) on.was ∙ ap (λ c. entry_at c e) on.equal
          ∙ ap (entry_by (counted this.setting v) cell e) (sym on.now))
      by (Is_lost lost) alive = Is_gone lost

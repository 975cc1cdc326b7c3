-- The chosen log grows by an entry that no server has applied: what was kept at the fronts so far is kept at the new one. Where the
-- entry touches a link, no server has been at the link's new place. Where it is a Join of a server with an empty store, that store is the
-- server's from the new prefix on.
use Rattle.law_copies.proofs.Imports.{[], ◌==◌, ◌∙◌, ◌∷◌, ◌≡◌, ◌≢◌, ◌≤◌, ◌⊎◌, Body, Bool, Both, ByBoth, ByNone, ByOne, By_caught, By_join, By_leave, Cell}
use Rattle.law_copies.proofs.Imports.{Command, IsCaughtBy, IsPrefix, IsRising, Join, Leave, LinkId, LinkRow, List, None, Only, PairState, Some, Store}
use Rattle.law_copies.proofs.Imports.{WasStarted, after, alone_not_both, ap, arith, at-empty, blank_joins_in, by_bool, cell_cmp, cell_link, chain_in, false}
use Rattle.law_copies.proofs.Imports.{has_mark, has_server, id_of, inl, inr, is_between, is_flagged, is_in, is_marked, joins_blank, left_not_both, left_row}
use Rattle.law_copies.proofs.Imports.{left_state, length, length-append, log_steady, log_touched, mark_on, may_join, nat_cmp, needs_full_copy, none_some}
use Rattle.law_copies.proofs.Imports.{one_before, other_of, prefix_itself, prefix_long, prefix_more, prefix_on, primary_is_one, refl, row_blanked, row_joined}
use Rattle.law_copies.proofs.Imports.{row_left, same_some, secondary_is_one, server_state, serves, slice_get, stage_at, state_after, stays_row, subject_of}
use Rattle.law_copies.proofs.Imports.{subst, sym, touches, true, true_false, with_store, ℕ}
use Rattle.law_copies.specs.CopyProgress.{AreCopying, IsCovered, IsPage, Is_equal, links_of}
use Rattle.law_copies.specs.GoodCopies.{AloneOk, AreBeside, AreTwins, BothOk, Good, IsUnheard, SaidOk, StaysLeft, pair_at}
use Rattle.law_copies.specs.Pair.{HaveMarks, Known}
use Rattle.law_copies.specs.LoneSteps.{AreFilled, IsBare}
use Rattle.law_copies.specs.Visits.{AliveIn, AreReached, HasFilled, IsHere, IsLinked, Visits, place_by, store_by}
use Rattle.law_copies.proofs.PlacesByPrefixes.{has_filled_on, reached_on, below_at, prefix_or_all, links_up, other_later}
use Rattle.law_copies.proofs.BlankJoinsMakePlaces.{joins_at, store_at}
use Rattle.law_copies.proofs.FramesKeepPrefixes.{StaysAt, beside_stays, other_is_one, same_stays, twins_stay}
use Rattle.law_copies.proofs.ServedAtLaterPrefixes.{alone_not_lost, holder_is_one, other_than}
use Rattle.law_copies.proofs.MuteLettersTellNothing.{said_mute}
use Rattle.law_copies.proofs.NewPlaces.{both_cover, cover_again, in_common, new_alone, new_twins}
use Rattle.law_copies.proofs.BlankJoinsRenewLinks.{blanked_alone, counts_same, filled_cover, joined_not_both, joins_so, no_blank_join, no_chains}
use Rattle.law_copies.proofs.AtNext.{AtNext, next_of, IsGrownTo}
use Rattle.law_copies.proofs.NextEntry.{alive_before, born_then, by_next, prefix_stores, later_then, next_store, next_stores, no_blank, no_caught, no_leave}
use Rattle.law_copies.proofs.NextEntry.{old_stores, plain_entry, plain_top, reached_below, row_then, steady_top, still_empty, stores_so}

module _ (it : AtNext) where
  open it use {setting, records, top, entry, u, old, new, good, following, all, started, recounts}
  open next_of it use {next, here, then_state, v, stores}

  -- ### In Both

  twins_top : (cell : Cell) (row : LinkRow) → IsLinked setting top cell row → AliveIn here cell → row.state ≡ Both
      → AreTwins old good.visits (place_by setting top row) cell row.primary row.secondary
  twins_top cell row is alive both = subst (λ s. AreTwins s good.visits (place_by setting top row) cell row.primary row.secondary) (old_stores it)
      ((good.both top cell row (prefix_itself top) is both).twins alive (reached_below it cell row is))

  beside_top : (cell : Cell) (row : LinkRow) (holder : ℕ) (whole : Bool) → IsLinked setting top cell row → AliveIn here cell
      → row.state ≡ Only holder whole → AreBeside old good.visits (place_by setting top row) row cell holder (other_of holder row)
  beside_top cell row holder whole is alive alone =
      subst (λ s. AreBeside s good.visits (place_by setting top row) row cell holder (other_of holder row)) (old_stores it)
      ((good.alone top cell row holder whole (prefix_itself top) is alone).beside alive (reached_below it cell row is))

  -- the holder has the link in mind
  minded : (cell : Cell) (row : LinkRow) → IsLinked setting top cell row → AliveIn here cell → (acts : IsCaughtBy here entry row)
      → (own : PairState) × (good.visits acts.holder (place_by setting top row) cell ≡ Some own) × (is_flagged own (id_of row) ≡ true)
  minded cell row is alive acts =
      let told = started row.map row.link acts.holder acts.inc (other_of acts.holder row) acts.other_inc acts.is in
      good.started acts.holder acts.inc acts.whole top cell row (prefix_itself top) is alive acts.alone acts.holds told

  -- by its Caught, for which the holder was done: then the copies were equal
  caught_equal : (cell : Cell) (row : LinkRow) → IsLinked setting top cell row → AliveIn here cell → (acts : IsCaughtBy here entry row)
      → chain_in (new row.primary).chains cell ≡ chain_in (new row.secondary).chains cell
  caught_equal cell row is alive acts =
      let mind = minded cell row is alive acts in
      let same = no_caught it row.map row.link acts.holder acts.inc (other_of acts.holder row) acts.other_inc acts.is in
      let beside = beside_top cell row acts.holder acts.whole is alive acts.alone in
      ap (λ (s : Store). chain_in s.chains cell) (same row.primary)
      ∙ in_common (λ n. chain_in (old n).chains cell) row acts.holder (holder_is_one here (steady_top it) acts.holder cell row is acts.alone)
      (beside.alike.caught mind.0 mind.1 mind.2)
      ∙ ap (λ (s : Store). chain_in s.chains cell) (sym (same row.secondary))

  both_moved : (cell : Cell) (row now : LinkRow) → IsLinked setting top cell row → IsLinked setting next cell now → touches here entry row ≡ true
      → AliveIn here cell → now.state ≡ Both
      → chain_in (new now.primary).chains cell ≡ chain_in (new now.secondary).chains cell
  both_moved cell row now is end on alive both = elim (log_touched setting.servers top entry cell row (plain_top it) (plain_entry it) is on) [
    | By_leave left there seats ↦ left_not_both (other_of left.server row) row.state
        (sym (left_row row left.server left.one_of) ∙ ap (λ (r : LinkRow). r.state) (same_some (sym there ∙ row_then it cell now end)) ∙ both)
    | By_join joined there apart seats ↦
        joined_not_both row joined.server joined.blank apart (ap (λ (r : LinkRow). r.state) (same_some (sym there ∙ row_then it cell now end)) ∙ both)
    | By_caught acts stays ↦ (
        let so = later_then it cell row now is end in
        ap (λ n. chain_in (new n).chains cell) so.primary ∙ caught_equal cell row is alive acts ∙ ap (λ n. chain_in (new n).chains cell) (sym so.secondary))
  ]

  both_on : (f : List Command) (cell : Cell) (row : LinkRow) → IsPrefix f top → BothOk setting top good.stores good.visits good.reached f cell row
      → BothOk setting next stores good.visits good.reached f cell row
  both_on f cell row is_prefix b = record {
    twins = λ alive last. subst (λ s. AreTwins s good.visits (place_by setting f row) cell row.primary row.secondary) (prefix_stores it f is_prefix)
        (b.twins (alive_before it cell alive) last);
  }

  -- at a place that stays each server of the link has the store that it had
  same_store : (cell : Cell) (now : LinkRow) (n : ℕ) → IsLinked setting top cell now → IsLinked setting next cell now
      → place_by setting next now ≡ place_by setting top now → has_server n now ≡ true → store_by setting stores next n ≡ store_by setting stores top n
  same_store cell now n is end same has = store_at setting next all stores next top cell now now n (prefix_itself next)
      (prefix_more top entry) end is has has same

  same_here : (cell : Cell) (now : LinkRow) (n : ℕ) → IsLinked setting top cell now → IsLinked setting next cell now
      → place_by setting next now ≡ place_by setting top now → has_server n now ≡ true
      → StaysAt (store_by setting stores top) (store_by setting stores next) good.visits good.visits (place_by setting top now) cell n
  same_here cell now n is end same has =
      same_stays (store_by setting stores top) (store_by setting stores next) good.visits (place_by setting top now) cell n
      (same_store cell now n is end same has)

  -- two equal copies, of which nobody has anything in memory
  made_twins : (cell : Cell) (now : LinkRow) → ((k : ℕ) → good.visits k (place_by setting next now) cell ≡ None)
      → (AliveIn here cell → chain_in (new now.primary).chains cell ≡ chain_in (new now.secondary).chains cell)
      → BothOk setting next stores good.visits good.reached next cell now
  made_twins cell now unseen same = record {
    twins = λ alive last. subst (λ s. AreTwins s good.visits (place_by setting next now) cell now.primary now.secondary) (next_stores it)
        (new_twins new good.visits (place_by setting next now) cell now.primary now.secondary unseen (same (alive_before it cell alive)));
  }

  both_next : (cell : Cell) (now : LinkRow) → IsLinked setting next cell now → now.state ≡ Both
      → BothOk setting next stores good.visits good.reached next cell now
  both_next cell now end both = by_next it cell now end
      (λ is same. record {
        twins = λ alive last. subst (λ place. AreTwins (store_by setting stores next) good.visits place cell now.primary now.secondary) (sym same)
            (twins_stay (store_by setting stores top) (store_by setting stores next) good.visits good.visits (place_by setting top now) cell
            now.primary now.secondary
            (same_here cell now now.primary is end same (primary_is_one now now.primary refl))
            (same_here cell now now.secondary is end same (secondary_is_one now now.secondary refl))
            ((both_on top cell now (prefix_itself top) (good.both top cell now (prefix_itself top) is both)).twins alive
            (subst (λ place. good.reached cell ≤ place) same last)));
      })
      (λ row is on unseen. made_twins cell now unseen (λ alive. both_moved cell row now is end on alive both))
      (λ none unseen. made_twins cell now unseen (λ alive. still_empty it cell none now.primary now.secondary))

  -- ### Alone

  -- what the other server has, where all is to be copied to it
  filled_on : (f : List Command) (cell : Cell) (holder other : ℕ) → HasFilled setting top good.visits f cell holder other
      → HasFilled setting next good.visits f cell holder other
  filled_on f cell holder other h = has_filled_on h (prefix_on h.more top next h.within (prefix_more top entry)) refl h.own h.visited

  -- after as many of its Joins with an empty store
  filled_next : (cell : Cell) (holder other : ℕ) → blank_joins_in setting next other ≡ blank_joins_in setting top other
      → HasFilled setting top good.visits top cell holder other → HasFilled setting next good.visits next cell holder other
  filled_next cell holder other same h = has_filled_on h (prefix_on h.more top next h.within (prefix_more top entry)) (sym same) h.own h.visited

  abbrev IsUnfilled : Cell → LinkRow → ℕ → Type 0
  IsUnfilled cell now holder =
      (chain_in (new (other_of holder now)).chains cell ≡ []) ⊎ HasFilled setting next good.visits next cell holder (other_of holder now)

  -- the copies at the new place of a link that one server holds alone then
  record MovesAlone (cell : Cell) (now : LinkRow) (holder : ℕ) (whole : Bool) : Type 0 where
    covered : IsCovered now cell (new holder) (new (other_of holder now)) None
    unfilled : whole ≡ true → IsUnfilled cell now holder

  cover_same : (now : LinkRow) (cell : Cell) (n m : ℕ) → ((k : ℕ) → new k ≡ old k) → IsCovered now cell (old n) (old m) None
      → IsCovered now cell (new n) (new m) None
  cover_same now cell n m same covered =
      subst (λ a. IsCovered now cell a (new m) None) (sym (same n)) (subst (λ b. IsCovered now cell (old n) b None) (sym (same m)) covered)

  -- one that it held alone before, and holds so still
  still_alone : (cell : Cell) (row now : LinkRow) (holder : ℕ) (whole : Bool) → IsLinked setting top cell row → IsLinked setting next cell now
      → AliveIn here cell → row.state ≡ Only holder whole → now.state ≡ Only holder whole → ((k : ℕ) → new k ≡ old k)
      → joins_blank here entry (other_of holder row) ≡ false → MovesAlone cell now holder whole
  still_alone cell row now holder whole is end alive alone still same off =
      let other = other_of holder row in
      let beside = beside_top cell row holder whole is alive alone in
      let later = sym (other_later row now holder (later_then it cell row now is end)) in
      record {
        covered = cover_same now cell holder (other_of holder now) same (subst (λ m. IsCovered now cell (old holder) (old m) None) later
            (cover_again row now cell (old holder) (old other) (good.visits holder (place_by setting top row) cell)
            (λ all. ap needs_full_copy (still ∙ sym alone) ∙ all) beside.alike.covered));
        unfilled = λ all_of. subst (λ m. (chain_in (new m).chains cell ≡ []) ⊎ HasFilled setting next good.visits next cell holder m) later
            (elim ((good.alone top cell row holder whole (prefix_itself top) is alone).unfilled alive (ap needs_full_copy alone ∙ all_of)) [
              | inl empty ↦ inl (ap (λ (s : Store). chain_in s.chains cell) (recounts.same other off ∙ sym (good.now other)) ∙ empty)
              | inr h ↦ inr (filled_next cell holder other (counts_same setting top entry other off) h)
            ]);
      }

  -- one of its two servers has left
  left_moved : (cell : Cell) (row now : LinkRow) (holder server inc : ℕ) (whole : Bool) → IsLinked setting top cell row → IsLinked setting next cell now
      → AliveIn here cell → entry ≡ Leave server inc → has_server server row ≡ true → row_left server row ≡ now → now.state ≡ Only holder whole
      → MovesAlone cell now holder whole
  left_moved cell row now holder server inc whole is end alive entry_is has same alone = elim ((steady_top it).linked cell row is).served [
    | ByBoth so one other ↦ (
        let later = later_then it cell row now is end in
        let has_holder : has_server holder row ≡ true = sym (one_before row now holder later)
        ∙ holder_is_one then_state (log_steady setting.servers next all) holder cell now end alone in
        record {
          covered = cover_same now cell holder (other_of holder now) (no_leave it server inc entry_is)
              (subst (λ m. IsCovered now cell (old holder) (old m) None) (sym (other_later row now holder later))
              (both_cover old good.visits (place_by setting top row) row now cell (twins_top cell row is alive so) holder has_holder));
          unfilled = λ all_of. true_false all_of
              (sym (ap needs_full_copy alone) ∙ ap (λ (r : LinkRow). needs_full_copy r.state) (sym same) ∙ ap needs_full_copy (left_row row server has)
              ∙ ap (λ x. needs_full_copy (left_state (other_of server row) x)) so);
        })
    | ByOne h other kept so pair out ↦
        still_alone cell row now holder whole is end alive (ap (λ (r : LinkRow). r.state) (sym (stays_row row server h has so) ∙ same) ∙ alone) alone
        (no_leave it server inc entry_is)
        (no_blank_join here entry (λ s i e. let f : Leave server inc ≡ Join s i true = sym entry_is ∙ e in absurd cc) (other_of holder row))
    | ByNone one other so pair out ↦ alone_not_lost now holder alone
        (ap (λ (r : LinkRow). r.state) (sym same) ∙ left_row row server has ∙ ap (left_state (other_of server row)) so)
  ]

  -- one of them has joined with nothing: the other one holds the link, and is to copy all
  blank_other : (cell : Cell) (row now : LinkRow) (holder server : ℕ) (whole : Bool) → IsLinked setting top cell row → IsLinked setting next cell now
      → has_server server row ≡ true → row_blanked server row ≡ now → row.state ≢ Both → now.state ≡ Only holder whole → other_of holder now ≡ server
  blank_other cell row now holder server whole is end has same apart alone =
      let kept = blanked_alone row server holder whole has apart (ap (λ (r : LinkRow). r.state) same ∙ alone) in
      let later = later_then it cell row now is end in
      let its = sym (one_before row now holder later)
      ∙ holder_is_one (state_after setting.servers next) (log_steady setting.servers next all) holder cell now end alone in
      other_later row now holder later ∙ other_than holder server row its has kept.0

  blank_cover : (cell : Cell) (row now : LinkRow) (holder server : ℕ) (whole : Bool) → IsLinked setting top cell row → IsLinked setting next cell now
      → has_server server row ≡ true → row_blanked server row ≡ now → row.state ≢ Both → joins_blank here entry server ≡ true → now.state ≡ Only holder whole
      → IsCovered now cell (new holder) (new (other_of holder now)) None
  blank_cover cell row now holder server whole is end has same apart on alone =
      let kept = blanked_alone row server holder whole has apart (ap (λ (r : LinkRow). r.state) same ∙ alone) in
      subst (λ m. IsCovered now cell (new holder) (new m) None) (sym (blank_other cell row now holder server whole is end has same apart alone))
      (filled_cover now cell (new holder) (new server) (ap needs_full_copy alone ∙ kept.1) (no_chains (new server) cell (recounts.renewed server on).chains))

  alone_moved : (cell : Cell) (row now : LinkRow) (holder : ℕ) (whole : Bool) → IsLinked setting top cell row → IsLinked setting next cell now
      → touches here entry row ≡ true → AliveIn here cell → now.state ≡ Only holder whole → MovesAlone cell now holder whole
  alone_moved cell row now holder whole is end on alive alone = elim (log_touched setting.servers top entry cell row (plain_top it) (plain_entry it) is on) [
    | By_leave left there seats ↦ left_moved cell row now holder left.server left.inc whole is end alive left.is left.one_of
        (same_some (sym there ∙ row_then it cell now end)) alone
    | By_join joined there apart seats ↦ joins joined.server joined.inc joined.blank joined.is joined.may joined.one_of there apart
    | By_caught acts stays ↦ alone_not_both now holder alone (ap (λ (r : LinkRow). r.state) (same_some (sym (row_then it cell now end) ∙ stays.same)))
  ]
    where
      joins : (server inc : ℕ) (blank : Bool) → entry ≡ Join server inc blank → may_join (slice_get here.view.members server) inc ≡ true
          → has_server server row ≡ true → cell_link (after here entry) cell ≡ Some (row_joined server blank row) → row.state ≢ Both
          → MovesAlone cell now holder whole
      joins server inc false e may has there apart =
          still_alone cell row now holder whole is end alive (ap (λ (r : LinkRow). r.state) (same_some (sym there ∙ row_then it cell now end)) ∙ alone) alone
          (no_blank it server inc e)
          (no_blank_join here entry (λ s i f. let g : Join server inc false ≡ Join s i true = sym e ∙ f in absurd cc) (other_of holder row))
      joins server inc true e may has there apart =
          let same = same_some (sym there ∙ row_then it cell now end) in
          let on = ap (λ (c : Command). joins_blank here c server) e ∙ joins_so here server inc may in
          let other = blank_other cell row now holder server whole is end has same apart alone in
          record {
            covered = blank_cover cell row now holder server whole is end has same apart on alone;
            unfilled = λ all_of. inl (ap (λ n. chain_in (new n).chains cell) other ∙ no_chains (new server) cell (recounts.renewed server on).chains);
          }

  alone_on : (f : List Command) (cell : Cell) (row : LinkRow) (holder : ℕ) → IsPrefix f top
      → AloneOk setting top good.stores good.visits good.reached f cell row holder
      → AloneOk setting next stores good.visits good.reached f cell row holder
  alone_on f cell row holder is_prefix a =
      let other = other_of holder row in
      record {
        copying = a.copying;
        beside = λ alive last. subst (λ s. AreBeside s good.visits (place_by setting f row) row cell holder other) (prefix_stores it f is_prefix)
            (a.beside (alive_before it cell alive) last);
        stays = λ alive own visit beyond. subst (λ (s : ℕ → Store). StaysLeft row cell own (s holder)) (prefix_stores it f is_prefix)
            (a.stays (alive_before it cell alive) own visit beyond);
        unfilled = λ alive all_of. elim (a.unfilled (alive_before it cell alive) all_of) [
          | inl empty ↦ inl (subst (λ (s : ℕ → Store). chain_in (s other).chains cell ≡ []) (prefix_stores it f is_prefix) empty)
          | inr h ↦ inr (filled_on f cell holder other h)
        ];
      }

  same_alone : (cell : Cell) (now : LinkRow) (holder : ℕ) (whole : Bool) → IsLinked setting top cell now → IsLinked setting next cell now
      → now.state ≡ Only holder whole
      → place_by setting next now ≡ place_by setting top now → AloneOk setting next stores good.visits good.reached top cell now holder
      → AloneOk setting next stores good.visits good.reached next cell now holder
  same_alone cell now holder whole is end alone same a =
      let other = other_of holder now in
      let has = holder_is_one here (steady_top it) holder cell now is alone in
      let one = same_store cell now holder is end same has in
      let two = same_store cell now other is end same (other_is_one now holder) in
      record {
        copying = subst (λ many. AreCopying many now cell (good.visits holder (place_by setting next now) cell)
            (good.visits other (place_by setting next now) cell))
            (sym (links_up setting next all top next cell now (prefix_more top entry) (prefix_itself next) is))
            (subst (λ place. AreCopying (links_of here cell.map) now cell (good.visits holder place cell) (good.visits other place cell)) (sym same) a.copying);
        beside = λ alive last. subst (λ place. AreBeside (store_by setting stores next) good.visits place now cell holder other) (sym same)
            (beside_stays (store_by setting stores top) (store_by setting stores next) good.visits good.visits (place_by setting top now) cell holder other
            (same_here cell now holder is end same has) (same_here cell now other is end same (other_is_one now holder)) now
            (a.beside alive (subst (λ place. good.reached cell ≤ place) same last)));
        stays = λ alive own visit beyond. subst (λ s. StaysLeft now cell own s) (sym one)
            (a.stays alive own (ap (λ p. good.visits holder p cell) (sym same) ∙ visit) (λ p lt. beyond p (let e = same in omega arith)));
        unfilled = λ alive all_of. elim (a.unfilled alive all_of) [
          | inl empty ↦ inl (ap (λ (s : Store). chain_in s.chains cell) two ∙ empty)
          | inr h ↦ inr (has_filled_on h h.within
              (sym (joins_at setting next all next top cell now now other (prefix_itself next) (prefix_more top entry) end is (other_is_one now holder)
              (other_is_one now holder) same)) h.own h.visited)
        ];
      }

  made_alone : (cell : Cell) (now : LinkRow) (holder : ℕ) → ((k : ℕ) → good.visits k (place_by setting next now) cell ≡ None)
      → (AliveIn here cell → IsCovered now cell (new holder) (new (other_of holder now)) None)
      → (AliveIn here cell → needs_full_copy now.state ≡ true → IsUnfilled cell now holder)
      → AloneOk setting next stores good.visits good.reached next cell now holder
  made_alone cell now holder unseen covered unfilled =
      let other = other_of holder now in
      new_alone setting next stores good.visits good.reached next cell now holder unseen
      (λ alive. subst (λ (s : ℕ → Store). IsCovered now cell (s holder) (s other) None) (next_stores it) (covered (alive_before it cell alive)))
      (λ alive. subst (λ (s : ℕ → Store). needs_full_copy now.state ≡ true → (chain_in (s other).chains cell ≡ [])
      ⊎ HasFilled setting next good.visits next cell holder other)
      (next_stores it) (unfilled (alive_before it cell alive)))

  alone_next : (cell : Cell) (now : LinkRow) (holder : ℕ) (whole : Bool) → IsLinked setting next cell now → now.state ≡ Only holder whole
      → AloneOk setting next stores good.visits good.reached next cell now holder
  alone_next cell now holder whole end alone = by_next it cell now end
      (λ is same. same_alone cell now holder whole is end alone same
      (alone_on top cell now holder (prefix_itself top) (good.alone top cell now holder whole (prefix_itself top) is alone)))
      (λ row is on unseen. made_alone cell now holder unseen (λ alive. (alone_moved cell row now holder whole is end on alive alone).covered)
      (λ alive all_of. (alone_moved cell row now holder whole is end on alive alone).unfilled (sym (ap needs_full_copy alone) ∙ all_of)))
      (λ none unseen. made_alone cell now holder unseen (λ alive. Is_equal (still_empty it cell none holder (other_of holder now)))
      (λ alive all_of. inl (born_then it cell none (other_of holder now))))

  -- ### All of it

  -- what is so of each prefix so far, and of the new one
  at_prefixes : (P : List Command → Type 0) → ((prefix : List Command) → IsPrefix prefix top → P prefix) → P next
      → (prefix : List Command) → IsPrefix prefix next
      → P prefix
  at_prefixes P before last prefix is_prefix = elim (prefix_or_all prefix top entry is_prefix) [
    | inl p ↦ before prefix p
    | inr same ↦ subst P (sym same) last
  ]

  -- a prefix as long as some revision so far is one so far
  by_length : {B : Type 0} (prefix : List Command) → IsPrefix prefix next → length prefix ≤ length top → (IsPrefix prefix top → B) → B
  by_length prefix is_prefix le so = elim (prefix_or_all prefix top entry is_prefix) [
    | inl p ↦ so p
    | inr same ↦ absurd (omega (arith, ap length same, length-append top (entry ∷ [])))
  ]

  below_next : (cell : Cell) (now : LinkRow) (n : ℕ) (own : PairState) → IsLinked setting next cell now → serves n now now.state ≡ true
      → good.visits n (place_by setting next now) cell ≡ Some own → place_by setting next now ≤ good.reached cell
  below_next cell now n own end serving visited = by_next it cell now end
      (λ is same. subst (λ place. place ≤ good.reached cell) (sym same)
      (good.reaching.below top cell now n own (prefix_itself top) is serving (subst (λ place. good.visits n place cell ≡ Some own) same visited)))
      (λ row is on unseen. none_some (unseen n) visited)
      (λ none unseen. none_some (unseen n) visited)

  reaching_next : AreReached setting next good.visits good.reached
  reaching_next = record {
    below = λ prefix cell row n own is_prefix.
        at_prefixes (λ f. IsLinked setting f cell row → serves n row row.state ≡ true → good.visits n (place_by setting f row) cell ≡ Some own
        → place_by setting f row ≤ good.reached cell)
        (λ f p. good.reaching.below f cell row n own p) (below_next cell row n own) prefix is_prefix;
    by = λ cell. elim (good.reaching.by cell) [
      | inl none ↦ inl none
      | inr r ↦ inr (reached_on r (prefix_on r.prefix top next r.is_prefix (prefix_more top entry)) r.own r.visited)
    ];
  }

  -- a cell that is not live yet then was not before
  unborn_before : (cell : Cell) → stage_at then_state cell ≡ 0 → stage_at here cell ≡ 0
  unborn_before cell none = let le = (below_at setting next all top next (prefix_more top entry) (prefix_itself next)).stages cell in omega arith

  said_on : (f : List Command) (said : Body) (cell : Cell) (row : LinkRow) → IsPrefix f top
      → SaidOk setting top good.stores good.visits good.reached f said cell row
      → SaidOk setting next stores good.visits good.reached f said cell row
  said_on f said cell row is_prefix s =
      let place = place_by setting f row in
      record {
        both = λ alive both last of. subst (λ t. Known (pair_at t good.visits place cell row.primary row.secondary) said) (prefix_stores it f is_prefix)
            (s.both (alive_before it cell alive) both last of);
        alone = s.alone;
        page = λ alive holder whole after block alone told last.
            subst (λ (t : ℕ → Store). IsPage cell (t (other_of holder row)) (good.visits (other_of holder row) place cell) after block)
            (prefix_stores it f is_prefix)
            (s.page (alive_before it cell alive) holder whole after block alone told last);
        met = s.met;
      }

  -- no server was past the entry at a world on the way
  not_started : {B : Type 0} (holder inc : ℕ) (id : LinkId) → WasStarted setting records holder inc next id → B
  not_started holder inc id was =
      let le = prefix_long _ top (following.ever was.before was.later was.is holder) in
      absurd (omega (arith, ap length was.at, length-append top (entry ∷ [])))

  here_next : (n : ℕ) (cell : Cell) (row : LinkRow) → IsLinked setting (u.servers n).log.applied cell row
      → is_in (server_state setting u n) n (u.servers n).life.inc ≡ true → AliveIn (server_state setting u n) cell → IsHere setting v good.visits n cell row
  here_next n cell row is seat alive =
      let h = good.here n cell row is seat alive in
      by_bool (joins_blank here entry n)
      (λ on. true_false seat (recounts.renewed n on).out)
      (λ off. record { own = h.own; is = h.is; same = h.same ∙ ap (λ (s : Store). (with_store (u.servers n) s).own) (sym (recounts.same n off)) })

  rising_next : (n : ℕ) (cell : Cell) → IsRising nat_cmp (chain_in (new n).chains cell)
  rising_next n cell = by_bool (joins_blank here entry n)
      (λ on. subst (IsRising nat_cmp) (sym (no_chains (new n) cell (recounts.renewed n on).chains)) tt)
      (λ off. subst (λ (s : Store). IsRising nat_cmp (chain_in s.chains cell)) (sym (recounts.same n off)) (good.rising n cell))

  unheard_next : (n : ℕ) (cell : Cell) → stage_at (server_state setting u n) cell ≡ 0 → IsUnheard (server_state setting u n) (v.servers n).own cell
  unheard_next n cell none =
      let h = good.unheard n cell none in
      let bare : IsBare (v.servers n).own cell = by_bool (joins_blank here entry n)
      (λ on. record {
        chain = no_chains (new n) cell (recounts.renewed n on).chains;
        marks = λ kind. ap (has_mark (mark_on kind cell)) (recounts.renewed n on).marks;
      })
      (λ off. record {
        chain = ap (λ (s : Store). chain_in s.chains cell) (recounts.same n off) ∙ h.bare.chain;
        marks = λ kind. ap (λ (s : Store). is_marked s kind cell) (recounts.same n off) ∙ h.bare.marks kind;
      }) in
      record { bare = bare; last = h.last; pages = h.pages }

  pub grow_one : Good setting records next v
  grow_one = record {
    visits = good.visits;
    reached = good.reached;
    reaching = reaching_next;
    stores = stores;
    now = next_store it;
    here = here_next;
    been = λ n place cell own visit. let b = good.been n place cell own visit in record { prefix = b.prefix; within = b.within; placed = b.placed };
    came = good.came;
    born = λ cell none. born_then it cell (unborn_before cell none);
    unheard = unheard_next;
    rising = rising_next;
    ever = λ n joins cell. by_bool (joins == blank_joins_in setting next n)
        (λ t. subst (λ (s : Store). IsRising nat_cmp (chain_in s.chains cell)) (sym (stores_so it n joins true t)) (rising_next n cell))
        (λ f. subst (λ (s : Store). IsRising nat_cmp (chain_in s.chains cell)) (sym (stores_so it n joins false f)) (good.ever n joins cell));
    counts = good.counts;
    filled = λ n. by_bool (joins_blank here entry n)
        (λ on. subst AreFilled (sym (recounts.renewed n on).chains) (λ cell there. none_some (at-empty cell_cmp cell) there))
        (λ off. subst (λ (s : Store). AreFilled s.chains) (sym (recounts.same n off)) (good.filled n));
    marks = λ n when. by_bool (joins_blank here entry n)
        (λ on. (recounts.renewed n on).rested when)
        (λ off. subst (HaveMarks (server_state setting u n) (u.servers n).own.pairs.pending) (sym (recounts.same n off)) (good.marks n when));
    both = λ prefix cell row is_prefix. at_prefixes (λ f. IsLinked setting f cell row → row.state ≡ Both
        → BothOk setting next stores good.visits good.reached f cell row)
        (λ f p is both. both_on f cell row p (good.both f cell row p is both)) (both_next cell row) prefix is_prefix;
    alone = λ prefix cell row holder whole is_prefix.
        at_prefixes (λ f. IsLinked setting f cell row → row.state ≡ Only holder whole → AloneOk setting next stores good.visits good.reached f cell row holder)
        (λ f p is alone. alone_on f cell row holder p (good.alone f cell row holder whole p is alone)) (alone_next cell row holder whole) prefix is_prefix;
    revs = λ letter sent between. let le = good.revs letter sent between in omega (arith, length-append top (entry ∷ []));
    letters = λ letter sent prefix cell row is_prefix long is alive. by_bool (is_between (subject_of letter.body))
        (λ between. let le = good.revs letter sent between in
        by_length prefix is_prefix (omega arith) (λ p. said_on prefix letter.body cell row p (good.letters letter sent prefix cell row p long is alive)))
        (λ mute. said_mute setting next stores good.visits good.reached prefix letter.body cell row mute);
    lives = λ letter sent between prefix is_prefix long cell of.
        let le = good.revs letter sent between in
        by_length prefix is_prefix (omega arith) (λ p. good.lives letter sent between prefix p long cell of);
    copied = good.copied;
    pages = λ letter sent prefix is_prefix long of link block after said.
        let le = good.revs letter sent (ap (λ (b : Body). is_between (subject_of b)) said) in
        by_length prefix is_prefix (omega arith) (λ p. good.pages letter sent prefix p long of link block after said);
    started = λ holder inc whole prefix cell row is_prefix.
        at_prefixes (λ f. IsLinked setting f cell row → AliveIn (state_after setting.servers f) cell → row.state ≡ Only holder whole → is_in
        (state_after setting.servers f) holder inc ≡ true
        → WasStarted setting records holder inc f (id_of row)
        → (own : PairState) × (good.visits holder (place_by setting f row) cell ≡ Some own) × (is_flagged own (id_of row) ≡ true))
        (λ f p. good.started holder inc whole f cell row p) (λ is alive alone seat was. not_started holder inc (id_of row) was) prefix is_prefix;
  }

  pub grown_one : (visits : Visits) (reached : Cell → ℕ) → ((n place : ℕ) (cell : Cell) → good.visits n place cell ≡ visits n place cell)
      → ((cell : Cell) → good.reached cell ≡ reached cell) → IsGrownTo setting records v visits reached next
  unfolding grow_one
  grown_one visits reached same counts = record { good = grow_one; visits_are = same; reached_is = counts }

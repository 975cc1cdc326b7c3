-- What the lead of a link of an old map does so that its entries move is one of the kinds that the relation names.
use Rattle.law_steps.proofs.Imports.{◌==◌, ◌≡◌, Body, Cell, In, JobContext, JobResult, Key, LinkRow, List, None, Option, PairState, Post, Some, State, Stored}
use Rattle.law_steps.proofs.Imports.{among_at, at, both_true, by_test, cell_link, cell_of, chain_in, fill_left, fill_of, fills_row, found_at, hears_fill_full}
use Rattle.law_steps.proofs.Imports.{hears_filled, inl, inr, is_in, is_link, is_next, key_at, lead, length, link_at, link_before, link_of, nat_cmp, next_fill}
use Rattle.law_steps.proofs.Imports.{none_some, on_fill_full, on_filled, option_and_then, post_to, refl, region_to_move, same_numbers, sends_key}
use Rattle.law_steps.proofs.Imports.{sends_moving, source, target, true, true_false, tuple_of, ℕ}
use Rattle.law_steps.specs.Did.{Did, Ignores, By_filler}
use Rattle.law_steps.specs.DidFiller.{IsNextKey, Is_filled, Is_out_of_slots, filled_to}
use Rattle.law_steps.specs.DidLead.{IsNextFill}
use Rattle.petal_msg.specs.declared.body.Body.TheVariants as body

-- what is next of a link is so in the region that the server is to move
next_of : (here : JobContext) (own : PairState) (row : LinkRow) (key : Key) → fill_of here.state here.me row own ≡ Some key
    → (region : ℕ) × (region_to_move here.state here.me row ≡ Some region) × (next_fill here.state row region own ≡ Some key)
next_of here own row key = by (region_to_move here.state here.me row) refl
  where
    by : (o : Option ℕ) → region_to_move here.state here.me row ≡ o → fill_left here.state here.me row own o ≡ Some key
        → (region : ℕ) × (region_to_move here.state here.me row ≡ Some region) × (next_fill here.state row region own ≡ Some key)
    by None e f = none_some refl f
    by (Some region) e f = (region, e, f)

-- the old link of a key is one of the state
linked_in : (state : State) (key : Key) (row : LinkRow) → link_before state key ≡ Some row → In row state.links
linked_in state key row = by (source state (cell_of key))
  where
    of_tuple : (old : Cell) (o : Option (List ℕ)) → option_and_then (λ tuple. link_at state.links old.map (link_of (length tuple) old.block)) o ≡ Some row
        → In row state.links
    of_tuple old None e = none_some refl e
    of_tuple old (Some tuple) e =
        let found = found_at (is_link old.map (link_of (length tuple) old.block)) state.links row e in among_at state.links found.0 row found.1

    by : (o : Option Cell) → option_and_then (cell_link state) o ≡ Some row → In row state.links
    by None e = none_some refl e
    by (Some old) e = of_tuple old (tuple_of state.maps old.map) e

-- what goes out of a link is its next entry
pub row_fills : (here : JobContext) (own : PairState) → is_in here.state here.me here.inc ≡ true → (row : LinkRow) → In row here.state.links → (post : Post)
    → In post (fills_row here own row) → IsNextFill here own post
unfolding In
row_fills here own seated row there post = by_key (fill_of here.state here.me row own) refl
  where
    by_lead : (key : Key) → fill_of here.state here.me row own ≡ Some key → (entry : Stored)
        → at nat_cmp (chain_in own.store.chains (cell_of key)) key.epoch ≡ Some entry → (cell : Cell) → target here.state (cell_of key) ≡ Some cell
        → (o : Option ℕ) → lead here.state cell ≡ o → In post (post_to o (body.Fill (key_at cell key.epoch) entry.bytes)) → IsNextFill here own post
    by_lead key e entry f cell g None h i = absurd i
    by_lead key e entry f cell g (Some to) h (inr none) = absurd none
    by_lead key e entry f cell g (Some to) h (inl is) =
        let n = next_of here own row key e in
        record {
          seated = seated;
          row = row;
          there = there;
          region = n.0;
          moves = n.1;
          key = key;
          next = n.2;
          entry = entry;
          stored = f;
          cell = cell;
          goes_to = g;
          to = to;
          lead_is = h;
          is = is;
        }

    by_entry : (key : Key) → fill_of here.state here.me row own ≡ Some key → (o : Option Stored)
        → at nat_cmp (chain_in own.store.chains (cell_of key)) key.epoch ≡ o → (c : Option Cell) → target here.state (cell_of key) ≡ c
        → In post (sends_moving here.state key o c) → IsNextFill here own post
    by_entry key e None f None g i = absurd i
    by_entry key e None f (Some cell) g i = absurd i
    by_entry key e (Some entry) f None g i = absurd i
    by_entry key e (Some entry) f (Some cell) g i = by_lead key e entry f cell g (lead here.state cell) refl i

    by_key : (o : Option Key) → fill_of here.state here.me row own ≡ o → In post (sends_key here.state own o) → IsNextFill here own post
    by_key None e i = absurd i
    by_key (Some key) e i =
        by_entry key e (at nat_cmp (chain_in own.store.chains (cell_of key)) key.epoch) refl (target here.state (cell_of key)) refl i

module _ (heard : Body → Type 0) (here : JobContext) (own : PairState) (seated : is_in here.state here.me here.inc ≡ true) where
  abbrev D : JobResult → Type 0
  D done = Did heard here own done

  next_key : (key : Key) (row : LinkRow) → link_before here.state key ≡ Some row → is_next (fill_of here.state here.me row own) key ≡ true
      → IsNextKey here own key row
  next_key key row is = by (fill_of here.state here.me row own) refl
    where
      by : (o : Option Key) → fill_of here.state here.me row own ≡ o → is_next o key ≡ true → IsNextKey here own key row
      by None e t = true_false t refl
      by (Some next) e t =
          let n = next_of here own row next e in
          let same = both_true (next.block == key.block) (next.epoch == key.epoch) t in
          record {
            seated = seated;
            is = is;
            region = n.0;
            moves = n.1;
            next = next;
            next_is = n.2;
            block = same_numbers next.block key.block same.0;
            epoch = same_numbers next.epoch key.epoch same.1;
          }

  -- what is heard of a key is of the old link, where there is one
  of_old_link : (key : Key) (hears : Option LinkRow → JobResult) → D (hears None)
      → ((row : LinkRow) → link_before here.state key ≡ Some row → D (hears (Some row))) → D (hears (link_before here.state key))
  of_old_link key hears none some = by (link_before here.state key) refl
    where
      by : (o : Option LinkRow) → link_before here.state key ≡ o → D (hears o)
      by None e = none
      by (Some row) e = some row e

  pub did_filled : (key : Key) → heard (body.Filled key) → D (on_filled here own key)
  unfolding on_filled
  did_filled key h = of_old_link key (hears_filled here own key) Ignores
      (λ row e. by_test D (is_next (fill_of here.state here.me row own) key) _ _
      (λ t. By_filler _ (Is_filled key row _ h (next_key key row e t) (row_fills here (filled_to own row key) seated row (linked_in here.state key row e))))
      (λ t. Ignores))

  pub did_fill_full : (key : Key) → heard (body.FillFull key) → D (on_fill_full here own key)
  unfolding on_fill_full
  did_fill_full key h = of_old_link key (hears_fill_full here own key) Ignores
      (λ row e. by_test D (is_next (fill_of here.state here.me row own) key) _ _
      (λ t. By_filler _ (Is_out_of_slots key row h (next_key key row e t))) (λ t. Ignores))

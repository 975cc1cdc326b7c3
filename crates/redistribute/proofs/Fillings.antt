-- What is sent of a link.
use Rattle.std.proofs.Common.{◌≡◌, ℕ, cond, List, [], Option, Some, None, option_map, refl, sym, ap, ◌∙◌}
use Rattle.std.specs.Prelude.{option_and_then}
use Rattle.std.specs.Ordering.{nat_cmp, is_eq}
use Rattle.std.specs.Cmp.{tied_itself}
use Rattle.global_tables.specs.declared.link.LinkRow.{LinkRow}
use Rattle.petal_base.specs.declared.cell.Cell.{Cell}
use Rattle.petal_base.specs.declared.cell.Key.{Key}
use Rattle.petal_base.specs.Cells.{cell_of, key_at}
use Rattle.petal_table.specs.Table.{at, put}
use Rattle.petal_table.proofs.Rows.{at-put}
use Rattle.spec_rules.specs.Fills.{goes_after, region_to_move, sends_key, sends_moving}
use Rattle.petal_msg.specs.declared.body.Body.TheVariants as body
use Rattle.spec_rules.specs.Server.{JobContext, PairState, post_to}
use Rattle.spec_rules.specs.State.{State, id_of, lead, link_cmp}
use Rattle.spec_rules.specs.Store.{Stored, chain_in}
use Rattle.spec_state.specs.CellState.{target}
use Rattle.pair_memory.specs.Letters.{posts_of}
use Rattle.pair_memory.proofs.ByLink.{link_cmp_total}
use Rattle.redistribute.specs.Following.{following, filled_with, posts_after}
use Rattle.redistribute.specs.Next.{left_after}
use Rattle.redistribute.specs.Sending.{destination, letter_with, with_lead}
use Rattle.redistribute.proofs.FillOf.{fill_is}

last_there : (own : PairState) (row : LinkRow) (key : Key) → at link_cmp (put link_cmp own.filled (id_of row) key) (id_of row) ≡ Some key
last_there own row key =
    at-put link_cmp_total own.filled (id_of row) key (id_of row)
    ∙ ap (λ o. cond (is_eq o) (Some key) (at link_cmp own.filled (id_of row))) (tied_itself link_cmp_total (id_of row))

-- what goes out after a key
pub after_is : (here : JobContext) (own : PairState) (row : LinkRow) (key : Key)
    → filled_with own row key (posts_after here own row key) ≡ goes_after here (following own row key) row
after_is here own row key =
    let left = left_after here.state row (region_to_move here.state here.me row) in
    ap (λ (o : Option Key). filled_with own row key (sends_key here.state own (left o own.store.chains))) (sym (last_there own row key))
    ∙ ap (λ (o : Option Key). filled_with own row key (sends_key here.state own o)) (fill_is here.state here.me row (following own row key))

abbrev bytes_in : Option Stored → Option (List ℕ)
bytes_in o = option_map (λ (x : Stored). x.bytes) o

with_lead_is : (state : State) (key : Key) (entry : Stored) (cell : Cell)
    → sends_moving state key (Some entry) (Some cell) ≡ posts_of (letter_with key (with_lead state cell) (Some entry.bytes))
with_lead_is state key entry cell =
    elim (lead state cell) as (λ o. post_to o (body.Fill (key_at cell key.epoch) entry.bytes)
    ≡ posts_of (letter_with key (option_map (λ n. (n, cell)) o) (Some entry.bytes))) [
      | None ↦ refl
      | Some n ↦ refl
    ]

none_with : (key : Key) (to : Option (ℕ × Cell)) → [] ≡ posts_of (letter_with key to None)
none_with key None = refl
none_with key (Some to) = refl

moving_is : (state : State) (key : Key) (o : Option Stored) (t : Option Cell)
    → sends_moving state key o t ≡ posts_of (letter_with key (option_and_then (with_lead state) t) (bytes_in o))
moving_is state key None t = none_with key (option_and_then (with_lead state) t)
moving_is state key (Some entry) None = refl
moving_is state key (Some entry) (Some cell) = with_lead_is state key entry cell

-- the letter of a key
pub letter_is : (state : State) (own : PairState) (key : Key) (to : Option (ℕ × Cell)) (bytes : Option (List ℕ)) → to ≡ destination state key
    → bytes ≡ bytes_in (at nat_cmp (chain_in own.store.chains (cell_of key)) key.epoch)
    → posts_of (letter_with key to bytes) ≡ sends_key state own (Some key)
letter_is state own key to bytes to_is bytes_is =
    (λ i. posts_of (letter_with key (to_is i) (bytes_is i)))
    ∙ sym (moving_is state key (at nat_cmp (chain_in own.store.chains (cell_of key)) key.epoch) (target state (cell_of key)))

-- nobody is there to whom it could go
pub no_letter : (state : State) (own : PairState) (key : Key) → None ≡ destination state key → [] ≡ sends_key state own (Some key)
no_letter state own key none = letter_is state own key None (bytes_in (at nat_cmp (chain_in own.store.chains (cell_of key)) key.epoch)) none refl

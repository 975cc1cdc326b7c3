-- Fills: how the entries of a region come from the old map to the new one ("Petal: Distributed Virtual Disks", 1996, 3.3). The lead of each
-- link of the old map goes through its blocks of the region, and of each block through its epochs from the greatest down; the new lead puts
-- an entry as it puts a write, where its chain has nothing of that epoch. So of what the new map has of a block, nothing that is older
-- comes before something newer.
use Rattle.std.specs.Prelude.{ℕ, ◌==◌, ◌&&◌, ◌||◌, not, Bool, true, false, nat_lt, List, [], ◌∷◌, map, filter, if◌then◌else◌}
use Rattle.std.specs.Prelude.{Option, Some, None, is_some, option_and_then}
use Rattle.std.specs.List.{flat_map}
use Rattle.std.specs.Ordering.{nat_cmp}
use Rattle.global_tables.specs.Region.{region_of}
use Rattle.global_tables.specs.declared.link.LinkRow.{LinkRow}
use Rattle.petal_base.specs.declared.cell.Cell.{Cell}
use Rattle.petal_base.specs.declared.cell.Key.{Key}
use Rattle.petal_base.specs.Cells.{cell_of, key_at}
use Rattle.petal_command.specs.declared.command.Command.{Command}
use Rattle.petal_command.specs.declared.command.Command.TheVariants.{Moved}
use Rattle.petal_table.specs.Table.{at, put}
use Rattle.petal_msg.specs.declared.body.Body.TheVariants as body
use Rattle.petal_msg.specs.declared.operation.Ending.TheVariants.{Written, Full}
use Rattle.petal_msg.specs.declared.operation.OpKind.TheVariants as kind
use Rattle.petal_msg.specs.declared.operation.Pending.{Pending}
use Rattle.spec_state.specs.CellState.{cell_link, noted, region_leaving, row_lead, source, target}
use Rattle.spec_state.specs.Role.{is_the}
use Rattle.spec_rules.specs.Progress.{has_proposed, with_full}
use Rattle.spec_rules.specs.Server.{PairState, JobContext, JobResult, Post, post_to, silent, says_to}
use Rattle.spec_rules.specs.State.{State, id_of, is_in, is_lead, is_on, lead, link_cmp}
use Rattle.spec_rules.specs.Store.{Chain, Stored, chain_in, free_of}
use Rattle.spec_rules.specs.Writes.{first_stage, goes_on, is_under_way, moved_as, old_lead, with_opened}

-- ### The new lead

-- an entry that moves, as its letter has it
pub record Moving : Type 0 where
  pub key : Key
  pub bytes : List ℕ

-- the operation that it opens, under the next number of this life
abbrev pub fill_operation : JobContext → ℕ → Moving → Pending
fill_operation here number moving = record {
  op = number;
  kind = kind.Fill;
  cell = cell_of moving.key;
  key = moving.key;
  version = 0;
  stage = first_stage;
  client = 0;
  seq = 0;
  rev = here.state.rev;
  bytes = moving.bytes;
}

-- the old lead is told, or that there is no slot
abbrev pub opens_fill : JobContext → PairState → Moving → (room : Bool) → JobResult
opens_fill here own moving false = says_to own (old_lead here.state (cell_of moving.key)) (moved_as moving.key Full)
opens_fill here own moving true = goes_on here (with_opened own (fill_operation here own.pairs.next moving)) (cell_of moving.key)

-- an entry whose epoch the chain has is there, once nothing is under way on its block: until then, and where this server has started a ballot
-- for the link's Caught, the letter is dropped
abbrev pub hears_fill : JobContext → PairState → Moving → (busy has back : Bool) → JobResult
hears_fill here own moving true has back = silent own
hears_fill here own moving false true back = says_to own (old_lead here.state (cell_of moving.key)) (moved_as moving.key Written)
hears_fill here own moving false false true = silent own
hears_fill here own moving false false false = opens_fill here own moving (nat_lt 0 (free_of own.store))

-- the chain has an entry of just this epoch
abbrev pub has_epoch : Chain → ℕ → Bool
has_epoch chain epoch = is_some (at nat_cmp chain epoch)

-- an entry is taken by the cell's lead
unfoldable pub on_fill : JobContext → PairState → Moving → JobResult
on_fill here own moving =
    let cell = cell_of moving.key in
    if is_lead here.state here.me cell
    then hears_fill here own moving (is_under_way own cell) (has_epoch (chain_in own.store.chains cell) moving.key.epoch) (has_proposed here.state own cell)
    else silent own

-- ### The old lead

-- the region that the server is to move of a link: it leads the link, a disk is on its way from the link's map, and the link is not noted
abbrev pub not_noted : State → LinkRow → Option ℕ → Option ℕ
not_noted state row None = None
not_noted state row (Some region) = if noted state row.map region row.link then None else Some region

abbrev pub region_to_move : State → ℕ → LinkRow → Option ℕ
region_to_move state me row = if is_the (row_lead state row) me then not_noted state row (region_leaving state row.map) else None

-- keys come by block, and of one block by falling epoch
abbrev pub comes_before : Key → Key → Bool
comes_before one other = nat_lt one.block other.block || (one.block == other.block && nat_lt other.epoch one.epoch)

-- the key comes after the last one of its region that the new map is known to have
abbrev pub comes_next : (region : ℕ) → Option Key → Key → Bool
comes_next region None key = true
comes_next region (Some last) key = not (region_of last.block == region) || comes_before last key

abbrev pub keys_of : Cell × Chain → List Key
keys_of held = map (λ row. key_at held.0 row.0) held.1

-- the keys of the link and the region that the server has
abbrev pub keys_in : State → LinkRow → (region : ℕ) → PairState → List Key
keys_in state row region own =
    flat_map keys_of (filter (λ held. is_on state row held.0 && (region_of held.0.block == region)) own.store.chains)

abbrev pub earlier : Key → Option Key → Key
earlier key None = key
earlier key (Some other) = if comes_before other key then other else key

abbrev pub first_key : List Key → Option Key
first_key [] = None
first_key (key ∷ keys) = Some (earlier key (first_key keys))

-- the next key of the link that the new map is not known to have
unfoldable pub next_fill : State → LinkRow → (region : ℕ) → PairState → Option Key
next_fill state row region own =
    first_key (filter (comes_next region (at link_cmp own.filled (id_of row))) (keys_in state row region own))

-- what is left of the link, where this server is to move it
abbrev pub fill_left : State → ℕ → LinkRow → PairState → Option ℕ → Option Key
fill_left state me row own None = None
fill_left state me row own (Some region) = next_fill state row region own

abbrev pub fill_of : State → ℕ → LinkRow → PairState → Option Key
fill_of state me row own = fill_left state me row own (region_to_move state me row)

-- the entry goes to the lead of the new map's cell
abbrev pub sends_moving : State → Key → Option Stored → Option Cell → List Post
sends_moving state key (Some entry) (Some cell) = post_to (lead state cell) (body.Fill (key_at cell key.epoch) entry.bytes)
sends_moving state key _ _ = []

abbrev pub sends_key : State → PairState → Option Key → List Post
sends_key state own None = []
sends_key state own (Some key) = sends_moving state key (at nat_cmp (chain_in own.store.chains (cell_of key)) key.epoch) (target state (cell_of key))

-- the next entry of the link
abbrev pub fills_row : JobContext → PairState → LinkRow → List Post
fills_row here own row = sends_key here.state own (fill_of here.state here.me row own)

-- at a tick the next entry of each link goes out, again where it was not answered
abbrev pub fill_posts : JobContext → PairState → List Post
fill_posts here own = flat_map (fills_row here own) here.state.links

-- the answer tells of the key that is next
abbrev pub is_next : Option Key → Key → Bool
is_next None key = false
is_next (Some next) key = next.block == key.block && (next.epoch == key.epoch)

abbrev pub with_filled : PairState → LinkRow → Key → PairState
with_filled own row key = record own { filled = put link_cmp own.filled (id_of row) key }

-- the next one goes out at once
abbrev pub goes_after : JobContext → PairState → LinkRow → JobResult
goes_after here own row = record { own = own; posts = fills_row here own row; jobs = [] }

abbrev pub hears_filled : JobContext → PairState → Key → Option LinkRow → JobResult
hears_filled here own key None = silent own
hears_filled here own key (Some row) =
    if is_next (fill_of here.state here.me row own) key
    then goes_after here (with_full (with_filled own row (record { map = row.map; block = key.block; epoch = key.epoch })) false) row
    else silent own

-- the old link of a key of the new map
abbrev pub link_before : State → Key → Option LinkRow
link_before state key = option_and_then (cell_link state) (source state (cell_of key))

unfoldable pub on_filled : JobContext → PairState → Key → JobResult
on_filled here own key = hears_filled here own key (link_before here.state key)

-- there is no slot at the new map: the entry is sent again at a tick
abbrev pub hears_fill_full : JobContext → PairState → Key → Option LinkRow → JobResult
hears_fill_full here own key None = silent own
hears_fill_full here own key (Some row) = if is_next (fill_of here.state here.me row own) key then silent (with_full own true) else silent own

unfoldable pub on_fill_full : JobContext → PairState → Key → JobResult
on_fill_full here own key = hears_fill_full here own key (link_before here.state key)

-- ### What it wants chosen

abbrev pub moved_where : LinkRow → Option ℕ → Option Key → List Command
moved_where row None key = []
moved_where row (Some region) None = Moved row.map region row.link ∷ []
moved_where row (Some region) (Some key) = []

abbrev pub moved_of : JobContext → PairState → LinkRow → List Command
moved_of here own row = moved_where row (region_to_move here.state here.me row) (fill_of here.state here.me row own)

-- the Moved of each link of which nothing is left, by map and link
abbrev pub moving : JobContext → PairState → List Command
moving here own = if is_in here.state here.me here.inc then flat_map (moved_of here own) here.state.links else []

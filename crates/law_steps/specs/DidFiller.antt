-- What the lead of a link of an old map may have done when it heard how its entries came to the new one, with what was so when it was done, by
-- its own state.
use Rattle.law_steps.specs.Imports.{Body, In, JobContext, JobResult, Key, LinkRow, PairState, Post, is_in, link_before, next_fill, region_to_move, silent}
use Rattle.law_steps.specs.Imports.{with_filled, with_full}
use Rattle.std.specs.Prelude.{[], ◌≡◌, List, Some, false, true, ℕ}
use Rattle.law_steps.specs.DidLead.{IsNextFill}
use Rattle.petal_msg.specs.declared.body.Body.TheVariants as body

-- the key, of the new map, is the next one of a link of the old map that this server is to move
pub record IsNextKey (here : JobContext) (own : PairState) (key : Key) (row : LinkRow) : Type 0 where
  pub seated : is_in here.state here.me here.inc ≡ true
  pub is : link_before here.state key ≡ Some row
  pub region : ℕ
  pub moves : region_to_move here.state here.me row ≡ Some region
  pub next : Key
  pub next_is : next_fill here.state row region own ≡ Some next
  pub block : next.block ≡ key.block
  pub epoch : next.epoch ≡ key.epoch

-- that the new map has the key is remembered, and the link's move is not out of slots
abbrev pub filled_to : PairState → LinkRow → Key → PairState
filled_to own row key = with_full (with_filled own row (record { map = row.map; block = key.block; epoch = key.epoch })) false

-- what the old lead may have done that handled only such letters as `heard` knows
pub data DidFiller (heard : Body → Type 0) (here : JobContext) (own : PairState) : JobResult → Type 0 where
  Is_filled : (key : Key) (row : LinkRow) (posts : List Post) → heard (body.Filled key) → IsNextKey here own key row
      → ((post : Post) → In post posts → IsNextFill here (filled_to own row key) post)
      → DidFiller heard here own (record { own = filled_to own row key; posts = posts; jobs = [] })
  Is_out_of_slots : (key : Key) (row : LinkRow) → heard (body.FillFull key) → IsNextKey here own key row
      → DidFiller heard here own (silent (with_full own true))

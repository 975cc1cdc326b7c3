-- What the lead of a cell may have done for a write, or for an entry that moves, rule by rule, with what was so when it was done, by its own
-- state: as the first of two servers, or as a holder that is alone. Of an operation on a cell that is no longer live nothing is said but that
-- it goes on by its stage: that there is none is shown above.
use Rattle.law_steps.specs.Imports.{Body, Busy, Cell, Copying, Finished, In, JobContext, JobResult, Key, LinkRow, Moving, PairState, Pending, Post, Stale}
use Rattle.law_steps.specs.Imports.{Stored, Wanted, acts, at, cell_link, cell_of, chain_in, copying_on, ended, ends, epochs_of, fill_operation, finishes}
use Rattle.law_steps.specs.Imports.{free_of, gives_back, has_proposed, held, in_both, is_alone_on, is_in, is_lead, is_logged, is_writes_held, key_at, lead}
use Rattle.law_steps.specs.Imports.{live, marks, next_fill, next_stage, old_lead, opened, operation, origin_by, other_in, page_wanted, pending_on}
use Rattle.law_steps.specs.Imports.{progress_on, puts, region_to_move, says, says_to, second, subject_of, target, unmarks, with_opened, with_pending}
use Rattle.law_steps.specs.Imports.{with_reserved, without_pending}
use Rattle.std.specs.Prelude.{[], ◌<◌, ◌≡◌, ◌≤◌, Bool, List, None, Option, Some, false, is_some, option_and_then, slice_get, true, ℕ}
use Rattle.std.specs.Ordering.{nat_cmp}
use Rattle.law_steps.specs.Operations.{waiting, putting, copying, done_to}
use Rattle.petal_msg.specs.declared.body.Body.TheVariants as body
use Rattle.petal_msg.specs.declared.letter.Actor.TheVariants as actor
use Rattle.petal_msg.specs.declared.operation.Ending.TheVariants as ending

-- to the other server of a cell's link, which this one holds alone, where that is In
abbrev pub other_on : JobContext → Cell → Option ℕ
other_on here cell = option_and_then (other_in here.state here.me) (cell_link here.state cell)

-- the next entry of a link that this server, which is In as itself, is to move: the first of the link and the region that the new map is not
-- known to have. It goes to the lead of the new map's cell
pub record IsNextFill (here : JobContext) (own : PairState) (post : Post) : Type 0 where
  pub seated : is_in here.state here.me here.inc ≡ true
  pub row : LinkRow
  pub there : In row here.state.links
  pub region : ℕ
  pub moves : region_to_move here.state here.me row ≡ Some region
  pub key : Key
  pub next : next_fill here.state row region own ≡ Some key
  pub entry : Stored
  pub stored : at nat_cmp (chain_in own.store.chains (cell_of key)) key.epoch ≡ Some entry
  pub cell : Cell
  pub goes_to : target here.state (cell_of key) ≡ Some cell
  pub to : ℕ
  pub lead_is : lead here.state cell ≡ Some to
  pub is : post ≡ record { to = actor.Server to; body = body.Fill (key_at cell key.epoch) entry.bytes }

-- what a pending operation asks of the second server, a copy or a page of the other one, an entry that moves of the new lead, or what speaks
-- of the agreed log
pub data Asks (here : JobContext) (own : PairState) : Post → Type 0 where
  A_slot : (op : Pending) (to : ℕ) → pending_on own op.cell ≡ Some op → op.stage ≡ waiting → second here.state op.cell ≡ Some to
      → Asks here own (record { to = actor.Server to; body = body.Reserve op.op op.cell })
  A_copy : (op : Pending) (to : ℕ) → pending_on own op.cell ≡ Some op → op.stage ≡ copying → second here.state op.cell ≡ Some to
      → Asks here own (record { to = actor.Server to; body = body.Replicate op.op op.key op.version (origin_by here.state op) op.bytes })
  A_trim : (cell : Cell) (copy : Copying) (to : ℕ) → copying_on own cell ≡ Some copy → copy.trimmed ≡ false → other_on here cell ≡ Some to
      → Asks here own (record { to = actor.Server to; body = body.Trim copy.op cell (epochs_of (chain_in own.store.chains cell)) })
  A_copied_entry : (cell : Cell) (copy : Copying) (row : ℕ × Stored) (to : ℕ) → copying_on own cell ≡ Some copy → copy.trimmed ≡ true
      → slice_get (chain_in own.store.chains cell) copy.index ≡ Some row → other_on here cell ≡ Some to
      → Asks here own (record { to = actor.Server to; body = body.Sync copy.op (key_at cell row.0) row.1.version copy.index row.1.bytes })
  A_page : (row : LinkRow) (to : ℕ) → In row here.state.links → other_in here.state here.me row ≡ Some to → (progress_on own row).paged ≡ false
      → Asks here own (record { to = actor.Server to; body = page_wanted own row })
  An_entry_to_move : (post : Post) → IsNextFill here own post → Asks here own post
  Of_the_log : (post : Post) → is_logged (subject_of post.body) ≡ true → Asks here own post

-- the write's request is new to the lead, nothing is under way on its cell, no fence holds the cell's writes, and the lead wants no Caught of
-- the cell's link
pub record IsNew (heard : Body → Type 0) (here : JobContext) (own : PairState) (want : Wanted) : Type 0 where
  pub wanted : heard (body.Write want.client want.seq want.cell want.epoch want.bytes)
  pub lead : is_lead here.state here.me want.cell ≡ true
  pub newer : done_to (at nat_cmp own.pairs.finished want.client) ≤ want.seq
  pub none : pending_on own want.cell ≡ None
  pub uncopied : copying_on own want.cell ≡ None
  pub unfenced : is_writes_held (held here.state want.cell) ≡ false
  pub unheld : has_proposed here.state own want.cell ≡ false

-- the lead, which is In as itself, was asked to take an entry that moves, and nothing is under way on its cell
pub record IsIdleFill (heard : Body → Type 0) (here : JobContext) (own : PairState) (moving : Moving) : Type 0 where
  pub wanted : heard (body.Fill moving.key moving.bytes)
  pub seated : is_in here.state here.me here.inc ≡ true
  pub lead : is_lead here.state here.me (cell_of moving.key) ≡ true
  pub none : pending_on own (cell_of moving.key) ≡ None
  pub uncopied : copying_on own (cell_of moving.key) ≡ None

-- it is new to the lead: the chain has nothing of its epoch, and the lead wants no Caught of the cell's link
pub record IsNewFill (heard : Body → Type 0) (here : JobContext) (own : PairState) (moving : Moving) : Type 0 where
  pub idle : IsIdleFill heard here own moving
  pub open idle use *
  pub lacks : at nat_cmp (chain_in own.store.chains (cell_of moving.key)) moving.key.epoch ≡ None
  pub unheld : has_proposed here.state own (cell_of moving.key) ≡ false

-- it is there
pub record IsFilled (heard : Body → Type 0) (here : JobContext) (own : PairState) (moving : Moving) : Type 0 where
  pub idle : IsIdleFill heard here own moving
  pub open idle use *
  pub has : is_some (at nat_cmp (chain_in own.store.chains (cell_of moving.key)) moving.key.epoch) ≡ true

-- the operation, as letters of the second server may have told of it
abbrev pub told : Pending → (reserved paired : Bool) → Pending
told op reserved paired = record op { stage = record op.stage { reserved = reserved; paired = paired } }

-- a pending operation is taken up as it is, or with what a late letter of the second server told of it
pub data Taken (own : PairState) : PairState → Pending → Type 0 where
  As_it_is : (op : Pending) → pending_on own op.cell ≡ Some op → Taken own own op
  As_told : (op : Pending) (reserved paired : Bool) → pending_on own op.cell ≡ Some op
      → Taken own (with_pending own (told op reserved paired)) (told op reserved paired)

-- what the lead may have done that handled only such letters as `heard` knows
pub data DidLead (heard : Body → Type 0) (here : JobContext) (own : PairState) : JobResult → Type 0 where
  Asks_for : (posts : List Post) → ((post : Post) → In post posts → Asks here own post)
      → DidLead heard here own (record { own = own; posts = posts; jobs = [] })
  Repeats : (want : Wanted) (last : Finished) → heard (body.Write want.client want.seq want.cell want.epoch want.bytes)
      → is_lead here.state here.me want.cell ≡ true → at nat_cmp own.pairs.finished want.client ≡ Some last → want.seq ≡ last.seq
      → DidLead heard here own (says own (actor.Client want.client) (ended want.seq last.ending))
  Is_full : (want : Wanted) → IsNew heard here own want → free_of own.store ≡ 0
      → DidLead heard here own (finishes own want.client want.seq ending.Full)
  Gives_up : (op : Pending) → heard (body.PairFull op.op op.cell) → pending_on own op.cell ≡ Some op → op.stage.reserved ≡ false
      → op.stage.put ≡ false
      → DidLead heard here own (ends here (gives_back (without_pending own op.cell)) op op.kind ending.Full)
  Opens : (want : Wanted) → IsNew heard here own want → in_both here.state want.cell ≡ true
      → DidLead heard here own (says_to (opened here own want) (second here.state want.cell) (body.Reserve own.pairs.next want.cell))
  Marks : (op : Pending) → heard (body.Reserved op.op op.cell) → pending_on own op.cell ≡ Some op → in_both here.state op.cell ≡ true
      → op.stage ≡ waiting
      → DidLead heard here own (marks (with_pending own (with_reserved op)) (with_reserved op) Busy)
  Puts : (op : Pending) → pending_on own op.cell ≡ Some op → in_both here.state op.cell ≡ true → op.stage ≡ putting
      → DidLead heard here own (puts here own op)
  Closes : (op : Pending) → heard (body.Replicated op.op op.cell) → pending_on own op.cell ≡ Some op → in_both here.state op.cell ≡ true
      → op.stage ≡ copying
      → DidLead heard here own (ends here (without_pending own op.cell) op op.kind ending.Written)
  Opens_alone : (want : Wanted) → IsNew heard here own want → is_alone_on here.state here.me want.cell ≡ true
      → DidLead heard here own (marks (opened here own want) (operation here own.pairs.next want) Stale)
  Marks_alone : (now : PairState) (op : Pending) → Taken own now op → is_alone_on here.state here.me op.cell ≡ true → op.stage.stale ≡ false
      → DidLead heard here own (marks now op Stale)
  Puts_alone : (now : PairState) (op : Pending) → Taken own now op → is_alone_on here.state here.me op.cell ≡ true → op.stage.stale ≡ true
      → op.stage.put ≡ false
      → DidLead heard here own (puts here now op)
  Unmarks_alone : (now : PairState) (op : Pending) → Taken own now op → is_alone_on here.state here.me op.cell ≡ true → op.stage.stale ≡ true
      → op.stage.put ≡ true → op.stage.busy ≡ true
      → DidLead heard here own (unmarks now op Busy)
  Closes_alone : (now : PairState) (op : Pending) → Taken own now op → is_alone_on here.state here.me op.cell ≡ true → op.stage.stale ≡ true
      → op.stage.put ≡ true → op.stage.busy ≡ false
      → DidLead heard here own (ends here (without_pending now op.cell) op op.kind ending.Written)
  Opens_fill : (moving : Moving) → IsNewFill heard here own moving → 0 < free_of own.store → in_both here.state (cell_of moving.key) ≡ true
      → DidLead heard here own
      (says_to (with_opened own (fill_operation here own.pairs.next moving)) (second here.state (cell_of moving.key))
      (body.Reserve own.pairs.next (cell_of moving.key)))
  Opens_fill_alone : (moving : Moving) → IsNewFill heard here own moving → 0 < free_of own.store
      → is_alone_on here.state here.me (cell_of moving.key) ≡ true
      → DidLead heard here own (marks (with_opened own (fill_operation here own.pairs.next moving)) (fill_operation here own.pairs.next moving) Stale)
  Has_fill : (moving : Moving) → IsFilled heard here own moving
      → DidLead heard here own (says_to own (old_lead here.state (cell_of moving.key)) (body.Filled moving.key))
  Has_no_room : (moving : Moving) → IsNewFill heard here own moving → free_of own.store ≡ 0
      → DidLead heard here own (says_to own (old_lead here.state (cell_of moving.key)) (body.FillFull moving.key))
  Goes_on_retired : (now : PairState) (op : Pending) → Taken own now op → live here.state op.cell ≡ false
      → DidLead heard here own (acts here now op (next_stage here.state here.me op))

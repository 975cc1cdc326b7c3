-- What the other server of a link that one server holds alone may have done so that it is brought up to date, with what was so when it
-- was done, by its own state.
use Rattle.law_steps.specs.Imports.{Body, Cell, Entry, JobContext, JobResult, LastCopy, LinkId, LinkRow, PairState, above, cell_holder, cell_of}
use Rattle.law_steps.specs.Imports.{epochs_beyond, free_of, has_room, has_stored, holder_of, key_at, last_copy, least, link_named, marked_blocks, puts_entry}
use Rattle.law_steps.specs.Imports.{says_to, with_last_copy, without_entry}
use Rattle.std.specs.Prelude.{[], ◌<◌, ◌∷◌, ◌≡◌, List, Option, Some, false, filter, true, ℕ}
use Rattle.petal_msg.specs.declared.body.Body.TheVariants as body
use Rattle.spec_rules.specs.declared.job.Job.TheVariants as job

-- what the last copy of a cell does next here: one of the entries that the holder has not is dropped, or the holder is told that none
-- is left
pub data TrimStep (own : PairState) (cell : Cell) (last : LastCopy) (holder : ℕ) : JobResult → Type 0 where
  Is_trimmed : epochs_beyond own cell last.epochs ≡ [] → TrimStep own cell last holder (says_to own (Some holder) (body.Trimmed last.op cell))
  Drops_entry : (epoch : ℕ) (epochs : List ℕ) → epochs_beyond own cell last.epochs ≡ epoch ∷ epochs
      → TrimStep own cell last holder
      (record { own = record own { store = without_entry own.store (key_at cell epoch) }; posts = []; jobs = job.Stage cell ∷ [] })

-- a copy as the other server first hears of it
abbrev pub first_last : ℕ → List ℕ → LastCopy
first_last number epochs = record { op = number; epochs = epochs; index = 0 }

-- an entry of the last copy of its cell, from the holder of its link
pub record IsOfCopy (heard : Body → Type 0) (here : JobContext) (own : PairState) (entry : Entry) (holder : ℕ) (last : LastCopy) : Type 0 where
  pub said : heard (body.Sync entry.op entry.key entry.stored.version entry.index entry.stored.bytes)
  pub held : cell_holder here (cell_of entry.key) ≡ Some holder
  pub last_is : last_copy own (cell_of entry.key) ≡ Some last
  pub op_is : entry.op ≡ last.op

-- what the other server may have answered, and to whom, with its own part left as it was
pub data OtherReply (heard : Body → Type 0) (here : JobContext) (own : PairState) : Option ℕ → Body → Type 0 where
  Answers_page : (id : LinkId) (row : LinkRow) (after : Option ℕ) → heard (body.HelloAsk id.map id.link after) → link_named here.state id ≡ Some row
      → OtherReply heard here own (holder_of here.me row)
      (body.Hello row.map row.link after (least (filter (above after) (marked_blocks here.state row own))))
  Has_entry : (entry : Entry) (holder : ℕ) (last : LastCopy) → IsOfCopy heard here own entry holder last → entry.index < last.index
      → OtherReply heard here own (Some holder) (body.Synced entry.op (cell_of entry.key) entry.index)
  Has_no_slot : (entry : Entry) (holder : ℕ) (last : LastCopy) → IsOfCopy heard here own entry holder last → entry.index ≡ last.index → free_of own.store ≡ 0
      → has_stored own.store entry.key entry.stored ≡ false → OtherReply heard here own (Some holder) (body.SyncFull entry.op (cell_of entry.key))

-- what the other server may have done that handled only such letters as `heard` knows
pub data DidOther (heard : Body → Type 0) (here : JobContext) (own : PairState) : JobResult → Type 0 where
  Replies : (to : Option ℕ) (said : Body) → OtherReply heard here own to said → DidOther heard here own (says_to own to said)
  Is_copied_to : (number : ℕ) (cell : Cell) (epochs : List ℕ) (holder : ℕ) (done : JobResult) → heard (body.Trim number cell epochs)
      → cell_holder here cell ≡ Some holder → ((last : LastCopy) → last_copy own cell ≡ Some last → last.op < number)
      → TrimStep (with_last_copy own cell (first_last number epochs)) cell (first_last number epochs) holder done → DidOther heard here own done
  Goes_on_trimming : (cell : Cell) (holder : ℕ) (last : LastCopy) (done : JobResult) → cell_holder here cell ≡ Some holder → last_copy own cell ≡ Some last
      → TrimStep own cell last holder done → DidOther heard here own done
  Puts_entry : (entry : Entry) (holder : ℕ) (last : LastCopy) → IsOfCopy heard here own entry holder last → entry.index ≡ last.index
      → has_room own.store entry ≡ true → DidOther heard here own (puts_entry own entry last holder true)

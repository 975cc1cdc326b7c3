-- Why a server remembers that a slot was wanting: the other server of a link that it holds alone had none for the next entry of a copy, or the
-- lead of a disk's new map, or its second server, had none for an entry that this one was to move.
use Rattle.law_answers.specs.Imports.{Actor, Body, Cell, Copying, Entry, FoundNoSlot, Handled, In, IsMoment, IsNewFill, IsNextKey, IsOfCopy, JobContext, Key}
use Rattle.law_answers.specs.Imports.{LastCopy, Letter, LinkRow, Moving, PairState, Pending, Record, Setting, Step, Work, World, at, cell_cmp, cell_of}
use Rattle.law_answers.specs.Imports.{chain_in, copying_on, first, free_of, has_stored, own_place, second, server_state, start, world_after}
use Rattle.std.specs.Prelude.{◌<◌, ◌≡◌, List, Some, false, length, true, ℕ}
use Rattle.law_answers.specs.Settles.{HasFoundFull}
use Rattle.petal_msg.specs.declared.body.Body.TheVariants as body
use Rattle.petal_msg.specs.declared.letter.Actor.TheVariants as actor
use Rattle.petal_msg.specs.declared.operation.OpKind.TheVariants as kind
use Rattle.spec_rules.specs.declared.step.WorkEnd.TheVariants as work_end

-- a server is to put the next entry of the copy of this number, the last one of the cell to this server, by the one that holds the
-- cell's link, by this server's own state; no slot is free, and the entry is not there already
pub record LacksRoom (heard : Body → Type 0) (here : JobContext) (own : PairState) (holder number : ℕ) (cell : Cell) : Type 0 where
  pub entry : Entry
  pub last : LastCopy
  pub asked : IsOfCopy heard here own entry holder last
  pub number_is : entry.op ≡ number
  pub cell_is : cell_of entry.key ≡ cell
  pub next : entry.index ≡ last.index
  pub none_free : free_of own.store ≡ 0
  pub not_there : has_stored own.store entry.key entry.stored ≡ false

-- so was a server in a job
pub record HadNoRoom (setting : Setting) (w : World) (who : Actor) (what : Step) (holder number : ℕ) (cell : Cell) : Type 0 where
  pub server : ℕ
  pub is : who ≡ actor.Server server
  pub works : what ≡ Work work_end.Done
  pub lacks : LacksRoom (Handled w server) (own_place setting w server) (w.servers server).own holder number cell
  pub open lacks use *

-- one of these records tells of such a step, which sent the letter
pub record WasTold (setting : Setting) (records : List Record) (letter : Letter) (holder number : ℕ) (cell : Cell) : Type 0 where
  pub moment : IsMoment records
  pub open moment use *
  pub sent : In letter own.sent
  pub reason : HadNoRoom setting (world_after setting (start setting) prefix) own.actor own.step holder number cell

-- one of these records tells of a job of the server, as this incarnation
pub record HasJob (setting : Setting) (records : List Record) (server inc : ℕ) : Type 0 where
  pub moment : IsMoment records
  pub open moment use *
  pub who : own.actor ≡ actor.Server server
  pub works : own.step ≡ Work work_end.Done
  pub runs : ((world_after setting (start setting) prefix).servers server).life.running ≡ true
  pub lives : ((world_after setting (start setting) prefix).servers server).life.inc ≡ inc

-- after these records the server is told that the copy which is under way on a cell finds no slot for its next entry; and of the earlier step
-- that sent the letter
pub record HearsCopyFull (setting : Setting) (prefix : List Record) (server : ℕ) : Type 0 where
  pub cell : Cell
  pub copy : Copying
  pub copying : copying_on ((world_after setting (start setting) prefix).servers server).own cell ≡ Some copy
  pub trimmed : copy.trimmed ≡ true
  pub left : copy.index < length (chain_in ((world_after setting (start setting) prefix).servers server).own.store.chains cell)
  pub heard : Handled (world_after setting (start setting) prefix) server (body.SyncFull copy.op cell)
  pub told : WasTold setting prefix heard.letter server copy.op cell

-- such a job, in which the server heard it
pub record HasEndedFull (setting : Setting) (records : List Record) (server inc : ℕ) : Type 0 where
  pub job : HasJob setting records server inc
  pub open job use *
  pub full : HearsCopyFull setting prefix server
  pub open full use *

-- ### Entries that move

-- in a job the second server of a cell whose first server is this lead, by its own state, handled the Reserve letter of the operation of this number,
-- which is newer than the last one on the cell, of which no slot is left over; and no slot is free
pub record SecondHadNone (setting : Setting) (w : World) (who : Actor) (what : Step) (lead number : ℕ) (cell : Cell) : Type 0 where
  pub server : ℕ
  pub is : who ≡ actor.Server server
  pub works : what ≡ Work work_end.Done
  pub leads : first (server_state setting w server) cell ≡ Some lead
  pub follows : second (server_state setting w server) cell ≡ Some server
  pub asked : Handled w server (body.Reserve number cell)
  pub none : FoundNoSlot (w.servers server).own cell number

-- one of these records tells of such a step, which sent the letter to the lead
pub record WasToldBySecond (setting : Setting) (records : List Record) (letter : Letter) (lead number : ℕ) (cell : Cell) : Type 0 where
  pub moment : IsMoment records
  pub open moment use *
  pub sent : In letter own.sent
  pub to : letter.to ≡ actor.Server lead
  pub reason : SecondHadNone setting (world_after setting (start setting) prefix) own.actor own.step lead number cell

-- the world after these records
abbrev pub world_at : Setting → List Record → World
world_at setting records = world_after setting (start setting) records

-- after these records a server's job told the old map's lead that there is no slot for this entry. At the lead of the new map's cell, by its own
-- state, the entry is new, nothing is under way on the cell, and no slot is free; or the operation that is pending there for the entry is
-- declined, since its second server told so, in an earlier step in which it was asked for a slot for this operation and had none
pub data HadNoFill (setting : Setting) (records : List Record) (who : Actor) (what : Step) (key : Key) : Type 0 where
  At_the_lead : (n : ℕ) (moving : Moving) → who ≡ actor.Server n → what ≡ Work work_end.Done → moving.key ≡ key
      → IsNewFill (Handled (world_at setting records) n) (own_place setting (world_at setting records) n) ((world_at setting records).servers n).own moving
      → free_of ((world_at setting records).servers n).own.store ≡ 0 → HadNoFill setting records who what key
  At_the_second : (n : ℕ) (op : Pending) → who ≡ actor.Server n → what ≡ Work work_end.Done
      → at cell_cmp ((world_at setting records).servers n).own.pairs.pending (cell_of key) ≡ Some op → op.kind ≡ kind.Fill → op.key ≡ key
      → (heard : Handled (world_at setting records) n (body.PairFull op.op (cell_of key)))
      → WasToldBySecond setting records heard.letter n op.op (cell_of key) → HadNoFill setting records who what key

-- one of these records tells of such a step, which sent the letter
pub record WasDeclined (setting : Setting) (records : List Record) (letter : Letter) (key : Key) : Type 0 where
  pub moment : IsMoment records
  pub open moment use *
  pub sent : In letter own.sent
  pub reason : HadNoFill setting prefix own.actor own.step key

-- such a job, in which the server heard that there is no slot for the next entry of a link
-- that it is to move; and of the earlier step that sent the letter
pub record HasFilledFull (setting : Setting) (records : List Record) (server inc : ℕ) : Type 0 where
  pub job : HasJob setting records server inc
  pub open job use *
  pub key : Key
  pub row : LinkRow
  pub next : IsNextKey (own_place setting (world_after setting (start setting) prefix) server)
      ((world_after setting (start setting) prefix).servers server).own key row
  pub heard : Handled (world_after setting (start setting) prefix) server (body.FillFull key)
  pub told : WasDeclined setting prefix heard.letter key

-- ### Either

-- a copy of the server's, as this incarnation, has found no slot, or an entry that it was to move has
pub data HasFoundNone (setting : Setting) (records : List Record) (server inc : ℕ) : Type 0 where
  By_copy : HasEndedFull setting records server inc → HasFoundNone setting records server inc
  By_fill : HasFilledFull setting records server inc → HasFoundNone setting records server inc

-- one of the line's glances found a server to which this had happened before, as this incarnation
pub record HasFullServer (setting : Setting) (records : List Record) (line : ℕ) : Type 0 where
  pub found : HasFoundFull setting (start setting) records line
  pub full : HasFoundNone setting found.at.prefix found.server ((world_after setting (start setting) found.at.prefix).servers found.server).life.inc

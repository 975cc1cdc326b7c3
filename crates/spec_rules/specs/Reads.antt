-- Reads: what a server that may read a cell says.
use Rattle.std.specs.Prelude.{ℕ, ◌&&◌, Bool, true, false, if◌then◌else◌, Option, Some, None}
use Rattle.petal_base.specs.Block.{zero_block}
use Rattle.petal_base.specs.declared.cell.Cell.{Cell}
use Rattle.petal_msg.specs.declared.body.Body.{Body}
use Rattle.petal_msg.specs.declared.body.Body.TheVariants as body
use Rattle.petal_msg.specs.declared.letter.Actor.TheVariants as actor
use Rattle.petal_msg.specs.declared.operation.Reply.{Reply}
use Rattle.petal_msg.specs.declared.operation.Reply.TheVariants.{Data, NotHere, BlockBusy, Held}
use Rattle.spec_state.specs.declared.answer.Hold.TheVariants as hold
use Rattle.spec_rules.specs.State.{State, Hold, coming, held, is_lead, readable}
use Rattle.spec_rules.specs.Store.{Stored, chain_in, entry_at}
use Rattle.spec_rules.specs.Server.{PairState, JobContext, JobResult, silent, says}
use Rattle.spec_rules.specs.Writes.{is_under_way}

abbrev pub is_all_held : Hold → Bool
is_all_held hold.No = false
is_all_held hold.Writes = false
is_all_held hold.All = true

-- a cell without an entry at the epoch is zeros; but in a region that is on its way the old map may have one
abbrev pub reply_of : State → Cell → Option Stored → Reply
reply_of state cell None = if coming state cell then NotHere else Data zero_block
reply_of state cell (Some entry) = Data entry.bytes

-- a fence, or what is under way at the lead, keeps a read back; else it gives the entry of the greatest epoch not above its own
abbrev pub reply_to : JobContext → PairState → Cell → ℕ → Reply
reply_to here own cell epoch =
    if is_all_held (held here.state cell) then Held
    else if is_lead here.state here.me cell && is_under_way own cell then BlockBusy
    else reply_of here.state cell (entry_at (chain_in own.store.chains cell) epoch)

abbrev pub said : ℕ → Reply → Body
said seq (Data bytes) = body.Data seq bytes
said seq NotHere = body.NotHere seq
said seq BlockBusy = body.BlockBusy seq
said seq Held = body.Held seq

-- a read is answered at a server that may read the cell
unfoldable pub on_read : JobContext → PairState → (client seq : ℕ) → Cell → ℕ → JobResult
on_read here own client seq cell epoch =
    if readable here.state here.me cell then says own (actor.Client client) (said seq (reply_to here own cell epoch))
    else silent own

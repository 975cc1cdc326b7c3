-- The reply to a read that nothing keeps back, by whether the cell is on its way and has nothing here.
use Rattle.std.proofs.Common.{◌≡◌, Bool, true, false, Option, Some, None, refl}
use Rattle.std.specs.Prelude.{◌&&◌, not, is_some, if◌then◌else◌}
use Rattle.petal_base.specs.Block.{zero_block}
use Rattle.petal_base.specs.declared.cell.Cell.{Cell}
use Rattle.petal_msg.specs.declared.operation.Reply.{Reply}
use Rattle.petal_msg.specs.declared.operation.Reply.TheVariants.{Data, NotHere}
use Rattle.spec_rules.specs.State.{State, coming}
use Rattle.spec_rules.specs.Store.{Stored, bytes_of}
use Rattle.spec_rules.specs.Reads.{reply_of}

by_none : (on_way : Bool) → on_way && true ≡ true → (if on_way then NotHere else Data zero_block) ≡ NotHere
by_none true elsewhere = refl
by_none false elsewhere = absurd (cc)

by_zeros : (on_way : Bool) → on_way && true ≡ false → (if on_way then NotHere else Data zero_block) ≡ Data zero_block
by_zeros true elsewhere = absurd (cc)
by_zeros false elsewhere = refl

never : (on_way : Bool) → on_way && false ≡ true → (reply : Reply) → reply ≡ NotHere
never true elsewhere reply = absurd (cc)
never false elsewhere reply = absurd (cc)

pub not_here : (state : State) (cell : Cell) (entry : Option Stored) → (coming state cell && not (is_some entry)) ≡ true
    → reply_of state cell entry ≡ NotHere
not_here state cell None elsewhere = by_none (coming state cell) elsewhere
not_here state cell (Some entry) elsewhere = never (coming state cell) elsewhere (Data entry.bytes)

pub read_here : (state : State) (cell : Cell) (entry : Option Stored) → (coming state cell && not (is_some entry)) ≡ false
    → reply_of state cell entry ≡ Data (bytes_of entry)
read_here state cell None elsewhere = by_zeros (coming state cell) elsewhere
read_here state cell (Some entry) elsewhere = refl

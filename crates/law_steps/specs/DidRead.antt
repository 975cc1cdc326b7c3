-- What a server, which is In as itself, may have done with a read that it did not refuse.
use Rattle.law_steps.specs.Imports.{Body, Cell, JobContext, JobResult, PairState, bytes_of, chain_in, coming, entry_at, held, is_all_held, is_in, is_lead}
use Rattle.law_steps.specs.Imports.{is_under_way, readable, says}
use Rattle.std.specs.Prelude.{◌≡◌, None, false, true, ℕ}
use Rattle.petal_msg.specs.declared.body.Body.TheVariants as body
use Rattle.petal_msg.specs.declared.letter.Actor.TheVariants as actor

-- a read that may be answered: the server is In as itself and may read the cell, whose reads no fence holds, and at the cell's lead nothing is
-- under way there
pub record IsReadable (heard : Body → Type 0) (here : JobContext) (own : PairState) (client seq : ℕ) (cell : Cell) (epoch : ℕ) : Type 0 where
  pub asked : heard (body.Read client seq cell epoch)
  pub seated : is_in here.state here.me here.inc ≡ true
  pub readable : readable here.state here.me cell ≡ true
  pub unheld : is_all_held (held here.state cell) ≡ false
  pub idle : is_lead here.state here.me cell ≡ true → is_under_way own cell ≡ false

-- it shows the entry, or zeros where there is none; but in a region that is on its way it says that the new map has nothing
pub data DidRead (heard : Body → Type 0) (here : JobContext) (own : PairState) : JobResult → Type 0 where
  Shows : (client seq : ℕ) (cell : Cell) (epoch : ℕ) → IsReadable heard here own client seq cell epoch
      → (entry_at (chain_in own.store.chains cell) epoch ≡ None → coming here.state cell ≡ false)
      → DidRead heard here own (says own (actor.Client client) (body.Data seq (bytes_of (entry_at (chain_in own.store.chains cell) epoch))))
  Not_here : (client seq : ℕ) (cell : Cell) (epoch : ℕ) → IsReadable heard here own client seq cell epoch
      → coming here.state cell ≡ true → entry_at (chain_in own.store.chains cell) epoch ≡ None
      → DidRead heard here own (says own (actor.Client client) (body.NotHere seq))

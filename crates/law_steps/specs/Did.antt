-- What a server may have done: one constructor for each subject, whose rules stand in a file of their own.
use Rattle.law_steps.specs.Imports.{Actor, Body, Cell, Copying, JobContext, JobResult, PairState, Pending, Refused, Wanted, copying_on, has_proposed, held}
use Rattle.law_steps.specs.Imports.{is_all_held, is_for, is_lead, is_writes_held, pending_on, says, silent, subject_of}
use Rattle.std.specs.Prelude.{◌≡◌, ◌⊎◌, Bool, Some, false, true, ℕ}
use Rattle.law_steps.specs.DidRead.{DidRead}
use Rattle.law_steps.specs.DidLead.{DidLead}
use Rattle.law_steps.specs.DidSecond.{DidSecond}
use Rattle.law_steps.specs.DidHolder.{DidHolder}
use Rattle.law_steps.specs.DidOther.{DidOther}
use Rattle.law_steps.specs.DidFiller.{DidFiller}
use Rattle.law_steps.specs.DidSweep.{DidSweep}
use Rattle.petal_msg.specs.declared.body.Body.TheVariants as body

-- the new map has nothing of what a read asked for
abbrev pub is_not_here : Body → Bool
is_not_here (body.NotHere seq) = true
is_not_here _ = false

-- a refusal, which ends nothing. That the new map has nothing is said of a read that may be answered
pub record IsRefusal (said : Body) : Type 0 where
  pub refused : subject_of said ≡ Refused
  pub other : is_not_here said ≡ false

-- why a client is told that the block is busy: another operation is pending on it at its lead, or a copy is under way
pub data IsBusy (heard : Body → Type 0) (here : JobContext) (own : PairState) (seq : ℕ) : Type 0 where
  For_a_write : (want : Wanted) (op : Pending) → heard (body.Write want.client want.seq want.cell want.epoch want.bytes) → want.seq ≡ seq
      → is_lead here.state here.me want.cell ≡ true → pending_on own want.cell ≡ Some op → is_for op want ≡ false → IsBusy heard here own seq
  For_a_read : (client : ℕ) (cell : Cell) (epoch : ℕ) (op : Pending) → heard (body.Read client seq cell epoch)
      → is_lead here.state here.me cell ≡ true → pending_on own cell ≡ Some op → IsBusy heard here own seq
  By_copy_for_a_write : (want : Wanted) (copy : Copying) → heard (body.Write want.client want.seq want.cell want.epoch want.bytes) → want.seq ≡ seq
      → is_lead here.state here.me want.cell ≡ true → copying_on own want.cell ≡ Some copy → IsBusy heard here own seq
  By_copy_for_a_read : (client : ℕ) (cell : Cell) (epoch : ℕ) (copy : Copying) → heard (body.Read client seq cell epoch)
      → is_lead here.state here.me cell ≡ true → copying_on own cell ≡ Some copy → IsBusy heard here own seq

-- why a client is told that its request is held: a fence holds the cell's writes, or its reads; or the lead has started a ballot for the
-- Caught of the cell's link
pub data IsHeldBack (heard : Body → Type 0) (here : JobContext) (own : PairState) (seq : ℕ) : Type 0 where
  A_write : (want : Wanted) → heard (body.Write want.client want.seq want.cell want.epoch want.bytes) → want.seq ≡ seq
      → is_lead here.state here.me want.cell ≡ true
      → (is_writes_held (held here.state want.cell) ≡ true) ⊎ (has_proposed here.state own want.cell ≡ true) → IsHeldBack heard here own seq
  A_read : (client : ℕ) (cell : Cell) (epoch : ℕ) → heard (body.Read client seq cell epoch) → is_all_held (held here.state cell) ≡ true
      → IsHeldBack heard here own seq

-- what a server may have done that handled only such letters as `heard` knows: nothing, a refusal, what its subject's rules
-- say. All is by its own state, `here.state`
pub data Did (heard : Body → Type 0) (here : JobContext) (own : PairState) : JobResult → Type 0 where
  Ignores : Did heard here own (silent own)
  Refuses : (to : Actor) (said : Body) → IsRefusal said → ((seq : ℕ) → said ≡ body.BlockBusy seq → IsBusy heard here own seq)
      → ((seq : ℕ) → said ≡ body.Held seq → IsHeldBack heard here own seq)
      → Did heard here own (says own to said)
  By_read : (done : JobResult) → DidRead heard here own done → Did heard here own done
  By_lead : (done : JobResult) → DidLead heard here own done → Did heard here own done
  By_second : (done : JobResult) → DidSecond heard here own done → Did heard here own done
  By_holder : (done : JobResult) → DidHolder heard here own done → Did heard here own done
  By_other : (done : JobResult) → DidOther heard here own done → Did heard here own done
  By_filler : (done : JobResult) → DidFiller heard here own done → Did heard here own done
  By_sweep : (done : JobResult) → DidSweep here own done → Did heard here own done

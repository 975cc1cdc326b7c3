-- What the second server of a cell may have done for a write, rule by rule, with what was so when it was done.
use Rattle.law_steps.specs.Imports.{Body, Cell, FollowProgress, JobContext, JobResult, Key, LastOp, Named, PairState, cell_of, first, follows, free_of}
use Rattle.law_steps.specs.Imports.{is_second, last_on, says_to, tells, with_last}
use Rattle.std.specs.Prelude.{List, Option, Some, true, ℕ, ◌+◌, ◌<◌, ◌≡◌, ◌≤◌}
use Rattle.law_steps.specs.Operations.{progress}
use Rattle.petal_msg.specs.declared.body.Body.TheVariants as body
use Rattle.petal_msg.specs.declared.operation.FollowProgress.TheVariants as follow_progress

-- an operation of this number found no slot at its second server: none is free, and the operation is newer than the last one
-- that the server took part in on the cell, of which no slot is left over
pub record FoundNoSlot (own : PairState) (cell : Cell) (number : ℕ) : Type 0 where
  pub none_free : free_of own.store ≡ 0
  pub newer : (last : LastOp) → last_on own cell ≡ Some last → last.op < number
  pub none_left : (last : LastOp) → last_on own cell ≡ Some last → last.progress ≡ follow_progress.Replicated

-- so many slots are set apart
abbrev pub with_tickets : PairState → ℕ → PairState
with_tickets own tickets = record own { store = record own.store { tickets = tickets } }

-- what the second server may have done that handled only such letters as `heard` knows
pub data DidSecond (heard : Body → Type 0) (here : JobContext) (own : PairState) : JobResult → Type 0 where
  Sets_apart : (number : ℕ) (cell : Cell) (tickets : ℕ) → heard (body.Reserve number cell) → is_second here.state here.me cell ≡ true
      → progress (last_on own cell) ≤ number + number
      → DidSecond heard here own (tells here (with_last (with_tickets own tickets) cell number follow_progress.Reserved) cell number follow_progress.Reserved)
  Promises : (number : ℕ) (cell : Cell) (how : FollowProgress) → is_second here.state here.me cell ≡ true
      → last_on own cell ≡ Some (record { op = number; progress = how })
      → DidSecond heard here own (tells here own cell number how)
  Declines : (number : ℕ) (cell : Cell) → heard (body.Reserve number cell) → is_second here.state here.me cell ≡ true → FoundNoSlot own cell number
      → DidSecond heard here own (says_to own (first here.state cell) (body.PairFull number cell))
  Follows : (number : ℕ) (key : Key) (version : ℕ) (origin : Option Named) (bytes : List ℕ) → heard (body.Replicate number key version origin bytes)
      → is_second here.state here.me (cell_of key) ≡ true → last_on own (cell_of key) ≡ Some (record { op = number; progress = follow_progress.Reserved })
      → DidSecond heard here own (follows here own number key origin bytes)

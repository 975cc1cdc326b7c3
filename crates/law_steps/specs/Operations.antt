-- How far an operation is, at its lead and at its second server.
use Rattle.law_steps.specs.Imports.{Cell, Finished, FollowProgress, LastOp, Pending, Stage, State, cell_of, first_stage, in_both, leads_link, live, stage_at}
use Rattle.std.specs.Prelude.{◌+◌, ◌≡◌, ◌≤◌, Bool, None, Option, Some, false, true, ℕ}
use Rattle.petal_msg.specs.declared.operation.FollowProgress.TheVariants as follow_progress
use Rattle.petal_msg.specs.declared.operation.OpKind.TheVariants as kind

-- the stages that an operation rests in while its link is in Both: it waits for its slot at the second server; its block is marked, and it is to put;
-- it has put, and waits for the second server's copy
abbrev pub waiting : Stage
waiting = first_stage

abbrev pub putting : Stage
putting = record first_stage { reserved = true; busy = true }

abbrev pub copying : Stage
copying = record first_stage { reserved = true; busy = true; put = true }

pub data AtRest (stage : Stage) : Type 0 where
  Waiting : stage ≡ waiting → AtRest stage
  Putting : stage ≡ putting → AtRest stage
  Copying : stage ≡ copying → AtRest stage

-- what an operation was opened for: a client's write, or an entry that moves, which is of no client
pub data IsOpenedFor (op : Pending) : Type 0 where
  A_write : op.kind ≡ kind.Write → IsOpenedFor op
  A_fill : op.kind ≡ kind.Fill → op.client ≡ 0 → op.seq ≡ 0 → IsOpenedFor op

-- an operation that is pending on a cell at a server, by this state: the cell was live when it was opened, and while it is, the server leads
-- its link, and has started no ballot for the link's Caught, for which the operation would be held. At a holder that is alone it may rest in
-- any stage
pub record IsStaged (state : State) (me : ℕ) (held : Cell → Bool) (cell : Cell) (op : Pending) : Type 0 where
  pub own : op.cell ≡ cell
  pub opened : IsOpenedFor op
  pub keyed : cell_of op.key ≡ cell
  pub born : 1 ≤ stage_at state cell
  pub leads : live state cell ≡ true → leads_link state me cell ≡ true
  pub stage : live state cell ≡ true → in_both state cell ≡ true → AtRest op.stage
  pub unheld : live state cell ≡ true → held cell ≡ false

-- above the number of each request that is finished
abbrev pub done_to : Option Finished → ℕ
done_to None = 0
done_to (Some last) = last.seq + 1

-- above twice the number of the last operation, once its slot is set apart, and one more once its copy is put
abbrev pub far_of : ℕ → FollowProgress → ℕ
far_of number follow_progress.Reserved = number + number
far_of number follow_progress.Replicated = number + number + 1

abbrev pub progress : Option LastOp → ℕ
progress None = 0
progress (Some last) = far_of last.op last.progress

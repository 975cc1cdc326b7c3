-- Writes: what the lead of a cell does, and what its second server does ("Petal: Distributed Virtual Disks", 1996, 3.2,
-- over chained declustering; the second server's slot is reserved first, and the lead commits before the second server). A
-- block is marked at its lead before the lead puts: busy where a second server is to follow, stale where there is none.
use Rattle.std.specs.Prelude.{ℕ, ◌+◌, ◌==◌, ◌&&◌, ◌||◌, not, Bool, true, false, nat_lt, List, [], ◌∷◌, if◌then◌else◌}
use Rattle.std.specs.Prelude.{Option, Some, None, is_some, option_and_then, option_map}
use Rattle.std.specs.Ordering.{nat_cmp}
use Rattle.busy_marks.specs.declared.marks.MarkKind.{MarkKind}
use Rattle.busy_marks.specs.declared.marks.MarkKind.TheVariants as mark
use Rattle.petal_base.specs.declared.cell.Cell.{Cell}
use Rattle.petal_base.specs.declared.cell.Key.{Key}
use Rattle.petal_base.specs.Cells.{cell_of, key_at}
use Rattle.petal_base.specs.Limits.{client_limit}
use Rattle.petal_base.specs.Origins.{Named}
use Rattle.petal_table.specs.Table.{at, put, without}
use Rattle.petal_msg.specs.declared.body.Body.{Body}
use Rattle.petal_msg.specs.declared.body.Body.TheVariants as body
use Rattle.petal_msg.specs.declared.letter.Actor.TheVariants as actor
use Rattle.petal_msg.specs.declared.operation.Action.{Action}
use Rattle.petal_msg.specs.declared.operation.Action.TheVariants as action
use Rattle.petal_msg.specs.declared.operation.Ending.{Ending}
use Rattle.petal_msg.specs.declared.operation.Ending.TheVariants.{Written, Full}
use Rattle.petal_msg.specs.declared.operation.FollowProgress.{FollowProgress}
use Rattle.petal_msg.specs.declared.operation.FollowProgress.TheVariants as follow_progress
use Rattle.petal_msg.specs.declared.operation.Finished.{Finished}
use Rattle.petal_msg.specs.declared.operation.LastOp.{LastOp}
use Rattle.petal_msg.specs.declared.operation.OpKind.{OpKind}
use Rattle.petal_msg.specs.declared.operation.OpKind.TheVariants as kind
use Rattle.petal_msg.specs.declared.operation.Pending.{Pending}
use Rattle.petal_msg.specs.declared.operation.Stage.{Stage}
use Rattle.spec_state.specs.declared.answer.Hold.TheVariants as hold
use Rattle.spec_state.specs.CellState.{cell_link, row_lead, source}
use Rattle.spec_rules.specs.State.{State, Hold, held, is_lead, leads_link, in_both, is_second, first, second}
use Rattle.spec_rules.specs.Store.{cell_cmp, chain_in, version_of, free_of, with_ticket, without_ticket, with_put, with_mark_on, without_mark_on}
use Rattle.spec_rules.specs.Progress.{copying_on, has_proposed}
use Rattle.spec_rules.specs.Server.{PairState, JobContext, JobResult, silent, says, says_to}
use Rattle.spec_rules.specs.declared.job.Job.TheVariants as job

-- ### The table of stages

-- what the operation does next in Both: reserve a slot at the second server, mark the block busy, put, replicate, answer. The
-- mark stays until a tick of the lead finds it idle
abbrev pub both_action : Stage → Action
both_action stage =
    if not stage.reserved then action.Reserve
    else if not (stage.busy || stage.put) then action.Mark mark.Busy
    else if not stage.put then action.Put
    else if not stage.paired then action.Replicate
    else action.Answer

-- what it does next at a holder that is alone: mark the block stale, put if it has not, take the busy mark away, answer
abbrev pub alone_action : Stage → Action
alone_action stage =
    if not stage.stale then action.Mark mark.Stale
    else if not stage.put then action.Put
    else if stage.busy then action.Unmark mark.Busy
    else action.Answer

-- what the operation does next, by its cell's link as it now is; it is dropped exactly where this server does not lead the
-- link
abbrev pub next_stage : State → ℕ → Pending → Action
next_stage state me op =
    if leads_link state me op.cell
    then if in_both state op.cell then both_action op.stage else alone_action op.stage
    else action.Drop

-- ### What the lead remembers

-- the operation that is pending on the cell
abbrev pub pending_on : PairState → Cell → Option Pending
pending_on own cell = at cell_cmp own.pairs.pending cell

-- the own with this operation pending on its cell
abbrev pub with_pending : PairState → Pending → PairState
with_pending own op = record own { pairs = record own.pairs { pending = put cell_cmp own.pairs.pending op.cell op } }

-- the own with nothing pending on the cell
abbrev pub without_pending : PairState → Cell → PairState
without_pending own cell = record own { pairs = record own.pairs { pending = without cell_cmp own.pairs.pending cell } }

-- the own with a slot less that is set apart
abbrev pub gives_back : PairState → PairState
gives_back own = record own { store = without_ticket own.store }

-- the reply that ended a request
abbrev pub ended : ℕ → Ending → Body
ended seq Written = body.Written seq
ended seq Full = body.Full seq

-- the client's request is done with, which is remembered, and its client is told
abbrev pub finishes : PairState → (client seq : ℕ) → Ending → JobResult
finishes own client seq ending =
    says
    (record own { pairs = record own.pairs { finished = put nat_cmp own.pairs.finished client (record { seq = seq; ending = ending }) } })
    (actor.Client client) (ended seq ending)

-- ### The next stage of a pending operation

-- the operation was opened for a client's write
abbrev pub is_clients : OpKind → Bool
is_clients kind.Write = true
is_clients kind.Fill = false
is_clients kind.Copy = false

-- for which write of a client the operation puts, if it is for one: on the link of its cell, where there is one
abbrev pub origin_by : State → Pending → Option Named
origin_by state op =
    if is_clients op.kind
    then option_map (λ row. record { link = row.link; client = op.client; seq = op.seq }) (cell_link state op.cell)
    else None

-- the lead puts its own copy, with the version after that of its chain
abbrev pub puts : JobContext → PairState → Pending → JobResult
puts here own op =
    let version = version_of (chain_in own.store.chains op.cell) + 1 in
    let put_op : Pending = record op { version = version; stage = record op.stage { put = true } } in
    record {
      own = with_pending (record own { store = with_put own.store op.key (record { version = version; bytes = op.bytes }) (origin_by here.state op) }) put_op;
      posts = [];
      jobs = job.Stage op.cell ∷ [];
    }

-- the stage with this mark set, or taken away
abbrev pub with_flag : Stage → MarkKind → Bool → Stage
with_flag stage mark.Busy is = record stage { busy = is }
with_flag stage mark.Stale is = record stage { stale = is }

abbrev pub with_mark_at : Pending → MarkKind → Bool → Pending
with_mark_at op kind is = record op { stage = with_flag op.stage kind is }

-- the block is marked
abbrev pub marks : PairState → Pending → MarkKind → JobResult
marks own op kind = record {
  own = with_pending (record own { store = with_mark_on own.store kind op.cell }) (with_mark_at op kind true);
  posts = [];
  jobs = job.Stage op.cell ∷ [];
}

-- the block's mark is taken away
abbrev pub unmarks : PairState → Pending → MarkKind → JobResult
unmarks own op kind = record {
  own = with_pending (record own { store = without_mark_on own.store kind op.cell }) (with_mark_at op kind false);
  posts = [];
  jobs = job.Stage op.cell ∷ [];
}

-- the operation ends without an answer; a slot that it has not used is free again
abbrev pub gives_up : PairState → Pending → PairState
gives_up own op = if op.stage.put then without_pending own op.cell else gives_back (without_pending own op.cell)

-- the lead of the old map's link from which a fill of the cell came, by the present state: at its revision it is the server that sent it
abbrev pub old_lead : State → Cell → Option ℕ
old_lead state cell = option_and_then (row_lead state) (option_and_then (cell_link state) (source state cell))

-- how a fill went
abbrev pub moved_as : Key → Ending → Body
moved_as key Written = body.Filled key
moved_as key Full = body.FillFull key

-- what an operation was opened for ends: a client's request is done with; of a fill the old lead is told
abbrev pub ends : JobContext → PairState → Pending → OpKind → Ending → JobResult
ends here own op kind.Write ending = finishes own op.client op.seq ending
ends here own op kind.Fill ending = says_to own (old_lead here.state op.cell) (moved_as op.key ending)
ends here own op kind.Copy ending = silent own

abbrev pub acts : JobContext → PairState → Pending → Action → JobResult
acts here own op action.Reserve = says_to own (second here.state op.cell) (body.Reserve op.op op.cell)
acts here own op (action.Mark kind) = marks own op kind
acts here own op action.Put = puts here own op
acts here own op action.Replicate =
    says_to own (second here.state op.cell) (body.Replicate op.op op.key op.version (origin_by here.state op) op.bytes)
acts here own op (action.Unmark kind) = unmarks own op kind
acts here own op action.Answer = ends here (without_pending own op.cell) op op.kind Written
acts here own op action.Drop = silent (gives_up own op)

abbrev pub goes_on_with : JobContext → PairState → Option Pending → JobResult
goes_on_with here own None = silent own
goes_on_with here own (Some op) = acts here own op (next_stage here.state here.me op)

-- the operation that is pending on the cell does its next stage
unfoldable pub goes_on : JobContext → PairState → Cell → JobResult
goes_on here own cell = goes_on_with here own (pending_on own cell)

-- ### Write

-- a client's write, as its letter has it
pub record Wanted : Type 0 where
  pub client : ℕ
  pub seq : ℕ
  pub cell : Cell
  pub epoch : ℕ
  pub bytes : List ℕ

-- how a request stands to the last one that is finished for its client
pub data Standing : Type 0 where
  Older : Standing
  Again : Ending → Standing
  Newer : Standing

abbrev pub standing : Option Finished → ℕ → Standing
standing None seq = Newer
standing (Some last) seq = if nat_lt seq last.seq then Older else if seq == last.seq then Again last.ending else Newer

abbrev pub is_writes_held : Hold → Bool
is_writes_held hold.No = false
is_writes_held hold.Writes = true
is_writes_held hold.All = true

-- the operation was opened for this request
abbrev pub is_for : Pending → Wanted → Bool
is_for op want = is_clients op.kind && (op.client == want.client) && (op.seq == want.seq)

-- nothing is done yet
abbrev pub first_stage : Stage
first_stage = record { reserved = false; busy = false; stale = false; put = false; paired = false; trimmed = false; index = 0 }

-- the operation that a write opens, under the next number of this life
abbrev pub operation : JobContext → ℕ → Wanted → Pending
operation here number want = record {
  op = number;
  kind = kind.Write;
  cell = want.cell;
  key = key_at want.cell want.epoch;
  version = 0;
  stage = first_stage;
  client = want.client;
  seq = want.seq;
  rev = here.state.rev;
  bytes = want.bytes;
}

-- the own with an operation opened under its next number, and a slot of its own set apart
abbrev pub with_opened : PairState → Pending → PairState
with_opened own op =
    let with_op = with_pending own op in
    record with_op { pairs = record with_op.pairs { next = own.pairs.next + 1 }; store = with_ticket own.store }

-- the same for a write
abbrev pub opened : JobContext → PairState → Wanted → PairState
opened here own want = with_opened own (operation here own.pairs.next want)

-- a write that is neither finished nor pending
abbrev pub opens : JobContext → PairState → Wanted → (room : Bool) → JobResult
opens here own want false = finishes own want.client want.seq Full
opens here own want true = goes_on here (opened here own want) want.cell

-- a fence holds the cell's writes, or this server has started a ballot for its link's Caught
abbrev pub is_kept_back : State → PairState → Cell → Bool
is_kept_back state own cell = is_writes_held (held state cell) || has_proposed state own cell

-- an operation or a copy is under way on the cell
abbrev pub is_under_way : PairState → Cell → Bool
is_under_way own cell = is_some (pending_on own cell) || is_some (copying_on own cell)

-- what is kept back, or waits for what is under way on its block, is refused, and ends nothing
abbrev pub takes_newer : JobContext → PairState → Wanted → (kept_back busy : Bool) → JobResult
takes_newer here own want true busy = says own (actor.Client want.client) (body.Held want.seq)
takes_newer here own want false true = says own (actor.Client want.client) (body.BlockBusy want.seq)
takes_newer here own want false false = opens here own want (nat_lt 0 (free_of own.store))

abbrev pub is_pending_for : Option Pending → Wanted → Bool
is_pending_for None want = false
is_pending_for (Some op) want = is_for op want

abbrev pub takes : JobContext → PairState → Wanted → Standing → JobResult
takes here own want Older = silent own
takes here own want (Again ending) = says own (actor.Client want.client) (ended want.seq ending)
takes here own want Newer =
    if is_pending_for (pending_on own want.cell) want then silent own
    else takes_newer here own want (is_kept_back here.state own want.cell) (is_under_way own want.cell)

-- a write is taken by the cell's lead, once; its client is one of those that write
unfoldable pub on_write : JobContext → PairState → Wanted → JobResult
on_write here own want =
    if is_lead here.state here.me want.cell && nat_lt want.client client_limit
    then takes here own want (standing (at nat_cmp own.pairs.finished want.client) want.seq)
    else silent own

-- ### Reserved, PairFull and Replicated

-- it waits for its slot at the second server
abbrev pub is_reserving : Pending → ℕ → Bool
is_reserving op number = (op.op == number) && not op.stage.reserved

-- it waits for the second server's copy
abbrev pub is_replicating : Pending → ℕ → Bool
is_replicating op number = (op.op == number) && op.stage.put && not op.stage.paired

abbrev pub with_reserved : Pending → Pending
with_reserved op = record op { stage = record op.stage { reserved = true } }

abbrev pub with_paired : Pending → Pending
with_paired op = record op { stage = record op.stage { paired = true } }

abbrev pub hears_reserved : JobContext → PairState → ℕ → Option Pending → JobResult
hears_reserved here own number None = silent own
hears_reserved here own number (Some op) =
    if is_reserving op number then goes_on here (with_pending own (with_reserved op)) op.cell else silent own

unfoldable pub on_reserved : JobContext → PairState → ℕ → Cell → JobResult
on_reserved here own number cell = hears_reserved here own number (pending_on own cell)

-- the lead gives its slot back, and answers that there is none; an operation whose copy is put goes on
abbrev pub hears_pair_full : JobContext → PairState → ℕ → Option Pending → JobResult
hears_pair_full here own number None = silent own
hears_pair_full here own number (Some op) =
    if is_reserving op number && not op.stage.put then ends here (gives_back (without_pending own op.cell)) op op.kind Full
    else silent own

-- only an operation that still waits for its reservation is refused
unfoldable pub on_pair_full : JobContext → PairState → ℕ → Cell → JobResult
on_pair_full here own number cell = hears_pair_full here own number (pending_on own cell)

abbrev pub hears_replicated : JobContext → PairState → ℕ → Option Pending → JobResult
hears_replicated here own number None = silent own
hears_replicated here own number (Some op) =
    if is_replicating op number then goes_on here (with_pending own (with_paired op)) op.cell else silent own

unfoldable pub on_replicated : JobContext → PairState → ℕ → Cell → JobResult
on_replicated here own number cell = hears_replicated here own number (pending_on own cell)

-- ### The second server: Reserve and Replicate

-- the last operation on the cell that this server took part in as second server
abbrev pub last_on : PairState → Cell → Option LastOp
last_on own cell = at cell_cmp own.pairs.last cell

abbrev pub with_last : PairState → Cell → ℕ → FollowProgress → PairState
with_last own cell number far = record own { pairs = record own.pairs { last = put cell_cmp own.pairs.last cell (record { op = number; progress = far }) } }

-- the second server tells the lead how far it is
abbrev pub tells : JobContext → PairState → Cell → ℕ → FollowProgress → JobResult
tells here own cell number follow_progress.Reserved = says_to own (first here.state cell) (body.Reserved number cell)
tells here own cell number follow_progress.Replicated = says_to own (first here.state cell) (body.Replicated number cell)

-- a slot is set apart and not yet used
abbrev pub has_slot : FollowProgress → Bool
has_slot follow_progress.Reserved = true
has_slot follow_progress.Replicated = false

-- an operation that is new here gets the slot that is set apart for the cell, or a free one
abbrev pub reserves : JobContext → PairState → Cell → ℕ → (has room : Bool) → JobResult
reserves here own cell number true room = tells here (with_last own cell number follow_progress.Reserved) cell number follow_progress.Reserved
reserves here own cell number false true =
    tells here (with_last (record own { store = with_ticket own.store }) cell number follow_progress.Reserved) cell number follow_progress.Reserved
reserves here own cell number false false = says_to own (first here.state cell) (body.PairFull number cell)

-- an older number is dropped, an equal one is answered again
abbrev pub hears_reserve : JobContext → PairState → Cell → ℕ → Option LastOp → JobResult
hears_reserve here own cell number None = reserves here own cell number false (nat_lt 0 (free_of own.store))
hears_reserve here own cell number (Some last) =
    if nat_lt number last.op then silent own
    else if number == last.op then tells here own cell number last.progress
    else reserves here own cell number (has_slot last.progress) (nat_lt 0 (free_of own.store))

unfoldable pub on_reserve : JobContext → PairState → ℕ → Cell → JobResult
on_reserve here own number cell = if is_second here.state here.me cell then hears_reserve here own cell number (last_on own cell) else silent own

-- the second server puts its copy, with the version after that of its own chain, for the write that the lead named
abbrev pub follows : JobContext → PairState → ℕ → Key → Option Named → List ℕ → JobResult
follows here own number key origin bytes =
    let version = version_of (chain_in own.store.chains (cell_of key)) + 1 in
    let now : PairState = record own { store = with_put own.store key (record { version = version; bytes = bytes }) origin } in
    tells here (with_last now (cell_of key) number follow_progress.Replicated) (cell_of key) number follow_progress.Replicated

-- once, in the slot that was set apart
abbrev pub follows_once : JobContext → PairState → ℕ → Key → Option Named → List ℕ → FollowProgress → JobResult
follows_once here own number key origin bytes follow_progress.Reserved = follows here own number key origin bytes
follows_once here own number key origin bytes follow_progress.Replicated = tells here own (cell_of key) number follow_progress.Replicated

-- only for the number whose slot was set apart; an equal number is answered again
abbrev pub hears_replicate : JobContext → PairState → ℕ → Key → Option Named → List ℕ → Option LastOp → JobResult
hears_replicate here own number key origin bytes None = silent own
hears_replicate here own number key origin bytes (Some last) =
    if number == last.op then follows_once here own number key origin bytes last.progress else silent own

unfoldable pub on_replicate : JobContext → PairState → ℕ → Key → Option Named → List ℕ → JobResult
on_replicate here own number key origin bytes =
    if is_second here.state here.me (cell_of key)
    then hears_replicate here own number key origin bytes (last_on own (cell_of key))
    else silent own

-- An operation that is opened.
use Rattle.std.proofs.Common.{◌≡◌, ◌+◌, ℕ, Bool, true, false, List, Option, Some, None, IsSome, refl, sym, subst, ap, ◌∙◌, arith}
use Rattle.std.proofs.Common.{Result, Err, OnErr}
use Rattle.std.specs.Prelude.{if◌then◌else◌}
use Rattle.petal_base.specs.declared.cell.Cell.{Cell}
use Rattle.petal_disk.specs.Disk.{LeavesOnly}
use Rattle.petal_disk.specs.declared.disk.Disk.{Ghosts}
use Rattle.petal_table.specs.Table.{Table, at, put, without}
use Rattle.spec_rules.specs.Server.{JobContext, PairState}
use Rattle.spec_rules.specs.Server.{JobResult as Rule}
use Rattle.spec_rules.specs.Store.{Store, cell_cmp, marked_by}
use Rattle.petal_msg.specs.declared.operation.Action.{Action}
use Rattle.petal_msg.specs.declared.operation.Action.TheVariants as action
use Rattle.petal_msg.specs.declared.operation.Ending.{Ending}
use Rattle.petal_msg.specs.declared.operation.Ending.TheVariants.{Full, Written}
use Rattle.petal_msg.specs.declared.operation.OpKind.{OpKind}
use Rattle.petal_msg.specs.declared.operation.OpKind.TheVariants as kind
use Rattle.petal_msg.specs.declared.operation.Pending.{Pending}
use Rattle.spec_rules.specs.Writes.{acts, ends, gives_back, goes_on, goes_on_with, next_stage, with_opened, without_pending}
use Rattle.spec_rules.proofs.CellTables.{cell_cmp_total, cell_same}
use Rattle.server_store.specs.Holdings.{Holdings, kept_in, marked_in}
use Rattle.server_store.specs.Tickets as lists
use Rattle.kept_chains.proofs.Puts.{without_new}
use Rattle.kept_chains.specs.Kept.{store_of}
use Rattle.kept_chains.specs.Standing.{StandsAsEither}
use Rattle.pair_memory.specs.declared.job_result.JobResult.{JobResult}
use Rattle.pair_memory.specs.declared.error.WorkError.{WorkError}
use Rattle.pair_memory.specs.declared.error.WorkError.TheVariants.{Failed, NoRoom, NoMemory, Exhausted}
use Rattle.pair_memory.specs.JobResult.{HasFault, HoldsAt, IsDone, IsFull, IsSaid, held}
use Rattle.pair_memory.specs.PairMemory.{PairMemory, HasTicketsAt, needs_own, own_of, pairs_of}
use Rattle.pair_memory.specs.Slots.{IsOutAt}
use Rattle.pair_memory.proofs.Tickets as tickets
use Rattle.pair_memory.proofs.Said.{all_same, all_spent, said_done, spent_done}
use Rattle.write_pair.specs.Opened.{IsOpenError, IsOpened, begun}

ends_next : (here : JobContext) (own : PairState) (op : Pending) (kind : OpKind) (ending : Ending)
    → (ends here own op kind ending).own.pairs.next ≡ own.pairs.next
ends_next here own op kind.Write ending = refl
ends_next here own op kind.Fill ending = refl
ends_next here own op kind.Copy ending = refl

left_next : (own : PairState) (op : Pending) (put : Bool)
    → (if put then without_pending own op.cell else gives_back (without_pending own op.cell)).pairs.next ≡ own.pairs.next
left_next own op true = refl
left_next own op false = refl

-- no stage takes a number
acts_next : (here : JobContext) (own : PairState) (op : Pending) (action : Action) → (acts here own op action).own.pairs.next ≡ own.pairs.next
acts_next here own op action.Reserve = refl
acts_next here own op (action.Mark kind) = refl
acts_next here own op action.Put = refl
acts_next here own op action.Replicate = refl
acts_next here own op (action.Unmark kind) = refl
acts_next here own op action.Answer = ends_next here (without_pending own op.cell) op op.kind Written
acts_next here own op action.Drop = left_next own op op.stage.put

begun_next : (here : JobContext) (own : PairState) (op : Pending) → (begun here own op true).own.pairs.next ≡ own.pairs.next + 1
unfolding goes_on
begun_next here own op =
    ap (λ (o : Option Pending). (goes_on_with here (with_opened own op) o).own.pairs.next) (cell_same own.pairs.pending op.cell op)
    ∙ acts_next here (with_opened own op) op (next_stage here.state here.me op)

module _ {D : Type 0} (op : Pending) (side : PairMemory) (store : Holdings D) (h : HasTicketsAt side store)
    (none : at cell_cmp side.pending op.cell ≡ None) where
  -- it was not opened
  pub not_opened : (here : JobContext) (device : Ghosts D) → ((d : D) → device.came_to d d)
      → ((d : D) (c : List ℕ) → device.left_since d (device.moment d) c → device.may_leave d c)
      → (new : PairMemory) (after : Holdings D) (room : Bool) (e : WorkError) → new ≡ side → after ≡ store → IsOpenError side.next room e
      → IsDone device here (held side store) (held new after) (Err e) (begun here (own_of side store) op room)
  not_opened here device stays only_now new after room Failed same kept why = absurd why
  not_opened here device stays only_now new after room NoRoom same kept why = absurd why
  not_opened here device stays only_now new after room NoMemory same kept why =
      said_done device stays only_now here side new store after (Err NoMemory) (begun here (own_of side store) op room)
      (all_same here side new store after (begun here (own_of side store) op room) same kept)
  not_opened here device stays only_now new after room Exhausted same kept why =
      let next : (begun here (own_of side store) op room).own.pairs.next ≡ side.next + 1 = rw why.1 (begun_next here (own_of side store) op) in
      let over = why.0 in
      spent_done device stays only_now here side new store after (begun here (own_of side store) op room)
      (all_spent device stays only_now side new store after (begun here (own_of side store) op room) same kept (omega (arith, next, over))) kept

  -- no slot was free for it, and what it is for ended
  pub unopened_done : (here : JobContext) (device : Ghosts D) → ((d : D) → device.came_to d d)
      → ((d : D) (c : List ℕ) → device.left_since d (device.moment d) c → device.may_leave d c)
      → (mid last : PairMemory) (left : Holdings D) (result : Result JobResult WorkError) (room : Bool) → room ≡ false → mid ≡ side → left ≡ store
      → IsSaid here mid last left left result (ends here (own_of mid left) op op.kind Full)
      → IsDone device here (held side store) (held last left) result (begun here (own_of side store) op room)
  unopened_done here device stays only_now mid last left result room full same kept said =
      let at_side = subst (λ (s : PairMemory). IsSaid here s last left left result (ends here (own_of s left) op op.kind Full)) same said in
      let at_store = subst (λ (s : Holdings D). IsSaid here side last s left result (ends here (own_of side s) op op.kind Full)) kept at_side in
      rw full (said_done device stays only_now here side last store left result (ends here (own_of side store) op op.kind Full) at_store)

  own_none : at cell_cmp side.own op.cell ≡ None
  own_none = tickets.own_none side.pending side.last side.own side.apart store.tickets h op.cell (ap needs_own none)

  -- a slot that was set apart and given back
  pub own_back : (own back : Table Cell ℕ) (slot : ℕ) → own ≡ put cell_cmp side.own op.cell slot → back ≡ without cell_cmp own op.cell → back ≡ side.own
  own_back own back slot is gone =
      gone ∙ ap (λ (t : Table Cell ℕ). without cell_cmp t op.cell) is ∙ without_new cell_cmp cell_cmp_total side.own op.cell slot own_none

  module _ (new : PairMemory) (after : Holdings D) (opened : IsOpened op side new store after) where
    pub opened_tickets : op.stage.put ≡ false → HasTicketsAt new after
    opened_tickets new_op = rw (opened.side, opened.store)
        (tickets.kept_opened side.pending side.last side.own side.apart store.tickets h op.cell op opened.slot own_none new_op)

    slot_there : at cell_cmp new.own op.cell ≡ Some opened.slot
    slot_there = ap (λ (s : PairMemory). at cell_cmp s.own op.cell) opened.side ∙ cell_same side.own op.cell opened.slot

    -- the operation was opened, and no stage of it changed anything
    module _ (mid : PairMemory) (held : Holdings D) (side_is : mid ≡ new) (store_is : held ≡ after) where
      pub slot_some : IsSome (at cell_cmp mid.own op.cell)
      slot_some = rw side_is (grind (arith, slot_there))

      pub slot_out : op.stage.put ≡ false → IsOutAt mid.own op.cell held.tickets
      slot_out new_op = rw (side_is, store_is) (tickets.own_out new.pending new.last new.own new.apart after.tickets (opened_tickets new_op) op.cell)

      -- it is taken back, so that the side and the store are as before
      pub side_back : (last : PairMemory)
          → last ≡ record mid { next = side.next; pending = without cell_cmp mid.pending op.cell; own = without cell_cmp mid.own op.cell } → last ≡ side
      side_back last is =
          let opened_own = put cell_cmp side.own op.cell opened.slot in
          let own = own_back opened_own (without cell_cmp opened_own op.cell) opened.slot refl refl in
          let pending = without_new cell_cmp cell_cmp_total side.pending op.cell op none in
          is
          ∙ ap (λ (s : PairMemory). record s { next = side.next; pending = without cell_cmp s.pending op.cell; own = without cell_cmp s.own op.cell })
          (side_is ∙ opened.side)
          ∙ (λ i. record side { pending = pending i; own = own i })

      pub store_back : (left : Holdings D)
          → ((slot : ℕ) → at cell_cmp mid.own op.cell ≡ Some slot → left ≡ record held { tickets = lists.without held.tickets slot }) → left ≡ store
      store_back left gone =
          gone opened.slot (ap (λ (s : PairMemory). at cell_cmp s.own op.cell) side_is ∙ slot_there)
          ∙ ap (λ (s : Holdings D). record s { tickets = lists.without s.tickets opened.slot }) store_is
          ∙ tickets.undone store after opened.slot opened.slot opened.store refl opened.other

    -- its own part as the rule opens it
    opened_is : own_of new after ≡ with_opened (own_of side store) op
    opened_is =
        ap (λ (s : PairMemory). record { pairs = pairs_of s; copies = s.copies; filled = s.filled; store = store_of after }) opened.side
        ∙ ap (λ (s : Store). record { pairs = (with_opened (own_of side store) op).pairs; copies = side.copies; filled = side.filled; store = s })
        (tickets.kept_is store after opened.slot opened.store)

    -- there was no room for the mark of its first stage, and it is taken back
    pub full_back : (here : JobContext) (mid last : PairMemory) (held left : Holdings D) (room : Bool) → room ≡ true
        → IsFull new mid after held (goes_on here (own_of new after) op.cell)
        → last ≡ record mid { next = side.next; pending = without cell_cmp mid.pending op.cell; own = without cell_cmp mid.own op.cell }
        → ((slot : ℕ) → at cell_cmp mid.own op.cell ≡ Some slot → left ≡ record held { tickets = lists.without held.tickets slot })
        → IsFull side last store left (begun here (own_of side store) op room)
    full_back here mid last held left room is full side_is store_is = record {
      count = ap (λ (s : Holdings D). marked_in s) (sym opened.store) ∙ full.count;
      over = rw is (ap (λ (own : PairState). marked_by (goes_on here own op.cell).own.store) (sym opened_is) ∙ full.over);
      same = (side_back mid held full.same.0 full.same.1 last side_is, store_back mid held full.same.0 full.same.1 left store_is);
    }

    -- what its first stage leaves, as seen from before it was opened; unless that was refused, as it is taken back then
    pub opened_done : (here : JobContext) (device : Ghosts D) (last : PairMemory) (left : Holdings D) (result : Result JobResult WorkError) (room : Bool)
        → room ≡ true
        → ¬ (result ≡ Err NoMemory) → ¬ (result ≡ Err NoRoom) → ¬ (result ≡ Err Exhausted)
        → IsDone device here (held new after) (held last left) result (goes_on here (own_of new after) op.cell)
        → IsDone device here (held side store) (held last left) result (begun here (own_of side store) op room)
    opened_done here device last left result room is memory full spent stage =
        rw is (subst (λ (rule : Rule). IsDone device here (held side store) (held last left) result rule)
        (ap (λ (own : PairState). goes_on here own op.cell) opened_is) (record {
          done = stage.done;
          keeps = stage.keeps;
          holds = λ told holds. stage.holds told (subst (HoldsAt device) (sym opened.store) holds);
          moments = λ told holds.
              subst (λ (s : Holdings D). LeavesOnly device.moment device.left_since s.disk left.disk
              (StandsAsEither s (goes_on here (own_of new after) op.cell).own.store)) opened.store
              (stage.moments told (subst (HoldsAt device) (sym opened.store) holds));
          still = λ no. absurd (memory no);
          same = λ no. absurd (memory no);
          kept = subst (λ (s : Holdings D). OnErr result (device.observable → left.entries ≡ s.entries)) opened.store stage.kept;
          stays = subst (λ (s : Holdings D). OnErr result (kept_in left ≡ kept_in s)) opened.store stage.stays;
          full = λ no. absurd (full no);
          spent = λ no. absurd (spent no);
          cause = subst (λ (s : Holdings D). HasFault (device.faults s.disk) (device.faults left.disk) result) opened.store stage.cause;
          run = subst (λ (s : Holdings D). device.came_to s.disk left.disk) opened.store stage.run;
        }))

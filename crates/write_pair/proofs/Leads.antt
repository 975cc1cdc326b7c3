-- What the lead does with the letters of its second server.
use Rattle.std.proofs.Common.{◌≡◌, ℕ, Bool, true, false, not, Some, Ok, refl, sym, ap, ◌∙◌, arith}
use Rattle.std.proofs.lemmas.Bool.Decides.{nat_tests}
use Rattle.std.specs.Prelude.{if◌then◌else◌}
use Rattle.std.specs.List.Sorted.{IsStrictlySortedBy}
use Rattle.std.specs.Map.{keys_of}
use Rattle.petal_base.specs.declared.cell.Cell.{Cell}
use Rattle.petal_table.specs.Table.{Table, at, without}
use Rattle.petal_msg.specs.declared.operation.Ending.TheVariants.{Full}
use Rattle.petal_msg.specs.declared.operation.Pending.{Pending}
use Rattle.spec_rules.specs.Server.{PairState, JobContext, letters_of, sender, silent}
use Rattle.spec_rules.specs.Server.{JobResult as Rule}
use Rattle.spec_rules.specs.Store.{cell_cmp, without_ticket}
use Rattle.spec_rules.specs.Writes.{acts, ends, gives_back, goes_on, goes_on_with, next_stage, without_pending}
use Rattle.spec_rules.specs.Writes.{hears_reserved, hears_replicated, is_reserving, is_replicating, on_reserved, on_replicated}
use Rattle.spec_rules.specs.Writes.{with_pending, with_paired, with_reserved}
use Rattle.spec_rules.proofs.CellTables.{cell_same}
use Rattle.server_store.specs.Holdings.{Holdings}
use Rattle.server_store.specs.Tickets as lists
use Rattle.kept_chains.specs.Kept.{store_of}
use Rattle.pair_memory.specs.declared.job_result.JobResult.{JobResult}
use Rattle.pair_memory.specs.PairMemory.{PairMemory, HasTicketsAt, needs_own, own_of}
use Rattle.pair_memory.specs.JobResult.{IsSaid}
use Rattle.pair_memory.proofs.Tickets as tickets
use Rattle.write_pair.proofs.Ending.{ends_pending, ends_with, own_with}

pub reserving : (op : Pending) (number : ℕ) → op.op ≡ number → op.stage.reserved ≡ false → is_reserving op number ≡ true
reserving op number same waits = grind (arith, nat_tests, same, waits)

pub replicating : (op : Pending) (number : ℕ) → op.op ≡ number → op.stage.put ≡ true → op.stage.paired ≡ false → is_replicating op number ≡ true
replicating op number same put waits = grind (arith, nat_tests, same, put, waits)

pub reserved_is : (here : JobContext) (own : PairState) (number : ℕ) (cell : Cell) (op : Pending) → at cell_cmp own.pairs.pending cell ≡ Some op
    → is_reserving op number ≡ true
    → acts here (with_pending own (with_reserved op)) (with_reserved op) (next_stage here.state here.me (with_reserved op)) ≡ on_reserved here own number cell
unfolding on_reserved goes_on
reserved_is here own number cell op is waits =
    sym (ap (hears_reserved here own number) is
    ∙ ap (λ (b : Bool). if b then goes_on here (with_pending own (with_reserved op)) op.cell else silent own) waits
    ∙ ap (goes_on_with here (with_pending own (with_reserved op))) (cell_same own.pairs.pending op.cell (with_reserved op)))

pub replicated_is : (here : JobContext) (own : PairState) (number : ℕ) (cell : Cell) (op : Pending) → at cell_cmp own.pairs.pending cell ≡ Some op
    → is_replicating op number ≡ true
    → acts here (with_pending own (with_paired op)) (with_paired op) (next_stage here.state here.me (with_paired op)) ≡ on_replicated here own number cell
unfolding on_replicated goes_on
replicated_is here own number cell op is waits =
    sym (ap (hears_replicated here own number) is
    ∙ ap (λ (b : Bool). if b then goes_on here (with_pending own (with_paired op)) op.cell else silent own) waits
    ∙ ap (goes_on_with here (with_pending own (with_paired op))) (cell_same own.pairs.pending op.cell (with_paired op)))

-- an operation whose copy is not put has its slot
pub full_slot : {D : Type 0} (side : PairMemory) (store : Holdings D) (op : Pending) → HasTicketsAt side store → at cell_cmp side.pending op.cell ≡ Some op
    → op.stage.put ≡ false → (slot : ℕ) × (at cell_cmp side.own op.cell ≡ Some slot)
full_slot side store op h there unused =
    tickets.own_slot side.pending side.last side.own side.apart store.tickets h op.cell (ap needs_own there ∙ ap not unused)

module _ {D : Type 0} (here : JobContext) (side after : PairMemory) (store : Holdings D) (op : Pending) (done : JobResult) where
  -- nothing else is pending where an operation ended
  pub finished_pending : IsSaid here side after store store (Ok done) (ends here (own_of side store) op op.kind Full) → after.pending ≡ side.pending
  finished_pending said = ap (λ (own : PairState). own.pairs.pending) said.done.own ∙ ends_pending here (own_of side store) op op.kind Full

  pub full_is : (new : Table Cell Pending) (own : Table Cell ℕ) (left : Holdings D) (slot : ℕ) → new ≡ without cell_cmp after.pending op.cell
      → IsStrictlySortedBy cell_cmp (keys_of after.own) → at cell_cmp after.own op.cell ≡ Some slot → own ≡ without cell_cmp after.own op.cell
      → left ≡ record store { tickets = lists.without store.tickets slot }
      → IsSaid here side after store store (Ok done) (ends here (own_of side store) op op.kind Full)
      → IsSaid here side (record after { pending = new; own = own }) store left (Ok done)
      (ends here (gives_back (without_pending (own_of side store) op.cell)) op op.kind Full)
  full_is new own left slot table sorted has gone rest said =
      let out = tickets.own_out after.pending after.last after.own after.apart store.tickets said.keeps op.cell slot has in
      let given = tickets.given_is store (record store { tickets = lists.without store.tickets slot }) slot out refl in
      let closed : Table Cell Pending = without cell_cmp side.pending op.cell in
      let left_is : without cell_cmp after.pending op.cell ≡ closed = ap (λ (t : Table Cell Pending). without cell_cmp t op.cell) (finished_pending said) in
      let with_closed = sym (ends_with here (own_of side store) op op.kind Full closed (without_ticket (store_of store))) in
      rw (table, gone, rest) (record {
        done = record {
          own = (λ i. own_with (left_is i) (given i) (said.done.own i)) ∙ ap (λ (r : Rule). r.own) with_closed;
          letters = said.done.letters ∙ ap (λ (r : Rule). letters_of (sender here) 0 r.posts) with_closed;
          jobs = said.done.jobs ∙ ap (λ (r : Rule). r.jobs) with_closed;
        };
        keeps = tickets.kept_dropped after.pending after.last after.own after.apart store.tickets said.keeps op.cell slot sorted has;
        err = tt;
        store = refl;
      })

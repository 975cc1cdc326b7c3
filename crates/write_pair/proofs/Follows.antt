-- What the second server does.
use Rattle.std.proofs.Common.{◌≡◌, ℕ, ◌+◌, Bool, true, false, List, Option, Some, None, Result, Ok, Err, refl, sym, subst, ap, ◌∙◌}
use Rattle.std.specs.Prelude.{if◌then◌else◌}
use Rattle.std.specs.List.Sorted.{IsStrictlySortedBy}
use Rattle.std.specs.Map.{keys_of}
use Rattle.petal_base.specs.declared.cell.Cell.{Cell}
use Rattle.petal_base.specs.declared.cell.Key.{Key}
use Rattle.petal_base.specs.Cells.{cell_of}
use Rattle.petal_base.specs.Origins.{Named}
use Rattle.petal_disk.specs.declared.disk.Disk.{Ghosts}
use Rattle.petal_table.specs.Table.{Table, at, put, without}
use Rattle.petal_msg.specs.declared.body.Body.TheVariants as body
use Rattle.petal_msg.specs.declared.letter.Letter.{Letter}
use Rattle.petal_msg.specs.declared.operation.FollowProgress.TheVariants as follow_progress
use Rattle.petal_msg.specs.declared.operation.LastOp.{LastOp}
use Rattle.petal_msg.specs.declared.operation.Pending.{Pending}
use Rattle.spec_rules.specs.State.{first, is_second}
use Rattle.spec_rules.specs.Server.{PairState, JobContext, JobResult, silent, says_to, sender, letters_of, post_to}
use Rattle.spec_rules.specs.Store.{Store, cell_cmp, chain_in, version_of, with_put}
use Rattle.spec_rules.specs.Writes.{follows, hears_reserve, last_on, on_reserve, reserves, tells, with_last}
use Rattle.spec_rules.proofs.CellTables.{cell_cmp_total}
use Rattle.server_store.specs.Holdings.{Holdings}
use Rattle.server_store.specs.Tickets as lists
use Rattle.kept_chains.specs.Kept.{chains_of, store_of}
use Rattle.kept_chains.proofs.Puts.{without_new}
use Rattle.pair_memory.specs.declared.job_result.JobResult.{JobResult as Left}
use Rattle.pair_memory.specs.declared.error.WorkError.{WorkError}
use Rattle.pair_memory.specs.declared.error.WorkError.TheVariants.{NoMemory}
use Rattle.pair_memory.specs.PairMemory.{PairMemory, HasTickets, HasTicketsAt, needs_apart, own_of, pairs_of}
use Rattle.pair_memory.specs.JobResult.{IsBy, IsDone, IsSaid, held, only}
use Rattle.pair_memory.specs.Slots.{IsKept}
use Rattle.pair_memory.proofs.Said.{all_same}
use Rattle.pair_memory.proofs.Tickets.{kept_followed}
use Rattle.pair_memory.proofs.Tickets as tickets

abbrev pub reserved : ℕ → LastOp
reserved number = record { op = number; progress = follow_progress.Reserved }

abbrev pub replicated : ℕ → LastOp
replicated number = record { op = number; progress = follow_progress.Replicated }

-- what the second server leaves that put its copy, at the cell of the key
abbrev pub follows_in : JobContext → PairState → ℕ → Key → Option Named → List ℕ → Cell → JobResult
follows_in here own number key origin bytes cell =
    says_to
    (with_last (record own { store = with_put own.store key (record { version = version_of (chain_in own.store.chains cell) + 1; bytes = bytes }) origin })
    cell number follow_progress.Replicated)
    (first here.state cell) (body.Replicated number cell)

module _ {D : Type 0} (here : JobContext) (side : PairMemory) (store : Holdings D) (cell : Cell) (number : ℕ) (h : HasTicketsAt side store) where
  pub again_is : (last : Table Cell LastOp) (done : Left) → needs_apart (at cell_cmp side.last cell) ≡ true
      → last ≡ put cell_cmp side.last cell (reserved number)
      → IsSaid here side side store store (Ok done) (tells here (own_of side store) cell number follow_progress.Reserved)
      → IsSaid here side (record side { last = last }) store store (Ok done)
      (tells here (with_last (own_of side store) cell number follow_progress.Reserved) cell number follow_progress.Reserved)
  again_is last done has table said =
      rw table (record {
        done = record { own = refl; letters = said.done.letters; jobs = said.done.jobs };
        keeps = tickets.kept_last side.pending side.last side.own side.apart store.tickets h cell (reserved number) has;
        err = tt;
        store = refl;
      })

  apart_none : needs_apart (at cell_cmp side.last cell) ≡ false → at cell_cmp side.apart cell ≡ None
  apart_none has = tickets.apart_none side.pending side.last side.own side.apart store.tickets h cell has

  pub free_slot_is : (last : Table Cell LastOp) (apart : Table Cell ℕ) (after : Holdings D) (letters : List Letter) (room : Bool)
      → needs_apart (at cell_cmp side.last cell) ≡ false → room ≡ true → IsKept side.apart apart store after cell
      → last ≡ put cell_cmp side.last cell (reserved number)
      → letters ≡ letters_of (sender here) 0 (post_to (first here.state cell) (body.Reserved number cell))
      → IsSaid here side (record side { last = last; apart = apart }) store after (Ok (only letters)) (reserves here (own_of side store) cell number false room)
  free_slot_is last apart after letters room has free kept table said =
      rw (free, table, said, kept.table, kept.store) (record {
        done = record {
          own = ap (λ (s : Store). record {
            pairs = pairs_of (record side { last = put cell_cmp side.last cell (reserved number) });
            copies = side.copies;
            filled = side.filled;
            store = s;
          })
              (tickets.kept_is store _ kept.slot refl);
          letters = refl;
          jobs = refl;
        };
        keeps = tickets.kept_apart side.pending side.last side.own side.apart store.tickets h cell (reserved number) kept.slot (apart_none has) refl;
        err = tt;
        store = refl;
      })

  apart_back : (apart back : Table Cell ℕ) (slot : ℕ) → needs_apart (at cell_cmp side.last cell) ≡ false
      → apart ≡ put cell_cmp side.apart cell slot → back ≡ without cell_cmp apart cell → back ≡ side.apart
  apart_back apart back slot has is gone =
      gone ∙ ap (λ (t : Table Cell ℕ). without cell_cmp t cell) is ∙ without_new cell_cmp cell_cmp_total side.apart cell slot (apart_none has)

  -- where memory is short the slot is given back
  pub refused_is : (last : Table Cell LastOp) (apart back : Table Cell ℕ) (after : Holdings D) (slot : ℕ) (rule : JobResult)
      → needs_apart (at cell_cmp side.last cell) ≡ false → last ≡ side.last → apart ≡ put cell_cmp side.apart cell slot
      → back ≡ without cell_cmp apart cell → after ≡ store
      → IsSaid here side (record side { last = last; apart = back }) store after (Err NoMemory) rule
  refused_is last apart back after slot rule has same is gone held =
      let back_is = apart_back apart back slot has is gone in
      all_same here side (record side { last = last; apart = back }) store after rule (λ i. record side { last = same i; apart = back_is i }) held

  pub follows_done : (key : Key) (origin : Option Named) (bytes : List ℕ) (last : Table Cell LastOp) (apart : Table Cell ℕ) (after : Holdings D)
      (version : ℕ) (done : Left) → last ≡ put cell_cmp side.last cell (replicated number)
      → version ≡ version_of (chain_in (chains_of store.entries) cell) + 1
      → store_of after ≡ with_put (store_of store) key (record { version = version; bytes = bytes }) origin
      → done ≡ only (letters_of (sender here) 0 (post_to (first here.state cell) (body.Replicated number cell)))
      → IsBy here (own_of (record side { last = last; apart = apart }) after) done (follows_in here (own_of side store) number key origin bytes cell)
  follows_done key origin bytes last apart after version done table counted kept said =
      rw (table, said) (record {
        own = ap (λ (s : Store). record {
          pairs = pairs_of (record side { last = put cell_cmp side.last cell (replicated number) });
          copies = side.copies;
          filled = side.filled;
          store = s;
        })
            (kept ∙ ap (λ (v : ℕ). with_put (store_of store) key (record { version = v; bytes = bytes }) origin) counted);
        letters = refl;
        jobs = refl;
      })

  -- the cell of a key, where it has a name of its own
  pub at_key : (device : Ghosts D) (new : PairMemory) (after : Holdings D) (answer : Result Left WorkError) (key : Key) (origin : Option Named) (bytes : List ℕ)
      → cell ≡ cell_of key
      → IsDone device here (held side store) (held new after) answer (follows_in here (own_of side store) number key origin bytes cell)
      → IsDone device here (held side store) (held new after) answer (follows here (own_of side store) number key origin bytes)
  at_key device new after answer key origin bytes is done =
      subst (λ (c : Cell). IsDone device here (held side store) (held new after) answer (follows_in here (own_of side store) number key origin bytes c)) is done

-- the tickets once the copy is put in its slot
pub follows_keeps : (pending : Table Cell Pending) (was last : Table Cell LastOp) (own before apart : Table Cell ℕ) (tickets left : List ℕ) (cell : Cell)
    (number slot : ℕ) → HasTickets pending was own before tickets → last ≡ put cell_cmp was cell (replicated number)
    → IsStrictlySortedBy cell_cmp (keys_of before) → at cell_cmp before cell ≡ Some slot → apart ≡ without cell_cmp before cell
    → left ≡ lists.without tickets slot → HasTickets pending last own apart left
follows_keeps pending was last own before apart tickets left cell number slot h table sorted has gone less =
    rw (table, gone, less) (kept_followed pending was own before tickets h cell (replicated number) slot sorted has refl)

pub reserve_is : (here : JobContext) (own : PairState) (number : ℕ) (cell : Cell) (last : LastOp) → is_second here.state here.me cell ≡ true
    → at cell_cmp own.pairs.last cell ≡ Some last → hears_reserve here own cell number (Some last) ≡ on_reserve here own number cell
unfolding on_reserve
reserve_is here own number cell last second is =
    sym (ap (λ (b : Bool). if b then hears_reserve here own cell number (last_on own cell) else silent own) second ∙ ap (hears_reserve here own cell number) is)

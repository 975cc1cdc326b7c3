-- What each stage of an operation leaves is what the rules say.
use Rattle.std.proofs.Common.{◌≡◌, ℕ, ◌+◌, Bool, true, false, not, List, [], ◌∷◌, Option, Some, None, Result, Ok, refl, sym, subst, ap, ◌∙◌}
use Rattle.std.specs.Prelude.{if◌then◌else◌, IfSome}
use Rattle.std.specs.List.Sorted.{IsStrictlySortedBy}
use Rattle.std.specs.Map.{keys_of}
use Rattle.busy_marks.specs.declared.marks.MarkKind.{MarkKind}
use Rattle.busy_marks.specs.declared.marks.MarkKind.TheVariants.{Busy, Stale}
use Rattle.petal_base.specs.declared.cell.Cell.{Cell}
use Rattle.petal_disk.specs.declared.disk.Disk.{Ghosts}
use Rattle.petal_table.specs.Table.{Table, at, put, without}
use Rattle.petal_msg.specs.declared.operation.Action.{Action}
use Rattle.petal_msg.specs.declared.operation.Action.TheVariants as action
use Rattle.petal_msg.specs.declared.operation.Ending.TheVariants.{Written}
use Rattle.petal_msg.specs.declared.operation.Pending.{Pending}
use Rattle.petal_msg.specs.declared.operation.Stage.{Stage}
use Rattle.spec_rules.specs.declared.job.Job.TheVariants as job
use Rattle.spec_rules.specs.Server.{PairState, JobContext, Post, silent, sender, letters_of}
use Rattle.spec_rules.specs.Server.{JobResult as Rule}
use Rattle.spec_rules.specs.Store.{Store, cell_cmp, chain_in, version_of, with_put}
use Rattle.spec_rules.specs.Writes.{acts, ends, gives_back, goes_on, goes_on_with, next_stage, origin_by, with_flag, with_mark_at, with_pending}
use Rattle.spec_rules.specs.Writes.{without_pending}
use Rattle.spec_rules.proofs.CellTables.{cell_cmp_total}
use Rattle.pair_lock.specs.Pairs.{staged, at_stage, at_version, versioned}
use Rattle.server_store.specs.Holdings.{Holdings}
use Rattle.server_store.specs.Tickets as lists
use Rattle.kept_chains.specs.Kept.{chains_of, store_of}
use Rattle.kept_chains.specs.Marking.{IsCommit}
use Rattle.kept_chains.proofs.Puts.{put_over, put_same, without_put}
use Rattle.pair_memory.specs.declared.job_result.JobResult.{JobResult}
use Rattle.pair_memory.specs.declared.job_result.FollowUp.TheVariants as follow
use Rattle.pair_memory.specs.declared.error.WorkError.{WorkError}
use Rattle.pair_memory.specs.PairMemory.{PairMemory, HasTickets, HasTicketsAt, needs_own, own_of}
use Rattle.pair_memory.specs.JobResult.{IsBy, IsDone, IsSaid, held, only}
use Rattle.pair_memory.proofs.Said.{said_done}
use Rattle.pair_memory.proofs.Tickets as tickets
use Rattle.write_pair.specs.Moved.{IsMoved}
use Rattle.write_pair.proofs.Ending.{ends_pending, ends_with, own_with}

-- the own part with something else pending
abbrev pub re_pending : Table Cell Pending → PairState → PairState
re_pending t own = record own { pairs = record own.pairs { pending = t } }

-- the own part with nothing pending on a cell where an operation was given up, by whether its copy is put
abbrev given_up : PairState → Cell → Bool → PairState
given_up own cell put = if put then without_pending own cell else gives_back (without_pending own cell)

module _ {D : Type 0} (here : JobContext) (side : PairMemory) (store : Holdings D) (op : Pending) (h : HasTicketsAt side store)
    (m : IsMoved side.pending op) where
  needs : needs_own (at cell_cmp side.pending op.cell) ≡ not op.stage.put
  needs = ap needs_own m.there ∙ ap not m.put

  -- an operation whose copy is not put has its slot
  pub own_slot : op.stage.put ≡ false → (slot : ℕ) × (at cell_cmp side.own op.cell ≡ Some slot)
  own_slot unused = tickets.own_slot side.pending side.last side.own side.apart store.tickets h op.cell (needs ∙ ap not unused)

  staged_is : staged side.pending op.cell op.stage (at cell_cmp side.pending op.cell) ≡ put cell_cmp side.pending op.cell op
  staged_is = ap (staged side.pending op.cell op.stage) m.there ∙ ap (put cell_cmp side.pending op.cell) m.moved

  pub waits_is : (new : Table Cell Pending) (posts : List Post) (done : JobResult)
      → new ≡ staged side.pending op.cell op.stage (at cell_cmp side.pending op.cell) → done ≡ only (letters_of (sender here) 0 posts)
      → IsSaid here side (record side { pending = new }) store store (Ok done) (record { own = with_pending (own_of side store) op; posts = posts; jobs = [] })
  waits_is new posts done table is = rw (table ∙ staged_is, is) (record {
    done = record { own = refl; letters = refl; jobs = refl };
    keeps = tickets.kept_moved side.pending side.last side.own side.apart store.tickets h op.cell op needs;
    err = tt;
    store = refl;
  })

  closed_is : without cell_cmp (put cell_cmp side.pending op.cell op) op.cell ≡ without cell_cmp side.pending op.cell
  closed_is = without_put cell_cmp cell_cmp_total side.pending op.cell op

  pub answers_is : (after : PairMemory) (new : Table Cell Pending) (done : JobResult) → op.stage.put ≡ true → new ≡ without cell_cmp after.pending op.cell
      → IsSaid here side after store store (Ok done) (ends here (own_of side store) op op.kind Written)
      → IsSaid here side (record after { pending = new }) store store (Ok done) (acts here (with_pending (own_of side store) op) op action.Answer)
  answers_is after new done used table said =
      let closed : Table Cell Pending = without cell_cmp (put cell_cmp side.pending op.cell op) op.cell in
      let same : after.pending ≡ side.pending = ap (λ (own : PairState). own.pairs.pending) said.done.own
      ∙ ends_pending here (own_of side store) op op.kind Written in
      let left : without cell_cmp after.pending op.cell ≡ closed = ap (λ (t : Table Cell Pending). without cell_cmp t op.cell) same ∙ sym closed_is in
      let with_closed = sym (ends_with here (own_of side store) op op.kind Written closed (store_of store)) in
      rw table (record {
        done = record {
          own = (λ i. own_with (left i) (store_of store) (said.done.own i)) ∙ ap (λ (r : Rule). r.own) with_closed;
          letters = said.done.letters ∙ ap (λ (r : Rule). letters_of (sender here) 0 r.posts) with_closed;
          jobs = said.done.jobs ∙ ap (λ (r : Rule). r.jobs) with_closed;
        };
        keeps = tickets.kept_closed after.pending after.last after.own after.apart store.tickets said.keeps op.cell
            (ap (λ (t : Table Cell Pending). needs_own (at cell_cmp t op.cell)) same ∙ needs ∙ ap not used);
        err = tt;
        store = refl;
      })

  pub ends_used : (new : Table Cell Pending) (done : JobResult) → op.stage.put ≡ true → new ≡ without cell_cmp side.pending op.cell → done ≡ only []
      → IsSaid here side (record side { pending = new }) store store (Ok done) (acts here (with_pending (own_of side store) op) op action.Drop)
  ends_used new done used table is =
      rw (table, is) (record {
        done = record {
          own = ap (λ (t : Table Cell Pending). re_pending t (own_of side store)) (sym closed_is)
              ∙ sym (ap (given_up (with_pending (own_of side store) op) op.cell) used);
          letters = refl;
          jobs = refl;
        };
        keeps = tickets.kept_closed side.pending side.last side.own side.apart store.tickets h op.cell (needs ∙ ap not used);
        err = tt;
        store = refl;
      })

  pub ends_unused : (new : Table Cell Pending) (own : Table Cell ℕ) (slot : ℕ) (after : Holdings D) (done : JobResult) → op.stage.put ≡ false
      → new ≡ without cell_cmp side.pending op.cell → IsStrictlySortedBy cell_cmp (keys_of side.own) → at cell_cmp side.own op.cell ≡ Some slot
      → own ≡ without cell_cmp side.own op.cell → after ≡ record store { tickets = lists.without store.tickets slot } → done ≡ only []
      → IsSaid here side (record side { pending = new; own = own }) store after (Ok done) (acts here (with_pending (own_of side store) op) op action.Drop)
  ends_unused new own slot after done unused table sorted has gone rest is =
      let out = tickets.own_out side.pending side.last side.own side.apart store.tickets h op.cell slot has in
      let given = tickets.given_is store (record store { tickets = lists.without store.tickets slot }) slot out refl in
      rw (table, is, gone, rest) (record {
        done = record {
          own = (λ i. record {
            pairs = record (own_of side store).pairs { pending = sym closed_is i };
            copies = side.copies;
            filled = side.filled;
            store = given i;
          })
              ∙ sym (ap (given_up (with_pending (own_of side store) op) op.cell) unused);
          letters = refl;
          jobs = refl;
        };
        keeps = tickets.kept_dropped side.pending side.last side.own side.apart store.tickets h op.cell slot sorted has;
        err = tt;
        store = refl;
      })

  -- the operation after its put, with the version that it got
  abbrev put_at : ℕ → Pending
  put_at version = record op { version = version; stage = record op.stage { put = true } }

  put_is : (version : ℕ)
      → versioned side.pending op.cell version (record op.stage { put = true }) (at cell_cmp side.pending op.cell)
      ≡ put cell_cmp side.pending op.cell (put_at version)
  put_is version =
      ap (versioned side.pending op.cell version (record op.stage { put = true })) m.there
      ∙ ap (λ (o : Pending). put cell_cmp side.pending op.cell (at_version o version (record op.stage { put = true }))) m.moved

  -- the own part after a put with this version, where these are pending and this is the store
  abbrev put_own : Table Cell Pending → Store → PairState
  put_own t s = record { pairs = record (own_of side store).pairs { pending = t }; copies = side.copies; filled = side.filled; store = s }

  pub puts_done : (new : Table Cell Pending) (own : Table Cell ℕ) (after : Holdings D) (version : ℕ) (done : JobResult)
      → new ≡ versioned side.pending op.cell version (record op.stage { put = true }) (at cell_cmp side.pending op.cell)
      → version ≡ version_of (chain_in (chains_of store.entries) op.cell) + 1
      → store_of after ≡ with_put (store_of store) op.key (record { version = version; bytes = op.bytes }) (origin_by here.state op)
      → done ≡ record { letters = []; follow = Some (follow.Stage op.cell) }
      → IsBy here (own_of (record side { pending = new; own = own }) after) done (acts here (with_pending (own_of side store) op) op action.Put)
  puts_done new own after version done table counted kept is =
      let next = version_of (chain_in (chains_of store.entries) op.cell) + 1 in
      let entry_store = with_put (store_of store) op.key (record { version = next; bytes = op.bytes }) (origin_by here.state op) in
      rw (table ∙ put_is version, is) (record {
        own = ap (put_own (put cell_cmp side.pending op.cell (put_at version))) kept
            ∙ ap (λ (v : ℕ). put_own (put cell_cmp side.pending op.cell (put_at v))
            (with_put (store_of store) op.key (record { version = v; bytes = op.bytes }) (origin_by here.state op))) counted
            ∙ ap (λ (t : Table Cell Pending). put_own t entry_store) (sym (put_over cell_cmp cell_cmp_total side.pending op.cell op (put_at next)));
        letters = refl;
        jobs = refl;
      })

  pub puts_keeps : (new : Table Cell Pending) (own : Table Cell ℕ) (slot version : ℕ) (left : List ℕ)
      → new ≡ versioned side.pending op.cell version (record op.stage { put = true }) (at cell_cmp side.pending op.cell)
      → IsStrictlySortedBy cell_cmp (keys_of side.own) → at cell_cmp side.own op.cell ≡ Some slot → own ≡ without cell_cmp side.own op.cell
      → left ≡ lists.without store.tickets slot → HasTickets new side.last own side.apart left
  puts_keeps new own slot version left table sorted has gone less =
      rw (table ∙ put_is version, gone, less)
      (tickets.kept_put side.pending side.last side.own side.apart store.tickets h op.cell (put_at version) slot sorted has refl)

  -- an operation whose mark is set or taken away has its copy put or not as before
  flag_put : (stage : Stage) (kind : MarkKind) (is : Bool) → (with_flag stage kind is).put ≡ stage.put
  flag_put stage Busy is = refl
  flag_put stage Stale is = refl

  flagged_is : (kind : MarkKind) (is : Bool)
      → staged side.pending op.cell (with_flag op.stage kind is) (at cell_cmp side.pending op.cell)
      ≡ put cell_cmp side.pending op.cell (with_mark_at op kind is)
  flagged_is kind is =
      ap (staged side.pending op.cell (with_flag op.stage kind is)) m.there
      ∙ ap (λ (o : Pending). put cell_cmp side.pending op.cell (at_stage o (with_flag op.stage kind is))) m.moved

  -- the own part with the operation's mark set or taken away, and with this store
  abbrev pub flagged : MarkKind → Bool → Store → Rule
  flagged kind is kept = record {
    own = with_pending (record (with_pending (own_of side store) op) { store = kept }) (with_mark_at op kind is);
    posts = [];
    jobs = job.Stage op.cell ∷ [];
  }

  pub flags_done : {T : Type 0} (device : Ghosts D) (kind : MarkKind) (is : Bool) (new : Table Cell Pending) (after : Holdings D)
      (kept : Store) (t : T) (done : JobResult)
      → new ≡ staged side.pending op.cell (with_flag op.stage kind is) (at cell_cmp side.pending op.cell)
      → IsCommit device store after (Ok t) kept → done ≡ record { letters = []; follow = Some (follow.Stage op.cell) }
      → IsDone device here (held side store) (held (record side { pending = new }) after) (Ok done) (flagged kind is kept)
  flags_done device kind is new after kept t done table commit said = rw (table ∙ flagged_is kind is, said) (record {
    done = λ told. record {
      own = ap (put_own (put cell_cmp side.pending op.cell (with_mark_at op kind is))) (commit.done told)
          ∙ ap (λ (t : Table Cell Pending). put_own t kept) (sym (put_over cell_cmp cell_cmp_total side.pending op.cell op (with_mark_at op kind is)));
      letters = refl;
      jobs = refl;
    };
    keeps = subst (HasTickets (put cell_cmp side.pending op.cell (with_mark_at op kind is)) side.last side.own side.apart) (sym commit.tickets)
        (tickets.kept_moved side.pending side.last side.own side.apart store.tickets h op.cell (with_mark_at op kind is)
        (needs ∙ ap not (sym (flag_put op.stage kind is))));
    holds = commit.holds;
    moments = commit.moments;
    still = λ no. absurd (cc);
    same = λ no. absurd (cc);
    kept = tt;
    stays = tt;
    full = λ no. absurd (cc);
    spent = λ no. absurd (cc);
    cause = record { later = commit.cause.later; failed = λ no. absurd (cc) };
    run = commit.run;
  })

-- an operation that no letter has moved on
pub not_moved : (pending : Table Cell Pending) (cell : Cell) (op : Pending) → at cell_cmp pending cell ≡ Some op → op.cell ≡ cell
    → IsMoved pending op
not_moved pending cell op is at_cell = record { was = op; there = ap (at cell_cmp pending) at_cell ∙ is; moved = refl; put = refl }

pub goes_some : (here : JobContext) (own : PairState) (cell : Cell) (op : Pending) → IsStrictlySortedBy cell_cmp (keys_of own.pairs.pending)
    → at cell_cmp own.pairs.pending cell ≡ Some op → op.cell ≡ cell
    → acts here (with_pending own op) op (next_stage here.state here.me op) ≡ goes_on here own cell
unfolding goes_on
goes_some here own cell op sorted is at_cell =
    let same : put cell_cmp own.pairs.pending op.cell op ≡ own.pairs.pending =
    put_same cell_cmp cell_cmp_total own.pairs.pending op.cell op sorted (ap (at cell_cmp own.pairs.pending) at_cell ∙ is) in
    ap (λ (t : Table Cell Pending). acts here (re_pending t own) op (next_stage here.state here.me op)) same
    ∙ sym (ap (goes_on_with here own) is)

pub goes_none : (here : JobContext) (own : PairState) (cell : Cell) → at cell_cmp own.pairs.pending cell ≡ None → silent own ≡ goes_on here own cell
unfolding goes_on
goes_none here own cell is = sym (ap (goes_on_with here own) is)

pub own_is : (o : Option Pending) (cell : Cell) (op : Pending) → o ≡ Some op → IfSome o (λ p. p.cell ≡ cell) → op.cell ≡ cell
own_is None cell op is own = absurd (cc)
own_is (Some p) cell op is own = let same : p ≡ op = cc in ap (λ (q : Pending). q.cell) (sym same) ∙ own

-- an action without a call of the device, where it is the next one
pub said_acts : {D : Type 0} (device : Ghosts D) (stays : (d : D) → device.came_to d d)
    (only_now : (d : D) (c : List ℕ) → device.left_since d (device.moment d) c → device.may_leave d c)
    (here : JobContext) (own : PairState) (op : Pending) (old new : PairMemory) (before after : Holdings D)
    (answer : Result JobResult WorkError) (next is : Action)
    → next ≡ is → IsSaid here old new before after answer (acts here own op is)
    → IsDone device here (held old before) (held new after) answer (acts here own op next)
said_acts device stays only_now here own op old new before after answer next is same said =
    subst (λ (a : Action). IsDone device here (held old before) (held new after) answer (acts here own op a)) (sym same)
    (said_done device stays only_now here old new before after answer _ said)

-- What the machine is told of a server's step: takes, disks that are made, snapshots that are taken, and looks.
use Rattle.law_run.proofs.Imports.{[], ◌++◌, ◌<◌, ◌∙◌, ◌∷◌, ◌≡◌, ◌≢◌, Acted, AllMayWake, AreEarly, Body, Cell, Chain, Command, DiskRow, Ends, Event, Fails}
use Rattle.law_run.proofs.Imports.{Firm, Goes, Good, Handled, In, IsBelow, IsGrown, IsOwn, IsPrefix, IsSettledState, JobContext, Letter, List, None, Obeys}
use Rattle.law_run.proofs.Imports.{Option, PairState, Plain, Record, Server, Serving, Setting, Some, State, Stays, Step, Store, Visits, Wakes, World, acts}
use Rattle.law_run.proofs.Imports.{all_put, ap, arith, at_row, authority, before_blanks, begins_to_leave, blank_joins_in, by_test, chain_in}
use Rattle.law_run.proofs.Imports.{chain_that_counts, change_by, chosen_log, chosen_state, counted, counted_by, entry_at, entry_by, epoch_at, events_with}
use Rattle.law_run.proofs.Imports.{false, flat_map, freezes, inl, inr, kept, kept_by, kept_store, log_below, look_of, makes, nat_cmp_total, none_some}
use Rattle.law_run.proofs.Imports.{option_map, own_place, owns_of, prefix_itself, put_apart, put_same, refl, replay, same_or_apart, same_some, server_state}
use Rattle.law_run.proofs.Imports.{stage_at, stamped, state_after, subst, sym, takes, worked_grows, ℕ}
use Rattle.law_run.specs.MachineTies.{Ground, Follow}
use Rattle.law_run.proofs.ChosenDisks.{Along, plain_now, rows_in}
use Rattle.law_run.proofs.StoresThatCount.{of_kept, same_kept, frozen_stays}
use Rattle.law_run.proofs.EntryAtEpoch.{AreUpTo}
use Rattle.law_run.proofs.ReadsLookWhereSent.{Looked, is_looked, no_look}
use Rattle.law_run.proofs.Machine.{onward_itself}
use Rattle.law_run.proofs.ListMembers.{all_empty}
use Rattle.law_run.proofs.RunScenes.{Followed, Grounded}
use Rattle.petal_msg.specs.declared.letter.Actor.TheVariants as actor

-- two copies after a step, by what was chosen before it: at the places of then, servers have been where they have been after it
pub record IsMiddle (setting : Setting) (w v : World) (records : List Record) (visits : Visits) : Type 0 where
  pub good : Good setting records (chosen_log setting w) (counted_by setting (chosen_log setting w) v)
  pub visits_are : (n place : ℕ) (cell : Cell) → good.visits n place cell ≡ visits n place cell

-- a server, at a state from what is chosen on: the world and the machine before its step, and the records that follow
pub record ServesAt : Type 0 where
  pub told : Followed
  pub open told use *
  pub n : ℕ
  pub within : n < setting.servers
  pub stamp : ℕ
  pub what : Step
  pub unblanked : before_blanks what setting w n ≡ w.before_blank
  pub later : List Record

abbrev pub after_step : ServesAt → Acted → World
after_step at acted = (acts at.setting at.w at.n at.what at.stamp acted).world

-- what is chosen after its step
pub record Next (at : ServesAt) (acted : Acted) : Type 0 where
  pub next : Along at.setting at.state (after_step at acted)
  pub onward : Ground at.setting at.state (after_step at acted)
  pub grows : IsPrefix (chosen_log at.setting at.w) (chosen_log at.setting (after_step at acted))
  pub grown : IsGrown (chosen_state at.setting at.w) (chosen_state at.setting (after_step at acted))
  pub middle : IsMiddle at.setting at.w (after_step at acted) onward.records onward.good.visits

-- its step, and what is chosen after it
pub record ServerStep : Type 0 where
  pub at : ServesAt
  pub open at use *
  pub acted : Acted
  pub serving : Serving setting w n what acted
  pub goes_on : Next at acted
  pub open goes_on use *

abbrev pub grounded : ServerStep → Grounded
grounded this = record { setting = this.setting; state = this.state; w = this.w; firm = this.along.firm; ground = this.ground }

abbrev pub grounded_after : ServerStep → Grounded
grounded_after this = record {
  setting = this.setting;
  state = this.state;
  w = (acts this.setting this.w this.n this.what this.stamp this.acted).world;
  firm = this.next.firm;
  ground = this.onward;
}

-- a server's own state is below what is chosen, where its entries are
pub below_at : (setting : Setting) (w : World) → Firm setting w → (prefix : List Command) → IsPrefix prefix (chosen_log setting w)
    → IsBelow (state_after setting.servers prefix) (chosen_state setting w)
below_at setting w firm prefix is_prefix = log_below setting.servers prefix (chosen_log setting w) firm.plain is_prefix

-- the entries that a server has applied stay, and are of what was chosen before the step
serves_grow : (setting : Setting) (w : World) → AllMayWake setting w → Firm setting w → (n : ℕ) (what : Step) (acted : Acted)
    → Serving setting w n what acted
    → IsPrefix (w.servers n).log.applied acted.server.log.applied × IsPrefix acted.server.log.applied (chosen_log setting w)
serves_grow setting w wake firm n what _ (Goes log done queue runs worked queued works) = worked_grows setting w firm n log done worked
serves_grow setting w wake firm n what _ (Ends log done runs worked) = worked_grows setting w firm n log done worked
serves_grow setting w wake firm n what _ (Stays who posts from shown) = (prefix_itself _, firm.servers n)
serves_grow setting w wake firm n what _ (Wakes booted asleep) = ((wake n).onward, (wake n).chosen)
serves_grow setting w wake firm n what _ (Fails booted asleep) = (prefix_itself _, firm.servers n)

-- where a step begins and ends, and the server that takes it
pub record StepEnds : Type 1 where
  pub v : World
  pub top : List Command
  pub end : List Command
  pub chosen : State
  pub after : State
  pub own : PairState
  pub here : JobContext
  pub hears : Body → Type 0
  pub own_state : State
  pub prefix : List Command

module _ (this : ServerStep) where
  abbrev setting : Setting
  setting = this.setting

  abbrev rows : List DiskRow
  rows = rows_in this.setting this.w

  abbrev own : PairState
  own = owns_of this.w this.n

  -- the server's own part after the step, and the world
  abbrev pub new : PairState
  new = this.acted.server.own

  abbrev pub later_world : World
  later_world = (acts this.setting this.w this.n this.what this.stamp this.acted).world

  abbrev v : World
  v = later_world

  abbrev pub letters : List Letter
  letters = stamped this.stamp this.acted.letters

  abbrev pub ends_of : StepEnds
  ends_of = record {
    v = v;
    top = chosen_log this.setting this.w;
    end = chosen_log this.setting v;
    chosen = chosen_state this.setting this.w;
    after = chosen_state this.setting v;
    own = own;
    here = own_place this.setting this.w this.n;
    hears = Handled this.w this.n;
    own_state = server_state this.setting this.w this.n;
    prefix = (this.w.servers this.n).log.applied;
  }

  pub plain_chosen : IsSettledState this.setting.servers (chosen_state this.setting this.w)
  plain_chosen = plain_now this.setting this.w this.along.firm

  -- ### Servers

  pub own_now : owns_of v this.n ≡ new
  own_now = ap (λ (x : Server). x.own) (put_same this.w.servers this.n this.acted.server)

  pub own_other : (i : ℕ) → i ≢ this.n → owns_of v i ≡ owns_of this.w i
  own_other i ne = ap (λ (x : Server). x.own) (put_apart this.w.servers this.n this.acted.server i ne)

  pub logs_grow : (i : ℕ) → IsPrefix (this.w.servers i).log.applied (v.servers i).log.applied
  logs_grow = all_put this.w.servers this.n this.acted.server (λ i (x : Server). IsPrefix (this.w.servers i).log.applied x.log.applied)
      (λ i. prefix_itself _) (serves_grow this.setting this.w this.ground.wake this.along.firm this.n this.what this.acted this.serving).0

  pub logs_within : (i : ℕ) → IsPrefix (v.servers i).log.applied (chosen_log this.setting this.w)
  logs_within = all_put this.w.servers this.n this.acted.server (λ i (x : Server). IsPrefix x.log.applied (chosen_log this.setting this.w))
      this.along.firm.servers (serves_grow this.setting this.w this.ground.wake this.along.firm this.n this.what this.acted this.serving).1

  -- nothing is stored of cells that were not live before the step, by what was chosen
  early_kept : (i : ℕ) → AreEarly this.setting.servers (v.servers i).log.applied (kept this.setting v i)
  early_kept i = of_kept (AreEarly this.setting.servers (v.servers i).log.applied) _ (v.before_blank i) (owns_of v i).store
      (this.onward.epochs.early.now i) (this.onward.epochs.early.before i)

  pub unput : (cell : Cell) → stage_at (chosen_state this.setting this.w) cell ≡ 0 → (i : ℕ) → chain_in (kept this.setting v i).chains cell ≡ []
  unput cell none i = by (chain_in (kept this.setting v i).chains cell) refl
    where
      by : (chain : Chain) → chain_in (kept this.setting v i).chains cell ≡ chain → chain ≡ []
      by [] e = refl
      by (row ∷ rows) e =
          let low = (early_kept i).lived cell (λ f. let g : row ∷ rows ≡ [] = sym e ∙ f in absurd cc) in
          let up = (below_at this.setting this.w this.along.firm _ (logs_within i)).stages cell in
          absurd (omega arith)

  -- and no entry is of an epoch that the cell's disk had not
  pub unput_above : (cell : Cell) (i : ℕ) → AreUpTo (chain_in (kept this.setting v i).chains cell) (epoch_at (chosen_state this.setting this.w) cell)
  unput_above cell i row there =
      let known = (early_kept i).known cell row.0 row.1
      (at_row nat_cmp_total (chain_in (kept this.setting v i).chains cell) row (this.onward.good.rising i cell) there) in
      let up = (below_at this.setting this.w this.along.firm _ (logs_within i)).epochs cell in
      omega arith

  -- nor was anything frozen of such an epoch, or of a cell that was not live before the step
  from_frozen : (So : Chain → Type 0) (cell : Cell) → ((chain : Chain) → this.w.frozen cell ≡ Some chain → So chain)
      → ((i : ℕ) → So (chain_in (kept this.setting v i).chains cell)) → (chain : Chain) → v.frozen cell ≡ Some chain → So chain
  from_frozen So cell old new chain = by_test (λ (o : Option Chain). o ≡ Some chain → So chain) (begins_to_leave this.setting this.w v cell)
      (chain_that_counts this.setting v cell) (this.w.frozen cell) (λ t. counted_by_one (authority (chosen_state this.setting v) cell)) (λ f. old chain)
    where
      counted_by_one : (o : Option ℕ) → option_map (λ i. chain_in (kept this.setting v i).chains cell) o ≡ Some chain → So chain
      counted_by_one None e = none_some refl e
      counted_by_one (Some i) e = subst So (same_some e) (new i)

  pub frozen_early : (cell : Cell) (chain : Chain) → v.frozen cell ≡ Some chain → AreUpTo chain (epoch_at (chosen_state this.setting this.w) cell)
  frozen_early cell = from_frozen (λ chain. AreUpTo chain (epoch_at (chosen_state this.setting this.w) cell)) cell
      (λ chain is. (this.ground.moves.frozen cell chain is).early) (λ i. unput_above cell i)

  pub frozen_empty : (cell : Cell) → stage_at (chosen_state this.setting this.w) cell ≡ 0 → (chain : Chain) → v.frozen cell ≡ Some chain → chain ≡ []
  frozen_empty cell zero = from_frozen (λ chain. chain ≡ []) cell
      (λ chain is. let left = (this.ground.moves.frozen cell chain is).left in absurd (omega arith)) (λ i. unput cell zero i)

  -- ### Stores that count

  abbrev pub joined_then : ℕ → ℕ
  joined_then i = blank_joins_in this.setting (chosen_log this.setting this.w) i

  abbrev pub joined_now : ℕ → ℕ
  joined_now i = blank_joins_in this.setting (chosen_log this.setting v) i

  -- where no Join with an empty store of the server is chosen, its store counts as before
  pub kept_now : (i : ℕ) → joined_now i ≡ joined_then i
      → kept this.setting v i ≡ kept_store (joined_then i) (this.w.before_blank i) (owns_of v i).store
  kept_now i same = (λ k. kept_store (same k) (this.unblanked k i) (owns_of v i).store)

  pub kept_other : (i : ℕ) → i ≢ this.n → joined_now i ≡ joined_then i → kept this.setting v i ≡ kept this.setting this.w i
  kept_other i ne same =
      kept_now i same ∙ ap (λ (o : PairState). kept_store (joined_then i) (this.w.before_blank i) o.store) (own_other i ne)

  -- and that of this server, where its chains stay
  pub kept_here : new.store.chains ≡ own.store.chains → joined_now this.n ≡ joined_then this.n
      → (kept this.setting v this.n).chains ≡ (kept this.setting this.w this.n).chains
  kept_here chains same =
      ap (λ (s : Store). s.chains) (kept_now this.n same)
      ∙ same_kept (joined_then this.n) (this.w.before_blank this.n) (owns_of v this.n).store own.store
      (ap (λ (o : PairState). o.store.chains) own_now ∙ chains)

  pub kept_chain : new.store.chains ≡ own.store.chains → (i : ℕ) → joined_now i ≡ joined_then i
      → (kept this.setting v i).chains ≡ (kept this.setting this.w i).chains
  kept_chain chains i same = elim (same_or_apart i this.n) [
    | inl e ↦
        subst (λ j. (kept this.setting v j).chains ≡ (kept this.setting this.w j).chains) (sym e)
        (kept_here chains (ap joined_now (sym e) ∙ same ∙ ap joined_then e))
    | inr ne ↦ ap (λ (s : Store). s.chains) (kept_other i ne same)
  ]

  -- by what was chosen before the step they are as before
  pub kept_middle : new.store.chains ≡ own.store.chains → (i : ℕ)
      → (kept_by this.setting (chosen_log this.setting this.w) v i).chains ≡ (kept this.setting this.w i).chains
  kept_middle chains i =
      ap (λ (s : Store). s.chains) (λ k. kept_store (joined_then i) (this.unblanked k i) (owns_of v i).store)
      ∙ same_kept (joined_then i) (this.w.before_blank i) (owns_of v i).store (owns_of this.w i).store (elim (same_or_apart i this.n) [
        | inl e ↦ ap (λ (o : PairState). o.store.chains) (ap (owns_of v) e ∙ own_now) ∙ chains ∙ ap (λ j. (owns_of this.w j).store.chains) (sym e)
        | inr ne ↦ ap (λ (o : PairState). o.store.chains) (own_other i ne)
      ])

  -- a server whose own store counts has it count after the step, too
  pub own_after : IsOwn this.setting this.w this.n → joined_now this.n ≡ joined_then this.n → kept this.setting v this.n ≡ new.store
  own_after counts same = kept_now this.n same ∙ counts (owns_of v this.n).store ∙ ap (λ (o : PairState). o.store) own_now

  -- ### What is told

  -- what is told of contents that change
  pub record TakesTold : Type 0 where
    pub es : List Event
    pub is : takes (change_by this.setting this.w v) ≡ Some es
    pub may : Obeys this.m es
    pub follows : Follow this.setting rows v (replay this.m es)

  -- what is told of reads that are answered, and of those that were told that the new map has nothing
  abbrev pub look_here : Letter → List Event
  look_here letter = look_of this.setting this.w v (actor.Server this.n) this.later letter letter.body

  abbrev pub looks_here : List Event
  looks_here = flat_map look_here letters

  -- it is so of a machine that has the disks
  abbrev pub LooksTold : Type 0
  LooksTold = (k : Plain) → Follow this.setting (rows_in this.setting v) v k → Looked k looks_here

  -- what is told of the step
  pub record ServerTold : Type 0 where
    pub es : List Event
    pub is : events_with [] (takes (change_by this.setting this.w v))
        (makes (change_by this.setting this.w v) ++ freezes (change_by this.setting this.w v) ++ looks_here) (Some [])
        ≡ Some es
    pub may : Obeys this.m es
    pub follows : Follow this.setting (rows_in this.setting v) v (replay this.m es)

  -- where no read is answered, nothing is looked at
  pub quiet_looks : ((letter : Letter) → In letter letters → is_looked letter.body ≡ false) → LooksTold
  quiet_looks quiet k following =
      let none : looks_here ≡ [] = all_empty look_here letters (λ letter h.
      no_look this.setting this.w v (actor.Server this.n) this.later letter letter.body (quiet letter h)) in
      subst (Looked k) (sym none) (record { may = tt; disks = refl; mindful = following.stores.mindful; onward = onward_itself k })

  -- the entry of a cell that a step leaves at which nothing is chosen, where the same server's copy counts
  pub same_entry : chosen_log this.setting v ≡ chosen_log this.setting this.w → (cell : Cell) (epoch : ℕ) (o : Option ℕ)
      → (o ≡ Some this.n → chain_in (kept this.setting v this.n).chains cell ≡ chain_in (kept this.setting this.w this.n).chains cell)
      → entry_by (counted this.setting this.w) cell epoch o ≡ entry_by (counted this.setting v) cell epoch o
  same_entry same cell epoch None h = refl
  same_entry same cell epoch (Some i) h = ap (λ c. entry_at c epoch) (sym (elim (same_or_apart i this.n) [
    | inl e ↦
        subst (λ j. chain_in (kept this.setting v j).chains cell ≡ chain_in (kept this.setting this.w j).chains cell) (sym e) (h (ap Some e))
    | inr ne ↦ ap (λ (s : Store). chain_in s.chains cell)
        (kept_other i ne (ap (λ log. blank_joins_in this.setting log i) same))
  ]))

  -- what is frozen stays where nothing is chosen
  pub frozen_same : chosen_log this.setting v ≡ chosen_log this.setting this.w → (cell : Cell) → v.frozen cell ≡ this.w.frozen cell
  frozen_same same cell = frozen_stays this.setting this.w v same cell

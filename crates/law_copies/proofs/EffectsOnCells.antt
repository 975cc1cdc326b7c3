-- An effect leaves each cell as it is but the one that it is on, and that by what the server is to it.
use Rattle.law_copies.proofs.Imports.{◌<◌, ◌∙◌, ◌≡◌, ◌≢◌, ◌⊎◌, A_copy, A_lead, A_new_copy, A_sweep, An_operation, As_copy, As_operation, As_second}
use Rattle.law_copies.proofs.Imports.{Begins_copy, Body, Busy, By_a_copy, By_its_operation, Cell, Chain, Closes, CopyGoes, Copying, Did, Drops, Effect}
use Rattle.law_copies.proofs.Imports.{Ends_copy, For_a_fill, For_a_write, Found_no_slot, Goes_on, HasCome, Has_put, Has_trimmed, HaveCome, IsClosedFor}
use Rattle.law_copies.proofs.Imports.{IsDroppedFor, IsIdle, IsNewCopy, IsNextPage, IsOpening, IsPutFor, IsSetFor, IsToEnd, IsUnderWay, IsUnmarkedFor}
use Rattle.law_copies.proofs.Imports.{Is_copied, Is_new, Is_off, Is_old, Is_over, Is_whole, JobContext, JobResult, Key, LastCopy, LastOp, LinkRow, List}
use Rattle.law_copies.proofs.Imports.{MarkKind, Marks, May, None, Opens, Option, PairState, Pending, Puts, Reserved, Reserves, Sets, Some, Stale, Stood}
use Rattle.law_copies.proofs.Imports.{Stored, Table, The_last_copy, Turns_page, Unmarks, ap, applied, arith, at, cell_apart, cell_at, cell_gone_apart}
use Rattle.law_copies.proofs.Imports.{cell_holder, cell_of, cell_on, chain_apart, chain_in, chains_with, copying_on, drop_apart, drop_none, each_come, ended}
use Rattle.law_copies.proofs.Imports.{false, first, first_copy, first_last, follows, inl, inr, is_marked, is_second, job_keeps, key_at, last_copy, last_on}
use Rattle.law_copies.proofs.Imports.{live, live_stage, mark_beside, marks, nat_cmp, pending_on, put, refl, same_cell_or_apart, same_or_apart, stage_at}
use Rattle.law_copies.proofs.Imports.{stage_live, subst, sym, true, true_false, unmark_beside, unmark_none, was_same, ℕ}
use Rattle.law_jobs.specs.Effects.{Copies}
use Rattle.law_copies.specs.LoneSteps.{IsBare, IsFit, KeepsCell}
use Rattle.law_copies.proofs.RolesOfWorkers.{IsHeldBy, IsHeldHere, IsLedHere, above_none, begun_held, copying_held, entry_held, idle_both, led_here, op_leads}
use Rattle.law_copies.proofs.RolesOfWorkers.{page_on, second_live}
use Rattle.petal_msg.specs.declared.body.Body.TheVariants as body
use Rattle.petal_msg.specs.declared.operation.FollowProgress.TheVariants as follow_progress

pub put_apart : (chains : Table Cell Chain) (key : Key) (stored : Stored) (q : Cell) → q ≢ cell_of key
    → chain_in (chains_with chains key stored) q ≡ chain_in chains q
put_apart chains key stored q ne = chain_apart chains (cell_of key) (put nat_cmp (chain_in chains (cell_of key)) key.epoch stored) q ne

-- where no other server holds the cell's link, no copy puts or drops there
module _ (heard : Body → Type 0) (here : JobContext) (own : PairState) (q : Cell) (no_other : (holder : ℕ) → cell_holder here q ≡ Some holder → ⊥) where
  pub copied_apart : (key : Key) (stored : Stored) (last : LastCopy) → IsPutFor heard here own key stored (As_copy last) → q ≢ cell_of key
  copied_apart _ _ _ (A_copy entry holder last of at) e = no_other holder (ap (cell_holder here) e ∙ of.held)

  pub dropped_apart : (now : PairState) (key : Key) → IsDroppedFor heard here own now key → live here.state q ≡ true → q ≢ cell_of key
  dropped_apart now _ (A_new_copy number cell epochs epoch new left) on e = no_other new.holder (ap (cell_holder here) e ∙ new.held)
  dropped_apart now _ (The_last_copy cell holder last epoch held is same left) on e = no_other holder (ap (cell_holder here) e ∙ held)
  dropped_apart now _ (A_sweep key off) on e = true_false on (ap (live here.state) e ∙ off)

-- only the other server of a link has these
abbrev pub IsOfOther : Effect → Type 0
IsOfOther (Puts key stored (As_copy last)) = Unit {0}
IsOfOther (Drops key) = Unit {0}
IsOfOther (Is_copied cell number epochs) = Unit {0}
IsOfOther _ = ⊥

-- as what a server has an effect on a cell
abbrev pub Role : JobContext → PairState → Effect → Cell → Type 0
Role here own e q = IsLedHere here q ⊎ (is_second here.state here.me q ≡ true) ⊎ IsHeldHere here q ⊎ (IsHeldBy here q × IsOfOther e)
    ⊎ IsIdle here own q

module _ (heard : Body → Type 0) (here : JobContext) (own : PairState) (fit : IsFit heard here own) (q : Cell) (alive : stage_at here.state q < 4) where
  -- of a cell that is no longer live, where it is this one, it has nothing
  pub unborn : (now : PairState) → (stage_at here.state q ≡ 0 → IsBare now q) → (cell : Cell) → q ≡ cell → live here.state cell ≡ false → IsBare now q
  unborn now bare cell e off = elim (same_or_apart (stage_at here.state q) 0) [
    | inl zero ↦ bare zero
    | inr ne ↦ true_false (stage_live here.state q (above_none (stage_at here.state q) ne) alive) (ap (live here.state) e ∙ off)
  ]

  -- an operation's entry is of its own cell
  pub own_apart : (key : Key) (stored : Stored) (op : Pending) → IsPutFor heard here own key stored (As_operation op) → q ≢ op.cell → q ≢ cell_of key
  own_apart _ _ _ (An_operation op reserved paired is fresh why) ne e = ne (e ∙ (fit.ready.staged op.cell op is).keyed)

  -- the effect is on the cell, which is live
  pub record IsAtCell (e : Effect) : Type 0 where
    pub at : cell_on e ≡ Some q
    pub lives : live here.state q ≡ true
    pub role : Role here own e q

  -- or leaves it as it is
  abbrev pub Changes : PairState → Effect → Type 0
  Changes now e = IsAtCell e ⊎ KeepsCell q now (applied now e)

  by : (now : PairState) (e : Effect) (cell : Cell) → cell_on e ≡ Some cell → (q ≡ cell → Role here own e q) → (q ≢ cell → KeepsCell q now (applied now e))
      → Changes now e
  by now e cell at role keeps = elim (same_cell_or_apart q cell) [
    | inl same ↦ inl (record { at = at ∙ ap Some (sym same); lives = role_lives (role same); role = role same })
    | inr ne ↦ inr (keeps ne)
  ]
    where
      role_lives : Role here own e q → live here.state q ≡ true
      role_lives (inl led) = stage_live here.state q led.born alive
      role_lives (inr (inl so)) = second_live here q so
      role_lives (inr (inr (inl held))) = held.lives
      role_lives (inr (inr (inr (inl other)))) = other.0.lives
      role_lives (inr (inr (inr (inr idle)))) = (idle_both here own q idle).1

  led_by : (e : Effect) (cell : Cell) → IsLedHere here cell → q ≡ cell → Role here own e q
  led_by e cell led same = inl (subst (IsLedHere here) (sym same) led)

  held_in : (e : Effect) (cell : Cell) → IsHeldHere here cell → q ≡ cell → Role here own e q
  held_in e cell held same = inr (inr (inl (subst (IsHeldHere here) (sym same) held)))

  cell_by : (now to : PairState) → chain_in to.store.chains q ≡ chain_in now.store.chains q → pending_on to q ≡ pending_on now q
      → copying_on to q ≡ copying_on now q → last_copy to q ≡ last_copy now q → last_on to q ≡ last_on now q
      → ((kind : MarkKind) → is_marked to.store kind q ≡ is_marked now.store kind q) → KeepsCell q now to
  cell_by now to chain pending copying last followed marks =
      record { rest = record { chain = chain; pending = pending; copying = copying; last = last; followed = followed }; marks = marks }

  other_in : (e : Effect) → IsOfOther e → (cell : Cell) → IsHeldBy here cell → q ≡ cell → Role here own e q
  other_in e so cell held same = inr (inr (inr (inl (subst (IsHeldBy here) (sym same) held, so))))

  under_way : (now : PairState) (cell : Cell) (copy : Copying) → IsUnderWay own now cell copy → IsHeldHere here cell
  under_way now cell copy under = copying_held heard here own fit cell under.was under.was_is

  goes_held : (cell : Cell) (copy : Copying) → CopyGoes heard own cell copy → IsHeldHere here cell
  goes_held cell _ (Has_trimmed copy h is fresh) = copying_held heard here own fit cell copy is
  goes_held cell _ (Has_put copy h is trimmed lt) = copying_held heard here own fit cell copy is

  ended_held : (now : PairState) (cell : Cell) (row : Option LinkRow) → IsToEnd here own now cell row → IsHeldHere here cell
  ended_held now cell _ (Found_no_slot copy under trimmed lt) = under_way now cell copy under
  ended_held now cell _ (Is_whole copy under synced) = under_way now cell copy under

  page_held : (row : LinkRow) (block : ℕ) → IsNextPage heard here own row (Some block) → IsHeldHere here (cell_at row block)
  page_held row block next =
      let at = page_on heard here own fit next.id row next.after block next.said next.held.is in
      record { lives = at.1; row = row; is = at.0; other = next.other; other_is = next.held.other_is }

  new_held : (cell : Cell) (number : ℕ) (epochs : List ℕ) → IsNewCopy heard here own cell number epochs → IsHeldBy here cell
  new_held cell number epochs new =
      record { lives = fit.lives (body.Trim number cell epochs) new.said refl cell refl; holder = new.holder; held = new.held }

  opens_led : (op : Pending) → IsOpening heard here own op → IsLedHere here op.cell
  opens_led _ (For_a_write want new) = led_here here want.cell new.lead
  opens_led _ (For_a_fill moving new) = led_here here (cell_of moving.key) new.lead

  put_led : (key : Key) (stored : Stored) (op : Pending) → IsPutFor heard here own key stored (As_operation op) → IsLedHere here op.cell
  put_led _ _ _ (An_operation op reserved paired is fresh why) = op_leads heard here own fit op.cell op is

  put_second : (key : Key) (stored : Stored) (last : LastOp) → IsPutFor heard here own key stored (As_second last)
      → is_second here.state here.me (cell_of key) ≡ true
  put_second _ _ _ (A_lead number key told version origin bytes h follows last next) = follows

  put_held : (key : Key) (stored : Stored) (last : LastCopy) → IsPutFor heard here own key stored (As_copy last) → IsHeldBy here (cell_of key)
  put_held _ _ _ (A_copy entry holder last of at) = entry_held heard here own fit entry holder last of

  module _ (now : PairState) (led : (cell : Cell) (op : Pending) → pending_on now cell ≡ Some op → IsLedHere here cell)
      (bare : stage_at here.state q ≡ 0 → IsBare now q) where
    set_led : (op : Pending) → IsSetFor heard here own now op → IsLedHere here op.cell
    set_led _ (Goes_on op stage there same reserved busy stale) = led op.cell op there

    closed_led : (cell : Cell) → IsClosedFor heard here own now cell → IsLedHere here cell
    closed_led _ (Is_over op how ended there) = led op.cell op there

    other_dropped : (key : Key) → IsHeldBy here (cell_of key) → Changes now (Drops key)
    other_dropped key held = by now (Drops key) (cell_of key) refl (other_in (Drops key) tt (cell_of key) held)
        (λ ne. cell_by now _ (drop_apart now.store key q ne) refl refl refl refl (λ kind. refl))

    dropped : (key : Key) → IsDroppedFor heard here own now key → Changes now (Drops key)
    dropped _ (A_new_copy number cell epochs epoch new left) = other_dropped (key_at cell epoch) (new_held cell number epochs new)
    dropped _ (The_last_copy cell holder last epoch held is same left) = other_dropped (key_at cell epoch)
        (record { lives = fit.copied cell last is; holder = holder; held = held })
    dropped _ (A_sweep key off) = inr (cell_by now _ (elim (same_cell_or_apart q (cell_of key)) [
      | inl e ↦ (let none = (unborn now bare (cell_of key) e off).chain in drop_none now.store key q none ∙ sym none)
      | inr ne ↦ drop_apart now.store key q ne
    ]) refl refl refl refl (λ kind. refl))

    unmarked : (kind : MarkKind) (cell : Cell) → (q ≡ cell → Role here own (Unmarks kind cell) q) → Changes now (Unmarks kind cell)
    unmarked kind cell role = by now (Unmarks kind cell) cell refl role
        (λ ne. cell_by now _ refl refl refl refl refl (λ other. unmark_beside now.store kind other cell q ne))

    unmark : (kind : MarkKind) (cell : Cell) → IsUnmarkedFor here own now kind cell → Changes now (Unmarks kind cell)
    unmark _ _ (By_its_operation op there busy stale) = unmarked Busy op.cell (led_by (Unmarks Busy op.cell) op.cell (led op.cell op there))
    unmark _ _ (By_a_copy kind cell copy under synced) = unmarked kind cell (held_in (Unmarks kind cell) cell (under_way now cell copy under))
    unmark _ _ (Is_old kind cell idle same) = unmarked kind cell (λ e. inr (inr (inr (inr (subst (IsIdle here own) (sym e) idle)))))
    unmark _ _ (Is_off kind cell off) = inr (cell_by now _ refl refl refl refl refl (λ other. elim (same_cell_or_apart q cell) [
      | inl e ↦ (let none = (unborn now bare cell e off).marks other in unmark_none now.store kind other cell q none ∙ sym none)
      | inr ne ↦ unmark_beside now.store kind other cell q ne
    ]))

    -- what each effect does
    pub changes : (e : Effect) → May heard here own now e → Changes now e
    changes (Opens op) may = by now (Opens op) op.cell refl (led_by (Opens op) op.cell (opens_led op may.0))
        (λ ne. cell_by now _ refl (cell_apart now.pairs.pending op.cell op q ne) refl refl refl (λ kind. refl))
    changes (Sets op) may = by now (Sets op) op.cell refl (led_by (Sets op) op.cell (set_led op may.0))
        (λ ne. cell_by now _ refl (cell_apart now.pairs.pending op.cell op q ne) refl refl refl (λ kind. refl))
    changes (Closes cell) may = by now (Closes cell) cell refl (led_by (Closes cell) cell (closed_led cell may))
        (λ ne. cell_by now _ refl (cell_gone_apart now.pairs.pending cell q ne) refl refl refl (λ kind. refl))
    changes (Reserves cell number) may = by now (Reserves cell number) cell refl (λ e. inr (inl (ap (is_second here.state here.me) e ∙ may.1)))
        (λ ne. cell_by now _ refl refl refl refl
        (cell_apart now.pairs.last cell (record { op = number; progress = follow_progress.Reserved }) q ne) (λ kind. refl))
    changes (Puts key stored (As_operation op)) may =
        by now (Puts key stored (As_operation op)) op.cell refl (led_by (Puts key stored (As_operation op)) op.cell (put_led key stored op may.0))
        (λ ne. cell_by now _ (put_apart now.store.chains key stored q (own_apart key stored op may.0 ne))
        (cell_apart now.pairs.pending op.cell op q ne) refl refl refl (λ kind. refl))
    changes (Puts key stored (As_second last)) may = by now (Puts key stored (As_second last)) (cell_of key) refl
        (λ e. inr (inl (ap (is_second here.state here.me) e ∙ put_second key stored last may.0)))
        (λ ne. cell_by now _ (put_apart now.store.chains key stored q ne) refl refl refl (cell_apart now.pairs.last (cell_of key) last q ne) (λ kind. refl))
    changes (Puts key stored (As_copy last)) may = by now (Puts key stored (As_copy last)) (cell_of key) refl
        (other_in (Puts key stored (As_copy last)) tt (cell_of key) (put_held key stored last may.0))
        (λ ne. cell_by now _ (put_apart now.store.chains key stored q ne) refl refl (cell_apart now.copies.last (cell_of key) last q ne) refl (λ kind. refl))
    changes (Drops key) may = dropped key may.2
    changes (Marks kind cell) may = by now (Marks kind cell) cell refl (led_by (Marks kind cell) cell (led cell may.0 may.1))
        (λ ne. cell_by now _ refl refl refl refl refl (λ other. mark_beside now.store kind other cell q ne))
    changes (Unmarks kind cell) may = unmark kind cell may
    changes (Begins_copy cell) may = by now (Begins_copy cell) cell refl
        (held_in (Begins_copy cell) cell (begun_held heard here own fit may.0.id may.0.row may.0.other cell may.0.held may.0.next))
        (λ ne. cell_by now _ refl refl (cell_apart now.copies.pending cell (first_copy now.pairs.next) q ne) refl refl (λ kind. refl))
    changes (Copies cell copy) may = by now (Copies cell copy) cell refl (held_in (Copies cell copy) cell (goes_held cell copy may.0))
        (λ ne. cell_by now _ refl refl (cell_apart now.copies.pending cell copy q ne) refl refl (λ kind. refl))
    changes (Ends_copy cell row) may = by now (Ends_copy cell row) cell refl (held_in (Ends_copy cell row) cell (ended_held now cell row may))
        (λ ne. cell_by now _ refl refl (cell_gone_apart now.copies.pending cell q ne) refl refl (λ kind. refl))
    changes (Is_copied cell number epochs) may = by now (Is_copied cell number epochs) cell refl
        (other_in (Is_copied cell number epochs) tt cell (new_held cell number epochs may.0))
        (λ ne. cell_by now _ refl refl refl (cell_apart now.copies.last cell (first_last number epochs) q ne) refl (λ kind. refl))
    changes (Turns_page row (Some block)) may = by now (Turns_page row (Some block)) (cell_at row block) refl
        (held_in (Turns_page row (Some block)) (cell_at row block) (page_held row block may.0))
        (λ ne. cell_by now _ refl refl refl refl refl (λ other. mark_beside now.store Stale other (cell_at row block) q ne))
    changes _ may = inr (cell_by now _ refl refl refl refl refl (λ kind. refl))

  led_come : (next : ℕ) (cell : Cell) (op : Pending) → HasCome heard here own next cell op → IsLedHere here cell
  led_come next cell op (Stood was) = op_leads heard here own fit cell was.was was.is
  led_come next cell op (Is_new first opening at_cell same le) = subst (IsLedHere here) (sym at_cell) (opens_led first opening)

  -- what each effect keeps, by what it does to the cell, a job keeps
  module _ (P : PairState → Type 0) (each : (now : PairState) (e : Effect) → May heard here own now e → Changes now e → P now → P (applied now e))
      (begun : P own) where
    abbrev Stands : PairState → Type 0
    Stands now = HaveCome heard here own now × (stage_at here.state q ≡ 0 → IsBare now q) × P now

    still_bare : (now : PairState) (e : Effect) → Changes now e → stage_at here.state q ≡ 0 → IsBare now q → IsBare (applied now e) q
    still_bare now e (inl at) zero bare = let up = (live_stage here.state q at.lives).0 in absurd (omega arith)
    still_bare now e (inr kept) zero bare = record { chain = kept.rest.chain ∙ bare.chain; marks = λ kind. kept.marks kind ∙ bare.marks kind }

    step : (now : PairState) (e : Effect) → May heard here own now e → Stands now → Stands (applied now e)
    step now e may so =
        let change = changes now (λ cell op is. led_come now.pairs.next cell op (so.0 cell op is)) so.1 e may in
        (each_come heard here own now e may so.0, λ zero. still_bare now e change zero (so.1 zero), each now e may change so.2)

    pub cell_keeps : (done : JobResult) → Did heard here own done → P done.own
    cell_keeps done did =
        (job_keeps heard here own Stands step (λ cell op is. Stood (was_same own cell op is), fit.bare q, begun) done did).2

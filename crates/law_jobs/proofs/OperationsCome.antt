-- What is pending after a job was so before, in whatever stage, or was opened under the next number; and which request a job is done with.
use Rattle.law_jobs.proofs.Imports.{◌+◌, ◌∙◌, ◌≡◌, ◌≤◌, ◌⊎◌, Body, Cell, Did, Finished, IsSame, JobContext, JobResult, Key, None, PairState, Pending, Some}
use Rattle.law_jobs.proofs.Imports.{Stage, Stored, Table, Was, ap, arith, at, at_apart, at_same, cell_apart, cell_cmp, cell_gone, cell_gone_apart, cell_same}
use Rattle.law_jobs.proofs.Imports.{inl, inr, nat_cmp, put, refl, same_cell_or_apart, same_itself, same_on, same_or_apart, same_some, stood, subst, sym}
use Rattle.law_jobs.proofs.Imports.{was_same, without, ℕ}
use Rattle.law_jobs.specs.Effects.{An_operation, As_operation, Begins_copy, By_operation, Closes, Effect, Finishes, Goes_on, Had_no_slot, IsFinishedFor}
use Rattle.law_jobs.specs.Effects.{IsOpening, IsPutFor, IsSetFor, May, Opens, Puts, Sets, applied}
use Rattle.law_jobs.proofs.JobsAreEffects.{job_keeps}

pub restaged : (op : Pending) (version : ℕ) (stage : Stage) → IsSame op (record op { version = version; stage = stage })
restaged op version stage = record { number = refl; kind = refl; client = refl; seq = refl; rev = refl; key = refl; bytes = refl }

-- what is at a cell once something is put at one: that, or what was there
pub put_with : {A : Type 0} (P : A → Type 0) (t : Table Cell A) (cell q : Cell) (new : A) → (q ≡ cell → P new)
    → ((old : A) → at cell_cmp t q ≡ Some old → P old) → (x : A) → at cell_cmp (put cell_cmp t cell new) q ≡ Some x → P x
put_with P t cell q new comes stays x there = elim (same_cell_or_apart q cell) [
  | inl e ↦ subst P (same_some (sym (cell_same t cell new) ∙ ap (at cell_cmp (put cell_cmp t cell new)) (sym e) ∙ there)) (comes e)
  | inr ne ↦ stays x (sym (cell_apart t cell new q ne) ∙ there)
]

module _ (heard : Body → Type 0) (here : JobContext) (own : PairState) where
  -- ### What is pending

  pub data HasCome (next : ℕ) (cell : Cell) (op : Pending) : Type 0 where
    Stood : Was own cell op → HasCome next cell op
    Is_new : (first : Pending) → IsOpening heard here own first → cell ≡ first.cell → IsSame first op → own.pairs.next + 1 ≤ next → HasCome next cell op

  abbrev pub HaveCome : PairState → Type 0
  HaveCome now = (cell : Cell) (op : Pending) → at cell_cmp now.pairs.pending cell ≡ Some op → HasCome now.pairs.next cell op

  further : (next : ℕ) (cell : Cell) (op later : Pending) → IsSame op later → HasCome next cell op → HasCome next cell later
  further next cell op later same (Stood was) =
      Stood (record { was = was.was; is = was.is; same = same_on was.was op later was.same same })
  further next cell op later same (Is_new first opening at_cell old number) = Is_new first opening at_cell (same_on first op later old same) number

  set_so : (now : PairState) (op : Pending) → IsSetFor heard here own now op → HaveCome now → (cell : Cell) → cell ≡ op.cell
      → HasCome now.pairs.next cell op
  set_so now _ (Goes_on op stage is put reserved busy stale) so cell e =
      further now.pairs.next cell op _ (restaged op op.version stage) (so cell op (ap (at cell_cmp now.pairs.pending) e ∙ is))

  put_so : (next : ℕ) (key : Key) (stored : Stored) (op : Pending) → IsPutFor heard here own key stored (As_operation op) → (cell : Cell) → cell ≡ op.cell
      → HasCome next cell op
  put_so next _ _ _ (An_operation op reserved paired is fresh why) cell e =
      Stood (record { was = op; is = ap (at cell_cmp own.pairs.pending) e ∙ is; same = restaged op _ _ })

  counted : (next : ℕ) (cell : Cell) (op : Pending) → HasCome next cell op → HasCome (next + 1) cell op
  counted next cell op (Stood was) = Stood was
  counted next cell op (Is_new first opening at_cell same le) = Is_new first opening at_cell same (omega arith)

  pub each_come : (now : PairState) (e : Effect) → May heard here own now e → HaveCome now → HaveCome (applied now e)
  each_come now (Opens new) may so cell op there =
      let number : now.pairs.next ≡ own.pairs.next = ap (λ (o : PairState). o.pairs.next) may.1 in
      put_with (HasCome (now.pairs.next + 1) cell) now.pairs.pending new.cell cell new (λ e. Is_new new may.0 e (same_itself new) (omega arith))
      (λ old is. counted now.pairs.next cell old (so cell old is)) op there
  each_come now (Sets next) may so cell op there =
      put_with (HasCome now.pairs.next cell) now.pairs.pending next.cell cell next (set_so now next may.0 so cell) (so cell) op there
  each_come now (Puts key stored (As_operation next)) may so cell op there =
      put_with (HasCome now.pairs.next cell) now.pairs.pending next.cell cell next (put_so now.pairs.next key stored next may.0 cell) (so cell) op there
  each_come now (Closes of) may so cell op there = so cell op (stood now.pairs.pending of cell op there)
  each_come now (Begins_copy of) may so cell op there = counted now.pairs.next cell op (so cell op there)
  each_come now _ may so cell op there = so cell op there

  pub did_come : (done : JobResult) → Did heard here own done → HaveCome done.own
  did_come = job_keeps heard here own HaveCome each_come (λ cell op is. Stood (was_same own cell op is))

  -- ### What is finished

  pub data HasFinished (finished : Table ℕ Finished) (pending : Table Cell Pending) : Type 0 where
    None_new : finished ≡ own.pairs.finished → HasFinished finished pending
    Is_done : (client : ℕ) (last : Finished) → IsFinishedFor heard here own pending client last → finished ≡ put nat_cmp own.pairs.finished client last
        → HasFinished finished pending

  stays_gone : (t : Table Cell Pending) (cell q : Cell) → at cell_cmp t q ≡ None → at cell_cmp (without cell_cmp t cell) q ≡ None
  stays_gone t cell q none = elim (same_cell_or_apart q cell) [
    | inl e ↦ ap (at cell_cmp (without cell_cmp t cell)) e ∙ cell_gone t cell
    | inr ne ↦ cell_gone_apart t cell q ne ∙ none
  ]

  closed : (t : Table Cell Pending) (cell : Cell) (client : ℕ) (last : Finished) → IsFinishedFor heard here own t client last
      → IsFinishedFor heard here own (without cell_cmp t cell) client last
  closed t cell _ _ (Had_no_slot want new full gone) = Had_no_slot want new full (stays_gone t cell want.cell gone)
  closed t cell _ _ (By_operation op how ended write gone) = By_operation op how ended write (stays_gone t cell op.cell gone)

  after_closing : (f : Table ℕ Finished) (t : Table Cell Pending) (cell : Cell) → HasFinished f t → HasFinished f (without cell_cmp t cell)
  after_closing f t cell (None_new same) = None_new same
  after_closing f t cell (Is_done client last why is) = Is_done client last (closed t cell client last why) is

  abbrev F : PairState → Type 0
  F now = HasFinished now.pairs.finished now.pairs.pending

  each_finish : (now : PairState) (e : Effect) → May heard here own now e → F now → F (applied now e)
  each_finish now (Opens op) may so = None_new (ap (λ (o : PairState). o.pairs.finished) may.1)
  each_finish now (Sets op) may so = None_new may.1
  each_finish now (Puts key stored (As_operation op)) may so = None_new (ap (λ (o : PairState). o.pairs.finished) may.2.0)
  each_finish now (Closes cell) may so = after_closing now.pairs.finished now.pairs.pending cell so
  each_finish now (Finishes client last) may so = Is_done client last may.0 (ap (λ t. put nat_cmp t client last) may.1)
  each_finish now _ may so = so

  pub did_finish : (done : JobResult) → Did heard here own done → F done.own
  did_finish = job_keeps heard here own F each_finish (None_new refl)

  -- what is remembered of one client
  pub finished_of : (finished : Table ℕ Finished) (pending : Table Cell Pending) → HasFinished finished pending → (client : ℕ) (last : Finished)
      → at nat_cmp finished client ≡ Some last → (at nat_cmp own.pairs.finished client ≡ Some last) ⊎ IsFinishedFor heard here own pending client last
  finished_of finished pending (None_new same) client last is = inl (ap (λ t. at nat_cmp t client) (sym same) ∙ is)
  finished_of finished pending (Is_done of now why same) client last is =
      let there : at nat_cmp (put nat_cmp own.pairs.finished of now) client ≡ Some last = ap (λ t. at nat_cmp t client) (sym same) ∙ is in
      elim (same_or_apart client of) [
        | inl e ↦
            let one : now ≡ last =
            same_some (sym (at_same own.pairs.finished of now) ∙ ap (at nat_cmp (put nat_cmp own.pairs.finished of now)) (sym e) ∙ there) in
            inr (subst (λ c. IsFinishedFor heard here own pending c last) (sym e) (subst (IsFinishedFor heard here own pending of) one why))
        | inr ne ↦ inl (sym (at_apart own.pairs.finished of now client ne) ∙ there)
      ]

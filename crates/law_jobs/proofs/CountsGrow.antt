-- Numbers of operations only grow: the next one, and how far a second server is on each cell.
use Rattle.law_jobs.proofs.Imports.{◌+◌, ◌∙◌, ◌≡◌, ◌≤◌, Body, Cell, Did, JobContext, JobResult, Key, LastOp, PairState, Stored, ap, arith, at, cell_apart}
use Rattle.law_jobs.proofs.Imports.{cell_cmp, cell_of, cell_same, far_of, inl, inr, last_on, progress, put, same_cell_or_apart, ℕ}
use Rattle.law_jobs.specs.Effects.{A_lead, As_second, Begins_copy, Effect, IsPutFor, May, Opens, Puts, Reserves, applied}
use Rattle.law_jobs.proofs.JobsAreEffects.{job_keeps}
use Rattle.petal_msg.specs.declared.operation.FollowProgress.TheVariants as follow_progress

module _ (heard : Body → Type 0) (here : JobContext) (own : PairState) where
  counts : (now : PairState) (e : Effect) → May heard here own now e → own.pairs.next ≤ now.pairs.next → own.pairs.next ≤ (applied now e).pairs.next
  counts now (Opens op) may le = omega arith
  counts now (Begins_copy cell) may le = omega arith
  counts now _ may le = le

  pub did_count : (done : JobResult) → Did heard here own done → own.pairs.next ≤ done.own.pairs.next
  did_count = job_keeps heard here own (λ (o : PairState). own.pairs.next ≤ o.pairs.next) counts (omega arith)

  module _ (cell : Cell) where
    abbrev far_on : PairState → ℕ
    far_on o = progress (last_on o cell)

    set_far : (now : PairState) (of : Cell) (last : LastOp) → (cell ≡ of → far_on own ≤ far_of last.op last.progress) → far_on own ≤ far_on now
        → far_on own ≤ progress (at cell_cmp (put cell_cmp now.pairs.last of last) cell)
    set_far now of last up le = elim (same_cell_or_apart cell of) [
      | inl e ↦
          let then : progress (at cell_cmp (put cell_cmp now.pairs.last of last) cell) ≡ far_of last.op last.progress =
          ap (λ c. progress (at cell_cmp (put cell_cmp now.pairs.last of last) c)) e ∙ ap progress (cell_same now.pairs.last of last) in
          let more = up e in omega arith
      | inr ne ↦
          let same : progress (at cell_cmp (put cell_cmp now.pairs.last of last) cell) ≡ far_on now =
          ap progress (cell_apart now.pairs.last of last cell ne) in
          omega arith
    ]

    second_far : (key : Key) (stored : Stored) (last : LastOp) → IsPutFor heard here own key stored (As_second last) → cell ≡ cell_of key
        → far_on own ≤ far_of last.op last.progress
    second_far _ _ _ (A_lead number key told version origin bytes h s last next) e =
        let was : far_on own ≡ number + number = ap (λ c. progress (last_on own c)) e ∙ ap progress last in omega arith

    follows : (now : PairState) (e : Effect) → May heard here own now e → far_on own ≤ far_on now → far_on own ≤ far_on (applied now e)
    follows now (Reserves of number) may le =
        set_far now of (record { op = number; progress = follow_progress.Reserved })
        (λ e. let same : far_on now ≡ progress (last_on now of) = ap (λ c. progress (last_on now c)) e in let up = may.2 in omega arith) le
    follows now (Puts key stored (As_second last)) may le = set_far now (cell_of key) last (second_far key stored last may.0) le
    follows now _ may le = le

    pub did_follow : (done : JobResult) → Did heard here own done → far_on own ≤ far_on done.own
    did_follow = job_keeps heard here own (λ (o : PairState). far_on own ≤ far_on o) follows (omega arith)

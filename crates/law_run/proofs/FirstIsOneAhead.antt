-- Where two copies of a cell differ, the first server is one put ahead of the second one.
use Rattle.law_run.proofs.Imports.{◌+◌, ◌≡◌, ◌≤◌, ◌⊎◌, AreCopies, Bool, IsAhead, None, Option, Pair, PairOk, Pending, Some, Working, ap, arith, cases_lt}
use Rattle.law_run.proofs.Imports.{false, far, inl, inr, number_of, one_put_ahead, progress, put, refl, subst, true}

-- a pair's operation that is put at the first server
pub put_ahead : (pair : Pair) (op : Pending) → PairOk pair → pair.pending ≡ Some op → op.stage.put ≡ true
    → IsAhead pair.first pair.second (far pair) op
put_ahead pair op ok is put =
    let copies : AreCopies pair.first pair.second (far pair) (Some op) = subst (AreCopies pair.first pair.second (far pair)) is ok.copies in
    subst (Working pair.first pair.second (far pair) op) put copies

-- where two copies differ, the first server's operation is put, and the second server has set a slot apart for it but not put it
pub record IsAheadLow (pair : Pair) : Type 0 where
  pub op : Pending
  pub is : pair.pending ≡ Some op
  pub begun : op.op + op.op ≤ far pair
  pub ahead : pair.first ≡ one_put_ahead pair.second op
  pub low : far pair ≤ op.op + op.op

pub copied_low : (pair : Pair) → PairOk pair → (pair.first ≡ pair.second) ⊎ IsAheadLow pair
copied_low pair ok = by pair.pending refl ok.copies
  where
    working : (op : Pending) → pair.pending ≡ Some op → (put : Bool) → Working pair.first pair.second (far pair) op put
        → (pair.first ≡ pair.second) ⊎ IsAheadLow pair
    working op is false even = inl even.even
    working op is true ahead = elim (cases_lt (far pair) (op.op + op.op + 1)) [
      | inl before ↦
          let begun = ahead.begun in inr (record { op = op; is = is; begun = ahead.begun; ahead = ahead.ahead (omega arith); low = omega arith })
      | inr past ↦ inl (ahead.even past)
    ]

    by : (o : Option Pending) → pair.pending ≡ o → AreCopies pair.first pair.second (far pair) o → (pair.first ≡ pair.second) ⊎ IsAheadLow pair
    by None is same = inl same
    by (Some op) is copies = working op is op.stage.put copies

-- they are equal where the second server has nothing in mind of the place: it has set no slot apart
pub unfollowed_equal : (pair : Pair) → PairOk pair → pair.last ≡ None → pair.first ≡ pair.second
unfollowed_equal pair ok none = elim (copied_low pair ok) [
  | inl same ↦ same
  | inr a ↦
      let begun = a.begun in
      let nowhere : far pair ≡ 0 = ap progress none in
      let from_one = subst (λ o. 1 ≤ number_of o pair.next) a.is ok.counted in
      absurd (omega arith)
]

-- What a second server does for a write is one of the kinds that the relation names.
use Rattle.law_steps.proofs.Imports.{◌+◌, ◌<◌, ◌==◌, ◌∙◌, ◌≡◌, ◌≤◌, Body, Bool, Cell, FollowProgress, JobContext, JobResult, Key, LastOp, List, Named, None}
use Rattle.law_steps.proofs.Imports.{Option, PairState, Some, ap, arith, by_test, cell_of, false, follows_once, free_of, has_slot, hears_replicate}
use Rattle.law_steps.proofs.Imports.{hears_reserve, is_second, last_on, nat_lt, nat_tests, none_some, refl, reserves, same_numbers, same_some, subst, sym}
use Rattle.law_steps.proofs.Imports.{true, true_false, ℕ}
use Rattle.law_steps.specs.Operations.{progress}
use Rattle.law_steps.specs.DidSecond.{Sets_apart, Promises, Declines, Follows}
use Rattle.law_steps.specs.Did.{Did, Ignores, By_second}
use Rattle.law_steps.proofs.InvertLead.{no_free}
use Rattle.petal_msg.specs.declared.body.Body.TheVariants as body
use Rattle.petal_msg.specs.declared.operation.FollowProgress.TheVariants as follow_progress

newer_op : (last : LastOp) (number : ℕ) → nat_lt number last.op ≡ false → (number == last.op) ≡ false → last.op < number
newer_op last number e f = grind (arith, nat_tests)

used_up : (how : FollowProgress) → has_slot how ≡ false → how ≡ follow_progress.Replicated
used_up follow_progress.Reserved e = true_false refl e
used_up follow_progress.Replicated e = refl

later_op : (last : LastOp) (number : ℕ) → nat_lt number last.op ≡ false → (number == last.op) ≡ false → progress (Some last) ≤ number + number
later_op last number e f = by last.progress (grind (arith, nat_tests))
  where
    by : (how : FollowProgress) → last.op < number → progress (Some (record last { progress = how })) ≤ number + number
    by follow_progress.Reserved lt = omega arith
    by follow_progress.Replicated lt = omega arith

-- the operation before this one on the cell is older, and its slot is left over or not
record IsPast (own : PairState) (cell : Cell) (number : ℕ) (has : Bool) : Type 0 where
  newer : (last : LastOp) → last_on own cell ≡ Some last → last.op < number
  slot : (last : LastOp) → last_on own cell ≡ Some last → has_slot last.progress ≡ has

module _ (heard : Body → Type 0) (here : JobContext) (own : PairState) where
  abbrev D : JobResult → Type 0
  D done = Did heard here own done

  no_past : (cell : Cell) (number : ℕ) → last_on own cell ≡ None → IsPast own cell number false
  no_past cell number e = record { newer = λ last is. none_some e is; slot = λ last is. none_some e is }

  past_is : (cell : Cell) (number : ℕ) (last : LastOp) → last_on own cell ≡ Some last → last.op < number → IsPast own cell number (has_slot last.progress)
  past_is cell number last e lt = record {
    newer = λ other is. subst (λ (o : LastOp). o.op < number) (same_some (sym e ∙ is)) lt;
    slot = λ other is. ap (λ (o : LastOp). has_slot o.progress) (same_some (sym is ∙ e));
  }

  did_reserves : (number : ℕ) (cell : Cell) (has room : Bool) → heard (body.Reserve number cell) → is_second here.state here.me cell ≡ true
      → IsPast own cell number has → progress (last_on own cell) ≤ number + number → nat_lt 0 (free_of own.store) ≡ room
      → D (reserves here own cell number has room)
  did_reserves number cell true room h s past le e = By_second _ (Sets_apart number cell own.store.tickets h s le)
  did_reserves number cell false true h s past le e = By_second _ (Sets_apart number cell (own.store.tickets + 1) h s le)
  did_reserves number cell false false h s past le e =
      By_second _ (Declines number cell h s (record {
        none_free = no_free (free_of own.store) e;
        newer = past.newer;
        none_left = λ last is. used_up last.progress (past.slot last is);
      }))

  pub did_reserve : (number : ℕ) (cell : Cell) (o : Option LastOp) → heard (body.Reserve number cell) → is_second here.state here.me cell ≡ true
      → last_on own cell ≡ o → D (hears_reserve here own cell number o)
  did_reserve number cell None h s e =
      did_reserves number cell false (nat_lt 0 (free_of own.store)) h s (no_past cell number e)
      (subst (λ o. progress o ≤ number + number) (sym e) (omega arith)) refl
  did_reserve number cell (Some last) h s e = by_test D (nat_lt number last.op) _ _ (λ t. Ignores)
      (λ older. by_test D (number == last.op) _ _
      (λ same. By_second
      _ (Promises number cell last.progress s (e ∙ λ i. Some (record { op = sym (same_numbers number last.op same) i; progress = last.progress }))))
      (λ apart. did_reserves number cell (has_slot last.progress) (nat_lt 0 (free_of own.store)) h s
      (past_is cell number last e (newer_op last number older apart))
      (subst (λ o. progress o ≤ number + number) (sym e) (later_op last number older apart)) refl))

  did_once : (number : ℕ) (key : Key) (version : ℕ) (origin : Option Named) (bytes : List ℕ) (how : FollowProgress)
      → heard (body.Replicate number key version origin bytes) → is_second here.state here.me (cell_of key) ≡ true
      → last_on own (cell_of key) ≡ Some (record { op = number; progress = how }) → D (follows_once here own number key origin bytes how)
  did_once number key version origin bytes follow_progress.Reserved h s e = By_second _ (Follows number key version origin bytes h s e)
  did_once number key version origin bytes follow_progress.Replicated h s e = By_second _ (Promises number (cell_of key) follow_progress.Replicated s e)

  pub did_replicate : (number : ℕ) (key : Key) (version : ℕ) (origin : Option Named) (bytes : List ℕ) (o : Option LastOp)
      → heard (body.Replicate number key version origin bytes) → is_second here.state here.me (cell_of key) ≡ true
      → last_on own (cell_of key) ≡ o → D (hears_replicate here own number key origin bytes o)
  did_replicate number key version origin bytes None h s e = Ignores
  did_replicate number key version origin bytes (Some last) h s e = by_test D (number == last.op) _ _
      (λ same. did_once number key version origin bytes last.progress h s
      (e ∙ λ i. Some (record { op = sym (same_numbers number last.op same) i; progress = last.progress })))
      (λ t. Ignores)

-- What becomes of a write that is not finished; one that is neither refused nor there is opened, and so is a fill.
use Rattle.std.proofs.Common.{◌≡◌, Bool, true, false, nat_lt, refl, sym, ap, ◌∙◌}
use Rattle.petal_msg.specs.declared.body.Body.TheVariants as body
use Rattle.petal_msg.specs.declared.letter.Actor.TheVariants as actor
use Rattle.petal_msg.specs.declared.operation.Pending.{Pending}
use Rattle.spec_rules.specs.Fills.{Moving, fill_operation, opens_fill}
use Rattle.spec_rules.specs.Server.{JobContext, PairState, says, silent}
use Rattle.spec_rules.specs.Store.{free_of}
use Rattle.spec_rules.specs.Writes.{Newer, Wanted, is_kept_back, is_pending_for, is_under_way, opens, operation, pending_on, takes}
use Rattle.write_pair.specs.Opened.{begun}

module _ (here : JobContext) (own : PairState) (want : Wanted) where
  pub pending_is : is_pending_for (pending_on own want.cell) want ≡ true → silent own ≡ takes here own want Newer
  pending_is pending = sym (rw pending refl)

  pub kept_is : is_pending_for (pending_on own want.cell) want ≡ false → is_kept_back here.state own want.cell ≡ true
      → says own (actor.Client want.client) (body.Held want.seq) ≡ takes here own want Newer
  kept_is pending kept = sym (rw (pending, kept) refl)

  pub busy_is : is_pending_for (pending_on own want.cell) want ≡ false → is_kept_back here.state own want.cell ≡ false
      → is_under_way own want.cell ≡ true → says own (actor.Client want.client) (body.BlockBusy want.seq) ≡ takes here own want Newer
  busy_is pending kept busy = sym (rw (pending, kept, busy) refl)

module _ (here : JobContext) (own : PairState) (op : Pending) where
  write_begun : (want : Wanted) (room : Bool) → begun here own (operation here own.pairs.next want) room ≡ opens here own want room
  write_begun want room = elim room as (λ b. begun here own (operation here own.pairs.next want) b ≡ opens here own want b) [ true ↦ refl | false ↦ refl ]

  pub write_is : (want : Wanted) → op ≡ operation here own.pairs.next want → is_pending_for (pending_on own want.cell) want ≡ false
      → is_kept_back here.state own want.cell ≡ false → is_under_way own want.cell ≡ false
      → begun here own op (nat_lt 0 (free_of own.store)) ≡ takes here own want Newer
  write_is want is pending kept busy =
      ap (λ (o : Pending). begun here own o (nat_lt 0 (free_of own.store))) is ∙ write_begun want (nat_lt 0 (free_of own.store))
      ∙ sym (rw (pending, kept, busy) refl)

  fill_begun : (moving : Moving) (room : Bool) → begun here own (fill_operation here own.pairs.next moving) room ≡ opens_fill here own moving room
  fill_begun moving room = elim room
      as (λ b. begun here own (fill_operation here own.pairs.next moving) b ≡ opens_fill here own moving b) [ true ↦ refl | false ↦ refl ]

  pub fill_is : (moving : Moving) → op ≡ fill_operation here own.pairs.next moving
      → begun here own op (nat_lt 0 (free_of own.store)) ≡ opens_fill here own moving (nat_lt 0 (free_of own.store))
  fill_is moving is =
      ap (λ (o : Pending). begun here own o (nat_lt 0 (free_of own.store))) is ∙ fill_begun moving (nat_lt 0 (free_of own.store))

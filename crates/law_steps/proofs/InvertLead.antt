-- What a lead does for a write is one of the kinds that the relation names.
use Rattle.law_steps.proofs.Imports.{if◌then◌else◌, ◌&&◌, ◌+◌, ◌<◌, ◌==◌, ◌||◌, ◌∙◌, ◌≡◌, ◌≤◌, Again, Body, Bool, Cell, Copy, Finished, In, IsSteady}
use Rattle.law_steps.proofs.Imports.{JobContext, JobResult, Moving, Newer, None, Older, OpKind, Option, PairState, Pending, Post, Some, Stage, Wanted}
use Rattle.law_steps.proofs.Imports.{Written, acts, alone_action, ap, arith, at, both_action, both_true, by_bool, by_test, cell_cmp_total, cell_of, cell_same}
use Rattle.law_steps.proofs.Imports.{chain_in, client_limit, copying_on, either_false, either_of, ends, false, fill_operation, free_of, goes_on, goes_on_with}
use Rattle.law_steps.proofs.Imports.{has_epoch, has_proposed, hears_fill, hears_pair_full, hears_replicated, hears_reserved, held, in_both, is_in}
use Rattle.law_steps.proofs.Imports.{is_kept_back, is_lead, is_pending_for, is_replicating, is_reserving, is_some, is_under_way, is_writes_held, leads_link}
use Rattle.law_steps.proofs.Imports.{live, nat_cmp, nat_lt, nat_tests, next_stage, none_of, not, not_true, on_fill, on_write, only, opened, opens, opens_fill}
use Rattle.law_steps.proofs.Imports.{operation, origin_by, pending_on, post_to, refl, said, same_numbers, says, second, standing, subst, sym, takes}
use Rattle.law_steps.proofs.Imports.{takes_newer, true, true_false, was_true, with_opened, with_paired, with_pending, with_reserved, without_pending, ℕ}
use Rattle.law_steps.specs.Operations.{IsStaged, AtRest, Waiting, Putting, Copying, waiting, putting, copying, done_to}
use Rattle.law_steps.specs.DidLead.{Asks_for, Repeats, Is_full, Opens, Marks, Puts, Gives_up, Closes, Opens_alone, Marks_alone, Puts_alone, Unmarks_alone}
use Rattle.law_steps.specs.DidLead.{Closes_alone, Opens_fill, Opens_fill_alone, Has_fill, Has_no_room, Goes_on_retired, Asks, A_slot, A_copy, IsNew}
use Rattle.law_steps.specs.DidLead.{IsNewFill, Taken, As_it_is, As_told, IsIdleFill}
use Rattle.law_steps.specs.Did.{Did, Ignores, Refuses, For_a_write, By_copy_for_a_write, A_write, By_lead}
use Rattle.law_steps.proofs.BusyLetters.{busy_not_held, busy_seq, held_not_busy, held_seq}
use Rattle.law_steps.proofs.TablesOfPuts.{without_put}
use Rattle.law_steps.proofs.WhoLeads.{lead_links, link_alone}
use Rattle.petal_msg.specs.declared.body.Body.TheVariants as body
use Rattle.petal_msg.specs.declared.letter.Actor.TheVariants as actor
use Rattle.petal_msg.specs.declared.operation.Action.TheVariants as action
use Rattle.petal_msg.specs.declared.operation.OpKind.TheVariants as kind

is_waiting : (stage : Stage) → AtRest stage → stage.reserved ≡ false → stage ≡ waiting
is_waiting stage (Waiting e) f = e
is_waiting stage (Putting e) f = true_false (ap (λ (s : Stage). s.reserved) e) f
is_waiting stage (Copying e) f = true_false (ap (λ (s : Stage). s.reserved) e) f

pub is_copying : (stage : Stage) → AtRest stage → stage.put ≡ true → stage ≡ copying
is_copying stage (Waiting e) f = true_false f (ap (λ (s : Stage). s.put) e)
is_copying stage (Putting e) f = true_false f (ap (λ (s : Stage). s.put) e)
is_copying stage (Copying e) f = e

pub no_free : (free : ℕ) → nat_lt 0 free ≡ false → free ≡ 0
no_free free e = grind (arith, nat_tests)

some_free : (free : ℕ) → nat_lt 0 free ≡ true → 0 < free
some_free free e = grind (arith, nat_tests)

newer : (last : Finished) (seq : ℕ) → nat_lt seq last.seq ≡ false → (seq == last.seq) ≡ false → last.seq + 1 ≤ seq
newer last seq e f = grind (arith, nat_tests)

module _ (heard : Body → Type 0) (here : JobContext) (own : PairState) (steady : IsSteady here.state)
    (staged : (cell : Cell) (op : Pending) → pending_on own cell ≡ Some op → IsStaged here.state here.me (has_proposed here.state own) cell op) where
  abbrev D : JobResult → Type 0
  D done = Did heard here own done

  leads : (cell : Cell) → is_lead here.state here.me cell ≡ true → leads_link here.state here.me cell ≡ true
  leads cell e = (lead_links here.state here.me cell e).1

  -- ### The next stage

  posts_ask : (o : Option ℕ) (said : Body) → ((to : ℕ) → o ≡ Some to → Asks here own (record { to = actor.Server to; body = said })) → (post : Post)
      → In post (post_to o said) → Asks here own post
  unfolding In
  posts_ask None said h post i = absurd i
  posts_ask (Some to) said h post i = only (Asks here own) _ post i (h to refl)

  -- what an operation asks of the second server
  pub asks_slot : (op : Pending) → pending_on own op.cell ≡ Some op → op.stage ≡ waiting → (post : Post)
      → In post (post_to (second here.state op.cell) (body.Reserve op.op op.cell)) → Asks here own post
  asks_slot op is stage = posts_ask _ _ (λ to e. A_slot op to is stage e)

  pub asks_copy : (op : Pending) → pending_on own op.cell ≡ Some op → op.stage ≡ copying → (post : Post)
      → In post (post_to (second here.state op.cell) (body.Replicate op.op op.key op.version (origin_by here.state op) op.bytes)) → Asks here own post
  asks_copy op is stage = posts_ask _ _ (λ to e. A_copy op to is stage e)

  -- the next action of an operation at its lead, in Both and where the lead is alone
  pub both_next : (op : Pending) (stage : Stage) → leads_link here.state here.me op.cell ≡ true → in_both here.state op.cell ≡ true → op.stage ≡ stage
      → next_stage here.state here.me op ≡ both_action stage
  both_next op stage lead both e =
      ap (λ b. if b then if in_both here.state op.cell then both_action op.stage else alone_action op.stage else action.Drop) lead
      ∙ ap (λ b. if b then both_action op.stage else alone_action op.stage) both ∙ ap both_action e

  pub alone_next : (op : Pending) → leads_link here.state here.me op.cell ≡ true → in_both here.state op.cell ≡ false
      → next_stage here.state here.me op ≡ alone_action op.stage
  alone_next op lead apart =
      ap (λ b. if b then if in_both here.state op.cell then both_action op.stage else alone_action op.stage else action.Drop) lead
      ∙ ap (λ b. if b then both_action op.stage else alone_action op.stage) apart

  -- at a holder that is alone an operation goes on by its flags
  did_alone : (now : PairState) (op : Pending) → Taken own now op → leads_link here.state here.me op.cell ≡ true → in_both here.state op.cell ≡ false
      → D (acts here now op (next_stage here.state here.me op))
  did_alone now op taken lead apart =
      let alone = link_alone here.state here.me op.cell lead apart in
      subst (λ a. D (acts here now op a)) (sym (alone_next op lead apart))
      (by_test (λ a. D (acts here now op a)) (not op.stage.stale) _ _ (λ t. By_lead _ (Marks_alone now op taken alone (not_true _ t)))
      (λ stale. by_test (λ a. D (acts here now op a)) (not op.stage.put) _ _
      (λ t. By_lead _ (Puts_alone now op taken alone (was_true _ stale) (not_true _ t)))
      (λ put. by_test (λ a. D (acts here now op a)) op.stage.busy _ _
      (λ t. By_lead _ (Unmarks_alone now op taken alone (was_true _ stale) (was_true _ put) t))
      (λ free. By_lead _ (Closes_alone now op taken alone (was_true _ stale) (was_true _ put) free)))))

  pub staged_at : (cell : Cell) (op : Pending) → pending_on own cell ≡ Some op → pending_on own op.cell ≡ Some op
  staged_at cell op is = subst (λ (c : Cell). pending_on own c ≡ Some op) (sym (staged cell op is).own) is

  did_staged : (op : Pending) → pending_on own op.cell ≡ Some op → D (acts here own op (next_stage here.state here.me op))
  did_staged op is =
      let s = staged op.cell op is in
      by_bool (live here.state op.cell)
      (λ on. by_bool (in_both here.state op.cell)
      (λ both. elim (s.stage on both) [
        | Waiting stage ↦ subst (λ a. D (acts here own op a)) (sym (both_next op waiting (s.leads on) both stage))
            (By_lead _ (Asks_for _ (asks_slot op is stage)))
        | Putting stage ↦ subst (λ a. D (acts here own op a)) (sym (both_next op putting (s.leads on) both stage)) (By_lead _ (Puts op is both stage))
        | Copying stage ↦ subst (λ a. D (acts here own op a)) (sym (both_next op copying (s.leads on) both stage))
            (By_lead _ (Asks_for _ (asks_copy op is stage)))
      ])
      (λ apart. did_alone own op (As_it_is op is) (s.leads on) apart))
      (λ off. By_lead _ (Goes_on_retired own op (As_it_is op is) off))

  pub did_next : (cell : Cell) (o : Option Pending) → pending_on own cell ≡ o → D (goes_on_with here own o)
  did_next cell None e = Ignores
  did_next cell (Some op) e = did_staged op (staged_at cell op e)

  -- ### Writes

  abbrev by_write : Wanted → Type 0
  by_write want = heard (body.Write want.client want.seq want.cell want.epoch want.bytes)

  did_opens : (want : Wanted) → IsNew heard here own want → (room : Bool) → nat_lt 0 (free_of own.store) ≡ room → D (opens here own want room)
  unfolding goes_on
  did_opens want new false full = By_lead _ (Is_full want new (no_free (free_of own.store) full))
  did_opens want new true room =
      let op = operation here own.pairs.next want in
      let there : pending_on (opened here own want) want.cell ≡ Some op = cell_same own.pairs.pending want.cell op in
      subst (λ o. D (goes_on_with here (opened here own want) o)) (sym there)
      (by_bool (in_both here.state want.cell)
      (λ both. subst (λ a. D (acts here (opened here own want) op a)) (sym (both_next op waiting (leads want.cell new.lead) both refl))
      (By_lead _ (Opens want new both)))
      (λ apart. subst (λ a. D (acts here (opened here own want) op a)) (sym (alone_next op (leads want.cell new.lead) apart))
      (By_lead _ (Opens_alone want new (link_alone here.state here.me want.cell (leads want.cell new.lead) apart)))))

  -- an operation or a copy keeps it back
  did_busy : (want : Wanted) → by_write want → is_lead here.state here.me want.cell ≡ true → is_pending_for (pending_on own want.cell) want ≡ false
      → (o : Option Pending) → pending_on own want.cell ≡ o → (copy : Option Copy) → copying_on own want.cell ≡ copy → (is_some o || is_some copy) ≡ true
      → D (says own (actor.Client want.client) (body.BlockBusy want.seq))
  did_busy want h lead other (Some op) e copy f busy = Refuses (actor.Client want.client) (body.BlockBusy want.seq) (record { refused = refl; other = refl })
      (λ seq g. For_a_write want op h (busy_seq g) lead e (ap (λ o. is_pending_for o want) (sym e) ∙ other))
      (λ seq g. busy_not_held g)
  did_busy want h lead other None e (Some copy) f busy = Refuses (actor.Client want.client) (body.BlockBusy want.seq) (record { refused = refl; other = refl })
      (λ seq g. By_copy_for_a_write want copy h (busy_seq g) lead f) (λ seq g. busy_not_held g)
  did_busy want h lead other None e None f busy = true_false busy refl

  did_newer : (want : Wanted) → by_write want → is_lead here.state here.me want.cell ≡ true
      → done_to (at nat_cmp own.pairs.finished want.client) ≤ want.seq → (kept busy : Bool) → is_kept_back here.state own want.cell ≡ kept
      → is_under_way own want.cell ≡ busy → is_pending_for (pending_on own want.cell) want ≡ false → D (takes_newer here own want kept busy)
  did_newer want h lead new true busy e f other = Refuses (actor.Client want.client) (body.Held want.seq) (record { refused = refl; other = refl })
      (λ seq g. held_not_busy g)
      (λ seq g. A_write want h (held_seq g) lead (either_of (is_writes_held (held here.state want.cell)) (has_proposed here.state own want.cell) e))
  did_newer want h lead new false true e f other = did_busy want h lead other (pending_on own want.cell) refl (copying_on own want.cell) refl f
  did_newer want h lead new false false e f other =
      let idle = either_false (is_some (pending_on own want.cell)) (is_some (copying_on own want.cell)) f in
      let free = either_false (is_writes_held (held here.state want.cell)) (has_proposed here.state own want.cell) e in
      did_opens want (record {
        wanted = h;
        lead = lead;
        newer = new;
        none = none_of (pending_on own want.cell) idle.0;
        uncopied = none_of (copying_on own want.cell) idle.1;
        unfenced = free.0;
        unheld = free.1;
      }) (nat_lt 0 (free_of own.store)) refl

  did_standing : (want : Wanted) → by_write want → is_lead here.state here.me want.cell ≡ true → (o : Option Finished)
      → at nat_cmp own.pairs.finished want.client ≡ o → D (takes here own want (standing o want.seq))
  did_standing want h lead None e =
      by_test D (is_pending_for (pending_on own want.cell) want) _ _ (λ t. Ignores)
      (λ t. did_newer want h lead (subst (λ o. done_to o ≤ want.seq) (sym e) (omega arith)) _ _ refl refl t)
  did_standing want h lead (Some last) e =
      by_bool (nat_lt want.seq last.seq)
      (λ older. subst (λ b. D (takes here own want (if b then Older else if want.seq == last.seq then Again last.ending else Newer))) (sym older) Ignores)
      (λ not_older. subst (λ b. D (takes here own want (if b then Older else if want.seq == last.seq then Again last.ending else Newer))) (sym not_older)
      (by_bool (want.seq == last.seq)
      (λ same. subst (λ b. D (takes here own want (if b then Again last.ending else Newer))) (sym same)
      (By_lead _ (Repeats want last h lead e (same_numbers want.seq last.seq same))))
      (λ apart. subst (λ b. D (takes here own want (if b then Again last.ending else Newer))) (sym apart)
      (by_test D (is_pending_for (pending_on own want.cell) want) _ _ (λ t. Ignores)
      (λ t. did_newer want h lead (subst (λ o. done_to o ≤ want.seq) (sym e) (newer last want.seq not_older apart)) _ _ refl refl t)))))

  pub did_write : (want : Wanted) → by_write want → D (on_write here own want)
  unfolding on_write
  did_write want h = by_test D (is_lead here.state here.me want.cell && nat_lt want.client client_limit) _ _
      (λ t. did_standing want h (both_true (is_lead here.state here.me want.cell) (nat_lt want.client client_limit) t).0 _ refl) (λ t. Ignores)

  -- ### The lead hears of the second server

  heard_of : (number : ℕ) (op : Pending) (said : ℕ → Cell → Body) (cell : Cell) → heard (said number cell) → op.cell ≡ cell → (op.op == number) ≡ true
      → heard (said op.op op.cell)
  heard_of number op said cell h own same =
      subst (λ k. heard (said k op.cell)) (sym (same_numbers op.op number same)) (subst (λ (c : Cell). heard (said number c)) (sym own) h)

  -- the lead, as the second server told it, goes on
  goes_on_told : (op : Pending) (stage : Stage) → Taken own (with_pending own (record op { stage = stage })) (record op { stage = stage })
      → (live here.state op.cell ≡ true → leads_link here.state here.me op.cell ≡ true)
      → (live here.state op.cell ≡ true → in_both here.state op.cell ≡ true → D (acts here (with_pending own (record op { stage = stage }))
      (record op { stage = stage }) (next_stage here.state here.me (record op { stage = stage }))))
      → D (goes_on_with here (with_pending own (record op { stage = stage })) (pending_on (with_pending own (record op { stage = stage })) op.cell))
  goes_on_told op stage taken leads in_two =
      let next : Pending = record op { stage = stage } in
      let now = with_pending own next in
      subst (λ o. D (goes_on_with here now o)) (sym (cell_same own.pairs.pending op.cell next))
      (by_bool (live here.state op.cell)
      (λ on. by_bool (in_both here.state op.cell) (in_two on) (λ apart. did_alone now next taken (leads on) apart))
      (λ off. By_lead _ (Goes_on_retired now next taken off)))

  pub did_reserved : (number : ℕ) (cell : Cell) (o : Option Pending) → heard (body.Reserved number cell) → pending_on own cell ≡ o
      → D (hears_reserved here own number o)
  unfolding goes_on
  did_reserved number cell None h e = Ignores
  did_reserved number cell (Some op) h e = by_test D (is_reserving op number) _ _
      (λ t.
      let tests = both_true (op.op == number) (not op.stage.reserved) t in
      let is = staged_at cell op e in
      let s = staged op.cell op is in
      goes_on_told op (record op.stage { reserved = true }) (As_told op true op.stage.paired is) s.leads
      (λ on both.
      let stage = is_waiting op.stage (s.stage on both) (not_true _ tests.1) in
      subst (λ a. D (acts here (with_pending own (with_reserved op)) (with_reserved op) a))
      (sym (both_next (with_reserved op) (with_reserved (record op { stage = waiting })).stage (s.leads on) both
      (ap (λ (x : Stage). (record x { reserved = true })) stage)))
      (By_lead _ (Marks op (heard_of number op body.Reserved cell h (staged cell op e).own tests.0) is both stage))))
      (λ t. Ignores)

  pub did_pair_full : (number : ℕ) (cell : Cell) (o : Option Pending) → heard (body.PairFull number cell) → pending_on own cell ≡ o
      → D (hears_pair_full here own number o)
  did_pair_full number cell None h e = Ignores
  did_pair_full number cell (Some op) h e = by_test D (is_reserving op number && not op.stage.put) _ _
      (λ t.
      let reserving = both_true (is_reserving op number) (not op.stage.put) t in
      let tests = both_true (op.op == number) (not op.stage.reserved) reserving.0 in
      By_lead _ (Gives_up op (heard_of number op body.PairFull cell h (staged cell op e).own tests.0) (staged_at cell op e) (not_true _ tests.1)
      (not_true _ reserving.1)))
      (λ t. Ignores)

  -- an operation that ends is gone, with all that letters told of it
  ended_told : (now : PairState) (op : Pending) (of : OpKind) → ends here now op of Written ≡ ends here now (with_paired op) of Written
  ended_told now op kind.Write = refl
  ended_told now op kind.Fill = refl
  ended_told now op kind.Copy = refl

  answered : (op : Pending) → ends here (without_pending own op.cell) op op.kind Written
      ≡ acts here (with_pending own (with_paired op)) (with_paired op) action.Answer
  answered op =
      ap (λ t. ends here (record own { pairs = record own.pairs { pending = t } }) op op.kind Written)
      (sym (without_put cell_cmp_total own.pairs.pending op.cell (with_paired op)))
      ∙ ended_told (without_pending (with_pending own (with_paired op)) op.cell) op op.kind

  pub did_replicated : (number : ℕ) (cell : Cell) (o : Option Pending) → heard (body.Replicated number cell) → pending_on own cell ≡ o
      → D (hears_replicated here own number o)
  unfolding goes_on
  did_replicated number cell None h e = Ignores
  did_replicated number cell (Some op) h e = by_test D (is_replicating op number) _ _
      (λ t.
      let tests = both_true (op.op == number && op.stage.put) (not op.stage.paired) t in
      let more = both_true (op.op == number) op.stage.put tests.0 in
      let is = staged_at cell op e in
      let s = staged op.cell op is in
      goes_on_told op (record op.stage { paired = true }) (As_told op op.stage.reserved true is) s.leads
      (λ on both.
      let stage = is_copying op.stage (s.stage on both) more.1 in
      subst (λ a. D (acts here (with_pending own (with_paired op)) (with_paired op) a))
      (sym (both_next (with_paired op) (with_paired (record op { stage = copying })).stage (s.leads on) both
      (ap (λ (x : Stage). (record x { paired = true })) stage)))
      (subst D (answered op) (By_lead _ (Closes op (heard_of number op body.Replicated cell h (staged cell op e).own more.0) is both stage)))))
      (λ t. Ignores)

  -- ### Entries that move

  did_opens_fill : (moving : Moving) → IsNewFill heard here own moving → (room : Bool) → nat_lt 0 (free_of own.store) ≡ room
      → D (opens_fill here own moving room)
  unfolding goes_on
  did_opens_fill moving new false full = By_lead _ (Has_no_room moving new (no_free (free_of own.store) full))
  did_opens_fill moving new true room =
      let op = fill_operation here own.pairs.next moving in
      let links = leads (cell_of moving.key) new.lead in
      let there : pending_on (with_opened own op) (cell_of moving.key) ≡ Some op = cell_same own.pairs.pending (cell_of moving.key) op in
      subst (λ o. D (goes_on_with here (with_opened own op) o)) (sym there)
      (by_bool (in_both here.state (cell_of moving.key))
      (λ both. subst (λ a. D (acts here (with_opened own op) op a)) (sym (both_next op waiting links both refl))
      (By_lead _ (Opens_fill moving new (some_free (free_of own.store) room) both)))
      (λ apart. subst (λ a. D (acts here (with_opened own op) op a)) (sym (alone_next op links apart))
      (By_lead _ (Opens_fill_alone moving new (some_free (free_of own.store) room) (link_alone here.state here.me (cell_of moving.key) links apart)))))

  idle_fill : is_in here.state here.me here.inc ≡ true → (moving : Moving) → heard (body.Fill moving.key moving.bytes)
      → is_lead here.state here.me (cell_of moving.key) ≡ true → is_under_way own (cell_of moving.key) ≡ false → IsIdleFill heard here own moving
  idle_fill seated moving h lead e =
      let idle = either_false (is_some (pending_on own (cell_of moving.key))) (is_some (copying_on own (cell_of moving.key))) e in
      record {
        wanted = h;
        seated = seated;
        lead = lead;
        none = none_of (pending_on own (cell_of moving.key)) idle.0;
        uncopied = none_of (copying_on own (cell_of moving.key)) idle.1;
      }

  did_hears_fill : is_in here.state here.me here.inc ≡ true → (moving : Moving) → heard (body.Fill moving.key moving.bytes)
      → is_lead here.state here.me (cell_of moving.key) ≡ true → (busy has back : Bool)
      → is_under_way own (cell_of moving.key) ≡ busy → has_epoch (chain_in own.store.chains (cell_of moving.key)) moving.key.epoch ≡ has
      → has_proposed here.state own (cell_of moving.key) ≡ back → D (hears_fill here own moving busy has back)
  did_hears_fill seated moving h lead true has back e f g = Ignores
  did_hears_fill seated moving h lead false true back e f g =
      By_lead _ (Has_fill moving (record {
        idle = idle_fill seated moving h lead e;
        has = f;
      }))
  did_hears_fill seated moving h lead false false true e f g = Ignores
  did_hears_fill seated moving h lead false false false e f g =
      did_opens_fill moving (record {
        idle = idle_fill seated moving h lead e;
        lacks = none_of (at nat_cmp (chain_in own.store.chains (cell_of moving.key)) moving.key.epoch) f;
        unheld = g;
      }) (nat_lt 0 (free_of own.store)) refl

  pub did_fill : is_in here.state here.me here.inc ≡ true → (moving : Moving) → heard (body.Fill moving.key moving.bytes) → D (on_fill here own moving)
  unfolding on_fill
  did_fill seated moving h = by_test D (is_lead here.state here.me (cell_of moving.key)) _ _
      (λ lead. did_hears_fill seated moving h lead _ _ _ refl refl refl) (λ t. Ignores)

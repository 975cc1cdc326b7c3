-- Of what a server has had at the places that count, each operation that was pending is so still, or was known of at an incarnation
-- that has ended.
use Rattle.law_run.proofs.Imports.{◌<◌, ◌∙◌, ◌≡◌, ◌≤◌, ◌⊎◌, AliveIn, AskingBy, Both, Cell, Command, Firm, GoesOn, Good, HasStage, Has_pending, IsLast}
use Rattle.law_run.proofs.Imports.{IsLinked, IsPrefix, IsSteady, LinkRow, List, PairState, Pairs, Pending, PendingFor, Record, Rests, Setting, Some, State}
use Rattle.law_run.proofs.Imports.{World, ap, arith, asked_for, at, by_test, cell_cmp, cell_link, chosen_log, counted, ended_later, inl, inr, is_clients}
use Rattle.law_run.proofs.Imports.{is_in, is_lead, is_the_one, lead, led_by, linked_alive, linked_between, lives_after, no_earlier, number_itself, one_row}
use Rattle.law_run.proofs.Imports.{own_plain, own_steady, owns_of, pending_further, place_by, places_up, prefix_itself, prefix_on, prefixes_meet}
use Rattle.law_run.proofs.Imports.{primary_is_one, ran_now, refl, same_some, seen, server_state, serves, stage_facts, state_after, subst, sym, true, ℕ}
use Rattle.law_run.proofs.StepsLeaveServers.{Leaves, As_it_was, In_place, Goes_further, Boots}
use Rattle.law_run.specs.MachineTies.{AreRemembered, IsRemembered, Is_pending, Was_pending}
use Rattle.law_run.proofs.RunScenes.{Grounded}

-- the visit of a step's server is what it is now at its own place
pub record IsVisit (setting : Setting) (v : World) (n place : ℕ) (cell : Cell) (own : PairState) : Type 0 where
  pub same : own.pairs ≡ (owns_of v n).pairs
  pub row : LinkRow
  pub linked : IsLinked setting (v.servers n).log.applied cell row
  pub at : place ≡ place_by setting (v.servers n).log.applied row

-- what a step keeps of where servers have been
pub record GoesOnFrom (setting : Setting) (records more : List Record) (w v : World) (good : Good setting records (chosen_log setting w) (counted setting w))
    (next : Good setting more (chosen_log setting v) (counted setting v)) : Type 0 where
  pub visits : (n place : ℕ) (cell : Cell) (own : PairState) → next.visits n place cell ≡ Some own
      → (good.visits n place cell ≡ Some own) ⊎ IsVisit setting v n place cell own
  pub reached : (cell : Cell) → good.reached cell ≤ next.reached cell

-- who leads a cell serves its link
lead_serves : (state : State) → IsSteady state → (n : ℕ) (cell : Cell) → is_lead state n cell ≡ true → (row : LinkRow)
    → cell_link state cell ≡ Some row
    → serves n row row.state ≡ true
lead_serves state steady n cell leads row is = elim (led_by state steady cell n (is_the_one (lead state cell) n leads)) [
  | inl b ↦ subst (λ (r : LinkRow). serves n r r.state ≡ true) (same_some (sym b.0.is ∙ is))
      (ap (serves n b.0.row) b.0.so ∙ primary_is_one b.0.row n b.1)
  | inr held ↦ subst (λ (r : LinkRow). serves n r r.state ≡ true) (same_some (sym held.is ∙ is))
      (ap (serves n held.row) held.so ∙ number_itself n)
]

-- a later world, after more records, and what is known of it
pub record GoesTo (g : Grounded) : Type 0 where
  pub v : World
  pub then : Firm g.setting v
  pub grows : IsPrefix (chosen_log g.setting g.w) (chosen_log g.setting v)
  pub more : List Record
  pub next : Good g.setting more (chosen_log g.setting v) (counted g.setting v)
  pub from : GoesOnFrom g.setting g.ground.records more g.w v g.ground.good next
  pub on : GoesOn g.setting g.w v g.ground.lives
  pub rests : Rests g.setting v
  pub asking : AskingBy g.setting v (lives_after g.ground.lives v)

module _ (g : Grounded) (to : GoesTo g) where
  open g use {setting, w, firm, ground}
  open to use {v, then, grows, more, next, from, on, asking}

  logs : (n : ℕ) → IsPrefix (w.servers n).log.applied (v.servers n).log.applied
  logs = on.later.logs

  abbrev R : (n place : ℕ) → Cell → Pending → Type 0
  R n place cell op = IsRemembered setting v (lives_after ground.lives v) n place cell op

  -- ### Before the step

  -- a place that counts then is one of what was chosen before the step, where a server had been there
  was_there : (prefix : List Command) (cell : Cell) (row : LinkRow) (n : ℕ) (own : PairState) → IsPrefix prefix (chosen_log setting v)
      → IsLinked setting prefix cell row
      → row.state ≡ Both → IsLast ground.good.reached setting prefix cell row
      → ground.good.visits n (place_by setting prefix row) cell ≡ Some own
      → (op : Pending) → at cell_cmp own.pairs.pending cell ≡ Some op → is_clients op.kind ≡ true
      → IsRemembered setting w ground.lives n (place_by setting prefix row) cell op
  was_there prefix cell row n own is_prefix is both last visit op there clients =
      elim (prefixes_meet prefix (chosen_log setting w) (chosen_log setting v) is_prefix grows) [
        | inl before ↦ ground.recalled prefix cell row n own op before is both last visit there clients
        | inr following ↦
            let been = ground.good.been n (place_by setting prefix row) cell own visit in
            let been_prefix = prefix_on been.prefix _ (chosen_log setting w) been.within (firm.servers n) in
            let old = linked_between setting (chosen_log setting v) then.plain been.prefix (chosen_log setting w) prefix cell been.row row
            been_prefix following is_prefix been.linked is in
            let up = places_up setting (chosen_log setting w) firm.plain been.prefix
            (chosen_log setting w) cell been.row old.0 been_prefix (prefix_itself (chosen_log setting w)) been.linked old.1 in
            let on_row = places_up setting (chosen_log setting v) then.plain
            (chosen_log setting w) prefix cell old.0 row following is_prefix old.1 is in
            let at = been.at in
            let same : place_by setting prefix row ≡ place_by setting (chosen_log setting w) old.0 = omega arith in
            let one : old.0 ≡ row = one_row setting (chosen_log setting v) then.plain prefix
            (chosen_log setting w) cell row old.0 is_prefix grows is old.1 same in
            let place : place_by setting prefix row ≡ place_by setting (chosen_log setting w) row = same
            ∙ ap (place_by setting (chosen_log setting w)) one in
            subst (λ p. IsRemembered setting w ground.lives n p cell op) (sym place)
            (ground.recalled (chosen_log setting w) cell row n own op (prefix_itself (chosen_log setting w))
            (subst (IsLinked setting (chosen_log setting w) cell) one old.1) both
            (subst (λ p. ground.good.reached cell ≤ p) place last) (subst (λ p. ground.good.visits n p cell ≡ Some own) place visit) there clients)
      ]

  -- what was known of at an incarnation that has ended is known of later
  ended_so : (n place : ℕ) (cell : Cell) (op : Pending) (inc : ℕ) → inc < (lives_after ground.lives v).ran n
      → (p : PendingFor setting (seen ground.lives w) n inc (asked_for cell op) op.rev) → (row : LinkRow)
      → IsLinked setting p.upto cell row
      → place_by setting p.upto row ≡ place → R n place cell op
  ended_so n place cell op inc later p row linked at =
      let un = (ended_later setting w v ground.lives ground.asking.lived on n inc (asked_for cell op) op.rev later p).unfinished in
      let q = pending_further setting (seen ground.lives w) (seen (lives_after ground.lives v) v) on.later n inc
      (asked_for cell op) op.rev p un p.upto
      (prefix_itself p.upto) (prefix_on p.upto _ _ p.applied (on.later.logs n))
      (λ log more lies. p.along log (prefix_on _ p.upto log p.opened more) lies) in
      Was_pending inc later q.0 row (subst (λ log. IsLinked setting log cell row) (sym q.1) linked)
      (ap (λ log. place_by setting log row) q.1 ∙ at)

  -- what was so at an incarnation that had ended stays so
  ended : (n place : ℕ) (cell : Cell) (op : Pending) → IsRemembered setting w ground.lives n place cell op
      → (at cell_cmp (owns_of w n).pairs.pending cell ≡ Some op → (row : LinkRow) → IsLinked setting (w.servers n).log.applied cell row
      → place_by setting (w.servers n).log.applied row ≡ place → R n place cell op)
      → R n place cell op
  ended n place cell op (Is_pending is row linked at) still = still is row linked at
  ended n place cell op (Was_pending inc lt p row linked at) still =
      let up = no_earlier ground.lives w v ground.asking.lived on.steps n in
      ended_so n place cell op inc (omega arith) p row linked at

  -- ### The server's own part

  own_stage : (n : ℕ) (cell : Cell) → HasStage (server_state setting v n) cell
  own_stage n cell = stage_facts setting.servers (v.servers n).log.applied (own_plain setting v then n) cell

  -- where its place counts still, it is the same place
  pending_still : (prefix : List Command) (cell : Cell) (row : LinkRow) (n : ℕ) (op : Pending) → IsLast next.reached setting prefix cell row
      → at cell_cmp (owns_of v n).pairs.pending cell ≡ Some op → is_clients op.kind ≡ true
      → is_in (server_state setting v n) n (v.servers n).life.inc ≡ true
      → (old : LinkRow) → IsLinked setting (w.servers n).log.applied cell old
      → place_by setting (w.servers n).log.applied old ≡ place_by setting prefix row
      → R n (place_by setting prefix row) cell op
  pending_still prefix cell row n op last there clients seat old linked spot =
      let top = chosen_log setting v in
      let applied = (v.servers n).log.applied in
      let p = asking.pending n cell op there clients in
      let led = subst (λ log. is_lead (state_after setting.servers log) n cell ≡ true) (asking.come n cell op there clients)
      (p.along p.upto p.opened (prefix_itself p.upto)).leads in
      let high = (own_stage n cell).leads n led in
      let alive : AliveIn (server_state setting v n) cell = omega (arith, high.1, high.2) in
      let now = linked_alive setting top then.plain (w.servers n).log.applied applied cell old (logs n) (then.servers n) linked alive in
      let up = places_up setting top then.plain (w.servers n).log.applied applied cell old now.0 (logs n) (then.servers n) linked now.1 in
      let here = next.here n cell now.0 now.1 seat alive in
      let le = next.reaching.below applied cell now.0 n here.own (then.servers n) now.1
      (lead_serves (server_state setting v n) (own_steady setting v then n) n cell led now.0 now.1) here.is in
      Is_pending there now.0 now.1 (omega arith)

  -- who runs, or did so before the step, has run last as the incarnation that it is
  ran_as : (n : ℕ) → (w.servers n).life.running ≡ true → (v.servers n).life.inc ≡ (w.servers n).life.inc
      → (lives_after ground.lives v).ran n ≡ (v.servers n).life.inc
  ran_as n runs same = by_test (λ (i : ℕ). i ≡ (v.servers n).life.inc) (v.servers n).life.running (v.servers n).life.inc
      (ground.lives.ran n)
      (λ t. refl) (λ f. ground.asking.lived.ran n runs ∙ sym same)

  -- what a client had pending was on a cell that takes writes by the server's entries
  still_alive : (n : ℕ) (cell : Cell) (op : Pending) → at cell_cmp (owns_of w n).pairs.pending cell ≡ Some op → is_clients op.kind ≡ true
      → (v.servers n).log.applied ≡ (w.servers n).log.applied → AliveIn (server_state setting v n) cell
  still_alive n cell op was clients applied =
      let p = ground.asking.pending n cell op was clients in
      let led = subst (λ log. is_lead (state_after setting.servers log) n cell ≡ true) (ground.asking.come n cell op was clients ∙ sym applied)
      (p.along p.upto p.opened (prefix_itself p.upto)).leads in
      let high = (own_stage n cell).leads n led in
      omega (arith, high.1, high.2)

  still : (prefix : List Command) (cell : Cell) (row : LinkRow) (n : ℕ) (own : PairState) (op : Pending)
      → IsLast next.reached setting prefix cell row
      → next.visits n (place_by setting prefix row) cell ≡ Some own → at cell_cmp own.pairs.pending cell ≡ Some op → is_clients op.kind ≡ true
      → Leaves setting n (w.servers n) (v.servers n) → at cell_cmp (owns_of w n).pairs.pending cell ≡ Some op
      → (old : LinkRow) → IsLinked setting (w.servers n).log.applied cell old
      → place_by setting (w.servers n).log.applied old ≡ place_by setting prefix row
      → R n (place_by setting prefix row) cell op
  still prefix cell row n own op last visit there clients (As_it_was pending applied) was old linked spot =
      Is_pending (ap (λ t. at cell_cmp t cell) pending ∙ was) old (subst (λ log. IsLinked setting log cell old) (sym applied) linked)
      (ap (λ log. place_by setting log old) applied ∙ spot)
  still prefix cell row n own op last visit there clients (In_place applied seat) was old linked spot =
      let linked' = subst (λ log. IsLinked setting log cell old) (sym applied) linked in
      let at' : place_by setting (v.servers n).log.applied old ≡ place_by setting prefix row = ap
      (λ log. place_by setting log old) applied ∙ spot in
      let here = next.here n cell old linked' seat (still_alive n cell op was clients applied) in
      let same : own.pairs ≡ (owns_of v n).pairs =
      ap (λ (o : PairState). o.pairs) (same_some (sym visit ∙ ap (λ p. next.visits n p cell) (sym at') ∙ here.is) ∙ here.same) in
      Is_pending (ap (λ (p : Pairs). at cell_cmp p.pending cell) (sym same) ∙ there) old linked' at'
  still prefix cell row n own op last visit there clients (Goes_further runs inc pending) was old linked spot =
      let is : at cell_cmp (owns_of v n).pairs.pending cell ≡ Some op = ap (λ t. at cell_cmp t cell) pending ∙ was in
      pending_still prefix cell row n op last is clients
      (subst (λ i. is_in (server_state setting v n) n i ≡ true) (ran_as n runs inc)
      (asking.used n (Has_pending cell op is))) old linked spot
  still prefix cell row n own op last visit there clients (Boots runs inc none) was old linked spot =
      let known = ground.asking.lived in
      let now : (lives_after ground.lives v).ran n ≡ (v.servers n).life.inc = ran_now ground.lives w v known on.steps n runs in
      let begun = known.begun n in
      let later : ground.lives.ran n < (lives_after ground.lives v).ran n = omega arith in
      let come = ground.asking.come n cell op was clients in
      ended_so n (place_by setting prefix row) cell op (ground.lives.ran n) later (ground.asking.pending n cell op was clients) old
      (subst (λ log. IsLinked setting log cell old) (sym come) linked) (ap (λ log. place_by setting log old) come ∙ spot)

  -- ### After the step

  pub remembered_next : ((n : ℕ) → Leaves setting n (w.servers n) (v.servers n))
      → AreRemembered setting v (lives_after ground.lives v) next.visits next.reached
  remembered_next leaves prefix cell row n own op is_prefix is both last visit there clients =
      elim (from.visits n (place_by setting prefix row) cell own visit) [
        | inl old ↦
            let up = from.reached cell in
            ended n (place_by setting prefix row) cell op (was_there prefix cell row n own is_prefix is both (omega arith) old op there clients)
            (λ was row' linked at. still prefix cell row n own op last visit there clients (leaves n) was row' linked at)
        | inr now ↦ Is_pending (ap (λ (p : Pairs). at cell_cmp p.pending cell) (sym now.same) ∙ there) now.row now.linked (sym now.at)
      ]

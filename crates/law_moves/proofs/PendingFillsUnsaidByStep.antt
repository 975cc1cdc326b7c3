-- A fill that a server had pending when it was at the place that the cell's link has by what is chosen, before a step: no letter of the step says that its
-- entry is there.
use Rattle.law_moves.proofs.Imports.{◌∙◌, ◌≡◌, ◌≢◌, ◌≤◌, ◌⊎◌, AreSteps, At, Bool, Both, Cell, Command, Handled, IsAt, IsHeldBy, IsInBoth, IsLinked, IsPrefix}
use Rattle.law_moves.proofs.Imports.{IsStaged, Key, Letter, LinkRow, List, None, OneMore, Only, PairState, Pairs, Pending, Run, Server, Some, WasThere, World}
use Rattle.law_moves.proofs.Imports.{ap, arith, at, at_by, at_most_or_above, cell_cmp, cell_link, cell_of, chain_in, chosen_log, cut, ends_of, has_proposed}
use Rattle.law_moves.proofs.Imports.{history_grows, history_is_firm, inl, inr, is_at, is_at_so, is_in, is_some, is_the_one, leads_link, link_led_by}
use Rattle.law_moves.proofs.Imports.{linked_between, nat_cmp, one_row, option_and_then, own_place, place_by, places_up, prefix_itself, prefix_on, row_lead}
use Rattle.law_moves.proofs.Imports.{same_only, same_or_apart, same_some, server_state, stage_at, stage_live, subst, sym, true, true_false, ℕ}
use Rattle.law_moves.specs.Fills.{Has, IsFrozen, WasFilled}
use Rattle.law_moves.proofs.LeavingCellsGainNothing.{before}
use Rattle.law_moves.proofs.AllKeptOfMoves.{Known, WereKnown}
use Rattle.law_moves.proofs.LeadsHaveWhatServersHave.{Alone, As_first, Following, IsAfter, follower_lacks, led_as}
use Rattle.law_moves.proofs.PendingFills.{by_itself, posted_says}
use Rattle.law_moves.proofs.FillLetters.{HasFilled, Is_there, Was_put}
use Rattle.law_moves.proofs.StepsTellEntries.{IsPosted, mine_top, mine_whole}
use Rattle.law_moves.proofs.EqualCopies.{frozen_on}
use Rattle.law_moves.proofs.ToldEntriesAreThere.{told_already}
use Rattle.law_moves.proofs.MoveWorlds.{facts_at, good, rests, steady_at, up, was_seen}
use Rattle.law_moves.proofs.MoveScenes.{FillAtPlace, LeadsAt}
use Rattle.petal_msg.specs.declared.body.Body.TheVariants as body

module _ (it : OneMore) (all : WereKnown it) where
  open it use {prior, prior.{script, sound, records as prefix}}
  open ends_of it use {setting, w, v, top, whole, By, top_whole, plain}

  known : Known script prefix
  known = before it all

  abbrev mine : ℕ → List Command
  mine n = (w.servers n).log.applied

  -- ### A server that was at the link's place, with a fill pending

  module _ (a : FillAtPlace setting whole) where
    open a use {n, place, cell, pairs, op, row, is, fills, linked, spot}

    module _ (was : WasThere setting prefix n place cell pairs) where
      abbrev past : World
      past = At script was.before

      abbrev then : Run
      then = cut prior was.before was.later was.is

      abbrev log : List Command
      log = (past.servers n).log.applied

      log_top : IsPrefix log top
      log_top = prefix_on log (chosen_log setting past) top ((history_is_firm script was.before sound then.legal).servers n)
          (history_grows script prefix sound prior.legal was.before was.later was.is)

      here : IsAt setting n (past.servers n) place cell
      here = at_by setting n (past.servers n) place cell was.there

      pending_then : at cell_cmp (past.servers n).own.pairs.pending cell ≡ Some op
      pending_then = ap (λ (p : Pairs). at cell_cmp p.pending cell) was.had ∙ is

      staged : IsStaged (server_state setting past n) n (has_proposed (server_state setting past n) (past.servers n).own) cell op
      staged = ((rests then).pending n).staged cell op pending_then

      linked_top : (now : LinkRow) × IsLinked setting top cell now
      linked_top = linked_between setting whole plain log top whole cell here.row row log_top top_whole (prefix_itself whole) here.linked linked

      abbrev now : LinkRow
      now = linked_top.0

      spot_top : place_by setting top now ≡ place
      spot_top =
          let a = places_up setting whole plain log top cell here.row now log_top top_whole here.linked linked_top.1 in
          let b = places_up setting whole plain top whole cell now row top_whole (prefix_itself whole) linked_top.1 linked in
          let at = here.at in
          let spot_is = spot in
          omega arith

      -- no letter of before the step says so
      pub unsaid_there : WasFilled w op.key → ⊥
      unsaid_there told = known.visits (record {
        n = n;
        place = place;
        cell = cell;
        pairs = pairs;
        op = op;
        row = now;
        is = is;
        fills = fills;
        linked = linked_top.1;
        spot = spot_top;
      }) was told

      frozen_was : IsFrozen setting w op.rev op.key op.bytes
      frozen_was = subst (λ rs. IsFrozen setting (At script rs) op.rev op.key op.bytes) (sym was.is)
          (frozen_on script sound was.before was.later (subst (AreSteps script) was.is prior.legal) op.rev op.key op.bytes
          ((all was.before was.later was.is).filled.asked n cell op pending_then fills))

      -- nor one of the step
      module _ (letter : Letter) (said : letter.body ≡ body.Filled op.key) (p : IsPosted it letter)
          (low : stage_at (By top) cell ≤ 1) where
        abbrev k : ℕ
        k = p.n

        cell_is : (key : Key) → key ≡ op.key → cell_of key ≡ cell
        cell_is key e = ap cell_of e ∙ staged.keyed

        staged_now : (o : Pending) (q : Cell) → at cell_cmp (w.servers k).own.pairs.pending q ≡ Some o
            → IsStaged (server_state setting w k) k (has_proposed (server_state setting w k) (w.servers k).own) q o
        staged_now o q there = ((rests prior).pending k).staged q o there

        mine_low : stage_at (server_state setting w k) cell ≤ 1
        mine_low = let le = up prior (mine k) top (mine_top it k) (prefix_itself top) cell in omega arith

        -- who says so leads the cell: with nothing pending, and with the entry, or it had the fill pending
        pub data LeadsIt : Type 0 where
          Has_it : Has (chain_in (w.servers k).own.store.chains cell) op.key.epoch → LeadsIt
          Had_it : (o : Pending) → at cell_cmp (w.servers k).own.pairs.pending cell ≡ Some o → LeadsIt

        pub record IsLeading : Type 0 where
          pub seat : is_in (server_state setting w k) k (w.servers k).life.inc ≡ true
          pub leads : leads_link (server_state setting w k) k cell ≡ true
          pub born : 1 ≤ stage_at (server_state setting w k) cell
          pub so : LeadsIt

        had_it : (o : Pending) (q : Cell) → at cell_cmp (w.servers k).own.pairs.pending q ≡ Some o → q ≡ cell → IsLeading
        had_it o q there e =
            let at_cell : at cell_cmp (w.servers k).own.pairs.pending cell ≡ Some o = ap (at cell_cmp (w.servers k).own.pairs.pending) (sym e) ∙ there in
            let s = staged_now o cell at_cell in
            let least = s.born in
            let most = mine_low in
            record {
              seat = (rests prior).seated k cell o p.job.runs at_cell;
              leads = s.leads (stage_live (server_state setting w k) cell s.born (omega arith));
              born = s.born;
              so = Had_it o at_cell;
            }

        leading_by : HasFilled (Handled w k) (own_place setting w k) (w.servers k).own p.job.done.own op.key → IsLeading
        leading_by (Is_there moving filled of same) =
            let to = cell_is moving.key of in
            let facts = (facts_at prior (mine k) (mine_top it k) (cell_of moving.key)).leads k filled.lead in
            record {
              seat = filled.seated;
              leads = subst (λ (q : Cell). leads_link (server_state setting w k) k q ≡ true) to facts.0;
              born = subst (λ (q : Cell). 1 ≤ stage_at (server_state setting w k) q) to facts.1;
              so = Has_it (subst (λ (x : Key). Has (chain_in (w.servers k).own.store.chains cell) x.epoch) of
                  (subst (λ (q : Cell). Has (chain_in (w.servers k).own.store.chains q) moving.key.epoch) to filled.has));
            }
        leading_by (Was_put o there of fill put how none) = had_it o o.cell there (sym (staged_now o o.cell there).keyed ∙ cell_is o.key of)

        leading : IsLeading
        leading = leading_by (posted_says it all letter p op.key said)

        visit : (o : PairState) × ((good prior).visits n place cell ≡ Some o) × (o.pairs ≡ pairs)
        visit = was_seen prior n place cell pairs was

        -- by the server itself
        pub not_itself : n ≡ k
            → (now_pending : is_at setting n (v.servers n) place cell ≡ true → at cell_cmp (v.servers n).own.pairs.pending cell ≡ Some op) → ⊥
        not_itself e had =
            let been = (good prior).been n place cell visit.0 visit.1 in
            let mid = linked_between setting whole plain been.prefix (mine n) whole cell been.row row been.within (mine_whole it n)
            (prefix_itself whole) been.linked linked in
            let a = places_up setting whole plain been.prefix (mine n) cell been.row mid.0 been.within (mine_whole it n) been.linked mid.1 in
            let b = places_up setting whole plain (mine n) whole cell mid.0 row (mine_whole it n) (prefix_itself whole) mid.1 linked in
            let at = been.at in
            let spot_is = spot in
            let place_is : place_by setting (mine n) mid.0 ≡ place = omega arith in
            let le = up prior (mine n) top (mine_top it n) (prefix_itself top) cell in
            let seat : is_in (server_state setting w n) n (w.servers n).life.inc ≡ true =
            subst (λ i. is_in (server_state setting w i) i (w.servers i).life.inc ≡ true) (sym e) leading.seat in
            let at_was : is_at setting n (w.servers n) place cell ≡ true =
            subst (λ q. is_at setting n (w.servers n) q cell ≡ true) place_is (is_at_so setting n (w.servers n) cell mid.0 mid.1 seat (omega arith)) in
            let log_is : (v.servers n).log.applied ≡ (w.servers n).log.applied =
            ap (λ i. (v.servers i).log.applied) e ∙ ap (λ (s : Server). s.log.applied) p.is ∙ p.job.log_is ∙ ap (λ i. (w.servers i).log.applied) (sym e) in
            let inc_is : (v.servers n).life.inc ≡ (w.servers n).life.inc =
            ap (λ i. (v.servers i).life.inc) e ∙ ap (λ (s : Server). s.life.inc) p.is ∙ p.job.inc_is ∙ ap (λ i. (w.servers i).life.inc) (sym e) in
            let at_now : is_at setting n (v.servers n) place cell ≡ true = same_at n (v.servers n) (w.servers n) log_is inc_is ∙ at_was in
            by_itself it all n cell op (had at_now) fills letter said p e
            (posted_says it all letter p op.key said)
          where
            same_at : (i : ℕ) (s t : Server) → s.log.applied ≡ t.log.applied → s.life.inc ≡ t.life.inc
                → is_at setting i s place cell ≡ is_at setting i t place cell
            same_at i s t logs incs =
                λ j. is_at setting i (record t { life = record t.life { inc = incs j }; log = record t.log { applied = logs j } }) place cell

        -- by another one: it comes after the server, as the second one of the link, and has nothing of the fill's epoch
        module _ (apart : n ≢ k) where
          leads_now : LeadsAt setting w cell k
          leads_now = record { runs = p.job.runs; seat = leading.seat; low = omega arith; leads = leading.leads }

          same_row : now ≡ here.row
          same_row = one_row setting whole plain log top cell here.row now (prefix_on log top whole log_top top_whole) top_whole here.linked linked_top.1
              (sym here.at ∙ sym spot_top)

          leads_then : ((b : IsInBoth (By log) cell) × (b.row.primary ≡ n)) ⊎ IsHeldBy (By log) cell n
          leads_then =
              let le = up prior log top log_top (prefix_itself top) cell in
              link_led_by (By log) (steady_at prior log log_top) cell n
              (is_the_one (option_and_then (row_lead (By log)) (cell_link (By log) cell)) n (staged.leads (stage_live (By log) cell staged.born (omega arith))))

          in_row : (r : LinkRow) → IsLinked setting log cell r → now ≡ r
          in_row r there = same_row ∙ same_some (sym here.linked ∙ there)

          first_of : now.state ≡ Both → now.primary ≡ n
          first_of both = elim leads_then [
            | inl b ↦ ap (λ (r : LinkRow). r.primary) (in_row b.0.row b.0.is) ∙ b.1
            | inr h ↦ (let f : Only n h.whole ≡ Both = sym h.so ∙ ap (λ (r : LinkRow). r.state) (sym (in_row h.row h.is)) ∙ both in absurd cc)
          ]

          not_alone : (needs_full_copy : Bool) → now.state ≡ Only k needs_full_copy → ⊥
          not_alone needs_full_copy so = elim leads_then [
            | inl b ↦ (let f : Only k needs_full_copy ≡ Both = sym so ∙ ap (λ (r : LinkRow). r.state) (in_row b.0.row b.0.is) ∙ b.0.so in absurd cc)
            | inr h ↦ apart (same_only (sym h.so ∙ ap (λ (r : LinkRow). r.state) (sym (in_row h.row h.is)) ∙ so))
          ]

          lacks : IsAfter prior cell k leads_now now
              → at nat_cmp (chain_in (w.servers k).own.store.chains cell) op.key.epoch ≡ None
          lacks b =
              follower_lacks prior cell n k apart leads_now now linked_top.1 (first_of b.both) b visit.0
              (ap (λ q. (good prior).visits n q cell) spot_top ∙ visit.1) op (ap (λ (q : Pairs). at cell_cmp q.pending cell) visit.2 ∙ is) fills
              (omega arith)

          pub not_other : ⊥
          not_other = elim (led_as prior cell k leads_now now linked_top.1) [
            | As_first g ↦ apart (sym (first_of g.both) ∙ g.first)
            | Alone needs_full_copy so ↦ not_alone needs_full_copy so
            | Following b ↦ elim leading.so [
              | Had_it o there ↦
                  let most = mine_low in
                  true_false b.flagged ((staged_now o cell there).unheld (stage_live (server_state setting w k) cell leading.born (omega arith)))
              | Has_it has ↦ true_false has (ap is_some (lacks b))
            ]
          ]

      -- none of the step says so
      pub unsaid_new : (letter : Letter) → letter.body ≡ body.Filled op.key → IsPosted it letter
          → (is_at setting n (v.servers n) place cell ≡ true → at cell_cmp (v.servers n).own.pairs.pending cell ≡ Some op) → ⊥
      unsaid_new letter said p had = elim (at_most_or_above (stage_at (By top) cell) 1) [
        | inr two ↦ unsaid_there (told_already prior known.filled.moved op.rev op.key op.bytes frozen_was
            (subst (λ (q : Cell). 2 ≤ stage_at (By top) q) (sym staged.keyed) (omega arith)))
        | inl low ↦ elim (same_or_apart n p.n) [
          | inl e ↦ not_itself letter said p low e had
          | inr apart ↦ not_other letter said p low apart
        ]
      ]

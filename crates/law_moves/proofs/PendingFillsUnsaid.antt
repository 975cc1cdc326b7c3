-- A fill that a server had pending when it was last at the place that the cell's link has by what is chosen: no letter says that its entry is there.
use Rattle.law_moves.proofs.Imports.{[], ◌++◌, ◌∙◌, ◌∷◌, ◌≡◌, At, BeforeBlank, Cell, Command, Fills, Handled, Letter, List, OneMore, Option, PairState, Pairs}
use Rattle.law_moves.proofs.Imports.{Record, Server, Some, Stood, WasThere, Writes, ap, append-nil, append_assoc, at, at-empty, at_by, cell_cmp, did_come}
use Rattle.law_moves.proofs.Imports.{ends_of, inl, inr, is_at, is_clients, none_some, own_place, raised, refl, same_or_apart, split_last, subst, sym, true}
use Rattle.law_moves.proofs.Imports.{true_false, ℕ}
use Rattle.law_moves.proofs.StepsTellEntries.{Goes_on, HasStore, Is_bare, Keeps, Awakes, Before, IsPosted, Other, Posted, Works, gone, not_new, sent}
use Rattle.law_moves.proofs.StepsTellEntries.{mine_whole}
use Rattle.law_moves.specs.Fills.{WasFilled}
use Rattle.law_moves.proofs.LeavingCellsGainNothing.{before}
use Rattle.law_moves.proofs.AllKeptOfMoves.{AreUnsaid, Known, WereKnown}
use Rattle.law_moves.proofs.PendingFills.{by_itself, new_unsaid, posted_says}
use Rattle.law_moves.proofs.PlacesAreVisits.{same_rest}
use Rattle.law_moves.proofs.ToldEntriesAreThere.{no_other}
use Rattle.law_moves.proofs.PendingFillsUnsaidByStep.{unsaid_new, unsaid_there}
use Rattle.law_moves.proofs.MoveScenes.{FillAtPlace}
use Rattle.petal_msg.specs.declared.body.Body.TheVariants as body

module _ (it : OneMore) (all : WereKnown it) where
  open it use {prior.{script, records as prefix}, own}
  open ends_of it use {setting, w, records, v, whole}

  known : Known script prefix
  known = before it all

  abbrev mine : ℕ → List Command
  mine n = (w.servers n).log.applied

  -- ### Where the server was before the step

  earlier : (n place : ℕ) (cell : Cell) (pairs : Pairs) (was : WasThere setting records n place cell pairs) (rest : List Record) → prefix ≡ was.before ++ rest
      → WasThere setting prefix n place cell pairs
  earlier n place cell pairs was rest e =
      let same : was.later ≡ rest ++ own ∷ [] =
      same_rest was.before was.later (rest ++ own ∷ []) (sym was.is ∙ ap (λ rs. rs ++ own ∷ []) e ∙ append_assoc was.before rest (own ∷ [])) in
      record {
        before = was.before;
        later = rest;
        is = e;
        there = was.there;
        had = was.had;
        since = λ a b s there. was.since a (b ++ own ∷ []) (same ∙ ap (λ rs. rs ++ own ∷ []) s ∙ append_assoc a b (own ∷ [])) there;
      }

  none_before : (a b : List Record) → [] ≡ a ++ b → a ≡ []
  none_before [] b e = refl
  none_before (x ∷ a) b e = cc

  -- one that was as it is
  as_now : (n place : ℕ) (cell : Cell) (pairs : Pairs) → is_at setting n (w.servers n) place cell ≡ true → (w.servers n).own.pairs ≡ pairs
      → WasThere setting prefix n place cell pairs
  as_now n place cell pairs there had = record {
    before = prefix;
    later = [];
    is = sym (append-nil prefix);
    there = there;
    had = had;
    since = λ a b s at. ap (λ rs. ((At script rs).servers n).own.pairs) (ap (λ rs. prefix ++ rs) (none_before a b s) ∙ append-nil prefix) ∙ had;
  }

  -- ### A server that was at the link's place, with a fill pending

  module _ (a : FillAtPlace setting whole) where
    open a use {n, place, cell, pairs, op, is, fills}

    unsaid_was : WasThere setting prefix n place cell pairs → WasFilled w op.key → ⊥
    unsaid_was = unsaid_there it all a

    module _ (was : WasThere setting records n place cell pairs) where
      -- it is so now
      end_by : (to : Server) (b : Option BeforeBlank) → HasStore it n to b → is_at setting n to place cell ≡ true → to.own.pairs ≡ pairs
          → WasFilled w op.key → ⊥
      end_by to b (Goes_on (Keeps kept) same) there had told = elim kept.how [
        | inl is ↦ unsaid_was (as_now n place cell pairs (ap (λ (s : Server). is_at setting n s place cell) (sym is) ∙ there)
            (ap (λ (s : Server). s.own.pairs) (sym is) ∙ had)) told
        | inr (inl up) ↦ known.filled.unsaid n cell op up
            (ap (λ t. at cell_cmp t cell) (sym kept.pending) ∙ ap (λ (q : Pairs). at cell_cmp q.pending cell) had ∙ is) fills told
        | inr (inr is) ↦ not_new it n (mine n) (mine_whole it n)
            (at_by setting n (raised (w.servers n)) place cell (ap (λ (s : Server). is_at setting n s place cell) (sym is) ∙ there)).seat
      ]
      end_by to b (Is_bare asleep bare same) there had told =
          unsaid_was (as_now n place cell pairs (ap (λ (s : Server). is_at setting n s place cell) (sym bare) ∙ there)
          (ap (λ (s : Server). s.own.pairs) (sym bare) ∙ had)) told
      end_by to b (Goes_on (Works job) same) there had told = elim (did_come (Handled w n) (own_place setting w n) (w.servers n).own job.done job.did cell op
          (ap (λ (o : PairState). at cell_cmp o.pairs.pending cell) (sym job.own_is) ∙ ap (λ (q : Pairs). at cell_cmp q.pending cell) had ∙ is)) [
            | Stood stood ↦ known.filled.unsaid n cell stood.was job.runs stood.is (ap is_clients stood.same.kind ∙ fills)
                (subst (WasFilled w) (sym stood.same.key) told)
            | Writes write ↦ true_false (ap is_clients write) fills
            | Fills o ↦ new_unsaid it all n cell op job.runs o (subst (WasFilled w) o.key told)
          ]
      end_by to b (Goes_on (Awakes asleep so) same) there had told =
          none_some (at-empty cell_cmp cell) (ap (λ (s : Server). at cell_cmp s.own.pairs.pending cell) (sym so)
          ∙ ap (λ (q : Pairs). at cell_cmp q.pending cell) had ∙ is)

      pub unsaid_old : WasFilled w op.key → ⊥
      unsaid_old told = elim (split_last prefix own was.before was.later was.is) [
        | inl e ↦ end_by (v.servers n) _ (gone it n)
            (subst (λ rs. is_at setting n ((At script rs).servers n) place cell ≡ true) e was.there)
            (ap (λ rs. ((At script rs).servers n).own.pairs) (sym e) ∙ was.had) told
        | inr more ↦ unsaid_was (earlier n place cell pairs was more.0 more.1) told
      ]

      pub unsaid_posted : (letter : Letter) → letter.body ≡ body.Filled op.key → IsPosted it letter → ⊥
      unsaid_posted letter said p = elim (split_last prefix own was.before was.later was.is) [
        | inl e ↦
            let there : is_at setting n (v.servers n) place cell ≡ true =
            subst (λ rs. is_at setting n ((At script rs).servers n) place cell ≡ true) e was.there in
            let had : (v.servers n).own.pairs ≡ pairs = ap (λ rs. ((At script rs).servers n).own.pairs) (sym e) ∙ was.had in
            let pending : at cell_cmp (v.servers n).own.pairs.pending cell ≡ Some op = ap (λ (q : Pairs). at cell_cmp q.pending cell) had ∙ is in
            elim (same_or_apart n p.n) [
              | inl itself ↦ by_itself it all n cell op pending fills letter said p itself
                  (posted_says it all letter p op.key said)
              | inr apart ↦ unsaid_new it all a
                  (as_now n place cell pairs (ap (λ (s : Server). is_at setting n s place cell) (sym (p.others n apart)) ∙ there)
                  (ap (λ (s : Server). s.own.pairs) (sym (p.others n apart)) ∙ had)) letter said p (λ so. pending)
            ]
        | inr more ↦ unsaid_new it all a
            (earlier n place cell pairs was more.0 more.1) letter said p (λ there.
            ap (λ (q : Pairs). at cell_cmp q.pending cell) (ap (λ rs. ((At script rs).servers n).own.pairs) was.is
            ∙ was.since was.later [] (sym (append-nil was.later)) (subst (λ rs. is_at setting n ((At script rs).servers n) place cell ≡ true) was.is there))
            ∙ is)
      ]

  pub unsaid_at : AreUnsaid setting records v
  unsaid_at a was told = elim (sent it told.letter told.sent) [
    | Before i ↦ unsaid_old a was (record { letter = told.letter; sent = i; is = told.is })
    | Posted p ↦ unsaid_posted a was told.letter told.is p
    | Other e ↦ no_other it all told.letter a.op.key told.is e
  ]

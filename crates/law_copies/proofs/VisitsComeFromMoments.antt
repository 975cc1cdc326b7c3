-- Each visit of a place comes from a moment of the history.
use Rattle.law_copies.proofs.Imports.{[], if◌then◌else◌, ◌++◌, ◌∙◌, ◌∷◌, ◌≡◌, Cell, List, PairState, Record, Server, Setting, Some, World, ap, append-nil}
use Rattle.law_copies.proofs.Imports.{append_assoc, by_bool, false, inl, inr, none_before_none, same_some, split_last, start, subst, sym, true, true_false}
use Rattle.law_copies.proofs.Imports.{world_after, ℕ}
use Rattle.law_copies.specs.Visits.{Visits, WasThere, is_at}
use Rattle.law_copies.proofs.VisitsAfterSteps.{IsThen, seen}

module _ (setting : Setting) (records : List Record) (own : Record) (v : World) (then_is : IsThen setting (records ++ own ∷ []) v)
    (n place : ℕ) (cell : Cell) where
  abbrev all : List Record
  all = records ++ own ∷ []

  abbrev server_after : List Record → Server
  server_after done = (world_after setting (start setting) done).servers n

  -- the server is at the same places and has the same operations in both worlds, which differ in stores alone
  at_same : is_at setting n (server_after all) place cell ≡ is_at setting n (v.servers n) place cell
  at_same = ap (λ (s : Server). is_at setting n s place cell) (then_is n)

  -- it is there after the last record
  came_just : is_at setting n (v.servers n) place cell ≡ true → WasThere setting all n place cell (v.servers n).own.pairs
  came_just on = record {
    before = all;
    later = [];
    is = sym (append-nil all);
    there = at_same ∙ on;
    had = had;
    since = λ prefix suffix e there. ap (λ done. (server_after done).own.pairs) (ap (λ zs. all ++ zs) (none_before_none prefix suffix e) ∙ append-nil all)
        ∙ had;
  }
    where
      had : (server_after all).own.pairs ≡ (v.servers n).own.pairs
      had = ap (λ (s : Server). s.own.pairs) (then_is n)

  -- it is not, and was there before
  came_still : is_at setting n (v.servers n) place cell ≡ false → (o : PairState) → WasThere setting records n place cell o.pairs
      → WasThere setting all n place cell o.pairs
  came_still off o was = record {
    before = was.before;
    later = was.later ++ own ∷ [];
    is = e;
    there = was.there;
    had = was.had;
    since = λ prefix suffix lies there. elim (split_last was.later own prefix suffix lies) [
      | inl whole ↦ true_false
          (sym (ap (λ done. is_at setting n (server_after done) place cell) (ap (λ zs. was.before ++ zs) whole ∙ sym e)) ∙ there)
          (at_same ∙ off)
      | inr more ↦ was.since prefix more.0 more.1 there
    ];
  }
    where
      e : all ≡ was.before ++ (was.later ++ own ∷ [])
      e = ap (λ done. done ++ own ∷ []) was.is ∙ append_assoc was.before was.later (own ∷ [])

  pub came_then : (visits : Visits) → ((o : PairState) → visits n place cell ≡ Some o → WasThere setting records n place cell o.pairs)
      → (o : PairState) → seen setting visits v n place cell ≡ Some o → WasThere setting all n place cell o.pairs
  came_then visits came o is = by_bool (is_at setting n (v.servers n) place cell)
      (λ on. subst (λ (p : PairState). WasThere setting all n place cell p.pairs)
      (same_some (sym (ap (λ b. if b then Some (v.servers n).own else visits n place cell) on) ∙ is)) (came_just on))
      (λ off. came_still off o (came o (sym (ap (λ b. if b then Some (v.servers n).own else visits n place cell) off) ∙ is)))

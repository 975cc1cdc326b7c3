-- What is kept of a server's store: while it waits to be filled it is empty; who is In as itself waits for nobody; and while the store
-- from before a blank counts, the server's own waits.
use Rattle.law_copies.proofs.Imports.{[], ◌&&◌, ◌++◌, ◌+◌, ◌<◌, ◌∙◌, ◌∷◌, ◌≡◌, ◌≢◌, ◌≤◌, ◌⊎◌, BeforeBlank, Bool, Command, HasProperTuples, In, IsPrefix, Join}
use Rattle.law_copies.proofs.Imports.{Life, List, Option, Server, Some, Store, ap, arith, blank_joins_from, blanked, by_bool, false, in_former, inl, inr}
use Rattle.law_copies.proofs.Imports.{is_blank_join, is_in, joined_counts, joined_since, joins_grow, may_join, number_itself, prefix_itself, prefix_more}
use Rattle.law_copies.proofs.Imports.{prefix_on, refl, same_some, slice_get, state_after, subst, sym, true, true_false, ℕ}
use Rattle.spec_state.specs.State.{start}
use Rattle.law_copies.specs.WaitingStores.{IsEmpty}
use Rattle.law_copies.proofs.EmptyJoins.{after_prefix, joins_by_entry, stands_in}
use Rattle.law_copies.proofs.StoreMoves.{IsSame, Moves, Rests, Works, Enters, Settles, Raises}

-- an incarnation is over
abbrev pub IsOver : Life → ℕ → Type 0
IsOver life inc = ((life.running ≡ false) × (inc ≤ life.inc)) ⊎ (inc < life.inc)

-- a server was blanked when these entries were chosen: each incarnation that had joined by then is over; and until one more Join of it with
-- an empty store is chosen, its store waits to be filled
pub record WasBlanked (servers : ℕ) (chosen : List Command) (n : ℕ) (server : Server) (before : BeforeBlank) : Type 0 where
  pub prefix : List Command
  pub stands : IsPrefix prefix chosen
  pub joins : before.joins ≡ blank_joins_from (start servers) prefix n
  pub over : (inc : ℕ) (blank : Bool) → In (Join n inc blank) prefix → IsOver server.life inc
  pub waits : before.joins ≡ blank_joins_from (start servers) chosen n → server.own.store.fresh ≡ true

pub record Kept (servers : ℕ) (chosen : List Command) (n : ℕ) (server : Server) (before : Option BeforeBlank) : Type 0 where
  pub empty : server.own.store.fresh ≡ true → IsEmpty server.own.store
  pub filled : server.life.running ≡ true → is_in (state_after servers server.log.applied) n server.life.inc ≡ true → server.own.store.fresh ≡ false
  pub blanked : (b : BeforeBlank) → before ≡ Some b → WasBlanked servers chosen n server b

-- with more chosen
pub kept_more : (servers : ℕ) (chosen whole : List Command) (n : ℕ) (server : Server) (before : Option BeforeBlank) → IsPrefix chosen whole
    → Kept servers chosen n server before → Kept servers whole n server before
kept_more servers chosen whole n server before is_prefix kept = record {
  empty = kept.empty;
  filled = kept.filled;
  blanked = λ b is.
      let old = kept.blanked b is in
      let one = joins_grow servers old.prefix chosen n old.stands in
      let two = joins_grow servers chosen whole n is_prefix in
      let e = old.joins in
      record {
        prefix = old.prefix;
        stands = prefix_on old.prefix chosen whole old.stands is_prefix;
        joins = old.joins;
        over = old.over;
        waits = λ same. old.waits (omega arith);
      };
}

same_empty : (old new : Store) → IsSame old new → (old.fresh ≡ true → IsEmpty old) → new.fresh ≡ true → IsEmpty new
same_empty old new same empty waits = let was = empty (sym same.fresh ∙ waits) in record { chains = same.chains ∙ was.chains; marks = same.marks ∙ was.marks }

module _ (servers : ℕ) (chosen : List Command) (n : ℕ) (server : Server) (before : Option BeforeBlank) (kept : Kept servers chosen n server before) where
  abbrev State : List Command → Type 0
  State log = is_in (state_after servers log) n server.life.inc ≡ true

  -- a server whose store waits as before
  still : (to : Server) → to.own.store.fresh ≡ server.own.store.fresh → ((inc : ℕ) → IsOver server.life inc → IsOver to.life inc)
      → (b : BeforeBlank) → before ≡ Some b → WasBlanked servers chosen n to b
  still to fresh over b is = let old = kept.blanked b is in
      record {
        prefix = old.prefix;
        stands = old.stands;
        joins = old.joins;
        over = λ inc blank i. over inc (old.over inc blank i);
        waits = λ same. fresh ∙ old.waits same;
      }

  -- who runs on
  runs_over : (to : Server) → server.life.running ≡ true → to.life.inc ≡ server.life.inc → (inc : ℕ) → IsOver server.life inc → IsOver to.life inc
  runs_over to runs same inc (inl over) = true_false runs over.0
  runs_over to runs same inc (inr past) = inr (omega arith)

  rests_over : (to : Server) → to.life.inc ≡ server.life.inc → (to.life.running ≡ true → server.life.running ≡ true) → (inc : ℕ)
      → IsOver server.life inc → IsOver to.life inc
  rests_over to same runs inc (inl over) = let le = over.1 in inl (by_bool to.life.running (λ up. true_false (runs up) over.0) (λ no. no), omega arith)
  rests_over to same runs inc (inr past) = inr (omega arith)

  raised_over : (to : Server) → to.life.inc ≡ server.life.inc + 1 → (inc : ℕ) → IsOver server.life inc → IsOver to.life inc
  raised_over to more inc (inl over) = let le = over.1 in inr (omega arith)
  raised_over to more inc (inr past) = inr (omega arith)

  -- what is remembered of a life: that its store waited for nobody when it wanted a Join with its blocks
  module _ (plain : HasProperTuples servers chosen)
      (unfilled : server.life.running ≡ true → In (Join n server.life.inc false) chosen → server.own.store.fresh ≡ false)
      (acts : (log : List Command) (inc : ℕ) (blank : Bool) → IsPrefix (log ++ Join n inc blank ∷ []) chosen
      → may_join (slice_get (state_after servers log).view.members n) inc ≡ true) where
    -- with its own Join with an empty store, one more is chosen than when it was blanked
    settles : server.life.running ≡ true → IsPrefix (server.log.applied ++ Join n server.life.inc true ∷ []) chosen
        → (b : BeforeBlank) → before ≡ Some b → b.joins ≢ blank_joins_from (start servers) chosen n
    settles runs stands b is same =
        let old = kept.blanked b is in
        elim (after_prefix old.prefix server.log.applied chosen (Join n server.life.inc true) old.stands stands) [
          | inl there ↦ over (old.over server.life.inc true there)
          | inr following ↦
              let more = joined_counts servers old.prefix chosen n server.life.inc (record {
                until = server.log.applied;
                following = following;
                stands = stands;
                may = acts server.log.applied server.life.inc true stands;
              }) in
              let e = old.joins in
              absurd (omega arith)
        ]
      where
        over : IsOver server.life server.life.inc → ⊥
        over (inl gone) = true_false runs gone.0
        over (inr past) = absurd (omega arith)

    -- who is In by one entry more was so before, or has joined by it
    entered : (entry : Command) → is_blank_join entry n server.life.inc ≡ false → server.life.running ≡ true
        → IsPrefix (server.log.applied ++ entry ∷ []) chosen → State (server.log.applied ++ entry ∷ []) → server.own.store.fresh ≡ false
    entered entry other runs stands up =
        elim (joined_since servers server.log.applied (server.log.applied ++ entry ∷ []) n server.life.inc
        (λ c i. plain c (subst (In c) (sym stands.is) (in_former c _ stands.later i))) (prefix_more server.log.applied entry) up) [
          | inl was ↦ kept.filled runs was
          | inr joined ↦
              let is = joins_by_entry servers server.log.applied entry n server.life.inc joined.0 joined.1 in
              by joined.0 is
        ]
      where
        by : (blank : Bool) → entry ≡ Join n server.life.inc blank → server.own.store.fresh ≡ false
        by true is = true_false (ap (λ c. is_blank_join c n server.life.inc) is ∙ (λ i. number_itself n i && number_itself server.life.inc i)) other
        by false is = unfilled runs (subst (λ c. In c chosen) is (stands_in server.log.applied chosen entry stands))

    pub kept_moves : (to : Server) → Moves servers chosen n server to → Kept servers chosen n to before
    kept_moves to (Rests _ same inc runs) = record {
      empty = same_empty server.own.store to.own.store same kept.empty;
      filled = λ up seat. same.fresh ∙ kept.filled (runs up).0
          (subst (λ (x : ℕ × List Command). is_in (state_after servers x.1) n x.0 ≡ true) (λ i. (inc i, (runs up).1 i)) seat);
      blanked = still to same.fresh (rests_over to inc (λ up. (runs up).0));
    }
    kept_moves to (Works _ fresh inc runs seat) =
        let now = fresh ∙ kept.filled runs seat in
        record { empty = λ waits. true_false waits now; filled = λ up is. now; blanked = still to fresh (runs_over to runs inc) }
    kept_moves to (Enters _ entry other same inc runs applied stands) = record {
      empty = same_empty server.own.store to.own.store same kept.empty;
      filled = λ up seat. same.fresh ∙ entered entry other runs stands
          (subst (λ (x : ℕ × List Command). is_in (state_after servers x.1) n x.0 ≡ true) (λ i. (inc i, applied i)) seat);
      blanked = still to same.fresh (runs_over to runs inc);
    }
    kept_moves to (Settles _ now inc runs stands) = record {
      empty = λ waits. true_false waits now;
      filled = λ up seat. now;
      blanked = λ b is. let old = kept.blanked b is in
          record {
            prefix = old.prefix;
            stands = old.stands;
            joins = old.joins;
            over = λ k blank i. runs_over to runs inc k (old.over k blank i);
            waits = λ same. absurd (settles runs stands b is same);
          };
    }
    kept_moves to (Raises _ same inc rests out) = record {
      empty = same_empty server.own.store to.own.store same kept.empty;
      filled = λ up seat. true_false seat (out up);
      blanked = still to same.fresh (raised_over to inc);
    }

-- a stopped server that is blanked
pub kept_blanked : (servers : ℕ) (chosen : List Command) (n : ℕ) (server : Server) → server.life.running ≡ false
    → ((inc : ℕ) (blank : Bool) → In (Join n inc blank) chosen → inc ≤ server.life.inc) → (b : BeforeBlank)
    → b.joins ≡ blank_joins_from (start servers) chosen n → Kept servers chosen n (blanked server) (Some b)
kept_blanked servers chosen n server rests begun b joins = record {
  empty = λ waits. record { chains = refl; marks = refl };
  filled = λ up seat. true_false up rests;
  blanked = λ c is. subst (WasBlanked servers chosen n (blanked server)) (same_some is) (record {
    prefix = chosen;
    stands = prefix_itself chosen;
    joins = joins;
    over = λ inc blank i. inl (rests, begun inc blank i);
    waits = λ same. refl;
  });
}

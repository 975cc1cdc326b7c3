-- What a step does to one server's store, as far as it is waited for or counts.
use Rattle.law_copies.proofs.Imports.{[], ◌++◌, ◌+◌, ◌==◌, ◌∙◌, ◌∷◌, ◌≡◌, ◌⊎◌, Acted, AllMayWake, BeforeBlank, Blanks, By_ballot, By_entry, By_job, Command}
use Rattle.law_copies.proofs.Imports.{Ends, Fails, Goes, Happens, IsPrefix, JobResult, Join, List, Log, Option, PairState, Server, Serves, Serving, Setting}
use Rattle.law_copies.proofs.Imports.{Some, State, Stays, Step, Store, Turns, Wakes, Worked, World, all_put_apart, ap, awake, blank_joins_in, blanked}
use Rattle.law_copies.proofs.Imports.{both_true, by_test, chosen_log, crossed, false, inl, inr, is_blank_join, is_in, kept, own_place, put_apart, put_at}
use Rattle.law_copies.proofs.Imports.{put_same, raised, refl, same_numbers, same_or_apart, served_so, server_state, settled, state_after, stopped_so, subst}
use Rattle.law_copies.proofs.Imports.{sym, true, true_false, ℕ}
use Rattle.law_copies.proofs.StoreJobs.{ballot_store, did_waits}

-- a store waits to be filled as the other one does, and has the same entries and marks
pub record IsSame (old new : Store) : Type 0 where
  pub fresh : new.fresh ≡ old.fresh
  pub chains : new.chains ≡ old.chains
  pub marks : new.marks ≡ old.marks

-- a server's step, of which what is chosen is `chosen`: its store stays, and where it runs then, its log too; or, being In as itself, it
-- works on its store; or it applies an entry, which may be its own Join with an empty store; or its incarnation is raised, and it is not yet
-- In as that
pub data Moves (servers : ℕ) (chosen : List Command) (n : ℕ) (server : Server) : Server → Type 0 where
  Rests : (to : Server) → IsSame server.own.store to.own.store → to.life.inc ≡ server.life.inc
      → (to.life.running ≡ true → (server.life.running ≡ true) × (to.log.applied ≡ server.log.applied)) → Moves servers chosen n server to
  Works : (to : Server) → to.own.store.fresh ≡ server.own.store.fresh → to.life.inc ≡ server.life.inc → server.life.running ≡ true
      → is_in (state_after servers server.log.applied) n server.life.inc ≡ true → Moves servers chosen n server to
  Enters : (to : Server) (entry : Command) → is_blank_join entry n server.life.inc ≡ false → IsSame server.own.store to.own.store
      → to.life.inc ≡ server.life.inc → server.life.running ≡ true → to.log.applied ≡ server.log.applied ++ entry ∷ []
      → IsPrefix (server.log.applied ++ entry ∷ []) chosen → Moves servers chosen n server to
  Settles : (to : Server) → to.own.store.fresh ≡ false → to.life.inc ≡ server.life.inc → server.life.running ≡ true
      → IsPrefix (server.log.applied ++ Join n server.life.inc true ∷ []) chosen → Moves servers chosen n server to
  Raises : (to : Server) → IsSame server.own.store to.own.store → to.life.inc ≡ server.life.inc + 1 → server.life.running ≡ false
      → (to.life.running ≡ true → is_in (state_after servers to.log.applied) n to.life.inc ≡ false) → Moves servers chosen n server to

pub same_store : (old new : Store) → new ≡ old → IsSame old new
same_store old new e = record { fresh = ap (λ (s : Store). s.fresh) e; chains = ap (λ (s : Store). s.chains) e; marks = ap (λ (s : Store). s.marks) e }

store_itself : (store : Store) → IsSame store store
store_itself store = record { fresh = refl; chains = refl; marks = refl }

-- its own Join with an empty store, of this incarnation
own_blank : (entry : Command) (n inc : ℕ) → is_blank_join entry n inc ≡ true → entry ≡ Join n inc true
own_blank (Join server joined true) n inc e =
    let h = both_true (server == n) (joined == inc) e in
    let one = same_numbers server n h.0 in
    let two = same_numbers joined inc h.1 in
    λ i. Join (one i) (two i) true
own_blank _ n inc e = true_false e refl

module _ (setting : Setting) (w : World) (n : ℕ) where
  abbrev server : Server
  server = w.servers n

  abbrev To : Server → Type 0
  To = Moves setting.servers (chosen_log setting w) n server

  itself : To server
  itself = Rests server (store_itself server.own.store) refl (λ runs. (runs, refl))

  -- the server as it is where it works on, or stops then
  abbrev IsLater : Log → JobResult → Server → Type 0
  IsLater log done to = (to.own ≡ done.own) × (to.life.inc ≡ server.life.inc) × (to.log ≡ log)

  worked : (runs : server.life.running ≡ true) (log : Log) (done : JobResult) → Worked setting w n log done → (to : Server) → IsLater log done to → To to
  worked runs _ _ (By_job log done same did (inl seat)) to later =
      Works to (ap (λ (o : PairState). o.store.fresh) later.0 ∙ did_waits _ (own_place setting w n) server.own done did) later.1 runs seat
  worked runs _ _ (By_job log done same did (inr apart)) to later =
      Rests to (same_store server.own.store to.own.store (ap (λ (o : PairState). o.store) (later.0 ∙ apart.same))) later.1
      (λ up. (runs, ap (λ (l : Log). l.applied) later.2 ∙ same))
  worked runs _ _ (By_ballot log started posts same starts logged) to later =
      Rests to (same_store server.own.store to.own.store
      (ap (λ (o : PairState). o.store) later.0 ∙ ballot_store (server_state setting w n) server.own started)) later.1
      (λ up. (runs, ap (λ (l : Log). l.applied) later.2 ∙ same))
  worked runs _ _ (By_entry log entry more prefix) to later =
      let own = crossed (server_state setting w n) entry server.own in
      let applied : to.log.applied ≡ server.log.applied ++ entry ∷ [] = ap (λ (l : Log). l.applied) later.2 ∙ more in
      let stands : IsPrefix (server.log.applied ++ entry ∷ []) (chosen_log setting w) = subst (λ xs. IsPrefix xs (chosen_log setting w)) more prefix in
      by_test (λ (o : PairState). to.own ≡ o → To to) (is_blank_join entry n server.life.inc) (record own { store = settled own.store }) own
      (λ joins is. Settles to (ap (λ (o : PairState). o.store.fresh) is) later.1 runs
      (subst (λ c. IsPrefix (server.log.applied ++ c ∷ []) (chosen_log setting w)) (own_blank entry n server.life.inc joins) stands))
      (λ other is. Enters to entry other
      (record {
        fresh = ap (λ (o : PairState). o.store.fresh) is;
        chains = ap (λ (o : PairState). o.store.chains) is;
        marks = ap (λ (o : PairState). o.store.marks) is;
      }) later.1 runs applied stands) later.0

  serving : AllMayWake setting w → (what : Step) (acted : Acted) → Serving setting w n what acted → To acted.server
  serving wake what _ (Goes log done queue runs works queued idle) = worked runs log done works (served_so setting w n log done queue).server (refl, refl, refl)
  serving wake what _ (Ends log done runs works) = worked runs log done works (stopped_so setting w n log done).server (refl, refl, refl)
  serving wake what _ (Stays who posts from shown) = itself
  serving wake what _ (Wakes booted asleep) =
      Raises (awake (raised server)) (record { fresh = refl; chains = refl; marks = refl }) refl asleep (λ up. (wake n).out)
  serving wake what _ (Fails booted asleep) = Raises (raised server) (store_itself server.own.store) refl asleep (λ up. true_false up asleep)

-- the server is blanked, and what counts before is kept
pub record IsBlanked (setting : Setting) (w v : World) (n : ℕ) : Type 0 where
  pub rests : (w.servers n).life.running ≡ false
  pub now : v.servers n ≡ blanked (w.servers n)
  pub before : v.before_blank n ≡ Some (record { joins = blank_joins_in setting (chosen_log setting w) n; store = kept setting w n })

-- or nothing is blanked of it
pub record IsMoved (setting : Setting) (w v : World) (n : ℕ) : Type 0 where
  pub moves : Moves setting.servers (chosen_log setting w) n (w.servers n) (v.servers n)
  pub before : v.before_blank n ≡ w.before_blank n

pub happened : (setting : Setting) (state : State) (w : World) → AllMayWake setting w → (v : World) → Happens setting state w v → (n : ℕ)
    → IsMoved setting w v n ⊎ IsBlanked setting w v n
happened setting state w wake _ (Serves k stamp what acted lt small unblanked serves) n = inl (record {
  moves = all_put_apart w.servers k acted.server (λ m (to : Server). Moves setting.servers (chosen_log setting w) m (w.servers m) to)
      (λ m ne. itself setting w m) (serving setting w k wake what acted serves) n;
  before = ap (λ (f : ℕ → Option BeforeBlank). f n) unblanked;
})
happened setting state w wake _ (Blanks k stamp lt small rests) n = elim (same_or_apart n k) [
  | inl e ↦ inr (record {
    rests = ap (λ m. (w.servers m).life.running) e ∙ rests;
    now = ap (put_at w.servers k (blanked (w.servers k))) e ∙ put_same w.servers k (blanked (w.servers k)) ∙ ap (λ m. blanked (w.servers m)) (sym e);
    before = ap (put_at w.before_blank k (keeps k)) e ∙ put_same w.before_blank k (keeps k) ∙ ap keeps (sym e);
  })
  | inr ne ↦ inl (record {
    moves = subst (Moves setting.servers (chosen_log setting w) n (w.servers n)) (sym (put_apart w.servers k (blanked (w.servers k)) n ne))
        (itself setting w n);
    before = put_apart w.before_blank k (keeps k) n ne;
  })
]
  where
    keeps : ℕ → Option BeforeBlank
    keeps m = Some (record { joins = blank_joins_in setting (chosen_log setting w) m; store = kept setting w m })
happened setting state w wake _ (Turns c stamp in_call reacted lt small turned onward) n = inl (record { moves = itself setting w n; before = refl })

-- What a step leaves of a server: its operations, its entries, or both.
use Rattle.law_run.proofs.Imports.{[], ◌<◌, ◌∙◌, ◌≡◌, Acted, Blanks, By_ballot, By_entry, By_job, Ends, Fails, Goes, Happens, JobResult, Log, PairState}
use Rattle.law_run.proofs.Imports.{Pairs, Server, Serves, Serving, Setting, State, Stays, Step, Turns, Wakes, Worked, World, all_put_apart, ap, arith}
use Rattle.law_run.proofs.Imports.{blanked, crossed, inl, inr, is_in, no_pairs, own_place, proposed_pairs, refl, served, server_state, settling, state_after}
use Rattle.law_run.proofs.Imports.{state_in, stopped, subst, sym, true, ℕ}

-- its operations and its entries; its entries, where it is In as itself; its operations; or nothing, where it boots
pub data Leaves (setting : Setting) (n : ℕ) (old new : Server) : Type 0 where
  As_it_was : new.own.pairs.pending ≡ old.own.pairs.pending → new.log.applied ≡ old.log.applied → Leaves setting n old new
  In_place : new.log.applied ≡ old.log.applied → is_in (state_in setting.servers new.log) n new.life.inc ≡ true → Leaves setting n old new
  Goes_further : old.life.running ≡ true → new.life.inc ≡ old.life.inc → new.own.pairs.pending ≡ old.own.pairs.pending
      → Leaves setting n old new
  Boots : new.life.running ≡ true → old.life.inc < new.life.inc → new.own.pairs ≡ no_pairs → Leaves setting n old new

module _ (setting : Setting) (state : State) (w : World) where
  -- its work, where it runs on or stops
  worked_leaves : (n : ℕ) (log : Log) (done : JobResult) → (w.servers n).life.running ≡ true → Worked setting w n log done → (new : Server)
      → new.log ≡ log
      → new.own ≡ done.own → new.life.inc ≡ (w.servers n).life.inc → Leaves setting n (w.servers n) new
  worked_leaves n _ _ runs (By_job log done same did (inl seat)) new logs owns inc =
      let applied : new.log.applied ≡ (w.servers n).log.applied = ap (λ (l : Log). l.applied) logs ∙ same in
      In_place applied
      (subst (λ i. is_in (state_in setting.servers new.log) n i ≡ true) (sym inc)
      (subst (λ prefix. is_in (state_after setting.servers prefix) n (w.servers n).life.inc ≡ true) (sym applied) seat))
  worked_leaves n _ _ runs (By_job log done same did (inr apart)) new logs owns inc =
      As_it_was (ap (λ (o : PairState). o.pairs.pending) (owns ∙ apart.same)) (ap (λ (l : Log). l.applied) logs ∙ same)
  worked_leaves n _ _ runs (By_ballot log started posts same starts says) new logs owns inc =
      As_it_was (ap (λ (o : PairState). o.pairs.pending) owns ∙ ap (λ (p : Pairs). p.pending)
      (proposed_pairs (server_state setting w n) (w.servers n).own started))
      (ap (λ (l : Log). l.applied) logs ∙ same)
  worked_leaves n _ _ runs (By_entry log entry more prefix) new logs owns inc = Goes_further runs inc
      (ap (λ (o : PairState). o.pairs.pending) owns
      ∙ ap (λ (p : Pairs). p.pending)
      (settling (own_place setting w n) entry (crossed (server_state setting w n) entry (w.servers n).own)).pairs)

  pub serves_leaves : (n : ℕ) (what : Step) (acted : Acted) → Serving setting w n what acted → Leaves setting n (w.servers n) acted.server
  serves_leaves n what _ (Goes log done queue runs worked queued works) = worked_leaves n log done runs worked
      (served (w.servers n) log done queue) refl refl refl
  serves_leaves n what _ (Ends log done runs worked) = worked_leaves n log done runs worked
      (stopped (served (w.servers n) log done [])) refl refl refl
  serves_leaves n what _ (Stays who posts from shown) = As_it_was refl refl
  serves_leaves n what _ (Wakes booted asleep) = Boots refl (omega arith) refl
  serves_leaves n what _ (Fails booted asleep) = As_it_was refl refl

  pub happens_leaves : (v : World) → Happens setting state w v → (n : ℕ) → Leaves setting n (w.servers n) (v.servers n)
  happens_leaves _ (Serves k stamp what acted lt within unblanked serving) =
      all_put_apart w.servers k acted.server (λ n server. Leaves setting n (w.servers n) server) (λ n ne. As_it_was refl refl)
      (serves_leaves k what acted serving)
  happens_leaves _ (Blanks k stamp lt within asleep) =
      all_put_apart w.servers k (blanked (w.servers k)) (λ n server. Leaves setting n (w.servers n) server) (λ n ne. As_it_was refl refl)
      (As_it_was refl refl)
  happens_leaves _ (Turns c stamp in_call reacted lt within turned onward) = λ n. As_it_was refl refl

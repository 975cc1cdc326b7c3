-- By induction on the list: each record follows on the world, whose part for each actor is what that actor's own records leave.
use Rattle.law_merge.proofs.Imports.{[], ◌++◌, ◌∙◌, ◌∷◌, ◌≡◌, ◌≤◌, Actor, AreStepsFrom, Arm, Blank, Boot, Call, CallsInPhase, Deliver, Errand, Follows, Glance}
use Rattle.law_merge.proofs.Imports.{List, MayClient, MayServer, MayStep, ObeyFrom, Record, Setting, Step, Stop, StopIn, Tick, Work, World, ap, errand_after}
use Rattle.law_merge.proofs.Imports.{inl, inr, next_stamp, put_apart, put_at, put_same, refl, same_or_apart, step, stepped, subst, sym, world_after, ℕ}
use Rattle.law_merge.specs.Alone.{ClientMayAlone, IsAlone, IsAloneClient, IsFor, IsInPhase, IsNextOf, IsNextOfClient, MayAlone, acted_by, of_client}
use Rattle.law_merge.specs.Alone.{of_server, reacted_by}
use Rattle.law_merge.specs.Joined.{AreJoined, IsAfterPhases, IsAmongOthers, IsInTurn, IsJoined, WasSent}
use Rattle.law_merge.proofs.WhoseRecords.{client_first, client_none, client_passed, server_first, server_none, server_passed}
use Rattle.petal_msg.specs.declared.letter.Actor.TheVariants as actor

module _ (setting : Setting) where
  -- ### A step is allowed

  may_server : (what : Step) (w : World) (n : ℕ) → MayAlone what (w.servers n) → IsFor (actor.Server n) what → WasSent w what → IsInTurn what setting w n
      → MayServer what setting w n
  may_server (Call line) w n alone own sent turn = alone
  may_server (Deliver letter) w n alone own sent turn = record { comes = record { sent = sent; own = own }; free = turn }
  may_server Tick w n alone own sent turn = record { runs = alone; free = turn }
  may_server (Work end) w n alone own sent turn = record { acts = record { runs = alone.0; free = turn }; busy = alone.1 }
  may_server (StopIn end) w n alone own sent turn = record { acts = record { runs = alone.0; free = turn }; busy = alone.1 }
  may_server Stop w n alone own sent turn = record { runs = alone; asked = turn.asked; opened = turn.opened; stops = turn.so }
  may_server Blank w n alone own sent turn = record { rests = alone; asked = turn.asked; opened = turn.opened; blanks = turn.so }
  may_server (Boot end) w n alone own sent turn =
      record { rests = alone.0; raises = alone.1; asked = turn.asked; opened = turn.opened; boots = turn.so }
  may_server (Arm which plan) w n alone own sent turn = tt
  may_server (Glance line round) w n alone own sent turn = turn

  may_client : (what : Step) (w : World) (c : ℕ) → ClientMayAlone what setting c (w.clients c) → IsFor (actor.Client c) what → WasSent w what
      → IsAfterPhases what setting w c → MayClient what setting w c
  may_client (Call number) w c alone own sent after =
      record { free = alone.free; line = alone.line; next = alone.next; is = alone.is; before = λ other there le. after alone.line other alone.next there le }
  may_client (Deliver letter) w c alone own sent after = record { sent = sent; own = own }
  may_client Tick w c alone own sent after = tt
  may_client (Work end) w c alone own sent after = alone
  may_client (StopIn end) w c alone own sent after = alone
  may_client Stop w c alone own sent after = alone
  may_client Blank w c alone own sent after = alone
  may_client (Boot end) w c alone own sent after = alone
  may_client (Arm which plan) w c alone own sent after = alone
  may_client (Glance line round) w c alone own sent after = alone

  server_phase : (what : Step) (n phase : ℕ) (w : World) → CallsInPhase what (actor.Server n) setting w phase
  server_phase (Call line) n phase w = tt
  server_phase (Deliver letter) n phase w = tt
  server_phase Tick n phase w = tt
  server_phase (Work end) n phase w = tt
  server_phase (StopIn end) n phase w = tt
  server_phase Stop n phase w = tt
  server_phase Blank n phase w = tt
  server_phase (Boot end) n phase w = tt
  server_phase (Arm which plan) n phase w = tt
  server_phase (Glance line round) n phase w = tt

  client_phase : (what : Step) (c phase : ℕ) (w : World) → IsInPhase what setting c (w.clients c) phase → CallsInPhase what (actor.Client c) setting w phase
  client_phase (Call line) c phase w h = h
  client_phase (Deliver letter) c phase w h = tt
  client_phase Tick c phase w h = tt
  client_phase (Work end) c phase w h = tt
  client_phase (StopIn end) c phase w h = tt
  client_phase Stop c phase w h = tt
  client_phase Blank c phase w h = tt
  client_phase (Boot end) c phase w h = tt
  client_phase (Arm which plan) c phase w h = tt
  client_phase (Glance line round) c phase w h = tt

  -- ### A record follows

  server_follows : {errand : Errand} (n : ℕ) (w : World) (own : Record) → own.actor ≡ actor.Server n → IsNextOf setting n (w.servers n) (w.server_clocks n) own
      → IsJoined setting w errand own → Follows setting w own
  unfolding step
  server_follows n w own is alone joined =
      let others = subst (λ a. IsAmongOthers a own.step setting w) is joined.others in
      record {
        may = subst (λ a. MayStep setting w a own.step) (sym is) (record {
          may = (others.0, may_server own.step w n alone.may alone.own_letter joined.sent others.1);
          clock = alone.clock_goes_on;
          receives = alone.receives;
          goes_on = alone.goes_on;
        });
        stamp = subst (λ a. next_stamp w a own.step ≤ own.stamp) (sym is) alone.stamp;
        phase = subst (λ a. CallsInPhase own.step a setting w own.phase) (sym is) (server_phase own.step n own.phase w);
        sent = alone.sent ∙ ap (λ a. (step a own.step setting w own.stamp).letters) (sym is);
        answer = alone.answer ∙ ap (λ a. (step a own.step setting w own.stamp).answer) (sym is);
      }

  client_follows : {errand : Errand} (c : ℕ) (w : World) (own : Record) → own.actor ≡ actor.Client c
      → IsNextOfClient setting c (w.clients c) (w.client_clocks c) own
      → IsJoined setting w errand own → Follows setting w own
  unfolding step
  client_follows c w own is alone joined =
      let others = subst (λ a. IsAmongOthers a own.step setting w) is joined.others in
      record {
        may = subst (λ a. MayStep setting w a own.step) (sym is) (record {
          may = (others.0, may_client own.step w c alone.may alone.own_letter joined.sent others.1);
          clock = alone.clock_goes_on;
          receives = alone.receives;
          goes_on = alone.goes_on;
        });
        stamp = subst (λ a. next_stamp w a own.step ≤ own.stamp) (sym is) alone.stamp;
        phase = subst (λ a. CallsInPhase own.step a setting w own.phase) (sym is) (client_phase own.step c own.phase w alone.phase);
        sent = alone.sent ∙ ap (λ a. (step a own.step setting w own.stamp).letters) (sym is);
        answer = alone.answer ∙ ap (λ a. (step a own.step setting w own.stamp).answer) (sym is);
      }

  -- ### What is left

  -- each server's and each client's records are steps of its own, from this world on
  pub record AreAlone (w : World) (records : List Record) : Type 0 where
    pub servers : (n : ℕ) → IsAlone setting n (w.servers n) (w.server_clocks n) (of_server n records)
    pub clients : (c : ℕ) → IsAloneClient setting c (w.clients c) (w.client_clocks c) (of_client c records)

  pub own_server : (n : ℕ) (w : World) (own : Record) (later : List Record) → own.actor ≡ actor.Server n → AreAlone w (own ∷ later)
      → IsAlone setting n (w.servers n) (w.server_clocks n) (own ∷ of_server n later)
  own_server n w own later is alone = subst (IsAlone setting n (w.servers n) (w.server_clocks n)) (server_first n own later is) (alone.servers n)

  pub own_client : (c : ℕ) (w : World) (own : Record) (later : List Record) → own.actor ≡ actor.Client c → AreAlone w (own ∷ later)
      → IsAloneClient setting c (w.clients c) (w.client_clocks c) (own ∷ of_client c later)
  own_client c w own later is alone = subst (IsAloneClient setting c (w.clients c) (w.client_clocks c)) (client_first c own later is) (alone.clients c)

  server_rest : (n : ℕ) (w : World) (own : Record) (later : List Record) → own.actor ≡ actor.Server n → AreAlone w (own ∷ later) → (m : ℕ)
      → IsAlone setting m (put_at w.servers n (acted_by setting n (w.servers n) own.step).server m) (put_at w.server_clocks n own.stamp m) (of_server m later)
  server_rest n w own later is alone m =
      let new = (acted_by setting n (w.servers n) own.step).server in
      elim (same_or_apart m n) [
        | inl e ↦
            subst (λ (k : ℕ). IsAlone setting k (put_at w.servers n new k) (put_at w.server_clocks n own.stamp k) (of_server k later)) (sym e)
            (subst (λ s. IsAlone setting n s (put_at w.server_clocks n own.stamp n) (of_server n later)) (sym (put_same w.servers n new))
            (subst (λ t. IsAlone setting n new t (of_server n later)) (sym (put_same w.server_clocks n own.stamp))
            (own_server n w own later is alone).1))
        | inr ne ↦
            subst (λ s. IsAlone setting m s (put_at w.server_clocks n own.stamp m) (of_server m later)) (sym (put_apart w.servers n new m ne))
            (subst (λ t. IsAlone setting m (w.servers m) t (of_server m later)) (sym (put_apart w.server_clocks n own.stamp m ne))
            (subst (IsAlone setting m (w.servers m) (w.server_clocks m)) (server_passed m n own later ne is) (alone.servers m)))
      ]

  client_rest : (c : ℕ) (w : World) (own : Record) (later : List Record) → own.actor ≡ actor.Client c → AreAlone w (own ∷ later) → (d : ℕ)
      → IsAloneClient setting d (put_at w.clients c (reacted_by setting c (w.clients c) own.step).client d) (put_at w.client_clocks c own.stamp d)
      (of_client d later)
  client_rest c w own later is alone d =
      let new = (reacted_by setting c (w.clients c) own.step).client in
      elim (same_or_apart d c) [
        | inl e ↦
            subst (λ (k : ℕ). IsAloneClient setting k (put_at w.clients c new k) (put_at w.client_clocks c own.stamp k) (of_client k later)) (sym e)
            (subst (λ s. IsAloneClient setting c s (put_at w.client_clocks c own.stamp c) (of_client c later)) (sym (put_same w.clients c new))
            (subst (λ t. IsAloneClient setting c new t (of_client c later)) (sym (put_same w.client_clocks c own.stamp))
            (own_client c w own later is alone).1))
        | inr ne ↦
            subst (λ s. IsAloneClient setting d s (put_at w.client_clocks c own.stamp d) (of_client d later)) (sym (put_apart w.clients c new d ne))
            (subst (λ t. IsAloneClient setting d (w.clients d) t (of_client d later)) (sym (put_apart w.client_clocks c own.stamp d ne))
            (subst (IsAloneClient setting d (w.clients d) (w.client_clocks d)) (client_passed d c own later ne is) (alone.clients d)))
      ]

  rest_of : (who : Actor) (w : World) (own : Record) (later : List Record) → own.actor ≡ who → AreAlone w (own ∷ later)
      → AreAlone (step who own.step setting w own.stamp).world later
  unfolding step
  rest_of (actor.Server n) w own later is alone = record {
    servers = server_rest n w own later is alone;
    clients = λ c. subst (IsAloneClient setting c (w.clients c) (w.client_clocks c)) (client_none c n own later is) (alone.clients c);
  }
  rest_of (actor.Client c) w own later is alone = record {
    servers = λ n. subst (IsAlone setting n (w.servers n) (w.server_clocks n)) (server_none n c own later is) (alone.servers n);
    clients = client_rest c w own later is alone;
  }

  pub follows : {errand : Errand} (who : Actor) (w : World) (own : Record) (later : List Record) → own.actor ≡ who → AreAlone w (own ∷ later)
      → IsJoined setting w errand own → Follows setting w own
  follows (actor.Server n) w own later is alone joined = server_follows n w own is (own_server n w own later is alone).0 joined
  follows (actor.Client c) w own later is alone joined = client_follows c w own is (own_client c w own later is alone).0 joined

  -- what is left after some of them
  pub alone_after : (w : World) (prefix suffix : List Record) → AreAlone w (prefix ++ suffix) → AreAlone (world_after setting w prefix) suffix
  alone_after w [] suffix alone = alone
  alone_after w (own ∷ prefix) suffix alone =
      alone_after (stepped setting w own).world prefix suffix (rest_of own.actor w own (prefix ++ suffix) refl alone)

  pub steps_from : (w : World) (errand : Errand) (records : List Record) → AreAlone w records → AreJoined setting w errand records
      → AreStepsFrom setting w records
  steps_from w errand [] alone joined = tt
  steps_from w errand (own ∷ later) alone joined = (
    follows own.actor w own later refl alone joined.0,
    steps_from (stepped setting w own).world (errand_after own.actor own.step setting w errand) later (rest_of own.actor w own later refl alone) joined.1,
  )

  -- each step is one that the operator's lines give
  pub obey_from : (w : World) (errand : Errand) (records : List Record) → AreJoined setting w errand records → ObeyFrom setting w errand records
  obey_from w errand [] joined = tt
  obey_from w errand (own ∷ later) joined =
      (joined.0.obeys, obey_from (stepped setting w own).world (errand_after own.actor own.step setting w errand) later joined.1)

-- What an actor is in the world is what its own records make of it.
use Rattle.law_merge.proofs.Imports.{[], ◌∙◌, ◌∷◌, ◌≡◌, Actor, List, Record, Setting, World, ap, inl, inr, put_apart, put_at, put_same, refl, same_or_apart}
use Rattle.law_merge.proofs.Imports.{step, stepped, subst, sym, world_after, ℕ}
use Rattle.law_merge.specs.Alone.{acted_by, client_along, of_client, of_server, reacted_by, server_along}
use Rattle.law_merge.proofs.WhoseRecords.{client_first, client_none, client_passed, server_first, server_none, server_passed}
use Rattle.petal_msg.specs.declared.letter.Actor.TheVariants as actor

module _ (setting : Setting) where
  one_server : (who : Actor) (w : World) (own : Record) (later : List Record) → own.actor ≡ who → (n : ℕ)
      → server_along setting n ((step who own.step setting w own.stamp).world.servers n) (of_server n later)
      ≡ server_along setting n (w.servers n) (of_server n (own ∷ later))
  unfolding step
  one_server (actor.Server m) w own later is n =
      let new = (acted_by setting m (w.servers m) own.step).server in
      elim (same_or_apart n m) [
        | inl e ↦
            subst (λ (k : ℕ). server_along setting k (put_at w.servers m new k) (of_server k later)
            ≡ server_along setting k (w.servers k) (of_server k (own ∷ later))) (sym e)
            (ap (λ s. server_along setting m s (of_server m later)) (put_same w.servers m new)
            ∙ ap (server_along setting m (w.servers m)) (sym (server_first m own later is)))
        | inr ne ↦
            ap (λ s. server_along setting n s (of_server n later)) (put_apart w.servers m new n ne)
            ∙ ap (server_along setting n (w.servers n)) (sym (server_passed n m own later ne is))
      ]
  one_server (actor.Client c) w own later is n = ap (server_along setting n (w.servers n)) (sym (server_none n c own later is))

  pub server_made : (w : World) (records : List Record) (n : ℕ)
      → (world_after setting w records).servers n ≡ server_along setting n (w.servers n) (of_server n records)
  server_made w [] n = refl
  server_made w (own ∷ later) n = server_made (stepped setting w own).world later n ∙ one_server own.actor w own later refl n

  one_client : (who : Actor) (w : World) (own : Record) (later : List Record) → own.actor ≡ who → (c : ℕ)
      → client_along setting c ((step who own.step setting w own.stamp).world.clients c) (of_client c later)
      ≡ client_along setting c (w.clients c) (of_client c (own ∷ later))
  unfolding step
  one_client (actor.Server n) w own later is c = ap (client_along setting c (w.clients c)) (sym (client_none c n own later is))
  one_client (actor.Client d) w own later is c =
      let new = (reacted_by setting d (w.clients d) own.step).client in
      elim (same_or_apart c d) [
        | inl e ↦
            subst (λ (k : ℕ). client_along setting k (put_at w.clients d new k) (of_client k later)
            ≡ client_along setting k (w.clients k) (of_client k (own ∷ later))) (sym e)
            (ap (λ s. client_along setting d s (of_client d later)) (put_same w.clients d new)
            ∙ ap (client_along setting d (w.clients d)) (sym (client_first d own later is)))
        | inr ne ↦
            ap (λ s. client_along setting c s (of_client c later)) (put_apart w.clients d new c ne)
            ∙ ap (client_along setting c (w.clients c)) (sym (client_passed c d own later ne is))
      ]

  pub client_made : (w : World) (records : List Record) (c : ℕ)
      → (world_after setting w records).clients c ≡ client_along setting c (w.clients c) (of_client c records)
  client_made w [] c = refl
  client_made w (own ∷ later) c = client_made (stepped setting w own).world later c ∙ one_client own.actor w own later refl c

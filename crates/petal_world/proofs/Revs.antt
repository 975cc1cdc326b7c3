-- Revisions.
use Rattle.std.proofs.Common.{◌≡◌, ℕ, ◌≤◌, ◌<◌, true, false, inl, inr, length, Option, Some, None, sym, ap, ◌∙◌, arith}
use Rattle.std.proofs.lemmas.Bool.{cases_lt}
use Rattle.std.proofs.lemmas.Bool.Decides.{nat_tests}
use Rattle.std.specs.Prelude.{slice_get, ◌&&◌, nat_lt, if◌then◌else◌}
use Rattle.petal_msg.specs.declared.letter.Actor.{Actor}
use Rattle.petal_msg.specs.declared.letter.Actor.TheVariants as actor
use Rattle.spec_rules.specs.Log.{rev_of as rev_in}
use Rattle.spec_rules.specs.World.{Setting, World}
use Rattle.petal_world.specs.declared.seat.Seat.{Seat}
use Rattle.server_host.specs.Desks.{Desk, Equipped, desk_of}
use Rattle.server_host.proofs.Plans.{get_bare, none_bare}
use Rattle.petal_world.specs.Steps.{rev_of}
use Rattle.petal_world.specs.Seats.{seat_of}
use Rattle.petal_world.specs.Actors.{Actors, Shows}
use Rattle.server_host.proofs.Left.{left_rev}
use Rattle.server_host.proofs.Ranges.{get_range, at_range}

below : (n bound : ℕ) → n < bound → nat_lt n bound ≡ true
below n bound h = grind (arith, nat_tests)

above : (n bound : ℕ) → bound ≤ n → nat_lt n bound ≡ false
above n bound h = grind (arith, nat_tests)

never : {P : Type 0} {X : Type 0} (o : Option X) (x : X) → o ≡ None → o ≡ Some x → P
never o x none some = absurd (let h : ⊥ = cc in h)

module _ (setting : Setting) (w : World) (actors : Actors) (who : Actor) (h : Shows setting w actors) where
  pub server_rev : (n : ℕ) (held : Equipped) → who ≡ actor.Server n → slice_get actors.desks n ≡ Some held
      → (if held.desk.site.server.life.running then Some (rev_in held.desk.site.server.log) else None) ≡ rev_of setting w who
  server_rev n held is at =
      let own = at_range (desk_of setting w) setting.servers n held.desk
      (ap (λ desks. slice_get desks n) (sym h.desks) ∙ get_bare actors.desks n held at) in
      ap (λ (d : Desk). if d.site.server.life.running then Some (rev_in d.site.server.log) else None) own.value ∙ left_rev (w.servers n)
      ∙ ap (λ b. if b && (w.servers n).life.running then Some (rev_in (w.servers n).log) else None) (sym (below n setting.servers own.within))
      ∙ ap (λ a. rev_of setting w a) (sym is)

  pub server_no_rev : (n : ℕ) → who ≡ actor.Server n → slice_get actors.desks n ≡ None → None ≡ rev_of setting w who
  server_no_rev n is none = elim (cases_lt n setting.servers) [
    | inl less ↦ never _ _ (ap (λ desks. slice_get desks n) (sym h.desks) ∙ none_bare actors.desks n none)
        (get_range (desk_of setting w) setting.servers n less)
    | inr le ↦ ap (λ b. if b && (w.servers n).life.running then Some (rev_in (w.servers n).log) else None) (sym (above n setting.servers le))
        ∙ ap (λ a. rev_of setting w a) (sym is)
  ]

  pub client_rev : (c : ℕ) (seat : Seat) → who ≡ actor.Client c → slice_get actors.seats c ≡ Some seat
      → Some (length seat.core.client.applied) ≡ rev_of setting w who
  client_rev c seat is at =
      let own = at_range (seat_of setting w) 9 c seat (ap (λ seats. slice_get seats c) (sym h.seats) ∙ at) in
      ap (λ (s : Seat). Some (length s.core.client.applied)) own.value
      ∙ ap (λ b. if b then Some (length (w.clients c).applied) else None) (sym (below c 9 own.within))
      ∙ ap (λ a. rev_of setting w a) (sym is)

  pub client_no_rev : (c : ℕ) → who ≡ actor.Client c → slice_get actors.seats c ≡ None → None ≡ rev_of setting w who
  client_no_rev c is none = elim (cases_lt c 9) [
    | inl less ↦ never _ _ (ap (λ seats. slice_get seats c) (sym h.seats) ∙ none) (get_range (seat_of setting w) 9 c less)
    | inr le ↦ ap (λ b. if b then Some (length (w.clients c).applied) else None) (sym (above c 9 le)) ∙ ap (λ a. rev_of setting w a) (sym is)
  ]

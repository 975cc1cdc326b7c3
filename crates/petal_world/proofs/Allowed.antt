-- What is tested is what the rules allow.
use Rattle.std.proofs.Common.{◌≡◌, ℕ, ◌≤◌, ◌<◌, Bool, true, false, Option, Some, None, sym, ap, ◌∙◌, subst, arith, IsTrue}
use Rattle.std.specs.Prelude.{◌↔◌, slice_get}
use Rattle.petal_msg.specs.declared.letter.Actor.{Actor}
use Rattle.petal_msg.specs.declared.letter.Actor.TheVariants as actor
use Rattle.script_lines.specs.declared.request.Line.{Line}
use Rattle.spec_rules.specs.World.{Setting, World, MayCall, MayClient, MayServer, MayStep, received, greatest_u64}
use Rattle.spec_rules.specs.declared.step.Step.{Step}
use Rattle.client_core.specs.ClientView as client
use Rattle.petal_world.specs.declared.seat.Seat.{Seat}
use Rattle.server_host.specs.Desks.{Desk, Equipped, desk_of}
use Rattle.server_host.proofs.Plans.{get_bare, none_bare}
use Rattle.server_host.specs.Desks as server
use Rattle.server_host.specs.Playable.{AreOrdered}
use Rattle.petal_world.specs.Seats.{seat_of}
use Rattle.server_host.specs.Waiting.{AreAfter, AreRising}
use Rattle.petal_world.specs.Actors.{Actors, Shows}
use Rattle.server_host.proofs.Awaiting.{waiting_rise, before_from_after, after_from_before}
use Rattle.server_host.proofs.Left.{left_spent}
use Rattle.server_host.proofs.Ranges.{IsAt, at_range, get_range}

never : {X : Type 0} (o : Option X) (x : X) → o ≡ None → o ≡ Some x → ⊥
never o x none some = cc

same_some : {X : Type 0} (o : Option X) (x y : X) → o ≡ Some x → o ≡ Some y → x ≡ y
same_some o x y a b = cc

-- a client calls its next line where it is free and no line of an earlier phase waits
pub call_exact : (setting : Setting) (w : World) (actors : Actors) (c line : ℕ) (seat : Seat) (next : Line) (b : Bool) → AreOrdered setting.lines
    → Shows setting w actors → seat ≡ seat_of setting w c
    → slice_get seat.lines seat.core.client.seq ≡ Some next → seat.core.client.asked ≡ None → next.number ≡ line
    → (AreRising actors.waiting → IsTrue b ↔ AreAfter actors.waiting next.phase) → IsTrue b ↔ MayCall setting w c line
call_exact setting w actors c line seat next b ordered h is at free number test =
    let following = test (waiting_rise setting.lines w.answers actors.waiting h.waiting ordered) in
    let own = ap (λ (s : Seat). slice_get s.lines s.core.client.seq) (sym is) ∙ at in
    let asked = ap (λ (s : Seat). s.core.client.asked) (sym is) ∙ free in (
      (λ t. record {
        free = asked;
        line = next;
        next = own;
        is = number;
        before = before_from_after setting.lines w.answers actors.waiting h.waiting next.phase (following.0 t);
      }),
      (λ may.
          let same : may.line ≡ next = same_some _ may.line next may.next own in
          let phases : may.line.phase ≡ next.phase = ap (λ (l : Line). l.phase) same in
          following.1 (after_from_before setting.lines w.answers actors.waiting h.waiting next.phase
          (λ other m less. may.before other m (subst (λ p. other.phase < p) (sym phases) less)))),
    )

-- a test that fails where the step is hindered
pub hindered : {P : Type 0} → (P → ⊥) → IsTrue false ↔ P
hindered never_so = ((λ f. absurd (let k : ⊥ = cc in k)), (λ p. absurd (never_so p)))

clash : (b : Bool) → b ≡ false → b ≡ true → ⊥
clash b down up = cc

pub no_client : (setting : Setting) (w : World) (actors : Actors) (c : ℕ) (what : Step) → Shows setting w actors → slice_get actors.seats c ≡ None
    → MayStep setting w (actor.Client c) what → ⊥
no_client setting w actors c what h none step =
    never _ _ (ap (λ seats. slice_get seats c) (sym h.seats) ∙ none) (get_range (seat_of setting w) 9 c step.may.0)

pub no_server : (setting : Setting) (w : World) (actors : Actors) (n : ℕ) (what : Step) → Shows setting w actors → slice_get actors.desks n ≡ None
    → MayStep setting w (actor.Server n) what → ⊥
no_server setting w actors n what h none step =
    never _ _ (ap (λ desks. slice_get desks n) (sym h.desks) ∙ none_bare actors.desks n none) (get_range (desk_of setting w) setting.servers n step.may.0)

pub late_letter : (setting : Setting) (w : World) (who : Actor) (what : Step) → greatest_u64 ≤ received what → MayStep setting w who what → ⊥
late_letter setting w who what late step = let less = step.receives in omega arith

module _ (setting : Setting) (w : World) (actors : Actors) (c : ℕ) (what : Step) (seat : Seat) (h : Shows setting w actors)
    (at : slice_get actors.seats c ≡ Some seat) where
  own : IsAt (seat_of setting w) 9 c seat
  own = at_range (seat_of setting w) 9 c seat (ap (λ seats. slice_get seats c) (sym h.seats) ∙ at)

  pub seat_is : seat ≡ seat_of setting w c
  seat_is = own.value

  -- a client may take a step exactly where it is not spent and nothing else hinders it
  pub client_exact : (b : Bool) → seat.clock < greatest_u64 → received what < greatest_u64 → client.is_spent seat.core.client ≡ false
      → (IsTrue b ↔ MayClient what setting w c) → IsTrue b ↔ MayStep setting w (actor.Client c) what
  client_exact b clock receives goes_on may =
      let less : w.client_clocks c < greatest_u64 = subst (λ (s : Seat). s.clock < greatest_u64) own.value clock in
      let fresh = subst (λ (s : Seat). client.is_spent s.core.client ≡ false) own.value goes_on in
      ((λ t. record { may = (own.within, may.0 t); clock = less; receives = receives; goes_on = fresh }), (λ step. may.1 step.may.1))

  pub client_spent : client.is_spent seat.core.client ≡ true → MayStep setting w (actor.Client c) what → ⊥
  client_spent spent step = clash _ step.goes_on (subst (λ (s : Seat). client.is_spent s.core.client ≡ true) own.value spent)

  pub client_late : greatest_u64 ≤ seat.clock → MayStep setting w (actor.Client c) what → ⊥
  client_late late step =
      let less : w.client_clocks c < greatest_u64 = step.clock in
      let same : w.client_clocks c ≡ seat.clock = ap (λ (s : Seat). s.clock) (sym own.value) in
      omega arith

module _ (setting : Setting) (w : World) (actors : Actors) (n : ℕ) (what : Step) (own : Equipped) (h : Shows setting w actors)
    (at : slice_get actors.desks n ≡ Some own) where
  abbrev desk : Desk
  desk = own.desk

  held : IsAt (desk_of setting w) setting.servers n desk
  held = at_range (desk_of setting w) setting.servers n desk (ap (λ desks. slice_get desks n) (sym h.desks) ∙ get_bare actors.desks n own at)

  pub desk_is : desk ≡ desk_of setting w n
  desk_is = held.value

  -- a server likewise
  pub server_exact : (b : Bool) → desk.clock < greatest_u64 → received what < greatest_u64 → server.is_spent_server desk.site.server ≡ false
      → (IsTrue b ↔ MayServer what setting w n) → IsTrue b ↔ MayStep setting w (actor.Server n) what
  server_exact b clock receives goes_on may =
      let less : w.server_clocks n < greatest_u64 = subst (λ (d : Desk). d.clock < greatest_u64) held.value clock in
      let fresh = sym (left_spent (w.servers n)) ∙ subst (λ (d : Desk). server.is_spent_server d.site.server ≡ false) held.value goes_on in
      ((λ t. record { may = (held.within, may.0 t); clock = less; receives = receives; goes_on = fresh }), (λ step. may.1 step.may.1))

  pub server_spent : server.is_spent_server desk.site.server ≡ true → MayStep setting w (actor.Server n) what → ⊥
  server_spent spent step = clash _ step.goes_on
      (sym (left_spent (w.servers n)) ∙ subst (λ (d : Desk). server.is_spent_server d.site.server ≡ true) held.value spent)

  pub server_late : greatest_u64 ≤ desk.clock → MayStep setting w (actor.Server n) what → ⊥
  server_late late step =
      let less : w.server_clocks n < greatest_u64 = step.clock in
      let same : w.server_clocks n ≡ desk.clock = ap (λ (d : Desk). d.clock) (sym held.value) in
      omega arith

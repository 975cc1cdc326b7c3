-- Steps of all actors: the clock, the stamp and what is kept after them.
use Rattle.std.proofs.Common.{◌≡◌, ℕ, ◌<◌, Some, None, Result, sym, ap, ◌∙◌, subst, IfOk}
use Rattle.std.proofs.lemmas.Result.{IfOk-weaker}
use Rattle.std.specs.Prelude.{slice_get}
use Rattle.petal_msg.specs.declared.letter.Actor.{Actor}
use Rattle.petal_msg.specs.declared.letter.Actor.TheVariants as actor
use Rattle.spec_rules.specs.World.{Setting, World, MayStep, step, clock_of}
use Rattle.spec_rules.specs.declared.step.Step.{Step}
use Rattle.petal_world.specs.declared.seat.Seat.{Seat}
use Rattle.petal_world.specs.declared.step_result.StepResult.{StepResult}
use Rattle.server_host.specs.Desks.{Desk, Equipped, LeavesPlansAt, desk_of, end_in, ended}
use Rattle.server_host.proofs.Plans.{get_equipped}
use Rattle.server_host.specs.declared.step_end.StepEnd.{StepEnd}
use Rattle.server_host.specs.declared.step_end.StepEnd.TheVariants.{Done}
use Rattle.petal_world.specs.Steps.{Leaves, LeavesIn}
use Rattle.petal_world.specs.Seats.{seat_of, reacted_at}
use Rattle.petal_world.specs.Actors.{Actors, LeavesPlansBy, Shows, client_letters, server_letters, with_client, IsServed}
use Rattle.petal_world.proofs.Allowed.{no_client, no_server, seat_is, desk_is}
use Rattle.server_host.proofs.Ranges.{get_range}
use Rattle.petal_world.proofs.Ending.{client_done, client_ended}
use Rattle.petal_world.proofs.Stepping.{client_shows, client_gives, server_shows, server_gives}

-- ### Clocks

module _ (setting : Setting) (w : World) (actors : Actors) (who : Actor) (what : Step) (h : Shows setting w actors) (may : MayStep setting w who what) where
  pub server_clock_missing : (n : ℕ) → who ≡ actor.Server n → slice_get actors.desks n ≡ None → 0 ≡ clock_of w who
  server_clock_missing n is none = absurd (no_server setting w actors n what h none (subst (λ a. MayStep setting w a what) is may))

  pub client_clock_missing : (c : ℕ) → who ≡ actor.Client c → slice_get actors.seats c ≡ None → 0 ≡ clock_of w who
  client_clock_missing c is none = absurd (no_client setting w actors c what h none (subst (λ a. MayStep setting w a what) is may))

  pub server_clock_is : (n : ℕ) (own : Equipped) → who ≡ actor.Server n → slice_get actors.desks n ≡ Some own → own.desk.clock ≡ clock_of w who
  server_clock_is n own is at = ap (λ (d : Desk). d.clock) (desk_is setting w actors n what own h at) ∙ ap (λ a. clock_of w a) (sym is)

  pub client_clock_is : (c : ℕ) (seat : Seat) → who ≡ actor.Client c → slice_get actors.seats c ≡ Some seat → seat.clock ≡ clock_of w who
  client_clock_is c seat is at = ap (λ (s : Seat). s.clock) (seat_is setting w actors c what seat h at) ∙ ap (λ a. clock_of w a) (sym is)

-- ### Steps

-- a server took the step
abbrev ServedAt : Actors → ℕ → Step → ℕ → Actors → StepResult → Type 0
ServedAt actors n what stamp new told = (own : Equipped) → slice_get actors.desks n ≡ Some own
    → (told ≡ record { letters = server_letters own.desk what stamp; answer = None; end = end_in what }) × IsServed actors n own.desk what stamp new

-- the step with the end that is told
abbrev ServedSo : Actors → ℕ → Step → ℕ → Actors → StepResult → Type 0
ServedSo actors n what stamp new told = ServedAt actors n (ended what told.end) stamp new told

abbrev ReactedSo : Actors → ℕ → Step → ℕ → Actors → StepResult → Type 0
ReactedSo actors c what stamp new told = (seat : Seat) → slice_get actors.seats c ≡ Some seat
    → (told ≡ record { letters = client_letters seat what stamp; answer = (reacted_at seat what).1.answer; end = Done })
    × (new ≡ with_client actors c seat what stamp)

module _ (setting : Setting) (w : World) (actors : Actors) (h : Shows setting w actors) (what : Step) (stamp : ℕ) (new : Actors) (told : StepResult) where
  serves_so : (n : ℕ) → MayStep setting w (actor.Server n) what → clock_of w (actor.Server n) < stamp
      → ServedAt actors n what stamp new told → Leaves setting w (actor.Server n) what stamp new told
  serves_so n may less told_so =
      let at = get_equipped actors.desks n (desk_of setting w n) (ap (λ desks. slice_get desks n) h.desks
      ∙ get_range (desk_of setting w) setting.servers n may.may.0) in
      let own = subst (λ (d : Desk). (told ≡ record { letters = server_letters d what stamp; answer = None; end = end_in what })
      × IsServed actors n d what stamp new) at.2 (told_so at.0 at.1) in
      let gives = server_gives setting w actors h n what stamp may.may.1 in (
        subst (λ (k : Actors). Shows setting (step (actor.Server n) what setting w stamp).world k) (sym own.1.1)
            (server_shows setting w actors h n what stamp may.may.1 new.desks own.1.0 may.may.0 less),
        own.0 ∙ (λ i. record { letters = sym gives.0 i; answer = sym gives.1 i; end = end_in what }),
      )

  reacts_so : (c : ℕ) → MayStep setting w (actor.Client c) what → clock_of w (actor.Client c) < stamp
      → ReactedSo actors c what stamp new told → Leaves setting w (actor.Client c) what stamp new told
  reacts_so c may less told_so =
      let at : slice_get actors.seats c ≡ Some (seat_of setting w c) = ap (λ seats. slice_get seats c) h.seats ∙ get_range (seat_of setting w) 9 c may.may.0 in
      let own = told_so (seat_of setting w c) at in
      let gives = client_gives setting w actors h c what stamp in
      let done = client_done what setting w c may.may.1 in (
        subst (λ (k : Actors). Shows setting (step (actor.Client c) what setting w stamp).world k) (sym own.1)
            (client_shows setting w actors h c what stamp may.may.0 less),
        own.0 ∙ (λ i. record { letters = sym gives.0 i; answer = sym gives.1 i; end = done i }),
      )

  pub serves : (who : Actor) (n : ℕ) → who ≡ actor.Server n → ServedAt actors n what stamp new told
      → MayStep setting w who what → clock_of w who < stamp → Leaves setting w who what stamp new told
  serves who n is told_so = subst (λ (a : Actor). MayStep setting w a what → clock_of w a < stamp → Leaves setting w a what stamp new told) (sym is)
      (λ may less. serves_so n may less told_so)

  -- a client has no job that could end otherwise
  reacts_at : (c : ℕ) (end : StepEnd) → ReactedSo actors c what stamp new told
      → MayStep setting w (actor.Client c) (ended what end) → clock_of w (actor.Client c) < stamp
      → Leaves setting w (actor.Client c) (ended what end) stamp new told
  reacts_at c end told_so may less =
      let same : ended what end ≡ what = client_ended what end setting w c may.may.1 in
      subst (λ (s : Step). Leaves setting w (actor.Client c) s stamp new told) (sym same)
      (reacts_so c (subst (λ (s : Step). MayStep setting w (actor.Client c) s) same may) less told_so)

  pub reacts : (who : Actor) (c : ℕ) (end : StepEnd) → who ≡ actor.Client c → ReactedSo actors c what stamp new told
      → MayStep setting w who (ended what end) → clock_of w who < stamp → Leaves setting w who (ended what end) stamp new told
  reacts who c end is told_so =
      subst (λ (a : Actor). MayStep setting w a (ended what end) → clock_of w a < stamp → Leaves setting w a (ended what end) stamp new told) (sym is)
      (λ may less. reacts_at c end told_so may less)

pub serves_ok : {E : Type 0} (r : Result StepResult E) (actors : Actors) (who : Actor) (n : ℕ) (what : Step) (stamp : ℕ) (new : Actors) → who ≡ actor.Server n
    → IfOk r (ServedSo actors n what stamp new) → IfOk r (λ told. LeavesIn actors who (ended what told.end) stamp new told)
serves_ok r actors who n what stamp new is =
    IfOk-weaker r (ServedSo actors n what stamp new) (λ told. LeavesIn actors who (ended what told.end) stamp new told)
    (λ told so setting w h may less. serves setting w actors h (ended what told.end) stamp new told who n is so may less)

pub reacts_ok : {E : Type 0} (r : Result StepResult E) (actors : Actors) (who : Actor) (c : ℕ) (what : Step) (stamp : ℕ) (new : Actors) → who ≡ actor.Client c
    → IfOk r (ReactedSo actors c what stamp new) → IfOk r (λ told. LeavesIn actors who (ended what told.end) stamp new told)
reacts_ok r actors who c what stamp new is =
    IfOk-weaker r (ReactedSo actors c what stamp new) (λ told. LeavesIn actors who (ended what told.end) stamp new told)
    (λ told so setting w h may less. reacts setting w actors h what stamp new told who c told.end is so may less)

pub plans_of_server : {E : Type 0} (r : Result StepResult E) (actors : Actors) (who : Actor) (n : ℕ) (what : Step) (new : Actors) → who ≡ actor.Server n
    → IfOk r (λ told. LeavesPlansAt n (ended what told.end) actors.desks new.desks)
    → IfOk r (λ told. LeavesPlansBy who (ended what told.end) actors.desks new.desks)
plans_of_server r actors who n what new is =
    IfOk-weaker r (λ told. LeavesPlansAt n (ended what told.end) actors.desks new.desks)
    (λ told. LeavesPlansBy who (ended what told.end) actors.desks new.desks)
    (λ told so. subst (λ (a : Actor). LeavesPlansBy a (ended what told.end) actors.desks new.desks) (sym is) so)

pub plans_of_client : {E : Type 0} (r : Result StepResult E) (actors : Actors) (who : Actor) (c : ℕ) (what : Step) (new : Actors) → who ≡ actor.Client c
    → IfOk r (λ told. new.desks ≡ actors.desks) → IfOk r (λ told. LeavesPlansBy who (ended what told.end) actors.desks new.desks)
plans_of_client r actors who c what new is =
    IfOk-weaker r (λ told. new.desks ≡ actors.desks) (λ told. LeavesPlansBy who (ended what told.end) actors.desks new.desks)
    (λ told so. subst (λ (a : Actor). LeavesPlansBy a (ended what told.end) actors.desks new.desks) (sym is) so)

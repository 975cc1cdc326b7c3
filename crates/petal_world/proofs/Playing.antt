-- A world keeps a legal history.
use Rattle.std.proofs.Common.{◌≡◌, ℕ, ◌≤◌, ◌<◌, Bool, true, false, List, [], ◌∷◌, ◌++◌, length, Option, Some, None, refl}
use Rattle.std.proofs.Common.{sym, ap, ◌∙◌, subst, arith, IfSome}
use Rattle.std.specs.Prelude.{◌==◌, slice_get}
use Rattle.std.proofs.lemmas.List.{length-map}
use Rattle.std.proofs.lemmas.List.FromFn.{length-map-range_with_len}
use Rattle.petal_msg.specs.declared.letter.Actor.{Actor}
use Rattle.petal_msg.specs.declared.letter.Actor.TheVariants as actor
use Rattle.script_lines.specs.declared.request.Line.{Line}
use Rattle.spec_rules.specs.World.{Setting, World, MayActor, MayStep, MayClient, start, clock_of, next_stamp, next_line, setting_of}
use Rattle.spec_rules.specs.declared.step.Step.{Step}
use Rattle.spec_rules.specs.declared.step.Step.TheVariants.{Call}
use Rattle.spec_rules.specs.Plans.{AreLeftOf, Uses, unarmed}
use Rattle.spec_rules.proofs.Tests.{number_itself, same_numbers, true_false}
use Rattle.spec_history.specs.Controls.{Errand, Obeys, errand_after, no_errand}
use Rattle.spec_history.specs.Failures.{UsesAt, UsesWhere}
use Rattle.spec_history.specs.Legal.{IsLegal}
use Rattle.spec_history.specs.Steps.{Follows, InPhase, CallsInPhase, world_after, stepped}
use Rattle.spec_history.specs.declared.record.Record.{Record}
use Rattle.client_core.specs.ClientView.{is_spent}
use Rattle.petal_world.specs.declared.seat.Seat.{Seat}
use Rattle.petal_world.specs.declared.step_result.StepResult.{StepResult}
use Rattle.server_host.specs.Desks.{Equipped, LeavesPlansAt, desk_of, ended}
use Rattle.server_host.specs.declared.step_end.StepEnd.{StepEnd}
use Rattle.petal_world.specs.Play.{ArePlanned, Play, IsKept, errand_in, world_of, record_of, played, told_by}
use Rattle.petal_world.specs.Steps.{LeavesIn, Can, stamp_of, phase_of, phase_for}
use Rattle.petal_world.specs.Seats.{CanTake, seat_of}
use Rattle.petal_world.specs.Actors.{Actors, LeavesPlansBy, Shows}
use Rattle.petal_world.proofs.Ending.{may_ended, stamp_ended, phase_ended}
use Rattle.spec_history.proofs.Onwards.{come_more, errand_more, obey_more, steps_more}
use Rattle.server_host.proofs.Plans.{get_equipped}
use Rattle.server_host.proofs.Ranges.{get_range}
use Rattle.petal_world.proofs.Errands.{after_ended, obeys_ended}
use Rattle.petal_world.proofs.Planning.{plans_used}

-- ### What is kept can take an allowed step

can_take : (setting : Setting) (w : World) (c : ℕ) (what : Step) → MayClient what setting w c → CanTake what (w.clients c)
can_take setting w c (Call line) may = may.free
can_take setting w c _ may = tt

can : (setting : Setting) (w : World) (actors : Actors) (who : Actor) (what : Step) → Shows setting w actors
    → MayStep setting w who what → Can actors who what
can setting w actors (actor.Server n) what h may =
    let long : length actors.desks ≡ setting.servers = sym (length-map actors.desks (λ (own : Equipped). own.desk)) ∙ ap length h.desks
    ∙ length-map-range_with_len (desk_of setting w) 0 setting.servers in
    let within = may.may.0 in
    omega arith
can setting w actors (actor.Client c) what h may =
    let long : length actors.seats ≡ 9 = ap length h.seats ∙ length-map-range_with_len (seat_of setting w) 0 9 in
    let within = may.may.0 in
    let at : slice_get actors.seats c ≡ Some (seat_of setting w c) = ap (λ seats. slice_get seats c) h.seats ∙ get_range (seat_of setting w) 9 c within in
    let less : c < length actors.seats = omega arith in (
      less,
      subst (λ (o : Option Seat). IfSome o (λ seat. CanTake what seat.core.client)) (sym at) (can_take setting w c what may.may.1),
      subst (λ (o : Option Seat). IfSome o (λ seat. is_spent seat.core.client ≡ false)) (sym at) may.goes_on,
    )

-- ### One record more

pub after_more : (setting : Setting) (records : List Record) (w : World) (own : Record)
    → world_after setting w (records ++ own ∷ []) ≡ (stepped setting (world_after setting w records) own).world
after_more setting [] w own = refl
after_more setting (first ∷ records) w own = after_more setting records (stepped setting w first).world own

stamp_next : (floor : ℕ) (w : World) (who : Actor) (what : Step) → next_stamp w who what ≤ stamp_of floor w who what
stamp_next floor w (actor.Server n) what = omega arith
stamp_next floor w (actor.Client c) what = omega arith

pub stamp_later : (floor : ℕ) (w : World) (who : Actor) (what : Step) → clock_of w who < stamp_of floor w who what
stamp_later floor w (actor.Server n) what = omega arith
stamp_later floor w (actor.Client c) what = omega arith

in_line : (line : Option Line) (phase : ℕ) → InPhase line (phase_of line phase)
in_line None phase = tt
in_line (Some line) phase = refl

calls_in : (what : Step) (who : Actor) (setting : Setting) (w : World) (phase : ℕ) → CallsInPhase what who setting w (phase_for what who setting w phase)
calls_in (Call line) (actor.Client c) setting w phase = in_line (next_line setting.lines c (w.clients c)) phase
calls_in _ who setting w phase = tt

follows : (play : Play) (who : Actor) (what : Step) → MayStep (setting_of play.script) (world_of play) who what
    → Follows (setting_of play.script) (world_of play) (record_of play who what)
follows play who what may = record {
  may = may;
  stamp = stamp_next play.floor (world_of play) who what;
  phase = calls_in what who (setting_of play.script) (world_of play) play.phase;
  sent = refl;
  answer = refl;
}

-- ### Plans

some_of : {X : Type 0} (x y : X) → Some x ≡ Some y → x ≡ y
some_of x y e = cc

-- a server that took the step has its desk before and after it
at_desk : (setting : Setting) (w : World) (actors : Actors) (n : ℕ) → Shows setting w actors → n < setting.servers
    → (own : Equipped) × (slice_get actors.desks n ≡ Some own)
at_desk setting w actors n h within =
    let at = get_equipped actors.desks n (desk_of setting w n) (ap (λ desks. slice_get desks n) h.desks
    ∙ get_range (desk_of setting w) setting.servers n within) in
    (at.0, at.1)

module _ (play : Play) (actors new : Actors) (who : Actor) (what : Step) (own : Record) (who_is : own.actor ≡ who) (what_is : own.step ≡ what)
    (going : play.over ≡ false) (shown : Shows (setting_of play.script) (world_of play) actors) (w : World)
    (shown_next : Shows (setting_of play.script) w new) where
  abbrev following : Play
  following = record play { records = play.records ++ own ∷ [] }

  -- the plans of a server that took no step
  apart : (n : ℕ) (p : ArePlanned play actors n) → UsesAt n own.actor own.step p.left p.left → slice_get new.desks n ≡ slice_get actors.desks n
      → ArePlanned following new n
  apart n p uses same = record {
    left = p.left;
    came = come_more n unarmed p.left p.left play.records own p.came uses;
    within = λ on held at. p.within going held (sym same ∙ at);
  }

  by_client : (c : ℕ) → who ≡ actor.Client c → new.desks ≡ actors.desks → (n : ℕ) → ArePlanned play actors n → ArePlanned following new n
  by_client c is same n p =
      apart n p (subst (λ (a : Actor). UsesAt n a own.step p.left p.left) (sym (who_is ∙ is)) refl) (ap (λ desks. slice_get desks n) same)

  by_server : (m : ℕ) → who ≡ actor.Server m → m < (setting_of play.script).servers → LeavesPlansAt m what actors.desks new.desks
      → (n : ℕ) → ArePlanned play actors n → ArePlanned following new n
  by_server m is within leaves n p = by (m == n) refl
    where
      by : (b : Bool) → (m == n) ≡ b → ArePlanned following new n
      by true e =
          let same : m ≡ n = same_numbers m n e in
          let before = at_desk (setting_of play.script) (world_of play) actors m shown within in
          let now = at_desk (setting_of play.script) w new m shown_next within in
          let used = plans_used p.left before.0.armed now.0.armed
          (p.within going before.0 (ap (λ k. slice_get actors.desks k) (sym same) ∙ before.1)) what (leaves.own before.0 now.0 before.1 now.1) in
          record {
            left = used.0;
            came = come_more n unarmed p.left used.0 play.records own p.came
                (subst (λ (a : Actor). UsesAt n a own.step p.left used.0) (sym (who_is ∙ is))
                (subst (λ (b : Bool). UsesWhere b own.step p.left used.0) (sym e)
                (subst (λ (s : Step). Uses s p.left used.0) (sym what_is) used.1)));
            within = λ on held at.
                let one : now.0 ≡ held = some_of now.0 held (sym now.1 ∙ ap (λ k. slice_get new.desks k) same ∙ at) in
                subst (λ (x : Equipped). AreLeftOf used.0 x.armed) one used.2;
          }
      by false e =
          apart n p
          (subst (λ (a : Actor). UsesAt n a own.step p.left p.left) (sym (who_is ∙ is)) (subst (λ (b : Bool). UsesWhere b own.step p.left p.left) (sym e) refl))
          (leaves.others n (λ (k : n ≡ m). true_false (ap (λ j. m == j) k ∙ number_itself m) e))

  pub planned_next : MayActor who what (setting_of play.script) (world_of play) → LeavesPlansBy who what actors.desks new.desks
      → (n : ℕ) → ArePlanned play actors n → ArePlanned following new n
  planned_next may leaves n p = by who refl
    where
      by : (a : Actor) → who ≡ a → ArePlanned following new n
      by (actor.Server m) is =
          by_server m is (subst (λ (a : Actor). MayActor a what (setting_of play.script) (world_of play)) is may).0
          (subst (λ (a : Actor). LeavesPlansBy a what actors.desks new.desks) is leaves) n p
      by (actor.Client c) is =
          by_client c is (subst (λ (a : Actor). LeavesPlansBy a what actors.desks new.desks) is leaves) n p

-- ### What is kept

module _ (play : Play) (actors new : Actors) (who : Actor) (what : Step) (stamp phase : ℕ) (told : StepResult) (errand next : Errand)
    (h : IsKept play actors errand) (going : play.over ≡ false) (may : MayStep (setting_of play.script) (world_of play) who what)
    (obeys : play.free ≡ false → Obeys who what (world_of play) (errand_in play))
    (at : stamp ≡ stamp_of play.floor (world_of play) who what) (during : phase ≡ phase_for what who (setting_of play.script) (world_of play) play.phase)
    (left : LeavesIn actors who what stamp new told) (plans : LeavesPlansBy who what actors.desks new.desks)
    (noted : next ≡ errand_after who what (setting_of play.script) (world_of play) errand) where
  leaves : LeavesIn actors who what (stamp_of play.floor (world_of play) who what) new told
  leaves = subst (λ s. LeavesIn actors who what s new told) at left

  pub told_so : told ≡ told_by play who what
  told_so = (leaves (setting_of play.script) (world_of play) (h.shows going) may (stamp_later play.floor (world_of play) who what)).1

  -- the record is that of the step
  pub record_so : record { actor = who; stamp = stamp; phase = phase; step = what; sent = told.letters; answer = told.answer } ≡ record_of play who what
  record_so = λ i. record { actor = who; stamp = at i; phase = during i; step = what; sent = (told_so i).letters; answer = (told_so i).answer }

  -- and the world with it is kept
  pub kept_next : (records : List Record)
      → records ≡ play.records ++ record { actor = who; stamp = stamp; phase = phase; step = what; sent = told.letters; answer = told.answer } ∷ []
      → IsKept (record play { records = records }) new next
  kept_next records are =
      let same : records ≡ (played play who what).records = are ∙ ap (λ (own : Record). play.records ++ own ∷ []) record_so in
      let shown : Shows (setting_of play.script) (world_of (played play who what)) new =
      subst (λ (w : World). Shows (setting_of play.script) w new)
      (sym (after_more (setting_of play.script) play.records (start (setting_of play.script)) (record_of play who what)))
      (leaves (setting_of play.script) (world_of play) (h.shows going) may (stamp_later play.floor (world_of play) who what)).0 in
      subst (λ (rs : List Record). IsKept (record play { records = rs }) new next) (sym same) (record {
        ordered = h.ordered;
        steps = steps_more (setting_of play.script) (start (setting_of play.script)) play.records (record_of play who what) h.steps
            (follows play who what may);
        shows = λ on. shown;
        under_way = λ on. noted ∙ ap (λ (e : Errand). errand_after who what (setting_of play.script) (world_of play) e) (h.under_way going)
            ∙ sym (errand_more (setting_of play.script) (start (setting_of play.script)) no_errand play.records (record_of play who what));
        obeys = λ free. obey_more (setting_of play.script) (start (setting_of play.script)) no_errand play.records (record_of play who what)
            (h.obeys free) (obeys free);
        plans = λ n. planned_next play actors new who what (record_of play who what) refl refl going (h.shows going)
            (world_of (played play who what)) shown may.may plans n (h.plans n);
      })

-- a step that is allowed, and then stamped and recorded by what is kept
module _ (play : Play) (actors : Actors) (errand : Errand) (who : Actor) (what : Step) (h : IsKept play actors errand) (going : play.over ≡ false)
    (may : MayStep (setting_of play.script) (world_of play) who what)
    (obeys : play.free ≡ false → Obeys who what (world_of play) (errand_in play)) where
  pub can_so : Can actors who what
  can_so = can (setting_of play.script) (world_of play) actors who what (h.shows going) may

  -- with the end that its job had
  module _ (new : Actors) (end : StepEnd) (stamp phase : ℕ) (told : StepResult) (next : Errand)
      (at : (setting : Setting) (w : World) → Shows setting w actors → MayStep setting w who what → stamp ≡ stamp_of play.floor w who what)
      (during : (setting : Setting) (w : World) → Shows setting w actors → MayStep setting w who what → phase ≡ phase_for what who setting w play.phase)
      (left : LeavesIn actors who (ended what end) stamp new told) (plans : LeavesPlansBy who (ended what end) actors.desks new.desks)
      (noted : next ≡ errand_after who what (setting_of play.script) (world_of play) errand) where
    may_so : MayStep (setting_of play.script) (world_of play) who (ended what end)
    may_so = may_ended (setting_of play.script) (world_of play) who what end may

    obeys_so : play.free ≡ false → Obeys who (ended what end) (world_of play) (errand_in play)
    obeys_so free = obeys_ended who what end (world_of play) (errand_in play) (obeys free)

    noted_so : next ≡ errand_after who (ended what end) (setting_of play.script) (world_of play) errand
    noted_so = noted ∙ sym (after_ended who what end (setting_of play.script) (world_of play) errand)

    at_so : stamp ≡ stamp_of play.floor (world_of play) who (ended what end)
    at_so = at (setting_of play.script) (world_of play) (h.shows going) may ∙ sym (stamp_ended play.floor (world_of play) who what end)

    during_so : phase ≡ phase_for (ended what end) who (setting_of play.script) (world_of play) play.phase
    during_so = during (setting_of play.script) (world_of play) (h.shows going) may
        ∙ sym (phase_ended what end who (setting_of play.script) (world_of play) play.phase)

    pub told_ended : told ≡ told_by play who (ended what end)
    told_ended =
        told_so play actors new who (ended what end) stamp phase told errand next h going may_so obeys_so at_so during_so left plans noted_so

    -- the play has that record more
    pub played_ended : (records : List Record)
        → records ≡ play.records ++ record { actor = who; stamp = stamp; phase = phase; step = ended what end; sent = told.letters; answer = told.answer } ∷ []
        → record play { records = records } ≡ played play who (ended what end)
    played_ended records are =
        let own = record_so play actors new who (ended what end) stamp phase told errand next h going may_so obeys_so at_so during_so left plans
        noted_so in
        ap (λ (rs : List Record). record play { records = rs }) (are ∙ ap (λ (r : Record). play.records ++ r ∷ []) own)

    pub kept_ended : (records : List Record)
        → records ≡ play.records ++ record { actor = who; stamp = stamp; phase = phase; step = ended what end; sent = told.letters; answer = told.answer } ∷ []
        → IsKept (record play { records = records }) new next
    kept_ended records are =
        kept_next play actors new who (ended what end) stamp phase told errand next h going may_so obeys_so at_so during_so left plans noted_so
        records are

-- without memory what was recorded stays, and no more is said
pub kept_over : (play : Play) (actors new : Actors) (errand next : Errand) → IsKept play actors errand → (records : List Record)
    → records ≡ play.records → IsKept (record play { records = records; over = true }) new next
kept_over play actors new errand next h records same =
    subst (λ (rs : List Record). IsKept (record play { records = rs; over = true }) new next) (sym same) (record {
      ordered = h.ordered;
      steps = h.steps;
      shows = λ on. true_false refl on;
      under_way = λ on. true_false refl on;
      obeys = h.obeys;
      plans = λ n. record { left = (h.plans n).left; came = (h.plans n).came; within = λ on held at. true_false refl on };
    })

-- a phase that begins
pub kept_entered : (play : Play) (actors : Actors) (errand : Errand) (phase floor : ℕ) → IsKept play actors errand
    → IsKept (record play { phase = phase; floor = floor }) actors errand
kept_entered play actors errand phase floor h = record {
  ordered = h.ordered;
  steps = h.steps;
  shows = h.shows;
  under_way = h.under_way;
  obeys = h.obeys;
  plans = λ n. record { left = (h.plans n).left; came = (h.plans n).came; within = (h.plans n).within };
}

-- a step that may be free
pub kept_free : (play : Play) (actors : Actors) (errand : Errand) → IsKept play actors errand → IsKept (record play { free = true }) actors errand
kept_free play actors errand h = record {
  ordered = h.ordered;
  steps = h.steps;
  shows = h.shows;
  under_way = h.under_way;
  obeys = λ free. true_false refl free;
  plans = λ n. record { left = (h.plans n).left; came = (h.plans n).came; within = (h.plans n).within };
}

-- where no step was free the records are a legal history
pub legal_of : (play : Play) (actors : Actors) (errand : Errand) → IsKept play actors errand → play.free ≡ false → IsLegal play.script play.records
legal_of play actors errand h free =
    record { steps = h.steps; obey = h.obeys free; planned = λ n. ((h.plans n).left, (h.plans n).came) }

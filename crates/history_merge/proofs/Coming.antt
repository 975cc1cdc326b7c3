-- A record that comes next by the front comes next in the world of which it is the front.
use Rattle.std.proofs.Common.{◌≡◌, ◌≢◌, ℕ, ◌<◌, Bool, true, false, List, [], ◌∷◌, Option, Some, None, inl, inr, refl, sym, ap, ◌∙◌, subst}
use Rattle.std.specs.Prelude.{◌==◌, drop, slice_get}
use Rattle.device_faults.specs.declared.plan.Plan.{Plan}
use Rattle.device_faults.specs.declared.which.Which.{Which}
use Rattle.script_lines.specs.declared.request.Line.{Line}
use Rattle.script_lines.specs.declared.request.Request.{Request}
use Rattle.spec_rules.specs.Clients.{Asked}
use Rattle.spec_rules.specs.Jobs.{operator}
use Rattle.spec_rules.specs.World.{Control, Deed, IsDone, MayGlance, Setting, World, Blanks, Boots, Stops}
use Rattle.spec_rules.specs.declared.step.Step.{Step}
use Rattle.spec_rules.specs.declared.step.Step.TheVariants.{Arm, Blank, Boot, Call, Deliver, Glance, Stop, StopIn, Tick, Work}
use Rattle.spec_history.specs.Controls.{Arms, Blanks as blanks_it, Boots as boots_it, Errand, Given, ObeysAs, ObeysGlance, Stops as stops_it, due, served}
use Rattle.spec_history.specs.Steps.{InPhase}
use Rattle.server_host.proofs.Awaiting.{before_from_after, waiting_rise}
use Rattle.server_host.specs.Playable.{AreOrdered}
use Rattle.law_merge.specs.Alone.{IsInPhase}
use Rattle.law_merge.specs.Joined.{IsAfterPhases, IsInTurn, IsOrdered}
use Rattle.history_merge.specs.declared.front.Front.{Front}
use Rattle.history_merge.specs.Fronts.{GlancesIn, IsAllowedIn, IsCallIn, IsOpenAs, IsOrderedIn, IsTurnIn, Shows}

-- ### Whether a server runs

-- what its record tells of it is so, where this counts
abbrev pub Tells : Step → (told running : Bool) → Type 0
Tells Stop told running = told ≡ running
Tells Blank told running = told ≡ running
Tells (Boot end) told running = told ≡ running
Tells (Glance line round) told running = told ≡ running
Tells _ told running = Unit {0}

by_running : (P : Bool → Type 0) (running : Bool) → P true → P false → P running
by_running P true on off = on
by_running P false on off = off

pub obeys_so : (what : Step) (errand : Errand) (n : ℕ) (told running : Bool) → Tells what told running → IsAllowedIn what errand n told
    → ObeysAs what errand n running
obeys_so Stop errand n told running is h = subst (ObeysAs Stop errand n) is h
obeys_so Blank errand n told running is h = subst (ObeysAs Blank errand n) is h
obeys_so (Boot end) errand n told running is h = subst (ObeysAs (Boot end) errand n) is h
obeys_so (Glance line round) errand n told running is h = subst (ObeysGlance (round == 0) errand n) is h
obeys_so (Arm which plan) errand n told running is h = by_running (ObeysAs (Arm which plan) errand n) running h.0 h.1
obeys_so (Call line) errand n told running is h = h
obeys_so (Deliver letter) errand n told running is h = h
obeys_so Tick errand n told running is h = h
obeys_so (Work end) errand n told running is h = h
obeys_so (StopIn end) errand n told running is h = h

-- a step that arms is due alike
same_due : (left : List Given) (which : Which) (plan : Option Plan) (one other : List Given) → due true left ≡ Arms which plan ∷ one
    → due false left ≡ Arms which plan ∷ other
    → due true left ≡ due false left
same_due [] which plan one other e f = refl
same_due (stops_it ∷ later) which plan one other e f = absurd (let k : ⊥ = cc in k)
same_due (blanks_it ∷ later) which plan one other e f = refl
same_due (Arms device own ∷ later) which plan one other e f = refl
same_due (boots_it ∷ later) which plan one other e f = absurd (let k : ⊥ = cc in k)

armed_alike : (errand : Errand) (which : Which) (plan : Option Plan) (told running : Bool) → due true errand.left ≡ due false errand.left
    → served (Arm which plan) told errand ≡ served (Arm which plan) running errand
armed_alike errand which plan true true same = refl
armed_alike errand which plan false false same = refl
armed_alike errand which plan true false same = ap (λ (left : List Given). record errand { left = drop 1 left; begun = true }) same
armed_alike errand which plan false true same = ap (λ (left : List Given). record errand { left = drop 1 left; begun = true }) (sym same)

pub served_so : (what : Step) (errand : Errand) (n : ℕ) (told running : Bool) → Tells what told running → IsAllowedIn what errand n told
    → served what told errand ≡ served what running errand
served_so Stop errand n told running is h = ap (λ (b : Bool). served Stop b errand) is
served_so Blank errand n told running is h = ap (λ (b : Bool). served Blank b errand) is
served_so (Boot end) errand n told running is h = ap (λ (b : Bool). served (Boot end) b errand) is
served_so (Arm which plan) errand n told running is h =
    armed_alike errand which plan told running (same_due errand.left which plan h.0.later h.1.later h.0.is h.1.is)
served_so (Glance line round) errand n told running is h = refl
served_so (Call line) errand n told running is h = refl
served_so (Deliver letter) errand n told running is h = refl
served_so Tick errand n told running is h = refl
served_so (Work end) errand n told running is h = refl
served_so (StopIn end) errand n told running is h = refl

-- ### The operator's line

open_asked : (asked : Option Asked) (line : Line) → IsOpenAs asked (Some line)
    → (own : Asked) × (asked ≡ Some own) × (own.line ≡ line.number) × (own.request ≡ line.request)
open_asked None line h = absurd h
open_asked (Some own) line h = (own, refl, h.0, h.1)

module _ (setting : Setting) (w : World) (errand : Errand) (front : Front) (shows : Shows setting w errand front) where
  the_asked : (line : Line) → front.order ≡ Some line
      → (own : Asked) × ((w.clients operator).asked ≡ Some own) × (own.line ≡ line.number) × (own.request ≡ line.request)
  the_asked line is = open_asked (w.clients operator).asked line (subst (IsOpenAs (w.clients operator).asked) is shows.open_as)

  ordered_so : (does : Request → Option (ℕ × Deed) → Type 0) → IsOrderedIn front (λ line. does line.request front.control.hand)
      → IsOrdered w (λ asked. does asked.request w.control.hand)
  ordered_so does h =
      let own = the_asked h.line h.is in
      record {
        asked = own.0;
        opened = record {
          is = own.1;
          first = λ e. h.first (ap (λ (c : Control). c.glanced) shows.control ∙ e ∙ ap Some own.2);
        };
        so = subst (λ (r : Request). does r w.control.hand) (sym own.3) (subst (λ (c : Control). does h.line.request c.hand) shows.control h.so);
      }

  glance_so : (b : Bool) (n line round : ℕ) (told : Bool) → told ≡ (w.servers n).life.running → GlancesIn b front n line round told
      → MayGlance setting w n line round
  glance_so true n line round told is h =
      let ordered = h.1 in
      let own = the_asked ordered.line ordered.is in
      inl (record {
        asked = own.0;
        opened = record { is = own.1; first = λ e. ordered.first (ap (λ (c : Control). c.glanced) shows.control ∙ e ∙ ap Some own.2) };
        line_is = own.2 ∙ ordered.so.0;
        once = h.0;
        done = subst (λ (r : Request). IsDone r n (w.servers n).life.running w.control.hand) (sym own.3)
            (subst (λ (c : Control). IsDone ordered.line.request n (w.servers n).life.running c.hand) shows.control
            (subst (λ (b : Bool). IsDone ordered.line.request n b front.control.hand) is ordered.so.1));
      })
  glance_so false n line round told is h = inr (record {
    place = h.1.place;
    own = h.1.line;
    is = ap (λ (lines : List Line). slice_get lines h.1.place) (sym shows.orders) ∙ h.1.is;
    called = subst (λ (k : ℕ). h.1.place < k) shows.called h.1.called;
    line_is = h.1.number_is;
    request_is = h.1.request_is;
    counts = h.0;
  })

  free_so : (n : ℕ) → ((deed : Deed) → front.control.hand ≢ Some (n, deed)) → (deed : Deed) → w.control.hand ≢ Some (n, deed)
  free_so n free deed e = free deed (ap (λ (c : Control). c.hand) shows.control ∙ e)

  pub turn_so : (what : Step) (n : ℕ) (told : Bool) → Tells what told (w.servers n).life.running → IsTurnIn what front n told → IsInTurn what setting w n
  turn_so (Call line) n told is h = h
  turn_so (Deliver letter) n told is h = free_so n h
  turn_so Tick n told is h = free_so n h
  turn_so (Work end) n told is h = free_so n h
  turn_so (StopIn end) n told is h = free_so n h
  turn_so Stop n told is h = ordered_so (λ r hand. Stops r n hand) h
  turn_so Blank n told is h = ordered_so (λ r hand. Blanks r n hand) h
  turn_so (Boot end) n told is h = ordered_so (λ r hand. Boots r n hand) h
  turn_so (Arm which plan) n told is h = tt
  turn_so (Glance line round) n told is h = glance_so (round == 0) n line round told is h

  in_phase : (line : Option Line) (own : Line) (phase : ℕ) → line ≡ Some own → InPhase line phase → own.phase ≡ phase
  in_phase line own phase is h = subst (λ (o : Option Line). InPhase o phase) is h

  pub after_so : AreOrdered setting.lines → (what : Step) (c phase : ℕ) → IsInPhase what setting c (w.clients c) phase → IsCallIn what front phase
      → IsAfterPhases what setting w c
  after_so ordered (Call number) c phase own h = λ line other is there less.
      before_from_after setting.lines w.answers front.waiting shows.waiting phase
      (h (waiting_rise setting.lines w.answers front.waiting shows.waiting ordered)) other there
      (subst (λ (k : ℕ). other.phase < k) (in_phase _ line phase is own) less)
  after_so ordered (Deliver letter) c phase own h = tt
  after_so ordered Tick c phase own h = tt
  after_so ordered (Work end) c phase own h = tt
  after_so ordered (StopIn end) c phase own h = tt
  after_so ordered Stop c phase own h = tt
  after_so ordered Blank c phase own h = tt
  after_so ordered (Boot end) c phase own h = tt
  after_so ordered (Arm which plan) c phase own h = tt
  after_so ordered (Glance line round) c phase own h = tt

-- What the operator's open line asks for, and which steps and which glance it allows.
use Rattle.std.proofs.Common.{◌≡◌, ◌⊎◌, ◌<◌, inl, inr, ℕ, Bool, true, false, Option, Some, None, refl, sym, ap, subst, ◌∙◌}
use Rattle.std.specs.Prelude.{◌==◌, ◌&&◌}
use Rattle.script_lines.specs.declared.request.Request.{Request}
use Rattle.script_lines.specs.declared.request.Request.TheVariants as request
use Rattle.spec_rules.specs.Clients.{Asked}
use Rattle.spec_rules.specs.Server.{Life}
use Rattle.spec_rules.specs.World.{Setting, Blanks, Blanked, Boots, Deed, IsDone, IsGlanceDue, IsSettleGlance, MayBlank, MayBoot, MayStop, Stopped, Stops}
use Rattle.spec_rules.specs.World.{World, greatest_u32}
use Rattle.server_host.specs.Desks.{Desk, desk_of}
use Rattle.server_host.proofs.Left.{left_life, left_runs}
use Rattle.spec_rules.specs.Jobs.{operator}
use Rattle.spec_rules.proofs.Tests.{none_some, number_itself, same_numbers, same_some, true_false}
use Rattle.client_core.specs.ClientView.{ordered}
use Rattle.client_core.specs.Orders.{order_in, order_of}
use Rattle.client_core.specs.declared.order.Order.{Order}
use Rattle.client_core.specs.declared.order.Order.TheVariants.{Arm, Stop, Start, Blank}
use Rattle.petal_world.specs.Lines.{ArmsAt, HasArmed, HasBlanked, HasStarted, HasStopped, IsGiven, IsGivenBy, IsToStop, arms_of}
use Rattle.petal_world.specs.Seats.{HasCalledSettle, is_settle, seat_of}
use Rattle.device_faults.specs.declared.which.Which.TheVariants.{Data}
use Rattle.spec_rules.specs.Plans.{fault_plan, stop_plan}

-- ### The order of an open line

abbrev kind_of : Option (Order × ℕ) → Option Order
kind_of None = None
kind_of (Some order) = Some order.0

stop_asked : (asked : Request) (n : ℕ) → order_of asked ≡ Some (Stop, n) → asked ≡ request.Stop n
stop_asked (request.Stop server) n is = ap (λ (o : Order × ℕ). request.Stop o.1) (same_some is)
stop_asked other n is = let f : kind_of (order_of other) ≡ Some Stop = ap (λ (o : Option (Order × ℕ)). kind_of o) is in absurd cc

start_asked : (asked : Request) (n : ℕ) → order_of asked ≡ Some (Start, n) → asked ≡ request.Start n
start_asked (request.Start server) n is = ap (λ (o : Order × ℕ). request.Start o.1) (same_some is)
start_asked other n is = let f : kind_of (order_of other) ≡ Some Start = ap (λ (o : Option (Order × ℕ)). kind_of o) is in absurd cc

blank_asked : (asked : Request) (n : ℕ) → order_of asked ≡ Some (Blank, n) → asked ≡ request.Blank n
blank_asked (request.Blank server) n is = ap (λ (o : Order × ℕ). request.Blank o.1) (same_some is)
blank_asked other n is = let f : kind_of (order_of other) ≡ Some Blank = ap (λ (o : Option (Order × ℕ)). kind_of o) is in absurd cc

-- a line that arms a device has such an order, and no other line has
armed_asked : (asked : Request) (order : Order) (n : ℕ) → order_of asked ≡ Some (order, n) → arms_of order ≡ true → ArmsAt asked n
armed_asked (request.StopAt server at) order n is arms = ap (λ (o : Order × ℕ). o.1) (same_some is)
armed_asked (request.Fault server which kind at) order n is arms = ap (λ (o : Order × ℕ). o.1) (same_some is)
armed_asked (request.Stop server) order n is arms =
    true_false (ap (λ (o : Order × ℕ). arms_of o.0) (same_some is) ∙ arms) refl
armed_asked (request.Start server) order n is arms =
    true_false (ap (λ (o : Order × ℕ). arms_of o.0) (same_some is) ∙ arms) refl
armed_asked (request.Blank server) order n is arms =
    true_false (ap (λ (o : Order × ℕ). arms_of o.0) (same_some is) ∙ arms) refl
armed_asked _ order n is arms = none_some refl is

asked_armed : (asked : Request) (n : ℕ) → ArmsAt asked n → (order : Order) × (order_of asked ≡ Some (order, n)) × (arms_of order ≡ true)
asked_armed (request.StopAt server at) n is = (Arm Data (stop_plan at), ap (λ (k : ℕ). Some (Arm Data (stop_plan at), k)) is, refl)
asked_armed (request.Fault server which kind at) n is =
    (Arm which (fault_plan kind at), ap (λ (k : ℕ). Some (Arm which (fault_plan kind at), k)) is, refl)
asked_armed _ n is = absurd is

-- the order, and the line that gives it
record IsIn (asked : Asked) (own : Option (Order × ℕ)) (line : ℕ) (order : Order) (n : ℕ) : Type 0 where
  pub own_is : own ≡ Some (order, n)
  pub line_is : asked.line ≡ line

pub given_as : (w : World) (given : Option (ℕ × Order × ℕ)) → given ≡ ordered (w.clients operator).asked → (line : ℕ) (order : Order) (n : ℕ)
    → IsGivenBy w order n line → given ≡ Some (line, order, n)
given_as w given is line order n by =
    is ∙ ap (λ (o : Option Asked). ordered o) by.opened.is
    ∙ ap (λ (o : Option (Order × ℕ)). order_in by.asked o) by.order_is
    ∙ ap (λ (k : ℕ). Some (k, order, n)) by.line_is

-- ### What it allows

stops_is : (asked : Request) (n : ℕ) (hand : Option (ℕ × Deed)) → Stops asked n hand
    → ((asked ≡ request.Stop n) ⊎ (asked ≡ request.Blank n)) × (hand ≡ None)
stops_is (request.Stop server) n hand is = (inl (ap request.Stop is.0), is.1)
stops_is (request.Blank server) n hand is = (inr (ap request.Blank is.0), is.1)
stops_is _ n hand never = absurd never

is_stops : (asked : Request) (n : ℕ) (hand : Option (ℕ × Deed)) → (asked ≡ request.Stop n) ⊎ (asked ≡ request.Blank n) → hand ≡ None → Stops asked n hand
is_stops asked n hand (inl is) empty = subst (λ (r : Request). Stops r n hand) (sym is) (refl, empty)
is_stops asked n hand (inr is) empty = subst (λ (r : Request). Stops r n hand) (sym is) (refl, empty)

blanks_is : (asked : Request) (n : ℕ) (hand : Option (ℕ × Deed)) → Blanks asked n hand
    → (asked ≡ request.Blank n) × ((hand ≡ None) ⊎ (hand ≡ Some (n, Stopped)))
blanks_is (request.Blank server) n hand is = (ap request.Blank is.0, is.1)
blanks_is _ n hand never = absurd never

boots_is : (asked : Request) (n : ℕ) (hand : Option (ℕ × Deed)) → Boots asked n hand
    → ((asked ≡ request.Start n) × (hand ≡ None)) ⊎ ((asked ≡ request.Blank n) × (hand ≡ Some (n, Blanked)))
boots_is (request.Start server) n hand is = inl (ap request.Start is.0, is.1)
boots_is (request.Blank server) n hand is = inr (ap request.Blank is.0, is.1)
boots_is _ n hand never = absurd never

is_boots : (asked : Request) (n : ℕ) (hand : Option (ℕ × Deed))
    → ((asked ≡ request.Start n) × (hand ≡ None)) ⊎ ((asked ≡ request.Blank n) × (hand ≡ Some (n, Blanked))) → Boots asked n hand
is_boots asked n hand (inl is) = subst (λ (r : Request). Boots r n hand) (sym is.0) (refl, is.1)
is_boots asked n hand (inr is) = subst (λ (r : Request). Boots r n hand) (sym is.0) (refl, is.1)

-- what a server's desk tells of it
pub runs_as : (setting : Setting) (w : World) (n : ℕ) (desk : Desk) (b : Bool) → desk ≡ desk_of setting w n → b ≡ desk.site.server.life.running
    → (w.servers n).life.running ≡ b
runs_as setting w n desk b is told = sym (left_runs (w.servers n)) ∙ ap (λ (d : Desk). d.site.server.life.running) (sym is) ∙ sym told

pub inc_as : (setting : Setting) (w : World) (n : ℕ) (desk : Desk) (inc : ℕ) → desk ≡ desk_of setting w n → inc ≡ desk.site.server.life.inc
    → (w.servers n).life.inc ≡ inc
inc_as setting w n desk inc is told =
    ap (λ (life : Life). life.inc) (sym (left_life (w.servers n))) ∙ ap (λ (d : Desk). d.site.server.life.inc) (sym is) ∙ sym told

module _ (w : World) (n : ℕ) where
  pub stopped_by : MayStop w n → IsToStop w n
  stopped_by may = elim ((stops_is may.asked.request n w.control.hand may.stops).0) [
    | inl is ↦ inl (may.asked.line, record { asked = may.asked; opened = may.opened; line_is = refl; order_is = ap (λ (r : Request). order_of r) is })
    | inr is ↦ inr (
      may.asked.line,
      record { asked = may.asked; opened = may.opened; line_is = refl; order_is = ap (λ (r : Request). order_of r) is },
    )
  ]

  pub may_stop_by : (w.servers n).life.running ≡ true → w.control.hand ≡ None → IsToStop w n → MayStop w n
  may_stop_by runs empty (inl by) =
      record {
        runs = runs;
        asked = by.1.asked;
        opened = by.1.opened;
        stops = is_stops by.1.asked.request n w.control.hand (inl (stop_asked by.1.asked.request n by.1.order_is)) empty;
      }
  may_stop_by runs empty (inr by) =
      record {
        runs = runs;
        asked = by.1.asked;
        opened = by.1.opened;
        stops = is_stops by.1.asked.request n w.control.hand (inr (blank_asked by.1.asked.request n by.1.order_is)) empty;
      }

  pub blanked_by : MayBlank w n → IsGiven w Blank n
  blanked_by may = (
    may.asked.line,
    record {
      asked = may.asked;
      opened = may.opened;
      line_is = refl;
      order_is = ap (λ (r : Request). order_of r) (blanks_is may.asked.request n w.control.hand may.blanks).0;
    },
  )

  -- what gives a server its boot: a line that starts it, or one that blanked it
  abbrev pub IsToBoot : Type 0
  IsToBoot = (IsGiven w Start n × (w.control.hand ≡ None)) ⊎ (IsGiven w Blank n × (w.control.hand ≡ Some (n, Blanked)))

  pub booted_by : MayBoot w n → IsToBoot
  booted_by may = elim (boots_is may.asked.request n w.control.hand may.boots) [
    | inl is ↦ inl ((may.asked.line, record { asked = may.asked; opened = may.opened; line_is = refl; order_is = ap (λ (r : Request). order_of r) is.0 }), is.1)
    | inr is ↦ inr ((may.asked.line, record { asked = may.asked; opened = may.opened; line_is = refl; order_is = ap (λ (r : Request). order_of r) is.0 }), is.1)
  ]

  pub may_boot_by : (w.servers n).life.running ≡ false → (w.servers n).life.inc < greatest_u32 → IsToBoot → MayBoot w n
  may_boot_by rests raises (inl (by, empty)) = record {
    rests = rests;
    raises = raises;
    asked = by.1.asked;
    opened = by.1.opened;
    boots = is_boots by.1.asked.request n w.control.hand (inl (start_asked by.1.asked.request n by.1.order_is, empty));
  }
  may_boot_by rests raises (inr (by, blanked)) = record {
    rests = rests;
    raises = raises;
    asked = by.1.asked;
    opened = by.1.opened;
    boots = is_boots by.1.asked.request n w.control.hand (inr (blank_asked by.1.asked.request n by.1.order_is, blanked));
  }

  -- the open line has stopped the server, blanked it, armed one of its devices, or started it
  abbrev pub DueBy : (line : ℕ) → Type 0
  DueBy line = HasStopped w n line ⊎ HasBlanked w n line ⊎ HasArmed w n line ⊎ HasStarted w n line

  -- a line that stops the server is done where it doesn't run, one that starts it where it runs or has booted, one that blanks it
  -- where it has booted, and one that arms a device at once
  due_as : (line round : ℕ) (may : IsGlanceDue w n line round) (asked : Request) → may.asked.request ≡ asked
      → IsDone asked n (w.servers n).life.running w.control.hand → DueBy line
  due_as line round may (request.Stop server) is done = inl (record {
    by = record {
      asked = may.asked;
      opened = may.opened;
      line_is = may.line_is;
      order_is = ap (λ (r : Request). order_of r) is ∙ ap (λ (k : ℕ). Some (Stop, k)) done.0;
    };
    rests = done.1;
  })
  due_as line round may (request.Blank server) is done = inr (inl (record {
    by = record {
      asked = may.asked;
      opened = may.opened;
      line_is = may.line_is;
      order_is = ap (λ (r : Request). order_of r) is ∙ ap (λ (k : ℕ). Some (Blank, k)) done.0;
    };
    booted = done.1;
  }))
  due_as line round may (request.Start server) is done = inr (inr (inr (record {
    by = record {
      asked = may.asked;
      opened = may.opened;
      line_is = may.line_is;
      order_is = ap (λ (r : Request). order_of r) is ∙ ap (λ (k : ℕ). Some (Start, k)) done.0;
    };
    shows = done.1;
  })))
  due_as line round may (request.StopAt server at) is done = inr (inr (inl (record {
    asked = may.asked;
    opened = may.opened;
    line_is = may.line_is;
    arms = subst (λ (r : Request). ArmsAt r n) (sym is) done;
  })))
  due_as line round may (request.Fault server which kind at) is done = inr (inr (inl (record {
    asked = may.asked;
    opened = may.opened;
    line_is = may.line_is;
    arms = subst (λ (r : Request). ArmsAt r n) (sym is) done;
  })))
  due_as line round may _ is done = absurd done

  pub due_of : (line round : ℕ) → IsGlanceDue w n line round → DueBy line
  due_of line round may = due_as line round may may.asked.request refl may.done

  abbrev DoneBy : Request → Type 0
  DoneBy asked = IsDone asked n (w.servers n).life.running w.control.hand

  arms_done : (asked : Request) → ArmsAt asked n → DoneBy asked
  arms_done (request.StopAt server at) is = is
  arms_done (request.Fault server which kind at) is = is
  arms_done _ is = absurd is

  pub is_due : (line round : ℕ) → round ≡ 0 → DueBy line → IsGlanceDue w n line round
  is_due line round once (inl done) = record {
    asked = done.by.asked;
    opened = done.by.opened;
    line_is = done.by.line_is;
    once = once;
    done = subst DoneBy (sym (stop_asked done.by.asked.request n done.by.order_is)) (refl, done.rests);
  }
  is_due line round once (inr (inl done)) = record {
    asked = done.by.asked;
    opened = done.by.opened;
    line_is = done.by.line_is;
    once = once;
    done = subst DoneBy (sym (blank_asked done.by.asked.request n done.by.order_is)) (refl, done.booted);
  }
  is_due line round once (inr (inr (inl done))) = record {
    asked = done.asked;
    opened = done.opened;
    line_is = done.line_is;
    once = once;
    done = arms_done done.asked.request done.arms;
  }
  is_due line round once (inr (inr (inr done))) = record {
    asked = done.by.asked;
    opened = done.by.opened;
    line_is = done.by.line_is;
    once = once;
    done = subst DoneBy (sym (start_asked done.by.asked.request n done.by.order_is)) (refl, done.shows);
  }

  -- ### A line that arms

  pub armed_by : (line : ℕ) (order : Order) → IsGivenBy w order n line → arms_of order ≡ true → HasArmed w n line
  armed_by line order by arms = record {
    asked = by.asked;
    opened = by.opened;
    line_is = by.line_is;
    arms = armed_asked by.asked.request order n by.order_is arms;
  }

  pub by_armed : (line : ℕ) → HasArmed w n line → (order : Order) × IsGivenBy w order n line × (arms_of order ≡ true)
  by_armed line armed =
      let own = asked_armed armed.asked.request n armed.arms in
      (own.0, record { asked = armed.asked; opened = armed.opened; line_is = armed.line_is; order_is = own.1 }, own.2)

-- ### A settle

both : (a b : Bool) → (a && b) ≡ true → (a ≡ true) × (b ≡ true)
both true true e = (refl, refl)
both true false e = true_false e refl
both false b e = true_false e refl

settle_is : (asked : Request) → is_settle asked ≡ true → asked ≡ request.Settle
settle_is request.Settle is = refl
settle_is _ is = true_false is refl

-- a settle that the operator has called is glanced at in each of its rounds
pub settle_glance : (setting : Setting) (w : World) (line round : ℕ) → HasCalledSettle (seat_of setting w operator) line → 0 < round
    → IsSettleGlance setting w line round
settle_glance setting w line round has counts =
    let so = both (has.line.number == line) (is_settle has.line.request) has.so in
    record {
      place = has.place;
      own = has.line;
      is = has.is;
      called = has.called;
      line_is = same_numbers has.line.number line so.0;
      request_is = settle_is has.line.request so.1;
      counts = counts;
    }

pub glance_settle : (setting : Setting) (w : World) (line round : ℕ) → IsSettleGlance setting w line round
    → HasCalledSettle (seat_of setting w operator) line
glance_settle setting w line round may = record {
  place = may.place;
  line = may.own;
  is = may.is;
  called = may.called;
  so = ap (λ (k : ℕ). (may.own.number == k) && is_settle may.own.request) (sym may.line_is)
      ∙ ap (λ (b : Bool). b && is_settle may.own.request) (number_itself may.own.number) ∙ ap (λ (r : Request). is_settle r) may.request_is;
}

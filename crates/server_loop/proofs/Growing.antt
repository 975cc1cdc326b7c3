-- One record more.
use Rattle.std.proofs.Common.{◌≡◌, ℕ, ◌+◌, ◌≤◌, ◌<◌, max, Bool, true, false, List, [], ◌∷◌, ◌++◌, refl, sym, ap, ◌∙◌, subst, arith}
use Rattle.std.specs.Prelude.{◌==◌, nat_lt, not}
use Rattle.petal_msg.specs.declared.letter.Actor.{Actor}
use Rattle.petal_msg.specs.declared.letter.Actor.TheVariants as actor
use Rattle.petal_msg.specs.declared.letter.Letter.{Letter}
use Rattle.spec_rules.specs.Plans.{Armed, AreLeftOf, LeavesPlans, unarmed}
use Rattle.spec_rules.specs.Server.{Life, Server, first_server}
use Rattle.spec_rules.specs.World.{Setting, greatest_u32, greatest_u64, is_spent_server, received, stamped, start}
use Rattle.spec_rules.specs.declared.step.Step.{Step}
use Rattle.spec_rules.specs.declared.step.Step.TheVariants.{Call, Deliver, Tick, Work, StopIn, Stop, Blank, Boot, Arm, Glance}
use Rattle.spec_history.proofs.Onwards.{come_more}
use Rattle.spec_history.specs.Failures.{UsesWhere}
use Rattle.spec_history.specs.declared.record.Record.{Record}
use Rattle.petal_world.proofs.Planning.{plans_used}
use Rattle.law_merge.specs.Alone.{IsAlone, IsFor, IsNextOf, MayAlone, acted_by, server_along}
use Rattle.server_host.specs.Desks.{Site, acted_at, ended, left_of, may_take, site_after}
use Rattle.server_host.specs.declared.step_end.StepEnd.{StepEnd}
use Rattle.server_host.specs.declared.step_end.StepEnd.TheVariants as step_end
use Rattle.server_host.proofs.Left.{left_life, left_running, left_runs, left_spent, steps_left}
use Rattle.server_loop.specs.Seat.{AreOfServer, IsLater, IsPlanned, IsSeated, Kept, MayTake, clock_along, first_site, own_record, server_of, site_in, with_record}

-- ### Lists

module _ (setting : Setting) (n : ℕ) where
  pub along_more : (server : Server) (records : List Record) (own : Record)
      → server_along setting n server (records ++ own ∷ []) ≡ (acted_by setting n (server_along setting n server records) own.step).server
  along_more server [] own = refl
  along_more server (first ∷ later) own = along_more (acted_by setting n server first.step).server later own

  alone_more : (server : Server) (clock : ℕ) (records : List Record) (own : Record) → IsAlone setting n server clock records
      → IsNextOf setting n (server_along setting n server records) (clock_along clock records) own → IsAlone setting n server clock (records ++ own ∷ [])
  alone_more server clock [] own alone next = (next, tt)
  alone_more server clock (first ∷ later) own alone next =
      (alone.0, alone_more (acted_by setting n server first.step).server first.stamp later own alone.1 next)

clock_more : (clock : ℕ) (records : List Record) (own : Record) → clock_along clock (records ++ own ∷ []) ≡ own.stamp
clock_more clock [] own = refl
clock_more clock (first ∷ later) own = clock_more first.stamp later own

-- ### The step that was taken

ended_may : (what : Step) (end : StepEnd) (server : Server) → MayAlone what server → MayAlone (ended what end) server
ended_may (Work named) step_end.Done server may = may
ended_may (Work named) (step_end.Fault commit) server may = may
ended_may (Work named) (step_end.StopIn commit) server may = may
ended_may (StopIn named) step_end.Done server may = may
ended_may (StopIn named) (step_end.Fault commit) server may = may
ended_may (StopIn named) (step_end.StopIn commit) server may = may
ended_may (Call line) end server may = may
ended_may (Deliver letter) end server may = may
ended_may Tick end server may = may
ended_may Stop end server may = may
ended_may Blank end server may = may
ended_may (Boot named) end server may = may
ended_may (Arm which plan) end server may = may
ended_may (Glance line round) end server may = may

ended_for : (what : Step) (end : StepEnd) (who : Actor) → IsFor who what → IsFor who (ended what end)
ended_for (Work named) step_end.Done who own = own
ended_for (Work named) (step_end.Fault commit) who own = own
ended_for (Work named) (step_end.StopIn commit) who own = own
ended_for (StopIn named) step_end.Done who own = own
ended_for (StopIn named) (step_end.Fault commit) who own = own
ended_for (StopIn named) (step_end.StopIn commit) who own = own
ended_for (Call line) end who own = own
ended_for (Deliver letter) end who own = own
ended_for Tick end who own = own
ended_for Stop end who own = own
ended_for Blank end who own = own
ended_for (Boot named) end who own = own
ended_for (Arm which plan) end who own = own
ended_for (Glance line round) end who own = own

ended_receives : (what : Step) (end : StepEnd) → received (ended what end) ≡ received what
ended_receives (Work named) step_end.Done = refl
ended_receives (Work named) (step_end.Fault commit) = refl
ended_receives (Work named) (step_end.StopIn commit) = refl
ended_receives (StopIn named) step_end.Done = refl
ended_receives (StopIn named) (step_end.Fault commit) = refl
ended_receives (StopIn named) (step_end.StopIn commit) = refl
ended_receives what end = refl

ended_later : (kept : Kept) (what : Step) (end : StepEnd) (stamp : ℕ) → IsLater kept what stamp → IsLater kept (ended what end) stamp
ended_later kept what end stamp later =
    let e = sym (ended_receives what end) in
    record {
      clock = later.clock;
      receives = subst (λ k. k < greatest_u64) e later.receives;
      is = subst (λ k. max (clock_along 0 kept.records) k + 1 ≤ stamp) e later.is;
    }

may_so : (what : Step) (server : Server) → MayAlone what server → may_take what server.life.running ≡ true
may_so (Call line) server may = absurd may
may_so (Deliver letter) server may = refl
may_so Tick server may = may
may_so (Work end) server may = may.0
may_so (StopIn end) server may = may.0
may_so Stop server may = may
may_so Blank server may = ap not may
may_so (Boot end) server may = ap not may.0
may_so (Arm which plan) server may = refl
may_so (Glance line round) server may = refl

-- ### Plans

same_number : (n : ℕ) → (n == n) ≡ true
same_number n = grind arith

module _ (n : ℕ) (records : List Record) (over : Bool) where
  -- the record uses what its step uses, of the plans that the earlier ones leave
  pub plans_more : (before now : Armed) → IsPlanned before (record { me = n; records = records; over = false }) → (what : Step)
      → LeavesPlans what before now → (stamp phase : ℕ) (letters : List Letter)
      → IsPlanned now (record { me = n; records = records ++ own_record n stamp phase what letters ∷ []; over = over })
  plans_more before now planned what leaves stamp phase letters =
      let next = plans_used planned.left before now (planned.rest refl) what leaves in
      record {
        left = next.0;
        come = come_more n unarmed planned.left next.0 records (own_record n stamp phase what letters) planned.come
            (subst (λ b. UsesWhere b what planned.left next.0) (sym (same_number n)) next.1);
        rest = λ ready. next.2;
      }

-- ### A seat with one record more

of_more : (n : ℕ) (records : List Record) (own : Record) → AreOfServer n records → own.actor ≡ actor.Server n → AreOfServer n (records ++ own ∷ [])
of_more n [] own all is = (is, tt)
of_more n (first ∷ later) own all is = (all.0, of_more n later own all.1 is)

module _ (setting : Setting) (site : Site) (armed : Armed) (clock me : ℕ) (records : List Record) where
  abbrev kept : Kept
  kept = record { me = me; records = records; over = false }

  grows : IsSeated setting site armed clock kept → (what : Step) (stamp phase : ℕ) → IsFor (actor.Server me) what → MayAlone what (server_of setting kept)
      → is_spent_server (server_of setting kept) ≡ false → IsLater kept what stamp → (new : Site) (left : Armed) (letters : List Letter)
      → new ≡ site_after site what → LeavesPlans what armed left → letters ≡ stamped stamp (acted_at site what).letters
      → IsSeated setting new left stamp (with_record kept stamp phase what letters)
  grows seated what stamp phase own may goes_on later new left letters is leaves sent =
      let first = (start setting).servers me in
      let now = own_record me stamp phase what letters in
      let steps = steps_left setting.servers me (server_of setting kept) what (may_so what (server_of setting kept) may) in
      let at = seated.site_is refl in
      record {
        among = seated.among;
        alone = alone_more setting me first 0 records now seated.alone (record {
          may = may;
          own_letter = own;
          clock_goes_on = later.clock;
          receives = later.receives;
          goes_on = goes_on;
          stamp = later.is;
          sent = sent ∙ ap (λ (s : Site). stamped stamp (acted_at s what).letters) at ∙ ap (stamped stamp) steps.letters;
          answer = refl;
        });
        own = of_more me records now seated.own refl;
        clock_is = sym (clock_more 0 records now);
        site_is = λ ready. is ∙ ap (λ (s : Site). site_after s what) at
            ∙ ap (λ (s : Server). record { me = me; servers = setting.servers; server = s })
            (steps.left ∙ ap left_of (sym (along_more setting me first records now)));
        planned = plans_more me records false armed left seated.planned what leaves stamp phase letters;
      }

-- the same, by what each call on the way gave
pub grown_seat : (setting : Setting) (site : Site) (armed : Armed) (clock : ℕ) (kept : Kept) → IsSeated setting site armed clock kept → (now : Kept)
    → kept ≡ now → now.over ≡ false → (named : Step) (end : StepEnd) (stamp phase : ℕ) → IsFor (actor.Server now.me) named → MayTake setting now named stamp
    → (new : Site) (left : Armed) (given : List Letter) → new ≡ site_after site (ended named end) → LeavesPlans (ended named end) armed left
    → given ≡ (acted_at site (ended named end)).letters → (letters : List Letter) → letters ≡ stamped stamp given
    → (records : List Record) → records ≡ kept.records ++ own_record kept.me stamp phase (ended named end) letters ∷ []
    → IsSeated setting new left stamp (record { me = kept.me; records = records; over = false })
grown_seat setting site armed clock kept seated now same ready named end stamp phase own may new left given is leaves gave letters said records more =
    let over : kept.over ≡ false = ap (λ (k : Kept). k.over) same ∙ ready in
    let plain : kept ≡ record { me = kept.me; records = kept.records; over = false } = λ i. record { me = kept.me; records = kept.records; over = over i } in
    let at = sym same ∙ plain in
    let made = grows setting site armed clock kept.me kept.records (subst (IsSeated setting site armed clock) plain seated) (ended named end) stamp phase
    (ended_for named end (actor.Server kept.me) (subst (λ (k : Kept). IsFor (actor.Server k.me) named) (sym same) own))
    (ended_may named end _ (subst (λ (k : Kept). MayAlone named (server_of setting k)) at may.may))
    (subst (λ (k : Kept). is_spent_server (server_of setting k) ≡ false) at may.goes_on)
    (ended_later _ named end stamp (subst (λ (k : Kept). IsLater k named stamp) at may.later))
    new left letters is leaves (said ∙ ap (stamped stamp) gave) in
    subst (λ (rs : List Record). IsSeated setting new left stamp (record { me = kept.me; records = rs; over = false })) (sym more) made

-- nothing more is said of the server of a seat that is given up
pub given_up : (setting : Setting) (site : Site) (armed : Armed) (clock : ℕ) (kept : Kept) → IsSeated setting site armed clock kept
    → (new : Site) (left : Armed) → IsSeated setting new left clock (record kept { over = true })
given_up setting site armed clock kept seated new left = record {
  among = seated.among;
  alone = seated.alone;
  own = seated.own;
  clock_is = seated.clock_is;
  site_is = λ ready. absurd cc;
  planned = record { left = seated.planned.left; come = seated.planned.come; rest = λ ready. absurd cc };
}

-- ### What the seat's server tells

one_later : (a stamp : ℕ) → stamp ≡ a + 1 → a < stamp
one_later a stamp is = omega arith

at_most : (a b : ℕ) → a ≤ b → b < greatest_u64 → a < greatest_u64
at_most a b less among = omega arith

less_received : (clock a least stamp : ℕ) → a ≤ least → max clock least < stamp → max clock a + 1 ≤ stamp
less_received clock a least stamp less later = grind arith

-- what is left of a server may take the same steps
may_left : (what : Step) (server : Server) → MayAlone what (left_of server) → MayAlone what server
may_left (Call line) server may = may
may_left (Deliver letter) server may = may
may_left Tick server may = sym (left_runs server) ∙ may
may_left (Work end) server may =
    let on : server.life.running ≡ true = sym (left_runs server) ∙ may.0 in
    (on, λ none. may.1 (ap (λ (s : Server). s.queue) (left_running server on) ∙ none))
may_left (StopIn end) server may =
    let on : server.life.running ≡ true = sym (left_runs server) ∙ may.0 in
    (on, λ none. may.1 (ap (λ (s : Server). s.queue) (left_running server on) ∙ none))
may_left Stop server may = sym (left_runs server) ∙ may
may_left Blank server may = sym (left_runs server) ∙ may
may_left (Boot end) server may =
    (sym (left_runs server) ∙ may.0, subst (λ (life : Life). life.inc < greatest_u32) (left_life server) may.1)
may_left (Arm which plan) server may = may
may_left (Glance line round) server may = may

module _ (setting : Setting) (site : Site) (armed : Armed) (clock : ℕ) (kept now : Kept) (seated : IsSeated setting site armed clock kept) (same : kept ≡ now)
    (ready : now.over ≡ false) where
  site_so : site ≡ site_in setting now
  site_so = seated.site_is (ap (λ (k : Kept). k.over) same ∙ ready) ∙ ap (site_in setting) same

  pub runs_so : (running : Bool) → running ≡ site.server.life.running → running ≡ (server_of setting now).life.running
  runs_so running is = is ∙ ap (λ (s : Site). s.server.life.running) site_so ∙ left_runs (server_of setting now)

  spent_so : is_spent_server site.server ≡ false → is_spent_server (server_of setting now) ≡ false
  spent_so e = sym (left_spent (server_of setting now)) ∙ sym (ap (λ (s : Site). is_spent_server s.server) site_so) ∙ e

  clock_so : clock ≡ clock_along 0 now.records
  clock_so = seated.clock_is ∙ ap (λ (k : Kept). clock_along 0 k.records) same

  -- the next stamp is one of a step that the server may take
  pub may_take_so : (what : Step) (least stamp : ℕ) → received what ≤ least → MayAlone what site.server → is_spent_server site.server ≡ false
      → stamp ≡ max clock least + 1 → clock < greatest_u64 → least < greatest_u64
      → MayTake setting now what stamp × (max (clock_along 0 now.records) least < stamp)
  may_take_so what least stamp receives may goes_on is within among =
      let at = clock_so in
      let later : max (clock_along 0 now.records) least < stamp = subst (λ k. max k least < stamp) at (one_later (max clock least) stamp is) in (
        record {
          may = may_left what (server_of setting now) (subst (λ (s : Site). MayAlone what s.server) site_so may);
          goes_on = spent_so goes_on;
          later = record {
            clock = subst (λ k. k < greatest_u64) at within;
            receives = at_most (received what) least receives among;
            is = less_received (clock_along 0 now.records) (received what) least stamp receives later;
          };
        },
        later,
      )

-- ### A seat whose server has taken no step

first_left : (setting : Setting) (n : ℕ) (among : Bool) → among ≡ true → first_site setting n
    ≡ record { me = n; servers = setting.servers; server = left_of (first_server among setting.slots) }
first_left setting n among is = λ i. record { me = n; servers = setting.servers; server = left_of (first_server (sym is i) setting.slots) }

is_among : (n servers : ℕ) → n < servers → nat_lt n servers ≡ true
is_among n servers less = grind arith

pub first_seated : (setting : Setting) (site : Site) (armed : Armed) (n : ℕ) (records : List Record) → n < setting.servers → site ≡ first_site setting n
    → armed ≡ unarmed → records ≡ [] → IsSeated setting site armed 0 (record { me = n; records = records; over = false })
first_seated setting site armed n records less first free none =
    let none_left : AreLeftOf unarmed unarmed = record { stored = tt; kept = tt } in
    subst (λ (rs : List Record). IsSeated setting site armed 0 (record { me = n; records = rs; over = false })) (sym none)
    (record {
      among = less;
      alone = tt;
      own = tt;
      clock_is = refl;
      site_is = λ ready. first ∙ first_left setting n (nat_lt n setting.servers) (is_among n setting.servers less);
      planned = record { left = unarmed; come = refl; rest = λ ready. subst (λ (a : Armed). AreLeftOf unarmed a) (sym free) none_left };
    })

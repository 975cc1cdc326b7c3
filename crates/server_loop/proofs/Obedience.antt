-- A line's steps, one after the other.
use Rattle.std.proofs.Common.{◌≡◌, ℕ, ◌<◌, ◌≤◌, Bool, true, false, List, [], ◌∷◌, Option, Some, None, drop, length, refl, sym, ap, ◌∙◌, subst, arith}
use Rattle.std.specs.Prelude.{IfOk, OnErr, Result, Ok, Err}
use Rattle.std.proofs.Math.Seq.{drop-append_seam}
use Rattle.std.proofs.lemmas.List.{append-nil, append_assoc}
use Rattle.std.proofs.lemmas.List.Elements.{All-cons, All-nil}
use Rattle.petal_msg.specs.declared.letter.Letter.{Letter}
use Rattle.script_lines.specs.Requests.{names}
use Rattle.script_lines.specs.declared.request.Line.{Line}
use Rattle.spec_rules.specs.Plans.{Armed}
use Rattle.spec_rules.specs.Server.{Server}
use Rattle.spec_rules.specs.World.{Setting, start}
use Rattle.spec_rules.specs.declared.step.Step.{Step}
use Rattle.spec_rules.specs.declared.step.Step.TheVariants.{Glance}
use Rattle.spec_history.specs.Controls.{Arms, Blanks, Boots, Given, ObeysAs, Stops, due, steps_of}
use Rattle.spec_history.specs.declared.record.Record.{Record}
use Rattle.petal_world.specs.Errands.{first_step, given_in, given_of}
use Rattle.petal_world.specs.declared.errand.Deed.{Deed}
use Rattle.petal_world.specs.declared.errand.Deed.TheVariants as deed
use Rattle.law_merge.specs.OwnLines.{Duty, GlancesAtFirst, KeepsToLines, duty_after, duty_of}
use Rattle.server_host.specs.Desks.{Site, ended}
use Rattle.server_host.specs.declared.step_end.StepEnd.{StepEnd}
use Rattle.server_loop.specs.Obeying.{HasBegun, HasGiven, HasGivenAll, HasObeyed, IsGivenBy, IsOfLine, duty_with, next_step, sent_in, step_of}
use Rattle.server_loop.specs.Seat.{IsGrownByAfter, IsSeated, Kept, own_record, server_of, with_record}
use Rattle.server_loop.proofs.Growing.{along_more, runs_so}

-- ### Results

pub on_err : {T E P : Type 0} (r : Result T E) → P → OnErr r P
on_err (Ok x) holds = tt
on_err (Err e) holds = holds

pub if_ok_weaker : {T E : Type 0} {P Q : T → Type 0} (r : Result T E) → ((x : T) → P x → Q x) → IfOk r P → IfOk r Q
if_ok_weaker (Ok x) weaker told = weaker x told
if_ok_weaker (Err e) weaker told = told

-- ### One step

of_line : (number : ℕ) (d : Deed) (end : StepEnd) → IsOfLine number (ended (step_of d) end)
of_line number deed.Stop end = tt
of_line number deed.Blank end = tt
of_line number (deed.Arm which plan) end = tt
of_line number deed.Boot end = tt

obeys_first : (d : Deed) (end : StepEnd) (n : ℕ) (running begun : Bool) (left later : List Given) → due running left ≡ given_of d ∷ later
    → ObeysAs (ended (step_of d) end) (record { server = Some n; left = left; begun = begun }) n running
obeys_first deed.Stop end n running begun left later is = record { server = refl; later = later; is = is }
obeys_first deed.Blank end n running begun left later is = record { server = refl; later = later; is = is }
obeys_first (deed.Arm which plan) end n running begun left later is = record { server = refl; later = later; is = is }
obeys_first deed.Boot end n running begun left later is = record { server = refl; later = later; is = is }

no_glance : (d : Deed) (end : StepEnd) (lines : List Line) → GlancesAtFirst (ended (step_of d) end) lines
no_glance deed.Stop end lines = tt
no_glance deed.Blank end lines = tt
no_glance (deed.Arm which plan) end lines = tt
no_glance deed.Boot end lines = tt

-- what is left then
left_then : (d : Deed) (end : StepEnd) (n : ℕ) (running begun : Bool) (left later : List Given) (line : Line) → due running left ≡ given_of d ∷ later
    → duty_with n true later line ≡ duty_after (ended (step_of d) end) running (duty_with n begun left line)
left_then deed.Stop end n running begun left later line is = λ i. duty_with n true (drop 1 (sym is i)) line
left_then deed.Blank end n running begun left later line is = λ i. duty_with n true (drop 1 (sym is i)) line
left_then (deed.Arm which plan) end n running begun left later line is = λ i. duty_with n true (drop 1 (sym is i)) line
left_then deed.Boot end n running begun left later line is = λ i. duty_with n true (drop 1 (sym is i)) line

-- ### Records

module _ (setting : Setting) (line : Line) (called : ℕ) (left : List Given) (old : Kept) where
  abbrev running : Bool
  running = (server_of setting old).life.running

  -- the line has given each step, and its glance comes
  glanced_at : (stamp phase : ℕ) (letters : List Letter) → called < stamp → due running left ≡ []
      → HasGivenAll setting line called left old (with_record old stamp phase (Glance line.number 0) letters)
  glanced_at stamp phase letters later all =
      let own = own_record old.me stamp phase (Glance line.number 0) letters in
      record {
        given = record {
          more = own ∷ [];
          is = refl;
          each = All-cons (IsGivenBy old.me line.number called) own [] (record { actor_is = refl; later = later; of_line = (refl, refl) })
              (All-nil (IsGivenBy old.me line.number called));
          keeps = λ begun. (record { server = refl; all = all }, refl, tt);
        };
        ends = record { before = []; glance = own; is = refl; shows = refl };
      }

  pub last_given : (new : Kept) (letters : List Letter) → due running left ≡ [] → IsGrownByAfter called old new (Glance line.number 0) letters
      → HasGivenAll setting line called left old new
  last_given new letters all grown =
      let g = grown.grown in
      subst (HasGivenAll setting line called left old) (sym g.is) (glanced_at g.stamp g.phase letters g.later all)

  -- one step is given, and then others
  module _ (d : Deed) (later : List Given) (is : due running left ≡ given_of d ∷ later) where
    abbrev next_given : (stamp phase : ℕ) (end : StepEnd) (letters : List Letter) → called < stamp → (new : Kept)
        → HasGiven setting line called later (with_record old stamp phase (ended (step_of d) end) letters) new → HasGiven setting line called left old new
    next_given stamp phase end letters above new given =
        let what = ended (step_of d) end in
        let own = own_record old.me stamp phase what letters in
        let server = server_of setting old in
        record {
          more = own ∷ given.more;
          is = given.is ∙ ap (λ (rs : List Record). record old { records = rs }) (append_assoc old.records (own ∷ []) given.more);
          each = All-cons (IsGivenBy old.me line.number called) own given.more
              (record { actor_is = refl; later = above; of_line = of_line line.number d end }) given.each;
          keeps = λ begun. (
            obeys_first d end old.me running begun left later is,
            no_glance d end (line ∷ []),
            subst (λ (s : Server). KeepsToLines setting old.me s (duty_after what running (duty_with old.me begun left line)) given.more)
                (along_more setting old.me ((start setting).servers old.me) old.records own)
                (subst (λ (duty : Duty). KeepsToLines setting old.me (server_of setting (with_record old stamp phase what letters)) duty given.more)
                (left_then d end old.me running begun left later line is) (given.keeps true)),
          );
        }

    pub more_given : (mid new : Kept) (letters : List Letter) → IsGrownByAfter called old mid (step_of d) letters
        → HasGiven setting line called later mid new → HasGiven setting line called left old new
    more_given mid new letters grown given =
        let g = grown.grown in
        next_given g.stamp g.phase grown.end letters g.later new (subst (λ (k : Kept). HasGiven setting line called later k new) g.is given)

    pub all_given : (mid new : Kept) (letters : List Letter) → IsGrownByAfter called old mid (step_of d) letters
        → HasGivenAll setting line called later mid new → HasGivenAll setting line called left old new
    all_given mid new letters grown whole =
        let g = grown.grown in
        let rest = subst (λ (k : Kept). HasGivenAll setting line called later k new) g.is whole in
        let given = next_given g.stamp g.phase grown.end letters g.later new rest.given in
        let own = own_record old.me g.stamp g.phase (ended (step_of d) grown.end) letters in
        record {
          given = given;
          ends = record {
            before = own ∷ rest.ends.before;
            glance = rest.ends.glance;
            is = ap (λ (rs : List Record). own ∷ rs) rest.ends.is;
            shows = rest.ends.shows;
          };
        }

-- none was taken
pub none_given : (setting : Setting) (line : Line) (called : ℕ) (left : List Given) (old new : Kept) → new ≡ old → HasGiven setting line called left old new
none_given setting line called left old new is = subst (HasGiven setting line called left old) (sym is) (record {
  more = [];
  is = ap (λ (rs : List Record). record old { records = rs }) (sym (append-nil old.records));
  each = All-nil (IsGivenBy old.me line.number called);
  keeps = λ begun. tt;
})

-- the same of seats that are given up
pub over_grown : (called : ℕ) (old mid : Kept) (d : Deed) (letters : List Letter) → IsGrownByAfter called old mid (step_of d) letters
    → IsGrownByAfter called (record old { over = true }) (record mid { over = true }) (step_of d) letters
over_grown called old mid d letters grown =
    let g = grown.grown in
    record { end = grown.end; grown = record { stamp = g.stamp; phase = g.phase; later = g.later; is = ap (λ (k : Kept). record k { over = true }) g.is } }

-- ### What comes next

due_shorter : (running : Bool) (given : List Given) → length (due running given) ≤ length given
due_shorter true [] = omega arith
due_shorter false [] = omega arith
due_shorter true (Stops ∷ later) = omega arith
due_shorter true (Blanks ∷ later) = omega arith
due_shorter true (Arms which plan ∷ later) = omega arith
due_shorter true (Boots ∷ later) = omega arith
due_shorter false (Stops ∷ later) = omega arith
due_shorter false (Blanks ∷ later) = omega arith
due_shorter false (Arms which plan ∷ later) = omega arith
due_shorter false (Boots ∷ later) = omega arith

first_none : (given : List Given) → first_step given ≡ None → given ≡ []
first_none [] is = refl
first_none (first ∷ later) is = absurd cc

first_some : (given : List Given) (g : Given) → first_step given ≡ Some g → given ≡ g ∷ drop 1 given
first_some [] g is = absurd cc
first_some (first ∷ later) g is = let same : first ≡ g = cc in ap (λ x. x ∷ later) same

-- fewer steps are left after one
pub fewer_left : (running : Bool) (left dues rest : List Given) (first : Option Deed) (d : Deed) → dues ≡ due running left → given_in first ≡ first_step dues
    → first ≡ Some d → rest ≡ drop 1 dues → length rest < length left
fewer_left running left dues rest first d is tells some then =
    let one = first_some dues (given_of d) (sym tells ∙ ap given_in some) in
    let shorter = due_shorter running left in
    let same = ap length is in
    let long = ap length one in
    let less = ap length then in
    omega (arith, shorter, same, long, less)

module _ (setting : Setting) (site : Site) (armed : Armed) (clock : ℕ) (kept now : Kept) (seated : IsSeated setting site armed clock kept) (same : kept ≡ now)
    (ready : now.over ≡ false) (running : Bool) (runs : running ≡ site.server.life.running) (line : Line) (called : ℕ) (left dues : List Given)
    (is : dues ≡ due running left) (first : Option Deed) (tells : given_in first ≡ first_step dues) (mid : Kept) (letters : List Letter)
    (grown : IsGrownByAfter called now mid (next_step line.number first) letters) where
  dues_so : due (server_of setting now).life.running left ≡ dues
  dues_so = ap (λ b. due b left) (sym (runs_so setting site armed clock kept now seated same ready running runs)) ∙ sym is

  -- the glance came
  pub glance_given : first ≡ None → HasGivenAll setting line called left now mid
  glance_given none =
      last_given setting line called left now mid letters (dues_so ∙ first_none dues (sym tells ∙ ap given_in none))
      (subst (λ (d : Option Deed). IsGrownByAfter called now mid (next_step line.number d) letters) none grown)

  -- a step was given, and what is left then
  module _ (d : Deed) (some : first ≡ Some d) (rest : List Given) (then : rest ≡ drop 1 dues) (new : Kept) where
    comes : due (server_of setting now).life.running left ≡ given_of d ∷ rest
    comes = dues_so ∙ first_some dues (given_of d) (sym tells ∙ ap given_in some) ∙ ap (λ gs. given_of d ∷ gs) (sym then)

    step_grown : IsGrownByAfter called now mid (step_of d) letters
    step_grown = subst (λ (o : Option Deed). IsGrownByAfter called now mid (next_step line.number o) letters) some grown

    pub all_given_so : HasGivenAll setting line called rest mid new → HasGivenAll setting line called left now new
    all_given_so given = all_given setting line called left now d rest comes mid new letters step_grown given

    pub some_given_so : HasGiven setting line called rest (record mid { over = true }) new → HasGiven setting line called left (record now { over = true }) new
    some_given_so given =
        more_given setting line called left (record now { over = true }) d rest comes (record mid { over = true }) new letters
        (over_grown called now mid d letters step_grown) given

-- a seat that took a step goes on
pub still_ready : (least : ℕ) (now mid : Kept) (what : Step) (letters : List Letter) → IsGrownByAfter least now mid what letters → now.over ≡ false
    → mid.over ≡ false
still_ready least now mid what letters grown ready = ap (λ (k : Kept). k.over) grown.grown.is ∙ ready

-- ### A whole line

pub whole_duty : (n : ℕ) (line : Line) → (names line.request).server ≡ Some n → duty_with n false (steps_of line.request) line ≡ duty_of (line ∷ [])
whole_duty n line is = λ i. record { lines = line ∷ []; errand = record { server = sym is i; left = steps_of line.request; begun = false } }

module _ (setting : Setting) (line : Line) (called : ℕ) (old new : Kept) (is : (names line.request).server ≡ Some old.me) where
  abbrev pub has_begun : HasGiven setting line called (steps_of line.request) old new → HasBegun setting line called old new
  has_begun given = record {
    more = given.more;
    is = given.is;
    each = given.each;
    keeps = subst (λ (duty : Duty). KeepsToLines setting old.me (server_of setting old) duty given.more) (whole_duty old.me line is) (given.keeps false);
  }

  pub has_obeyed : HasGivenAll setting line called (steps_of line.request) old new → (letters : List Letter)
      → letters ≡ sent_in (drop (length old.records) new.records) → HasObeyed setting line called old new letters
  has_obeyed whole letters sent = record {
    begun = has_begun whole.given;
    ends = whole.ends;
    sent = sent ∙ ap (λ (k : Kept). sent_in (drop (length old.records) k.records)) whole.given.is ∙ ap sent_in (drop-append_seam old.records whole.given.more);
  }

  -- what is told of the records' letters, by their place
  pub obeyed_then : (given : List Given) → given ≡ steps_of line.request → HasGivenAll setting line called given old new → (from : ℕ)
      → from ≡ length old.records → (letters : List Letter) → letters ≡ sent_in (drop from new.records) → (last : Kept) → last ≡ new
      → HasObeyed setting line called old last letters
  obeyed_then given steps whole from place letters sent last same =
      subst (λ (k : Kept). HasObeyed setting line called old k letters) (sym same)
      (has_obeyed (subst (λ gs. HasGivenAll setting line called gs old new) steps whole) letters
      (sent ∙ ap (λ n. sent_in (drop n new.records)) place))

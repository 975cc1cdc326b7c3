-- What is written at the end of a phase.
use Rattle.std.proofs.Common.{◌≡◌, ◌≤◌, ℕ, ◌+◌, true, false, List, [], ◌∷◌, ◌++◌, length, take, is_some, refl, sym, ap, ◌∙◌, subst}
use Rattle.std.proofs.Common.{append_assoc, arith, Option, Some, None, Result, Ok, Err}
use Rattle.std.proofs.lemmas.Bool.Decides.{nat_tests}
use Rattle.std.specs.Prelude.{nat_lt}
use Rattle.std.proofs.Math.Seq.{take-append_seam, take-append-add}
use Rattle.std.specs.Ordering.{nat_cmp}
use Rattle.spec_history.specs.Order.{AreRising, AnsweredComeFirst, AnswersPhases, all_answered}
use Rattle.server_host.specs.Playable.{AreOrdered}
use Rattle.script_lines.specs.declared.request.Line.{Line}
use Rattle.byte_streams.specs.Streams.{Adds}
use Rattle.petal_table.specs.Table.{Table}
use Rattle.petal_table.proofs.Rows.{at-empty}
use Rattle.script_lines.specs.declared.answer.Answer.{Answer}
use Rattle.script_lines.specs.declared.script.Script.{Script}
use Rattle.petal_script.specs.Script.{Refusal, script_of}
use Rattle.spec_history.specs.Claims.{Keeps}
use Rattle.spec_rules.specs.Plans.{unarmed}
use Rattle.spec_history.specs.Legal.{IsLegal}
use Rattle.spec_history.specs.Steps.{AreSteps}
use Rattle.spec_history.specs.Text.{answers_of, text_of}
use Rattle.spec_history.specs.declared.record.Record.{Record}
use Rattle.plain_schedule.specs.Phases.{Progress, GoesByPhases, Ends, records_of}
use Rattle.call_words.specs.declared.form.Form.{Form}
use Rattle.call_words.specs.declared.form.Form.TheVariants as forms
use Rattle.petal_drill.specs.Drill.{drill_text}
use Rattle.petal_drill.specs.Summary.{summary}
use Rattle.petal_run.specs.Asked.{Play, Drill, by_text, by_form}
use Rattle.petal_run.specs.Said.{Done, DoneInPart, EndsWithPhase, WrittenByPhases, WrotePhases, WroteInPhase}
use Rattle.petal_run.specs.Written.{Wrote, text_of_answers}

append_nil : {A : Type 0} (xs : List A) → xs ++ [] ≡ xs
append_nil [] = refl
append_nil (x ∷ xs) = ap (λ more. x ∷ more) (append_nil xs)

abbrev pub JoinsText : Script → Type 0
JoinsText script = (prefix suffix : List Record) → AreRising script.lines → AreSteps script (prefix ++ suffix) → AnsweredComeFirst script.lines prefix
    → text_of (prefix ++ suffix) ≡ text_of prefix ++ text_of suffix

-- where the lines that are answered are those of the first phases, they come first
pub come_first : (phases : ℕ) (lines : List Line) (records : List Record) → AreOrdered lines → AnswersPhases phases lines records
    → AnsweredComeFirst lines records
come_first phases lines records ordered exactly one other h k given none =
    let low : nat_lt one.phase phases ≡ true = sym (exactly one h) ∙ given in
    let high : nat_lt other.phase phases ≡ false = sym (exactly other k) ∙ none in
    let up : other.number ≤ one.number → other.phase ≤ one.phase = ordered other one k h in
    grind (arith, nat_tests, low, high, up)

pub added_on : (base prefix more whole old new : List ℕ) → whole ≡ prefix ++ more → old ≡ base ++ prefix → Adds old more new → Adds base whole new
added_on base prefix more whole old new is stood a = record {
  count = length prefix + a.count;
  new_is = a.new_is ∙ ap (λ t. t ++ take a.count more) stood ∙ append_assoc base prefix (take a.count more)
      ∙ ap (λ t. base ++ t) (sym (take-append-add prefix more a.count) ∙ ap (take (length prefix + a.count)) (sym is));
}

-- what stood written before a phase that has ended
pub wrote_before : (old new : Progress) (answers : Table ℕ Answer) → new.script ≡ old.script → GoesByPhases old → Ends old new answers
    → (base taken : List ℕ) → Wrote base old.ended taken → WrotePhases new.script (records_of new) base taken
wrote_before old new answers same before e base taken w = record {
  ended = old.ended;
  phases = old.phases;
  prefix = record { following = e.phase ++ new.since; is = ap (λ r. r ++ new.since) e.ended ∙ append_assoc old.ended e.phase new.since };
  exactly = subst (λ (s : Script). AnswersPhases old.phases s.lines old.ended) (sym same) before.exactly;
  text = w;
}

pub wrote_so_far : (new : Progress) → GoesByPhases new → (base taken : List ℕ) → Wrote base new.ended taken → WrotePhases new.script (records_of new) base taken
wrote_so_far new after base taken w =
    record { phases = new.phases; ended = new.ended; prefix = record { following = new.since; is = refl }; exactly = after.exactly; text = w }

-- what stands written where the text of the phase that ended is written in part
pub wrote_last : (old new : Progress) (answers : Table ℕ Answer) → new.script ≡ old.script → GoesByPhases old → GoesByPhases new → Ends old new answers
    → (base stood taken : List ℕ) → Wrote base old.ended stood → Adds stood (text_of_answers answers) taken
    → WroteInPhase new.script (records_of new) base taken
wrote_last old new answers same before after e base stood taken wrote adds =
    let all : records_of new ≡ new.ended = ap (λ r. new.ended ++ r) e.since ∙ append_nil new.ended in
    record {
      phase = old.phases;
      ended = old.ended;
      last = e.phase;
      history_is = all ∙ e.ended;
      before = subst (λ (s : Script). AnswersPhases old.phases s.lines old.ended) (sym same) before.exactly;
      whole = subst (λ (n : ℕ). AnswersPhases n new.script.lines (records_of new)) e.phases
          (subst (AnswersPhases new.phases new.script.lines) (sym all) after.exactly);
      text = subst (λ (t : List ℕ). Adds t (text_of e.phase) taken) wrote
          (subst (λ (rows : Table ℕ Answer). Adds stood (text_of_answers rows) taken) e.gave adds);
    }

-- ### The whole run

pub adds_phases : (script : Script) (history : List Record) (old new : List ℕ) → JoinsText script → AreRising script.lines → AreOrdered script.lines
    → IsLegal script history → WrotePhases script history old new → Adds old (text_of history) new
adds_phases script history old new joins rising ordered legal w =
    let first = come_first w.phases script.lines w.ended ordered w.exactly in
    let is : text_of history ≡ text_of w.ended ++ text_of w.prefix.following = ap text_of w.prefix.is
    ∙ joins w.ended w.prefix.following rising (subst (IsLegal script) w.prefix.is legal).steps first in
    record {
      count = length (text_of w.ended);
      new_is = w.text
          ∙ ap (λ t. old ++ t) (sym (take-append_seam (text_of w.ended) (text_of w.prefix.following)) ∙ ap (take (length (text_of w.ended))) (sym is));
    }

pub adds_last : (script : Script) (history : List Record) (old new : List ℕ) → JoinsText script → AreRising script.lines → AreOrdered script.lines
    → IsLegal script history → WroteInPhase script history old new → Adds old (text_of history) new
adds_last script history old new joins rising ordered legal w =
    let first = come_first w.phase script.lines w.ended ordered w.before in
    let is : text_of history ≡ text_of w.ended ++ text_of w.last = ap text_of w.history_is
    ∙ joins w.ended w.last rising (subst (IsLegal script) w.history_is legal).steps first in
    added_on old (text_of w.ended) (text_of w.last) (text_of history) (old ++ text_of w.ended) new is refl w.text

-- ### Nothing is done

pub none_added : (old bytes : List ℕ) → Adds old bytes old
none_added old bytes = record { count = 0; new_is = sym (append_nil old) }

pub none_wrote : (script : Script) (old : List ℕ) → WrotePhases script [] old old
none_wrote script old = record {
  phases = 0;
  ended = [];
  prefix = record { following = []; is = refl };
  exactly = λ line h. ap is_some (at-empty nat_cmp line.number) ∙ sym (none_below line.phase);
  text = sym (append_nil old);
}
  where
    none_below : (phase : ℕ) → nat_lt phase 0 ≡ false
    none_below phase = grind (arith, nat_tests)

abbrev pub KeepsLaw : Type 0
KeepsLaw = (text : List ℕ) (script : Script) (records : List Record) → script_of text ≡ Ok script → AreSteps script records → Keeps script records

pub nothing_legal : (script : Script) → IsLegal script []
nothing_legal script = record { steps = tt; obey = tt; planned = λ n. (unarmed, refl) }

nothing_of : (text : List ℕ) (r : Result Script Refusal) (old : List ℕ) → KeepsLaw → script_of text ≡ r → DoneInPart (by_text r) [] old old
nothing_of text (Err refusal) old law is = (refl, none_added old _)
nothing_of text (Ok script) old law is = (nothing_legal script, law text script [] is tt, none_added old _)

nothing_drilled : (seed count : ℕ) (r : Result Script Refusal) (old : List ℕ) → KeepsLaw → script_of (drill_text seed count) ≡ r
    → DoneInPart (Drill seed count r) [] old old
nothing_drilled seed count (Err refusal) old law is = (refl, refl)
nothing_drilled seed count (Ok script) old law is = (nothing_legal script, law (drill_text seed count) script [] is tt, none_added old _)

pub nothing_done : KeepsLaw → (form : Option Form) (text old : List ℕ) → DoneInPart (by_form form text) [] old old
nothing_done law None text old = (refl, none_added old _)
nothing_done law (Some forms.Run) text old = nothing_of text (script_of text) old law refl
nothing_done law (Some (forms.Drill seed count)) text old = nothing_drilled seed count (script_of (drill_text seed count)) old law refl

nothing_of_wrote : (r : Result Script Refusal) (old : List ℕ) → WrittenByPhases (by_text r) [] old old
nothing_of_wrote (Err refusal) old = refl
nothing_of_wrote (Ok script) old = none_wrote script old

pub nothing_wrote : (form : Option Form) (text old : List ℕ) → WrittenByPhases (by_form form text) [] old old
nothing_wrote None text old = refl
nothing_wrote (Some forms.Run) text old = nothing_of_wrote (script_of text) old
nothing_wrote (Some (forms.Drill seed count)) text old = refl

-- ### How a play ends

-- the history of a play, where no record came after the phases that have ended
pub ended_all : (p : Progress) (history : List Record) → history ≡ records_of p → p.since ≡ [] → history ≡ p.ended
ended_all p history is none = is ∙ ap (λ r. p.ended ++ r) none ∙ append_nil p.ended

pub done_play : (script : Script) (p : Progress) (history : List Record) (status : ℕ) (old new : List ℕ) → status ≡ 0 → p.script ≡ script
    → history ≡ p.ended → all_answered (answers_of p.ended) p.script.lines ≡ true
    → IsLegal script history → Keeps script history → Wrote old p.ended new → Done (Play script) status history [] old new
done_play script p history status old new ended same is whole legal keeps wrote = (
  ended,
  refl,
  record {
    legal = legal;
    whole = ap (λ r. all_answered (answers_of r) script.lines) is
        ∙ ap (λ (s : Script). all_answered (answers_of p.ended) s.lines) (sym same) ∙ whole;
    keeps = keeps;
  },
  wrote ∙ ap (λ r. old ++ text_of r) (sym is),
)

pub play_legal : (script : Script) (p : Progress) (history : List Record) → p.script ≡ script → history ≡ records_of p
    → IsLegal p.script (records_of p) → IsLegal script history
play_legal script p history same is legal = subst (IsLegal script) (sym is) (subst (λ (s : Script). IsLegal s (records_of p)) same legal)

pub play_wrote : (script : Script) (p : Progress) (history : List Record) (old new : List ℕ) → p.script ≡ script → history ≡ records_of p
    → WrotePhases p.script (records_of p) old new → WrotePhases script history old new
play_wrote script p history old new same is w =
    subst (λ (r : List Record). WrotePhases script r old new) (sym is) (subst (λ (s : Script). WrotePhases s (records_of p) old new) same w)

pub play_last : (script : Script) (p : Progress) (history : List Record) (old new : List ℕ) → p.script ≡ script → history ≡ records_of p
    → WroteInPhase p.script (records_of p) old new → WroteInPhase script history old new
play_last script p history old new same is w =
    subst (λ (r : List Record). WroteInPhase script r old new) (sym is) (subst (λ (s : Script). WroteInPhase s (records_of p) old new) same w)

pub play_ends : (script : Script) (p : Progress) (history : List Record) → p.script ≡ script → history ≡ p.ended → GoesByPhases p
    → EndsWithPhase (Play script) history
play_ends script p history same is g = (
  p.phases,
  subst (λ (r : List Record). AnswersPhases p.phases script.lines r) (sym is)
      (subst (λ (s : Script). AnswersPhases p.phases s.lines p.ended) same g.exactly),
)

-- ### How a drill ends

pub drill_ends : (script : Script) (p : Progress) (history : List Record) → p.script ≡ script → history ≡ records_of p
    → all_answered (answers_of (records_of p)) p.script.lines ≡ true → all_answered (answers_of history) script.lines ≡ true
drill_ends script p history same is whole =
    ap (λ r. all_answered (answers_of r) script.lines) is
    ∙ ap (λ (s : Script). all_answered (answers_of (records_of p)) s.lines) (sym same) ∙ whole

pub drill_adds : (seed count : ℕ) (script : Script) (p : Progress) (history : List Record) (old new : List ℕ) → p.script ≡ script → history ≡ records_of p
    → Adds old (summary seed count p.script.lines (answers_of (records_of p))) new
    → Adds old (summary seed count script.lines (answers_of history)) new
drill_adds seed count script p history old new same is adds =
    subst (λ (r : List Record). Adds old (summary seed count script.lines (answers_of r)) new) (sym is)
    (subst (λ (s : Script). Adds old (summary seed count s.lines (answers_of (records_of p))) new) same adds)

-- the answers of the history of a drill are those of its play
pub done_drill : (seed count : ℕ) (script : Script) (p : Progress) (history : List Record) (status : ℕ) (old new : List ℕ) → status ≡ 0
    → p.script ≡ script → history ≡ records_of p → all_answered (answers_of (records_of p)) p.script.lines ≡ true
    → IsLegal script history → Keeps script history → new ≡ old ++ summary seed count p.script.lines (answers_of (records_of p))
    → Done (Drill seed count (Ok script)) status history [] old new
done_drill seed count script p history status old new ended same is whole legal keeps wrote = (
  ended,
  record {
    legal = legal;
    whole = drill_ends script p history same is whole;
    keeps = keeps;
  },
  wrote ∙ ap (λ (s : Script). old ++ summary seed count s.lines (answers_of (records_of p))) same
      ∙ ap (λ r. old ++ summary seed count script.lines (answers_of r)) (sym is),
)

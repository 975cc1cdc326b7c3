-- A line is called once.
use Rattle.law_answers.proofs.Imports.{[], ◌++◌, ◌+◌, ◌∙◌, ◌∷◌, ◌≡◌, ◌≤◌, Actor, AreRising, AreSteps, AreStepsFrom, At, Call, Client, IsMoment, Line, List}
use Rattle.law_answers.proofs.Imports.{MayActor, Record, Script, Setting, Some, World, ap, arith, lines_of, prefix_legal, put_same, setting_of, slice_get}
use Rattle.law_answers.proofs.Imports.{start, step, stepped, subst, sym, world_after, ℕ}
use Rattle.law_answers.proofs.ListPositions.{one_moment}
use Rattle.law_answers.proofs.LinesHavePlaces.{one_client, one_place}
use Rattle.law_answers.proofs.OneRecordAnswers.{world_split}
use Rattle.law_answers.proofs.ClientHistorySteps.{call_seq, reacted_to, step_seq}
use Rattle.petal_msg.specs.declared.letter.Actor.TheVariants as actor

-- who calls the line of this number, which then has the next number of the client's requests
record IsCall (setting : Setting) (w v : World) (number : ℕ) : Type 0 where
  client : ℕ
  line : Line
  is : slice_get (lines_of setting.lines client) (w.clients client).seq ≡ Some line
  number_is : line.number ≡ number
  next : (v.clients client).seq ≡ (w.clients client).seq + 1

step_calls : (setting : Setting) (w : World) (who : Actor) (stamp number : ℕ) → MayActor who (Call number) setting w
    → IsCall setting w (step who (Call number) setting w stamp).world number
unfolding step
step_calls setting w (actor.Server n) stamp number may = absurd may.1
step_calls setting w (actor.Client c) stamp number may = record {
  client = c;
  line = may.1.line;
  is = may.1.next;
  number_is = may.1.is;
  next = ap (λ (x : Client). x.seq) (put_same w.clients c (reacted_to setting w c (Call number)).client) ∙ call_seq setting w c number may.1;
}

seq_along : (setting : Setting) (w : World) (records : List Record) → AreStepsFrom setting w records → (c : ℕ)
    → (w.clients c).seq ≤ ((world_after setting w records).clients c).seq
seq_along setting w [] legal c = omega arith
seq_along setting w (own ∷ later) legal c =
    let up = step_seq setting w own.actor own.step own.stamp legal.0.may.may c in
    let on = seq_along setting (stepped setting w own).world later legal.1 c in
    omega arith

module _ (script : Script) (rise : AreRising script.lines) (records : List Record) (legal : AreSteps script records) where
  abbrev setting : Setting
  setting = setting_of script

  parts : (m : IsMoment records) → AreStepsFrom setting (start setting) m.prefix × AreStepsFrom setting (At script m.prefix) (m.own ∷ m.following)
  parts m = prefix_legal setting (start setting) m.prefix (m.own ∷ m.following) (subst (AreSteps script) m.is legal)

  call_at : (m : IsMoment records) (number : ℕ) → m.own.step ≡ Call number
      → IsCall setting (At script m.prefix) (stepped setting (At script m.prefix) m.own).world number
  call_at m number what =
      let may = (parts m).1.0.may.may in
      subst (λ x. IsCall setting (At script m.prefix) (step m.own.actor x setting (At script m.prefix) m.own.stamp).world number) (sym what)
      (step_calls setting (At script m.prefix) m.own.actor m.own.stamp number (subst (λ x. MayActor m.own.actor x setting (At script m.prefix)) what may))

  not_again : (x y : IsMoment records) (between : List Record) → y.prefix ≡ x.prefix ++ x.own ∷ between → (number : ℕ) → x.own.step ≡ Call number
      → y.own.step ≡ Call number → ⊥
  not_again x y between is number first again =
      let v = (stepped setting (At script x.prefix) x.own).world in
      let one = call_at x number first in
      let two = call_at y number again in
      let same = one_client script.lines rise one.client two.client ((At script x.prefix).clients one.client).seq
      ((At script y.prefix).clients two.client).seq one.line two.line one.is two.is (one.number_is ∙ sym two.number_is) in
      let two_is : slice_get (lines_of script.lines one.client) ((At script y.prefix).clients one.client).seq ≡ Some two.line =
      subst (λ c. slice_get (lines_of script.lines c) ((At script y.prefix).clients c).seq ≡ Some two.line) (sym same) two.is in
      let place = one_place script.lines rise one.client ((At script x.prefix).clients one.client).seq ((At script y.prefix).clients one.client).seq
      one.line two.line one.is two_is (one.number_is ∙ sym two.number_is) in
      let way = prefix_legal setting (start setting) x.prefix (x.own ∷ between) (subst (AreSteps script) is (parts y).0) in
      let on : (v.clients one.client).seq ≤ ((At script y.prefix).clients one.client).seq =
      subst (λ (u : World). (v.clients one.client).seq ≤ (u.clients one.client).seq)
      (sym (ap (At script) is ∙ world_split setting (start setting) x.prefix x.own between)) (seq_along setting v between way.1.1 one.client) in
      let next = one.next in
      omega arith

  pub called_once : (x y : IsMoment records) (number : ℕ) → x.own.step ≡ Call number → y.own.step ≡ Call number → x.prefix ≡ y.prefix
  called_once x y number first again =
      (one_moment x y (λ between is. not_again x y between is number first again) (λ between is. not_again y x between is number again first)).prefix_is

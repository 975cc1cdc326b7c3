-- Where a server is at its own hand by its own records, it is so at the operator's.
use Rattle.law_merge.proofs.Imports.{[], if◌then◌else◌, ◌==◌, ◌∙◌, ◌∷◌, ◌≡◌, ◌≢◌, Actor, Arm, Blank, Bool, Boot, Control, Deed, Errand, Glance, Line, List}
use Rattle.law_merge.proofs.Imports.{None, Option, Record, Setting, Some, Step, Stop, World, ap, controls, drop, errand_after, false, inl, inr, no_errand}
use Rattle.law_merge.proofs.Imports.{none_some, put_apart, put_at, put_same, refl, same_or_apart, same_some, step, stepped, subst, sym, true, true_false}
use Rattle.law_merge.proofs.Imports.{with_given, world_after, ℕ}
use Rattle.law_merge.specs.Hands.{hand_along, hand_by}
use Rattle.law_merge.specs.OwnLines.{Duty, GlancesInTurn, IsInErrand, TakeTurns, TakesTurn, duties_after, duty_after, duty_of, glanced_duty}
use Rattle.law_merge.proofs.OwnHands.{along_first, at_hand, hands}
use Rattle.law_merge.proofs.OwnTurnsObey.{AreTied, elsewhere, one_tied, tied_first}
use Rattle.law_merge.proofs.WhoseRecords.{server_none}
use Rattle.petal_msg.specs.declared.letter.Actor.TheVariants as actor

-- no server has a step in hand before its line has begun
abbrev pub BeginFirst : (ℕ → Duty) → (ℕ → Option Deed) → Type 0
BeginFirst duties at = (n : ℕ) → (duties n).errand.begun ≡ false → at n ≡ None

-- what a server has at its own hand is at the operator's
abbrev pub AreHeld : Control → (ℕ → Option Deed) → Type 0
AreHeld control at = (n : ℕ) (deed : Deed) → at n ≡ Some deed → control.hand ≡ at_hand n deed

begin_put : (duties : ℕ → Duty) (at : ℕ → Option Deed) (m : ℕ) (own : Duty) (now : Option Deed)
    → ((n : ℕ) → n ≢ m → (duties n).errand.begun ≡ false → at n ≡ None) → (own.errand.begun ≡ false → now ≡ None)
    → BeginFirst (put_at duties m own) (put_at at m now)
begin_put duties at m own now others mine n = elim (same_or_apart n m) [
  | inl e ↦
      subst (λ k. (put_at duties m own k).errand.begun ≡ false → put_at at m now k ≡ None) (sym e)
      (λ off. put_same at m now ∙ mine (sym (ap (λ (d : Duty). d.errand.begun) (put_same duties m own)) ∙ off))
  | inr ne ↦ λ off. put_apart at m now n ne ∙ others n ne (sym (ap (λ (d : Duty). d.errand.begun) (put_apart duties m own n ne)) ∙ off)
]

held_put : (control : Control) (at : ℕ → Option Deed) (m : ℕ) (now : Option Deed)
    → ((n : ℕ) → n ≢ m → (deed : Deed) → at n ≡ Some deed → control.hand ≡ at_hand n deed)
    → ((deed : Deed) → now ≡ Some deed → control.hand ≡ at_hand m deed) → AreHeld control (put_at at m now)
held_put control at m now others mine n = elim (same_or_apart n m) [
  | inl e ↦
      subst (λ k. (deed : Deed) → put_at at m now k ≡ Some deed → control.hand ≡ at_hand k deed) (sym e)
      (λ deed is. mine deed (sym (put_same at m now) ∙ is))
  | inr ne ↦ λ deed is. others n ne deed (sym (put_apart at m now n ne) ∙ is)
]

module _ (control : Control) (errand : Errand) (duties : ℕ → Duty) (at : ℕ → Option Deed) (tied : AreTied errand duties)
    (first : BeginFirst duties at) (held : AreHeld control at) where
  -- both after a server's step
  abbrev Both : Control → (ℕ → Duty) → (ℕ → Option Deed) → Type 0
  Both new now left = BeginFirst now left × AreHeld new left

  -- at another server than the errand's nothing is at hand
  empty : (m n : ℕ) → errand.server ≡ Some m → n ≢ m → at n ≡ None
  empty m n is ne = first n (elsewhere errand duties tied m n is ne)

  given_held : (deed : Deed) (running : Bool) (m : ℕ) → errand.server ≡ Some m
      → Both (record control { hand = Some (m, deed) }) (put_at duties m (record (duties m) { errand = with_given running (duties m).errand }))
      (put_at at m (Some deed))
  given_held deed running m is = (
    begin_put duties at m (record (duties m) { errand = with_given running (duties m).errand }) (Some deed) (λ n ne off. empty m n is ne)
        (λ off. true_false refl off),
    held_put (record control { hand = Some (m, deed) }) at m (Some deed) (λ n ne other e. none_some (empty m n is ne) e)
        (λ other e. ap (at_hand m) (same_some e)),
  )

  armed_held : (running : Bool) (m : ℕ)
      → Both control (put_at duties m (record (duties m) { errand = with_given running (duties m).errand })) (put_at at m (at m))
  armed_held running m = (
    begin_put duties at m (record (duties m) { errand = with_given running (duties m).errand }) (at m) (λ n ne off. first n off)
        (λ off. true_false refl off),
    held_put control at m (at m) (λ n ne. held n) (held m),
  )

  same_held : (m : ℕ) → Both control (put_at duties m (record (duties m) { errand = (duties m).errand })) (put_at at m (at m))
  same_held m = (
    begin_put duties at m (record (duties m) { errand = (duties m).errand }) (at m) (λ n ne off. first n off) (first m),
    held_put control at m (at m) (λ n ne. held n) (held m),
  )

  glance_held : (once : Bool) (line m : ℕ) → GlancesInTurn once m errand
      → Both (if once then record { hand = None; glanced = Some line } else control) (put_at duties m (glanced_duty once (duties m)))
      (put_at at m (if once then None else at m))
  glance_held true line m is = (
    begin_put duties at m (duty_of (drop 1 (duties m).lines)) None (λ n ne off. empty m n is ne) (λ off. refl),
    held_put (record { hand = None; glanced = Some line }) at m None (λ n ne other e. none_some (empty m n is ne) e) (λ other e. none_some refl e),
  )
  glance_held false line m is = (
    begin_put duties at m (duties m) (at m) (λ n ne off. first n off) (first m),
    held_put control at m (at m) (λ n ne. held n) (held m),
  )

  server_held : (what : Step) (running : Bool) (m : ℕ) → IsInErrand what m errand
      → Both (controls what m control) (put_at duties m (duty_after what running (duties m))) (put_at at m (hand_by what (at m)))
  server_held Stop running m is = given_held _ running m is
  server_held Blank running m is = given_held _ running m is
  server_held (Boot end) running m is = given_held _ running m is
  server_held (Arm which plan) running m is = armed_held running m
  server_held (Glance line round) running m is = glance_held (round == 0) line m is
  server_held what running m is = same_held m

-- the errand, what each server has still to do and what it has at hand belong together
pub record AreInHand (control : Control) (errand : Errand) (duties : ℕ → Duty) (at : ℕ → Option Deed) : Type 0 where
  pub tied : AreTied errand duties
  pub first : BeginFirst duties at
  pub held : AreHeld control at

module _ (setting : Setting) where
  one_held : (who : Actor) (w : World) (errand : Errand) (duties : ℕ → Duty) (own : Record) (later : List Record) (at : ℕ → Option Deed)
      → own.actor ≡ who → AreInHand w.control errand duties at → TakesTurn who own.step setting w errand duties
      → (new : ℕ → Option Deed)
      × AreInHand (step who own.step setting w own.stamp).world.control (errand_after who own.step setting w errand) (duties_after who own.step w duties) new
      × ((n : ℕ) → hands setting new later n ≡ hands setting at (own ∷ later) n)
  unfolding step
  one_held (actor.Server m) w errand duties own later at is in_hand turn =
      let both = server_held w.control errand duties at in_hand.tied in_hand.first in_hand.held own.step (w.servers m).life.running m turn in (
        put_at at m (hand_by own.step (at m)),
        record {
          tied = one_tied errand duties in_hand.tied setting w (actor.Server m) own.step turn;
          first = both.0;
          held = both.1;
        },
        along_first setting m own later at is,
      )
  one_held (actor.Client c) w errand duties own later at is in_hand turn = (
    at,
    record {
      tied = one_tied errand duties in_hand.tied setting w (actor.Client c) own.step turn;
      first = in_hand.first;
      held = in_hand.held;
    },
    λ n. ap (hand_along (at n)) (sym (server_none n c own later is)),
  )

  pub held_along : (w : World) (errand : Errand) (duties : ℕ → Duty) (records : List Record) (at : ℕ → Option Deed)
      → AreInHand w.control errand duties at → TakeTurns setting w errand duties records
      → AreHeld (world_after setting w records).control (hands setting at records)
  held_along w errand duties [] at in_hand turns = in_hand.held
  held_along w errand duties (own ∷ later) at in_hand turns =
      let s = one_held own.actor w errand duties own later at refl in_hand turns.0 in
      λ n deed e.
      held_along (stepped setting w own).world (errand_after own.actor own.step setting w errand) (duties_after own.actor own.step w duties) later s.0
      s.1 turns.1 n deed (s.2 n ∙ e)

pub in_hand_first : (glanced : Option ℕ) (lines : ℕ → List Line)
    → AreInHand (record { hand = None; glanced = glanced }) no_errand (λ n. duty_of (lines n)) (λ n. None)
in_hand_first glanced lines = record {
  tied = tied_first lines;
  first = λ n off. refl;
  held = λ n deed e. none_some refl e;
}

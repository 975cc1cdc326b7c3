-- Where a server is at the operator's hand, it is so by its own records.
use Rattle.law_merge.proofs.Imports.{[], if◌then◌else◌, ◌==◌, ◌∙◌, ◌∷◌, ◌≡◌, Actor, Blank, Bool, Boot, Control, Deed, Glance, List, None, Option, Record}
use Rattle.law_merge.proofs.Imports.{Setting, Some, Step, Stop, World, ap, controls, false, inl, inr, none_some, put_apart, put_at, put_same, refl}
use Rattle.law_merge.proofs.Imports.{same_or_apart, same_some, step, stepped, subst, sym, true, world_after, ℕ}
use Rattle.law_merge.specs.Alone.{of_server}
use Rattle.law_merge.specs.Hands.{hand_along, hand_by}
use Rattle.law_merge.proofs.WhoseRecords.{server_first, server_none, server_passed}
use Rattle.petal_msg.specs.declared.letter.Actor.TheVariants as actor

abbrev pub at_hand : ℕ → Deed → Option (ℕ × Deed)
at_hand n deed = Some (n, deed)

-- the server that is at the operator's hand has this at its own
abbrev pub AreAtHand : Control → (ℕ → Option Deed) → Type 0
AreAtHand control at = (n : ℕ) (deed : Deed) → control.hand ≡ Some (n, deed) → at n ≡ Some deed

set_hand : (at : ℕ → Option Deed) (m : ℕ) (new : Deed) (n : ℕ) (deed : Deed) → at_hand m new ≡ at_hand n deed → put_at at m (Some new) n ≡ Some deed
set_hand at m new n deed e =
    let same = same_some e in
    let number : m ≡ n = ap (λ (p : ℕ × Deed). p.0) same in
    let what : new ≡ deed = ap (λ (p : ℕ × Deed). p.1) same in
    subst (λ (k : ℕ). put_at at m (Some new) k ≡ Some deed) number (put_same at m (Some new) ∙ ap Some what)

keep_hand : (control : Control) (at : ℕ → Option Deed) (m : ℕ) → AreAtHand control at → AreAtHand control (put_at at m (at m))
keep_hand control at m kept n deed e = elim (same_or_apart n m) [
  | inl is ↦ subst (λ (k : ℕ). put_at at m (at m) k ≡ Some deed) (sym is) (put_same at m (at m) ∙ subst (λ (k : ℕ). at k ≡ Some deed) is (kept n deed e))
  | inr ne ↦ put_apart at m (at m) n ne ∙ kept n deed e
]

glance_hand : (first : Bool) (line m : ℕ) (control : Control) (at : ℕ → Option Deed) → AreAtHand control at
    → AreAtHand (if first then record { hand = None; glanced = Some line } else control) (put_at at m (if first then None else at m))
glance_hand true line m control at kept = λ n deed e. none_some refl e
glance_hand false line m control at kept = keep_hand control at m kept

one_hand : (what : Step) (m : ℕ) (control : Control) (at : ℕ → Option Deed) → AreAtHand control at
    → AreAtHand (controls what m control) (put_at at m (hand_by what (at m)))
one_hand Stop m control at kept = λ n deed e. set_hand at m _ n deed e
one_hand Blank m control at kept = λ n deed e. set_hand at m _ n deed e
one_hand (Boot end) m control at kept = λ n deed e. set_hand at m _ n deed e
one_hand (Glance line round) m control at kept = glance_hand (round == 0) line m control at kept
one_hand what m control at kept = keep_hand control at m kept

module _ (setting : Setting) where
  -- what each server has at its own hand after these records
  abbrev pub hands : (ℕ → Option Deed) → List Record → ℕ → Option Deed
  hands at records n = hand_along (at n) (of_server n records)

  pub along_first : (m : ℕ) (own : Record) (later : List Record) (at : ℕ → Option Deed) → own.actor ≡ actor.Server m → (n : ℕ)
      → hands (put_at at m (hand_by own.step (at m))) later n ≡ hands at (own ∷ later) n
  along_first m own later at is n =
      let new = hand_by own.step (at m) in
      elim (same_or_apart n m) [
        | inl e ↦
            subst (λ (k : ℕ). hand_along (put_at at m new k) (of_server k later) ≡ hand_along (at k) (of_server k (own ∷ later))) (sym e)
            (ap (λ o. hand_along o (of_server m later)) (put_same at m new) ∙ ap (hand_along (at m)) (sym (server_first m own later is)))
        | inr ne ↦
            ap (λ o. hand_along o (of_server n later)) (put_apart at m new n ne) ∙ ap (hand_along (at n)) (sym (server_passed n m own later ne is))
      ]

  -- after one step: what each server has then, and that the later records go on from there
  one_step : (who : Actor) (w : World) (own : Record) (later : List Record) (at : ℕ → Option Deed) → own.actor ≡ who → AreAtHand w.control at
      → (new : ℕ → Option Deed) × AreAtHand (step who own.step setting w own.stamp).world.control new
      × ((n : ℕ) → hands new later n ≡ hands at (own ∷ later) n)
  unfolding step
  one_step (actor.Server m) w own later at is kept =
      (put_at at m (hand_by own.step (at m)), one_hand own.step m w.control at kept, along_first m own later at is)
  one_step (actor.Client c) w own later at is kept = (at, kept, λ n. ap (hand_along (at n)) (sym (server_none n c own later is)))

  pub known : (w : World) (records : List Record) (at : ℕ → Option Deed) → AreAtHand w.control at
      → AreAtHand (world_after setting w records).control (hands at records)
  known w [] at kept = kept
  known w (own ∷ later) at kept =
      let s = one_step own.actor w own later at refl kept in
      λ n deed e. sym (s.2 n) ∙ known (stepped setting w own).world later s.0 s.1 n deed e

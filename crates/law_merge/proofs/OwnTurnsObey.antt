-- By induction on the list: the operator's last line on its way is the first one of the server that it names, and no line has begun elsewhere.
use Rattle.law_merge.proofs.Imports.{[], if◌then◌else◌, ◌==◌, ◌∙◌, ◌∷◌, ◌≡◌, ◌≢◌, Actor, Arm, Blank, Bool, Boot, Call, Errand, Glance, IsLeftAlone, Line}
use Rattle.law_merge.proofs.Imports.{List, ObeyFrom, Obeys, ObeysAs, ObeysGlance, Record, Setting, Some, Step, Stop, World, ap, drop, errand_after, errand_of}
use Rattle.law_merge.proofs.Imports.{false, inl, inr, next_line, no_errand, none_some, operator, put_apart, put_at, put_same, refl, same_or_apart, same_some}
use Rattle.law_merge.proofs.Imports.{served, step, stepped, subst, sym, true, with_given, ℕ}
use Rattle.law_merge.specs.Alone.{acted_by, of_server}
use Rattle.law_merge.specs.OwnLines.{BeginsNext, Duty, GlancesInTurn, IsCalledInTurn, IsInErrand, KeepsToLines, TakeTurns, TakesTurn, duties_after}
use Rattle.law_merge.specs.OwnLines.{duty_after, duty_of, first_errand, glanced_duty}
use Rattle.law_merge.proofs.WhoseRecords.{server_first, server_none, server_passed}
use Rattle.petal_msg.specs.declared.letter.Actor.TheVariants as actor

-- the errand is that of the server which it names, and no line has begun at another one
pub record IsTied (errand : Errand) (duties : ℕ → Duty) (n : ℕ) : Type 0 where
  pub is : errand.server ≡ Some n → (duties n).errand ≡ errand
  pub rests : errand.server ≢ Some n → (duties n).errand.begun ≡ false

abbrev pub AreTied : Errand → (ℕ → Duty) → Type 0
AreTied errand duties = (n : ℕ) → IsTied errand duties n

unbegun : (lines : List Line) → (first_errand lines).begun ≡ false
unbegun [] = refl
unbegun (line ∷ later) = refl

pub tied_first : (duties : ℕ → List Line) → AreTied no_errand (λ n. duty_of (duties n))
tied_first duties n = record { is = λ e. none_some refl e; rests = λ ne. unbegun (duties n) }

module _ (errand : Errand) (duties : ℕ → Duty) (tied : AreTied errand duties) where
  -- ### What is allowed

  alone : (n : ℕ) → IsLeftAlone (duties n).errand n → IsLeftAlone errand n
  alone n own begun is = subst (λ x. IsLeftAlone x n) ((tied n).is is) own begun is

  glance_obeys : (once : Bool) (n : ℕ) (running : Bool) → ObeysGlance once (duties n).errand n running → GlancesInTurn once n errand
      → ObeysGlance once errand n running
  glance_obeys true n running own turn = subst (λ x. ObeysGlance true x n running) ((tied n).is turn) own
  glance_obeys false n running own turn = alone n own

  obeys_as : (what : Step) (n : ℕ) (running : Bool) → ObeysAs what (duties n).errand n running → IsInErrand what n errand → ObeysAs what errand n running
  obeys_as Stop n running own turn = subst (λ x. ObeysAs Stop x n running) ((tied n).is turn) own
  obeys_as Blank n running own turn = subst (λ x. ObeysAs Blank x n running) ((tied n).is turn) own
  obeys_as (Boot end) n running own turn = subst (λ x. ObeysAs (Boot end) x n running) ((tied n).is turn) own
  obeys_as (Arm which plan) n running own turn = subst (λ x. ObeysAs (Arm which plan) x n running) ((tied n).is turn) own
  obeys_as (Glance line round) n running own turn = glance_obeys (round == 0) n running own turn
  obeys_as what n running own turn = alone n own

  -- ### What is left

  -- a server's duty is another one then
  changed : (new : Errand) (m : ℕ) (own : Duty) → ((n : ℕ) → n ≢ m → IsTied new duties n) → (new.server ≡ Some m → own.errand ≡ new)
      → (new.server ≢ Some m → own.errand.begun ≡ false) → AreTied new (put_at duties m own)
  changed new m own others is rests n = elim (same_or_apart n m) [
    | inl e ↦
        subst (λ k. IsTied new (put_at duties m own) k) (sym e)
        (record {
          is = λ named. ap (λ (d : Duty). d.errand) (put_same duties m own) ∙ is named;
          rests = λ apart. ap (λ (d : Duty). d.errand.begun) (put_same duties m own) ∙ rests apart;
        })
    | inr ne ↦
        let old = others n ne in
        record {
          is = λ named. ap (λ (d : Duty). d.errand) (put_apart duties m own n ne) ∙ old.is named;
          rests = λ apart. ap (λ (d : Duty). d.errand.begun) (put_apart duties m own n ne) ∙ old.rests apart;
        }
  ]

  -- at another server than the errand's nothing has begun
  pub elsewhere : (m n : ℕ) → errand.server ≡ Some m → n ≢ m → (duties n).errand.begun ≡ false
  elsewhere m n is ne = (tied n).rests (λ other. ne (same_some (sym other ∙ is)))

  given_tied : (running : Bool) (m : ℕ) → errand.server ≡ Some m
      → AreTied (with_given running errand) (put_at duties m (record (duties m) { errand = with_given running (duties m).errand }))
  given_tied running m is =
      changed (with_given running errand) m (record (duties m) { errand = with_given running (duties m).errand })
      (λ n ne. record { is = λ named. absurd (ne (same_some (sym named ∙ is))); rests = λ apart. elsewhere m n is ne })
      (λ named. ap (with_given running) ((tied m).is is))
      (λ apart. absurd (apart is))

  same_tied : (m : ℕ) → AreTied errand (put_at duties m (record (duties m) { errand = (duties m).errand }))
  same_tied m = changed errand m (record (duties m) { errand = (duties m).errand }) (λ n ne. tied n) (tied m).is (tied m).rests

  glance_tied : (once : Bool) (m : ℕ) → GlancesInTurn once m errand
      → AreTied (if once then no_errand else errand) (put_at duties m (glanced_duty once (duties m)))
  glance_tied true m is =
      changed no_errand m (duty_of (drop 1 (duties m).lines))
      (λ n ne. record { is = λ named. none_some refl named; rests = λ apart. elsewhere m n is ne })
      (λ named. none_some refl named)
      (λ apart. unbegun (drop 1 (duties m).lines))
  glance_tied false m is = changed errand m (duties m) (λ n ne. tied n) (tied m).is (tied m).rests

  server_tied : (what : Step) (running : Bool) (m : ℕ) → IsInErrand what m errand
      → AreTied (served what running errand) (put_at duties m (duty_after what running (duties m)))
  server_tied Stop running m is = given_tied running m is
  server_tied Blank running m is = given_tied running m is
  server_tied (Boot end) running m is = given_tied running m is
  server_tied (Arm which plan) running m is = given_tied running m is
  server_tied (Glance line round) running m is = glance_tied (round == 0) m is
  server_tied what running m is = same_tied m

  called_tied : (setting : Setting) (w : World) (c : ℕ) (called : Bool) → (c == operator) ≡ called
      → ((c == operator) ≡ true → BeginsNext (errand_of (next_line setting.lines c (w.clients c))) duties)
      → AreTied (if called then errand_of (next_line setting.lines c (w.clients c)) else errand) duties
  called_tied setting w c true e begins =
      let next = begins e in
      λ n. record { is = λ named. next.first n named; rests = λ apart. next.none_begun n }
  called_tied setting w c false e begins = tied

  client_tied : (setting : Setting) (w : World) (c : ℕ) (what : Step) → IsCalledInTurn c what setting w duties
      → AreTied (errand_after (actor.Client c) what setting w errand) duties
  client_tied setting w c (Call number) begins = called_tied setting w c (c == operator) refl begins
  client_tied setting w c what begins = tied

  pub one_tied : (setting : Setting) (w : World) (who : Actor) (what : Step) → TakesTurn who what setting w errand duties
      → AreTied (errand_after who what setting w errand) (duties_after who what w duties)
  one_tied setting w (actor.Server n) what turn = server_tied what (w.servers n).life.running n turn
  one_tied setting w (actor.Client c) what turn = client_tied setting w c what turn

module _ (setting : Setting) where
  -- each server's records keep to its lines, from this world on
  abbrev pub AllKeep : World → (ℕ → Duty) → List Record → Type 0
  AllKeep w duties records = (n : ℕ) → KeepsToLines setting n (w.servers n) (duties n) (of_server n records)

  own_first : (m : ℕ) (w : World) (duties : ℕ → Duty) (own : Record) (later : List Record) → own.actor ≡ actor.Server m → AllKeep w duties (own ∷ later)
      → KeepsToLines setting m (w.servers m) (duties m) (own ∷ of_server m later)
  own_first m w duties own later is keep = subst (KeepsToLines setting m (w.servers m) (duties m)) (server_first m own later is) (keep m)

  obeys : (who : Actor) (w : World) (errand : Errand) (duties : ℕ → Duty) (own : Record) (later : List Record) → own.actor ≡ who
      → AreTied errand duties → AllKeep w duties (own ∷ later) → TakesTurn who own.step setting w errand duties → Obeys who own.step w errand
  obeys (actor.Server m) w errand duties own later is tied keep turn =
      obeys_as errand duties tied own.step m (w.servers m).life.running (own_first m w duties own later is keep).0 turn
  obeys (actor.Client c) w errand duties own later is tied keep turn = tt

  keep_rest : (who : Actor) (w : World) (duties : ℕ → Duty) (own : Record) (later : List Record) → own.actor ≡ who → AllKeep w duties (own ∷ later)
      → AllKeep (step who own.step setting w own.stamp).world (duties_after who own.step w duties) later
  unfolding step
  keep_rest (actor.Server m) w duties own later is keep n =
      let new = (acted_by setting m (w.servers m) own.step).server in
      let duty = duty_after own.step (w.servers m).life.running (duties m) in
      elim (same_or_apart n m) [
        | inl e ↦
            subst (λ (k : ℕ). KeepsToLines setting k (put_at w.servers m new k) (put_at duties m duty k) (of_server k later)) (sym e)
            (subst (λ s. KeepsToLines setting m s (put_at duties m duty m) (of_server m later)) (sym (put_same w.servers m new))
            (subst (λ d. KeepsToLines setting m new d (of_server m later)) (sym (put_same duties m duty))
            (own_first m w duties own later is keep).2))
        | inr ne ↦
            subst (λ s. KeepsToLines setting n s (put_at duties m duty n) (of_server n later)) (sym (put_apart w.servers m new n ne))
            (subst (λ d. KeepsToLines setting n (w.servers n) d (of_server n later)) (sym (put_apart duties m duty n ne))
            (subst (KeepsToLines setting n (w.servers n) (duties n)) (server_passed n m own later ne is) (keep n)))
      ]
  keep_rest (actor.Client c) w duties own later is keep n =
      subst (KeepsToLines setting n (w.servers n) (duties n)) (server_none n c own later is) (keep n)

  pub obey_by_turns : (w : World) (errand : Errand) (duties : ℕ → Duty) (records : List Record) → AreTied errand duties → AllKeep w duties records
      → TakeTurns setting w errand duties records → ObeyFrom setting w errand records
  obey_by_turns w errand duties [] tied keep turns = tt
  obey_by_turns w errand duties (own ∷ later) tied keep turns = (
    obeys own.actor w errand duties own later refl tied keep turns.0,
    obey_by_turns (stepped setting w own).world (errand_after own.actor own.step setting w errand) (duties_after own.actor own.step w duties) later
        (one_tied errand duties tied setting w own.actor own.step turns.0) (keep_rest own.actor w duties own later refl keep) turns.1,
  )

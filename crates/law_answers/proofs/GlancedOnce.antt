-- No line is glanced at twice: once a server was shown for it, it is not glanced at again.
use Rattle.law_answers.proofs.Imports.{[], ◌++◌, ◌∙◌, ◌∷◌, ◌≡◌, Actor, Answer, AreRising, AreSteps, Bool, Glance, In, IsMoment, IsSound, Letter, Line, List}
use Rattle.law_answers.proofs.Imports.{MayActor, MayClient, MayGlance, MayServer, Record, Run, Script, Server, Setting, Some, Step, World, after, ap}
use Rattle.law_answers.proofs.Imports.{append_assoc, at_moment, by_test, false, follows_in, in-append, inl, inr, longer, names, prefix_legal, refl, run_of}
use Rattle.law_answers.proofs.Imports.{setting_in, setting_of, shown, start, stays_sent, step, stepped_in, subst, sym, true, world_after, ℕ}
use Rattle.law_answers.specs.Glances.{HasGlance}
use Rattle.law_answers.proofs.Glances.{glanced_before, was_glanced}
use Rattle.petal_msg.specs.declared.body.Body.TheVariants as body
use Rattle.petal_msg.specs.declared.letter.Actor.TheVariants as actor

-- where an element of a list lies
lies_in : (x : Record) (xs : List Record) → In x xs → (prefix : List Record) × (following : List Record) × (xs ≡ prefix ++ x ∷ following)
unfolding In
lies_in x [] i = absurd i
lies_in x (y ∷ ys) (inl e) = ([], ys, ap (λ k. k ∷ ys) (sym e))
lies_in x (y ∷ ys) (inr i) = let r = lies_in x ys i in (y ∷ r.0, r.1, ap (λ k. y ∷ k) r.2)

-- ### What a glance sends

-- a server was shown for the line of this number
record IsSaid (w : World) (number : ℕ) : Type 0 where
  letter : Letter
  round : ℕ
  running : Bool
  inc : ℕ
  full : Bool
  there : In letter w.sent
  is : letter.body ≡ body.Seen number round running inc full

shown_so : (number round : ℕ) (server : Server)
    → (running : Bool) × (inc : ℕ) × (full : Bool) × (shown number round server ≡ body.Seen number round running inc full)
shown_so number round server =
    by_test (λ said. (running : Bool) × (inc : ℕ) × (full : Bool) × (said ≡ body.Seen number round running inc full)) server.life.running _ _
    (λ on. (true, server.life.inc, server.own.copies.full, refl)) (λ off. (false, 0, false, refl))

module _ (setting : Setting) (number : ℕ) where
  -- a glance is a server's
  glances_at : (who : Actor) (what : Step) (round : ℕ) (w : World) → what ≡ Glance number round → MayActor who what setting w
      → (n : ℕ) × MayGlance setting w n number round
  glances_at (actor.Server n) what round w is may = (n, subst (λ x. MayServer x setting w n) is may.1)
  glances_at (actor.Client c) what round w is may = absurd (subst (λ x. MayClient x setting w c) is may.1)

  glance_says : (who : Actor) (what : Step) (round : ℕ) (w : World) (stamp : ℕ) → what ≡ Glance number round → MayActor who what setting w
      → IsSaid (step who what setting w stamp).world number
  unfolding step In
  glance_says (actor.Server n) what round w stamp is may =
      let s = shown_so number round (w.servers n) in
      subst (λ x. IsSaid (step (actor.Server n) x setting w stamp).world number) (sym is)
      (record { letter = _; round = round; running = s.0; inc = s.1; full = s.2; there = inl refl; is = s.3 })
  glance_says (actor.Client c) what round w stamp is may = absurd (subst (λ x. MayClient x setting w c) is may.1)

-- after a glance of the line a server was shown for it
was_said : (run : Run) (number round : ℕ) (at : IsMoment run.records) → at.own.step ≡ Glance number round → IsSaid (after run) number
was_said run number round at is =
    let it = at_moment run at in
    let s = glance_says (setting_in run) number it.own.actor it.own.step round (after it.prior) it.own.stamp is (follows_in it).may.may in
    record {
      letter = s.letter;
      round = s.round;
      running = s.running;
      inc = s.inc;
      full = s.full;
      there = stays_sent run (longer it).records at.following (at.is ∙ sym (append_assoc at.prefix (at.own ∷ []) at.following)) s.letter
          (subst (λ (v : World). In s.letter v.sent) (sym (stepped_in it)) s.there);
      is = s.is;
    }

-- ### A history

module _ (script : Script) (sound : IsSound script) (rise : AreRising script.lines) where
  abbrev setting : Setting
  setting = setting_of script

  one_glance : (line : Line) (m : ℕ) → In line script.lines → (names line.request).server ≡ Some m → (prefix : List Record) (own : Record)
      (middle : List Record) (other : Record) (following : List Record) (round later : ℕ)
      → AreSteps script (prefix ++ own ∷ (middle ++ other ∷ following)) → own.step ≡ Glance line.number round
      → other.step ≡ Glance line.number later → ⊥
  one_glance line m there named prefix own middle other following round later legal is again =
      let done = prefix ++ own ∷ middle in
      let parts = prefix_legal setting (start setting) done (other ∷ following)
      (subst (AreSteps script) (sym (append_assoc prefix (own ∷ middle) (other ∷ following))) legal) in
      let s = was_said (run_of script sound done parts.0) line.number round (record { prefix = prefix; own = own; following = middle; is = refl }) is in
      let g = glances_at setting line.number other.actor other.step later
      (world_after setting (start setting) done) again parts.1.0.may.may in
      glanced_before script done sound rise parts.0 line m there named s.letter s.round s.running s.inc s.full s.there s.is g.0 later g.1

  pub has_glance : (records : List Record) → AreSteps script records → (line : Line) (n : ℕ) (given : Answer) → In line script.lines
      → (names line.request).server ≡ Some n → In (line.number, given) (world_after setting (start setting) records).answers
      → HasGlance setting (start setting) records line n given
  has_glance records legal line n given there named told =
      let g = was_glanced script records sound rise legal line n given there named told in
      record {
        moment = g.moment;
        so = g.so;
        once = λ other round i again. elim (in-append other g.prefix g.following i) [
          | inl before ↦
              let r = lies_in other g.prefix before in
              one_glance line n there named r.0 other r.1 g.own g.following round 0
              (subst (AreSteps script)
              (g.is ∙ ap (λ xs. xs ++ g.own ∷ g.following) r.2 ∙ append_assoc r.0 (other ∷ r.1) (g.own ∷ g.following)) legal)
              again g.so.what
          | inr after ↦
              let r = lies_in other g.following after in
              one_glance line n there named g.prefix g.own r.0 other r.1 0 round
              (subst (AreSteps script) (g.is ∙ ap (λ xs. g.prefix ++ g.own ∷ xs) r.2) legal) g.so.what again
        ];
      }

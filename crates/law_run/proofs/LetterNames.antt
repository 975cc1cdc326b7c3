-- Letters have names of their own.
use Rattle.law_run.proofs.Imports.{[], ◌&&◌, ◌++◌, ◌+◌, ◌<◌, ◌==◌, ◌∙◌, ◌∷◌, ◌≡◌, ◌≤◌, Acted, Actor, Blank, Blanks, Ends, Fails, Goes, Happens, In, Letter}
use Rattle.law_run.proofs.Imports.{List, Post, Script, Sender, Serves, Serving, Setting, State, Stays, Step, Turns, Wakes, World, acts, all_put, ap, arith}
use Rattle.law_run.proofs.Imports.{awake, blanked, both_true, client_sender, clock_of, false, in-append, inl, inr, letters_of, own_place, put_same, raised}
use Rattle.law_run.proofs.Imports.{reacts, refl, rev_of, said, same_actor, same_numbers, sender, served_so, setting_of, shown_so, stamped, start, stays}
use Rattle.law_run.proofs.Imports.{stopped_so, subst, sym, true, wakes, without_rev, ℕ}
use Rattle.spec_history.specs.Events.{same_name}
use Rattle.law_run.specs.MachineTies.{Named}
use Rattle.petal_msg.specs.declared.letter.Actor.TheVariants as actor

pub one_actor : (a b : Actor) → same_actor a b ≡ true → a ≡ b
one_actor (actor.Server n) (actor.Server k) e = ap actor.Server (same_numbers n k e)
one_actor (actor.Client c) (actor.Client d) e = ap actor.Client (same_numbers c d e)
one_actor (actor.Server n) (actor.Client c) e = let f : false ≡ true = e in absurd cc
one_actor (actor.Client c) (actor.Server n) e = let f : false ≡ true = e in absurd cc

-- one sender, one stamp and one place
record IsNamed (one other : Letter) : Type 0 where
  from : one.from ≡ other.from
  stamp : one.stamp ≡ other.stamp
  nth : one.nth ≡ other.nth

named_same : (one other : Letter) → same_name one other ≡ true → IsNamed one other
named_same one other e =
    let outer = both_true (same_actor one.from other.from && (one.stamp == other.stamp)) (one.nth == other.nth) e in
    let inner = both_true (same_actor one.from other.from) (one.stamp == other.stamp) outer.0 in
    record { from = one_actor one.from other.from inner.0; stamp = same_numbers one.stamp other.stamp inner.1; nth = same_numbers one.nth other.nth outer.1 }

at_least : (who : Sender) (stamp nth : ℕ) (posts : List Post) (letter : Letter) → In letter (stamped stamp (letters_of who nth posts)) → nth ≤ letter.nth
unfolding In
at_least who stamp nth [] letter h = absurd h
at_least who stamp nth (post ∷ posts) letter (inl e) = let f : letter.nth ≡ nth = ap (λ (l : Letter). l.nth) e in omega arith
at_least who stamp nth (post ∷ posts) letter (inr h) = let later = at_least who stamp (nth + 1) posts letter h in omega arith

one_place : (who : Sender) (stamp nth : ℕ) (posts : List Post) (one other : Letter) → In one (stamped stamp (letters_of who nth posts))
    → In other (stamped stamp (letters_of who nth posts)) → one.nth ≡ other.nth → one ≡ other
unfolding In
one_place who stamp nth [] one other h g e = absurd h
one_place who stamp nth (post ∷ posts) one other (inl h) (inl g) e = h ∙ sym g
one_place who stamp nth (post ∷ posts) one other (inl h) (inr g) e = let f : one.nth ≡ nth = ap (λ (l : Letter). l.nth) h in let later =
    at_least who stamp (nth + 1) posts other g in absurd (omega arith)
one_place who stamp nth (post ∷ posts) one other (inr h) (inl g) e = let f : other.nth ≡ nth = ap (λ (l : Letter). l.nth) g in let later =
    at_least who stamp (nth + 1) posts one h in absurd (omega arith)
one_place who stamp nth (post ∷ posts) one other (inr h) (inr g) e = one_place who stamp (nth + 1) posts one other h g e

-- the letters of a step join those that were sent
named_more : (w v : World) (who : Sender) (stamp : ℕ) (posts : List Post) → Named w → v.sent ≡ stamped stamp (letters_of who 0 posts) ++ w.sent
    → clock_of w who.from < stamp → stamp ≤ clock_of v who.from → ((a : Actor) → clock_of w a ≤ clock_of v a) → Named v
named_more w v who stamp posts named joined before now rises = record {
  unique = λ one other h g e.
      let n = named_same one other e in
      elim (in-append one new w.sent (subst (In one) joined h)) [
        | inl fresh ↦ elim (in-append other new w.sent (subst (In other) joined g)) [
          | inl fresh' ↦ one_place who stamp 0 posts one other fresh fresh' n.nth
          | inr old ↦ absurd (not_old one other fresh old n)
        ]
        | inr old ↦ elim (in-append other new w.sent (subst (In other) joined g)) [
          | inl fresh' ↦ absurd (not_old other one fresh' old (record { from = sym n.from; stamp = sym n.stamp; nth = sym n.nth }))
          | inr old' ↦ named.unique one other old old' e
        ]
      ];
  early = λ letter h. elim (in-append letter new w.sent (subst (In letter) joined h)) [
    | inl fresh ↦ let s = said who stamp 0 posts letter fresh in let at = s.at in subst (λ (a : Actor). letter.stamp ≤ clock_of v a) (sym s.from) (omega arith)
    | inr old ↦ let le = named.early letter old in let up = rises letter.from in omega arith
  ];
}
  where
    new : List Letter
    new = stamped stamp (letters_of who 0 posts)

    not_old : (fresh old : Letter) → In fresh (stamped stamp (letters_of who 0 posts)) → In old w.sent → IsNamed fresh old → ⊥
    not_old fresh old h g n =
        let s = said who stamp 0 posts fresh h in
        let at = s.at in
        let same = n.stamp in
        let le : old.stamp ≤ clock_of w who.from = subst (λ (a : Actor). old.stamp ≤ clock_of w a) (sym n.from ∙ s.from) (named.early old g) in
        omega arith

module _ (setting : Setting) (state : State) (w : World) (named : Named w) where
  -- a server's step sends letters of the server
  server_named : (n stamp : ℕ) (what : Step) (acted : Acted) (who : Sender) (posts : List Post) → w.server_clocks n < stamp → who.from ≡ actor.Server n
      → acted.letters ≡ letters_of who 0 posts → Named (acts setting w n what stamp acted).world
  server_named n stamp what acted who posts lt from letters =
      let v = (acts setting w n what stamp acted).world in
      named_more w v who stamp posts named (ap (λ ls. stamped stamp ls ++ w.sent) letters)
      (subst (λ (a : Actor). clock_of w a < stamp) (sym from) lt)
      (subst (λ (a : Actor). stamp ≤ clock_of v a) (sym from)
      (subst (λ k. stamp ≤ k) (sym (put_same w.server_clocks n stamp)) (omega arith))) rises
    where
      rises : (a : Actor) → clock_of w a ≤ clock_of (acts setting w n what stamp acted).world a
      rises (actor.Server k) = all_put w.server_clocks n stamp (λ j t. w.server_clocks j ≤ t) (λ j. omega arith) (omega arith) k
      rises (actor.Client c) = omega arith

  serves_named : (n stamp : ℕ) (what : Step) (acted : Acted) → w.server_clocks n < stamp → Serving setting w n what acted
      → Named (acts setting w n what stamp acted).world
  serves_named n stamp what _ lt (Goes log done queue runs worked queued works) =
      server_named n stamp what (served_so setting w n log done queue) (sender (own_place setting w n)) done.posts lt refl refl
  serves_named n stamp what _ lt (Ends log done runs worked) =
      server_named n stamp what (stopped_so setting w n log done) (without_rev (own_place setting w n)) _ lt refl refl
  serves_named n stamp what _ lt (Stays who posts from shown) = server_named n stamp what (shown_so w n who posts) who posts lt from refl
  serves_named n stamp what _ lt (Wakes booted asleep) =
      let server = awake (raised (w.servers n)) in
      server_named n stamp what (wakes (own_place setting w n) server)
      (record { from = actor.Server n; inc = server.life.inc; rev = rev_of server.log }) _ lt refl refl
  serves_named n stamp what _ lt (Fails booted asleep) =
      server_named n stamp what (stays (raised (w.servers n))) (without_rev (own_place setting w n)) [] lt refl refl

  pub happens_named : (v : World) → Happens setting state w v → Named v
  happens_named _ (Serves n stamp what acted lt within unblanked serving) = serves_named n stamp what acted lt serving
  happens_named _ (Blanks n stamp lt within asleep) =
      server_named n stamp Blank (stays (blanked (w.servers n))) (without_rev (own_place setting w n)) [] lt refl refl
  happens_named _ (Turns c stamp in_call reacted lt within turned onward) =
      let v = (reacts w c stamp reacted).world in
      named_more w v (client_sender c reacted.client) stamp reacted.posts named refl lt
      (subst (λ k. stamp ≤ k) (sym (put_same w.client_clocks c stamp)) (omega arith)) rises
    where
      rises : (a : Actor) → clock_of w a ≤ clock_of (reacts w c stamp reacted).world a
      rises (actor.Server k) = omega arith
      rises (actor.Client d) = all_put w.client_clocks c stamp (λ j t. w.client_clocks j ≤ t) (λ j. omega arith) (omega arith) d

pub start_named : (script : Script) → Named (start (setting_of script))
unfolding In
start_named script = record { unique = λ one other h g e. absurd h; early = λ letter h. absurd h }

-- Prepare, Accept and Chosen, and the start of a ballot: what is kept, in the schedule as on the device.
use Rattle.law_log.proofs.Imports.{[], if◌then◌else◌, ◌+◌, ◌<◌, ◌∙◌, ◌∷◌, ◌≡◌, ◌≢◌, Accepted, Acceptor, Actor, Ballot, Bool, Chosen, Command, In, IsAnnounced}
use Rattle.law_log.proofs.Imports.{List, Pax, Phase, Promise, Some, StateRecord, World, accept, accept_reply, acceptor_accepted, acceptor_chosen, acceptor_of}
use Rattle.law_log.proofs.Imports.{acceptor_promise, ap, by_test, cast, commits, committed, false, in_cons, in_here, in_there, inc_accepted, inc_chosen}
use Rattle.law_log.proofs.Imports.{inc_promise, inl, inr, is_open, keep, known_accepted, known_at, known_elsewhere, known_here, known_promise, learn, learns}
use Rattle.law_log.proofs.Imports.{on_accept, on_prepare, prepare_reply, promise, refl, same_or_apart, same_some, send, sent, subst, sym, true, vote, ℕ}
use Rattle.spec_paxos.specs.Member.{put_at}
use Rattle.law_log.specs.AgreedLog.{IsSeenAt, IsLow}
use Rattle.law_log.proofs.RunningLog.{RunningLog}
use Rattle.law_log.proofs.VotesAfterCommits.{in_committed, same_votes}
use Rattle.law_log.proofs.ListPlaces.{put_here, put_away, put_at_here, put_at_beside, put_at_itself}
use Rattle.law_log.proofs.ScheduleTurns.{apart_itself, no_posts, Turns, HasTurn, by_letter, replied, seen_same, busy_same, apart_both, low_keep, low_cast}
use Rattle.law_log.proofs.ScheduleTurns.{low_learn, apart_keep, apart_cast, apart_learn}
use Rattle.petal_command.specs.declared.pax.Pax.TheVariants as pax
use Rattle.petal_msg.specs.declared.body.Body.TheVariants as body
use Rattle.petal_msg.specs.declared.letter.Actor.TheVariants as actor

-- ### Rows after a commit

-- a promise of an open ballot
promised_here : (records : List StateRecord) (p : ℕ) (b : Ballot) → is_open (acceptor_of records p) b ≡ true
    → acceptor_of (committed records (Promise p b)) p ≡ promise (acceptor_of records p) b
promised_here records p b o = acceptor_promise records p b o p ∙ put_here (acceptor_of records) p (promise (acceptor_of records p) b)

promised_beside : (records : List StateRecord) (p : ℕ) (b : Ballot) → is_open (acceptor_of records p) b ≡ true → (place : ℕ) → place ≢ p
    → acceptor_of (committed records (Promise p b)) place ≡ acceptor_of records place
promised_beside records p b o place ne = acceptor_promise records p b o place ∙ put_away (acceptor_of records) p (promise (acceptor_of records p) b) place ne

-- an acceptance in an open ballot
accepted_here : (records : List StateRecord) (p : ℕ) (b : Ballot) (c : Command) → is_open (acceptor_of records p) b ≡ true
    → acceptor_of (committed records (Accepted p b c)) p ≡ accept b c
accepted_here records p b c o = acceptor_accepted records p b c o p ∙ put_here (acceptor_of records) p (accept b c)

accepted_beside : (records : List StateRecord) (p : ℕ) (b : Ballot) (c : Command) → is_open (acceptor_of records p) b ≡ true → (place : ℕ) → place ≢ p
    → acceptor_of (committed records (Accepted p b c)) place ≡ acceptor_of records place
accepted_beside records p b c o place ne = acceptor_accepted records p b c o place ∙ put_away (acceptor_of records) p (accept b c) place ne

no_promise : (p place : ℕ) (b ballot : Ballot) (command : Command) → Promise p b ≡ Accepted place ballot command → ⊥
no_promise p place b ballot command e = absurd cc

no_choice : (p place : ℕ) (ballot : Ballot) (c command : Command) → Chosen p c ≡ Accepted place ballot command → ⊥
no_choice p place ballot c command e = absurd cc

-- ### The schedule and the device

pub seen_promise : (n : ℕ) (records : List StateRecord) (entries : List Command) (p : World) (place : ℕ) (b : Ballot)
    → is_open (acceptor_of records place) b ≡ true
    → IsSeenAt n records entries p → IsSeenAt n (committed records (Promise place b)) entries (keep p n place (promise (p.acceptors n place) b))
seen_promise n records entries p place b o seen = record {
  acceptors = λ j. elim (same_or_apart place j) [
    | inl e ↦ subst (λ j. put_at p.acceptors n place (promise (p.acceptors n place) b) n j ≡ acceptor_of (committed records (Promise place b)) j) e
        (put_at_here p.acceptors n place _ ∙ ap (λ a. promise a b) (seen.acceptors place) ∙ sym (promised_here records place b o))
    | inr ne ↦ put_at_beside p.acceptors n place _ n j (λ e. ne (sym e)) ∙ seen.acceptors j ∙ sym (promised_beside records place b o j (λ e. ne (sym e)))
  ];
  known = λ j. seen.known j ∙ sym (known_promise records place b j);
  inc = seen.inc ∙ sym (inc_promise records place b);
  votes = same_votes n records entries p (Promise place b) (λ j ballot command. no_promise place j b ballot command) seen;
  told = λ j command e. let t = seen.told j command (sym (known_promise records place b j) ∙ e) in record { from = t.from; is = t.is };
  applied = λ i command e. known_promise records place b (i + 1) ∙ seen.applied i command e;
}

this_vote : (n place j : ℕ) (b ballot : Ballot) (c command : Command) → vote n j ballot command ≡ vote n place b c
    → Accepted place b c ≡ Accepted j ballot command
this_vote n place j b ballot c command e = let x : j ≡ place = cc in let y : ballot ≡ b = cc in let z : command ≡ c = cc in cc

that_vote : (n place j : ℕ) (b ballot : Ballot) (c command : Command) → Accepted place b c ≡ Accepted j ballot command
    → vote n j ballot command ≡ vote n place b c
that_vote n place j b ballot c command e = let x : j ≡ place = cc in let y : ballot ≡ b = cc in let z : command ≡ c = cc in cc

seen_accept : (n : ℕ) (records : List StateRecord) (entries : List Command) (p : World) (place : ℕ) (b : Ballot) (c : Command)
    → is_open (acceptor_of records place) b ≡ true
    → IsSeenAt n records entries p → IsSeenAt n (committed records (Accepted place b c)) entries (cast (keep p n place (accept b c)) (vote n place b c))
seen_accept n records entries p place b c o seen = record {
  acceptors = λ j. elim (same_or_apart place j) [
    | inl e ↦ subst (λ j. put_at p.acceptors n place (accept b c) n j ≡ acceptor_of (committed records (Accepted place b c)) j) e
        (put_at_here p.acceptors n place _ ∙ sym (accepted_here records place b c o))
    | inr ne ↦ put_at_beside p.acceptors n place _ n j (λ e. ne (sym e)) ∙ seen.acceptors j ∙ sym (accepted_beside records place b c o j (λ e. ne (sym e)))
  ];
  known = λ j. seen.known j ∙ sym (known_accepted records place b c j);
  inc = seen.inc ∙ sym (inc_accepted records place b c);
  votes = λ j ballot command. (
    λ i. (in_committed records (Accepted place b c) j ballot command).1 (elim (in_cons _ _ _ i) [
      | inl e ↦ inl (this_vote n place j b ballot c command e)
      | inr old ↦ inr ((seen.votes j ballot command).0 old)
    ]),
    λ i. elim ((in_committed records (Accepted place b c) j ballot command).0 i) [
      | inl e ↦ subst (λ x. In x (vote n place b c ∷ p.votes)) (sym (that_vote n place j b ballot c command e)) (in_here _ _)
      | inr old ↦ in_there _ _ _ ((seen.votes j ballot command).1 old)
    ],
  );
  told = λ j command e. let t = seen.told j command (sym (known_accepted records place b c j) ∙ e) in record { from = t.from; is = t.is };
  applied = λ i command e. known_accepted records place b c (i + 1) ∙ seen.applied i command e;
}

pub seen_learn : (n : ℕ) (records : List StateRecord) (entries : List Command) (p : World) (place : ℕ) (c : Command) → IsAnnounced p place c
    → ((d : Command) → known_at records place ≡ Some d → d ≡ c)
    → IsSeenAt n records entries p → IsSeenAt n (committed records (Chosen place c)) entries (learn p n place c)
seen_learn n records entries p place c t one seen = record {
  acceptors = λ j. seen.acceptors j ∙ sym (acceptor_chosen records place c j);
  known = λ j. elim (same_or_apart place j) [
    | inl e ↦ subst (λ j. put_at p.known n place (Some c) n j ≡ known_at (committed records (Chosen place c)) j) e (put_at_here p.known n place _
        ∙ sym (known_here records place c))
    | inr ne ↦ put_at_beside p.known n place _ n j (λ e. ne (sym e)) ∙ seen.known j ∙ sym (known_elsewhere records place c j (λ e. ne (sym e)))
  ];
  inc = seen.inc ∙ sym (inc_chosen records place c);
  votes = same_votes n records entries p (Chosen place c) (λ j ballot command. no_choice place j ballot c command) seen;
  told = λ j command e. elim (same_or_apart place j) [
    | inl is ↦ (let same : c ≡ command = same_some (sym (known_here records place c) ∙ ap (known_at (committed records (Chosen place c))) is ∙ e) in
        record { from = t.from; is = subst (λ (x : ℕ × Command). In (sent t.from (pax.Chosen x.0 x.1)) p.letters) (λ i. (is i, same i)) t.is })
    | inr ne ↦ (let old = seen.told j command (sym (known_elsewhere records place c j (λ e. ne (sym e))) ∙ e) in record { from = old.from; is = old.is })
  ];
  applied = λ i command e. elim (same_or_apart place (i + 1)) [
    | inl is ↦ (let same : command ≡ c = one command (ap (known_at records) is ∙ seen.applied i command e) in
        sym (ap (known_at (committed records (Chosen place c))) is) ∙ known_here records place c ∙ ap Some (sym same))
    | inr ne ↦ known_elsewhere records place c (i + 1) (λ e. ne (sym e)) ∙ seen.applied i command e
  ];
}

-- ### What the server does

quiet_promise : (place : ℕ) (a : Acceptor) (b : Ballot) → IsLow (prepare_reply place a b)
quiet_promise place a b = by_test IsLow (is_open a b) _ _ (λ e. tt) (λ e. tt)

quiet_acceptance : (place : ℕ) (a : Acceptor) (b : Ballot) → IsLow (accept_reply place a b)
quiet_acceptance place a b = by_test IsLow (is_open a b) _ _ (λ e. tt) (λ e. tt)

module _ (it : RunningLog) where
  open it use {servers, n, log, p, low, seen, busy}

  prepared : (to : Actor) (place : ℕ) (b : Ballot) → b.server < 256 → (one two : Pax) → one ≡ two → IsLow two
      → (o u : Bool) → is_open (acceptor_of log.records place) b ≡ o → u ≡ o
      → Turns servers n true (if o then commits log (Promise place b) else log) (record { to = to; body = body.Pax one } ∷ []) p
      (send (keep p n place (if u then promise (p.acceptors n place) b else p.acceptors n place)) n two)
  prepared to place b lt one two e l true true is same =
      replied servers n (commits log (Promise place b)) to one two p (keep p n place (promise (p.acceptors n place) b)) e (apart_keep n p place _)
      (low_keep p n place _ (λ ballot is. let f : ballot ≡ b = sym (same_some is) in subst (λ (x : Ballot). x.server < 256) (sym f) lt) low) l
      (seen_promise n log.records log.applied p place b is seen) (busy_same servers n true log.phase p _ (λ x i. i) refl busy)
  prepared to place b lt one two e l false false is same =
      replied servers n log to one two p (keep p n place (p.acceptors n place)) e (apart_keep n p place _)
      (low_keep p n place _ (λ ballot is. low.acceptors n place ballot is) low) l
      (seen_same n log.records log.applied p _ (λ x i. i) (λ j. put_at_itself p.acceptors n place j) (λ j. refl) refl
      (λ j ballot command. (λ i. i, λ i. i)) seen)
      (busy_same servers n true log.phase p _ (λ x i. i) refl busy)
  prepared to place b lt one two e l true false is same = absurd cc
  prepared to place b lt one two e l false true is same = absurd cc

  accepted : (to : Actor) (place : ℕ) (b : Ballot) (c : Command) → b.server < 256 → (one two : Pax) → one ≡ two → IsLow two
      → (o u : Bool) → is_open (acceptor_of log.records place) b ≡ o → u ≡ o
      → Turns servers n true (if o then commits log (Accepted place b c) else log) (record { to = to; body = body.Pax one } ∷ []) p
      (send (if u then cast (keep p n place (accept b c)) (vote n place b c) else p) n two)
  accepted to place b c lt one two e l true true is same =
      replied servers n (commits log (Accepted place b c)) to one two p _ e (apart_both n p _ _ (apart_keep n p place _) (apart_cast n _ place b c))
      (low_cast _ _ (low_keep p n place _ (λ ballot is. let f : ballot ≡ b = sym (same_some is) in subst (λ (x : Ballot). x.server < 256) (sym f) lt) low)) l
      (seen_accept n log.records log.applied p place b c is seen) (busy_same servers n true log.phase p _ (λ x i. i) refl busy)
  accepted to place b c lt one two e l false false is same = replied servers n log to one two p p e (apart_itself n p) low l seen busy
  accepted to place b c lt one two e l true false is same = absurd cc
  accepted to place b c lt one two e l false true is same = absurd cc

  module _ (Good : ℕ → Command → Type 0) (there : Phase) (is : p.proposers n ≡ Some there) where
    pub prepare_turn : (from place : ℕ) (b : Ballot) → In (sent from (pax.Prepare place b)) p.letters
        → HasTurn servers n true (on_prepare log from place b).log (on_prepare log from place b).posts p Good
    prepare_turn from place b i =
        by_letter servers n _ _ p Good there from (pax.Prepare place b) is i
        (prepared (actor.Server from) place b (low.letters from (pax.Prepare place b) i) _ _ (ap (λ a. prepare_reply place a b) (sym (seen.acceptors place)))
        (quiet_promise place (p.acceptors n place) b) _ _ refl (ap (λ a. is_open a b) (seen.acceptors place)))

    pub accept_turn : (from place : ℕ) (b : Ballot) (c : Command) → In (sent from (pax.Accept place b c)) p.letters
        → HasTurn servers n true (on_accept log from place b c).log (on_accept log from place b c).posts p Good
    accept_turn from place b c i =
        by_letter servers n _ _ p Good there from (pax.Accept place b c) is i
        (accepted (actor.Server from) place b c (low.letters from (pax.Accept place b c) i) _ _ (ap (λ a. accept_reply place a b) (sym (seen.acceptors place)))
        (quiet_acceptance place (p.acceptors n place) b) _ _ refl (ap (λ a. is_open a b) (seen.acceptors place)))

    pub learn_turn : (place : ℕ) (c : Command) → IsAnnounced p place c → ((d : Command) → IsAnnounced p place d → d ≡ c)
        → HasTurn servers n true (learns log place c).log [] p Good
    unfolding learns
    learn_turn place c t one =
        by_letter servers n _ [] p Good there t.from (pax.Chosen place c) is t.is
        (record {
          apart = apart_learn n p place c;
          low = low_learn p n place c low;
          seen = seen_learn n log.records log.applied p place c t (λ d e. one d (seen.told place d e)) seen;
          busy = busy_same servers n true log.phase p _ (λ x i. i) refl busy;
          posted = λ post i. no_posts post i;
        })

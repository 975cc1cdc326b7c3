-- What changes in a schedule when one server does something.
use Rattle.law_log.proofs.Imports.{[], ◌++◌, ◌+◌, ◌<◌, ◌↔◌, ◌∙◌, ◌∷◌, ◌≡◌, ◌≢◌, ◌⊎◌, Acceptor, Actor, Among, Ballot, Body, Bool, Collecting, Command, Event}
use Rattle.law_log.proofs.Imports.{Goes, Handed, Idle, In, IsAbout, IsAnnounced, IsAskedFor, IsProposer, IsWanted, Leave, Letter, List, Log, None, Option}
use Rattle.law_log.proofs.Imports.{Pax, Phase, Post, Sent, Some, Starts, StateRecord, Stops, Vote, Voting, World, ap, cast, false, handed, in_cons, in_here}
use Rattle.law_log.proofs.Imports.{in_there, inl, inr, keep, learn, only, put_at_cases, refl, run, run-append, send, sent, subst, sym, true, turn, vote, ℕ}
use Rattle.law_log.specs.AgreedLog.{IsReached, IsLow, AreLow, IsSeenAt, IsBusyAs, IsBacked}
use Rattle.law_log.proofs.ListPlaces.{placed, put_here, put_away, put_at_away}
use Rattle.petal_msg.specs.declared.body.Body.TheVariants as body
use Rattle.spec_rules.specs.declared.job.Job.TheVariants as job

-- ### Only one server's part changed

pub record IsApart (n : ℕ) (p q : World) : Type 0 where
  pub acceptors : (s place : ℕ) → s ≢ n → q.acceptors s place ≡ p.acceptors s place
  pub known : (s place : ℕ) → s ≢ n → q.known s place ≡ p.known s place
  pub incs : (s : ℕ) → s ≢ n → q.incs s ≡ p.incs s
  pub proposers : (s : ℕ) → s ≢ n → q.proposers s ≡ p.proposers s
  pub votes : (s place : ℕ) (ballot : Ballot) (command : Command) → s ≢ n → In (vote s place ballot command) q.votes → In (vote s place ballot command) p.votes
  pub more : (x : Vote) → In x p.votes → In x q.votes
  pub letters : (x : Sent) → In x p.letters → In x q.letters

-- a world of the same votes
apart_but : (n : ℕ) (p q : World) → ((s place : ℕ) → s ≢ n → q.acceptors s place ≡ p.acceptors s place)
    → ((s place : ℕ) → s ≢ n → q.known s place ≡ p.known s place) → ((s : ℕ) → s ≢ n → q.proposers s ≡ p.proposers s) → q.incs ≡ p.incs
    → q.votes ≡ p.votes → ((x : Sent) → In x p.letters → In x q.letters) → IsApart n p q
apart_but n p q acceptors known proposers incs votes letters = record {
  acceptors = acceptors;
  known = known;
  incs = λ s ne. ap (λ f. f s) incs;
  proposers = proposers;
  votes = λ s place ballot command ne i. subst (In (vote s place ballot command)) votes i;
  more = λ x i. subst (In x) (sym votes) i;
  letters = letters;
}

pub apart_itself : (n : ℕ) (p : World) → IsApart n p p
apart_itself n p = apart_but n p p (λ s place ne. refl) (λ s place ne. refl) (λ s ne. refl) refl refl (λ x i. i)

pub apart_both : (n : ℕ) (p q r : World) → IsApart n p q → IsApart n q r → IsApart n p r
apart_both n p q r a b = record {
  acceptors = λ s place ne. b.acceptors s place ne ∙ a.acceptors s place ne;
  known = λ s place ne. b.known s place ne ∙ a.known s place ne;
  incs = λ s ne. b.incs s ne ∙ a.incs s ne;
  proposers = λ s ne. b.proposers s ne ∙ a.proposers s ne;
  votes = λ s place ballot command ne i. a.votes s place ballot command ne (b.votes s place ballot command ne i);
  more = λ x i. b.more x (a.more x i);
  letters = λ x i. b.letters x (a.letters x i);
}

pub apart_keep : (n : ℕ) (p : World) (place : ℕ) (a : Acceptor) → IsApart n p (keep p n place a)
apart_keep n p place a =
    apart_but n p (keep p n place a) (λ s j ne. put_at_away p.acceptors n place a s j ne) (λ s j ne. refl) (λ s ne. refl) refl refl (λ x i. i)

other_vote : (s n place at : ℕ) (ballot b : Ballot) (command c : Command) → s ≢ n → vote s place ballot command ≡ vote n at b c → ⊥
other_vote s n place at ballot b command c ne e = let f : s ≡ n = cc in ne f

pub apart_cast : (n : ℕ) (p : World) (at : ℕ) (b : Ballot) (c : Command) → IsApart n p (cast p (vote n at b c))
apart_cast n p at b c = record {
  acceptors = λ s j ne. refl;
  known = λ s place ne. refl;
  incs = λ s ne. refl;
  proposers = λ s ne. refl;
  votes = λ s place ballot command ne i. elim (in_cons _ _ _ i) [ inl e ↦ absurd (other_vote s n place at ballot b command c ne e) | inr old ↦ old ];
  more = λ x i. in_there _ _ _ i;
  letters = λ x i. i;
}

pub apart_learn : (n : ℕ) (p : World) (place : ℕ) (c : Command) → IsApart n p (learn p n place c)
apart_learn n p place c =
    apart_but n p (learn p n place c) (λ s j ne. refl) (λ s j ne. put_at_away p.known n place (Some c) s j ne) (λ s ne. refl) refl refl (λ x i. i)

pub apart_send : (n : ℕ) (p : World) (said : Pax) → IsApart n p (send p n said)
apart_send n p said = apart_but n p (send p n said) (λ s j ne. refl) (λ s j ne. refl) (λ s ne. refl) refl refl (λ x i. in_there _ _ _ i)

pub apart_turn : (n : ℕ) (p : World) (to : Option Phase) → IsApart n p (turn p n to)
apart_turn n p to =
    apart_but n p (turn p n to) (λ s j ne. refl) (λ s j ne. refl) (λ s ne. put_away p.proposers n to s ne) refl refl (λ x i. i)

-- ### What stays so while letters are added

pub told_more : (p q : World) → ((x : Sent) → In x p.letters → In x q.letters) → (place : ℕ) (command : Command) → IsAnnounced p place command
    → IsAnnounced q place command
told_more p q more place command t = record { from = t.from; is = more _ t.is }

pub reached_more : (p q : World) → ((x : Sent) → In x p.letters → In x q.letters) → (place : ℕ) → IsReached p place → IsReached q place
reached_more p q more place r = record { starts = r.starts; told = λ i lt. let t = r.told i lt in (t.0, told_more p q more (i + 1) t.0 t.1) }

pub asked_more : (p q : World) → ((x : Sent) → In x p.letters → In x q.letters) → (s servers : ℕ) (phase : Phase) → IsAskedFor p s servers phase
    → IsAskedFor q s servers phase
asked_more p q more s servers Idle a = tt
asked_more p q more s servers (Collecting place ballot want heard best) a = more _ a
asked_more p q more s servers (Voting place ballot command heard) a = (more _ a.0, λ e. more _ (a.1 e))

-- ### Low ballots

pub low_keep : (p : World) (n place : ℕ) (a : Acceptor) → ((ballot : Ballot) → a.promised ≡ Some ballot → ballot.server < 256) → AreLow p
    → AreLow (keep p n place a)
low_keep p n place a new low = record {
  acceptors = λ s j ballot is. elim (put_at_cases p.acceptors n place a s j) [
    | inl c ↦ new ballot (ap (λ (x : Acceptor). x.promised) (sym c.2) ∙ is)
    | inr c ↦ low.acceptors s j ballot (ap (λ (x : Acceptor). x.promised) (sym c.1) ∙ is)
  ];
  letters = low.letters;
}

pub low_cast : (p : World) (x : Vote) → AreLow p → AreLow (cast p x)
low_cast p x low = record { acceptors = low.acceptors; letters = low.letters }

pub low_learn : (p : World) (n place : ℕ) (c : Command) → AreLow p → AreLow (learn p n place c)
low_learn p n place c low = record { acceptors = low.acceptors; letters = low.letters }

pub low_turn : (p : World) (n : ℕ) (to : Option Phase) → AreLow p → AreLow (turn p n to)
low_turn p n to low = record { acceptors = low.acceptors; letters = low.letters }

low_said : (f n : ℕ) (x said : Pax) → sent f x ≡ sent n said → IsLow said → IsLow x
low_said f n x said e l = let is : x ≡ said = cc in subst IsLow (sym is) l

pub low_send : (p : World) (n : ℕ) (said : Pax) → IsLow said → AreLow p → AreLow (send p n said)
low_send p n said l low = record {
  acceptors = low.acceptors;
  letters = λ from x i. elim (in_cons _ _ _ i) [ inl e ↦ low_said from n x said e l | inr old ↦ low.letters from x old ];
}

-- ### What one server does

-- its log and what it sends, as the schedule q has them after p
pub record Turns (servers n : ℕ) (running : Bool) (log : Log) (posts : List Post) (p q : World) : Type 0 where
  pub apart : IsApart n p q
  pub low : AreLow q
  pub seen : IsSeenAt n log.records log.applied q
  pub busy : IsBusyAs servers n running log.phase q
  pub posted : (post : Post) → Among post posts → IsBacked q (λ command. ⊥) (λ said. In (sent n said) q.letters) post.body

-- there are such events; what they want may be wanted
pub record HasTurn (servers n : ℕ) (running : Bool) (log : Log) (posts : List Post) (p : World) (Good : ℕ → Command → Type 0) : Type 0 where
  pub events : List Event
  pub wanted : (place : ℕ) (command : Command) → IsWanted events place command → Good place command
  pub turns : Turns servers n running log posts p (run servers events p)

-- what may be wanted, may also be so in another sense
pub turn_more : (servers n : ℕ) (running : Bool) (log : Log) (posts : List Post) (p : World) (Good Better : ℕ → Command → Type 0)
    → ((place : ℕ) (c : Command) → Good place c → Better place c) → HasTurn servers n running log posts p Good → HasTurn servers n running log posts p Better
turn_more servers n running log posts p Good Better more t =
    record { events = t.events; wanted = λ place c h. more place c (t.wanted place c h); turns = t.turns }

-- a letter that was sent is handed over
pub by_letter : (servers n : ℕ) (log : Log) (posts : List Post) (p : World) (Good : ℕ → Command → Type 0) (there : Phase) (from : ℕ) (said : Pax)
    → p.proposers n ≡ Some there → In (sent from said) p.letters → Turns servers n true log posts p (handed servers p n there from said Goes)
    → HasTurn servers n true log posts p Good
by_letter servers n log posts p Good there from said is i t =
    let at = placed (sent from said) p.letters i in
    record {
      events = Handed at.0 n Goes ∷ [];
      wanted = λ place command h. absurd h;
      turns = rw (is, at.1) t;
    }

-- ### What stays of one server

pub seen_same : (s : ℕ) (records : List StateRecord) (entries : List Command) (p q : World) → ((x : Sent) → In x p.letters → In x q.letters)
    → ((place : ℕ) → q.acceptors s place ≡ p.acceptors s place) → ((place : ℕ) → q.known s place ≡ p.known s place) → q.incs s ≡ p.incs s
    → ((place : ℕ) (ballot : Ballot) (command : Command) → In (vote s place ballot command) q.votes ↔ In (vote s place ballot command) p.votes)
    → IsSeenAt s records entries p → IsSeenAt s records entries q
seen_same s records entries p q more acceptors known inc votes seen = record {
  acceptors = λ place. acceptors place ∙ seen.acceptors place;
  known = λ place. known place ∙ seen.known place;
  inc = inc ∙ seen.inc;
  votes = λ place ballot command. (
    λ i. (seen.votes place ballot command).0 ((votes place ballot command).0 i),
    λ i. (votes place ballot command).1
        ((seen.votes place ballot command).1 i),
  );
  told = λ place command e. told_more p q more place command (seen.told place command e);
  applied = seen.applied;
}

pub seen_apart : (s n : ℕ) (records : List StateRecord) (entries : List Command) (p q : World) → s ≢ n → IsApart n p q → IsSeenAt s records entries p
    → IsSeenAt s records entries q
seen_apart s n records entries p q ne a seen =
    seen_same s records entries p q a.letters (λ place. a.acceptors s place ne) (λ place. a.known s place ne) (a.incs s ne)
    (λ place ballot command. (a.votes s place ballot command ne, a.more _)) seen

pub busy_same : (servers s : ℕ) (running : Bool) (phase : Phase) (p q : World) → ((x : Sent) → In x p.letters → In x q.letters) → q.proposers s ≡ p.proposers s
    → IsBusyAs servers s running phase p → IsBusyAs servers s running phase q
busy_same servers s running phase p q more e busy = record {
  proposer = subst (IsProposer running phase) (sym e) busy.proposer;
  asked = asked_more p q more s servers phase busy.asked;
}

-- a reply that the schedule sends too
pub replied : (servers n : ℕ) (log : Log) (to : Actor) (one two : Pax) (p q : World) → one ≡ two → IsApart n p q → AreLow q → IsLow two
    → IsSeenAt n log.records log.applied q → IsBusyAs servers n true log.phase q
    → Turns servers n true log (record { to = to; body = body.Pax one } ∷ []) p (send q n two)
replied servers n log to one two p q same a low l seen busy = record {
  apart = apart_both n p q _ a (apart_send n q two);
  low = low_send q n two l low;
  seen = seen_same n log.records log.applied q _ (λ x i. in_there _ _ _ i) (λ place. refl) (λ place. refl) refl (λ place ballot command. (λ i. i, λ i. i)) seen;
  busy = busy_same servers n true log.phase q _ (λ x i. in_there _ _ _ i) refl busy;
  posted = λ post i.
      only (λ (x : Post). IsBacked (send q n two) (λ command. ⊥) (λ said. In (sent n said) (send q n two).letters) x.body) _ post i
      (subst (λ said. In (sent n said) (sent n two ∷ q.letters)) (sym same) (in_here _ _));
}

-- ### What letters say

pub backed_more : (p q : World) (Good Fine : Command → Type 0) (Said Heard : Pax → Type 0) → ((x : Sent) → In x p.letters → In x q.letters)
    → ((c : Command) → Good c → Fine c) → ((said : Pax) → Said said → Heard said) → (what : Body) → IsBacked p Good Said what → IsBacked q Fine Heard what
backed_more p q Good Fine Said Heard more good said (body.Down server inc) h = good (Leave server inc) h
backed_more p q Good Fine Said Heard more good said (body.Propose command) h = good command h
backed_more p q Good Fine Said Heard more good said (body.Pax x) h = said x h
backed_more p q Good Fine Said Heard more good said (body.News after commands) h = λ i command e. told_more p q more (after + i + 1) command (h i command e)
backed_more p q Good Fine Said Heard more good said _ h = tt

-- the proposer turns to what was asked for
pub turned : (servers n : ℕ) (log : Log) (posts : List Post) (p r : World) (there : Phase) → IsApart n p r → AreLow r → IsSeenAt n log.records log.applied r
    → IsAbout log.phase there → IsAskedFor r n servers log.phase
    → ((post : Post) → Among post posts → IsBacked r (λ command. ⊥) (λ said. In (sent n said) r.letters) post.body)
    → Turns servers n true log posts p (turn r n (Some there))
turned servers n log posts p r there a low seen about asked posted = record {
  apart = apart_both n p r (turn r n (Some there)) a (apart_turn n r (Some there));
  low = low_turn r n (Some there) low;
  seen = seen_same n log.records log.applied r (turn r n (Some there)) (λ x i. i) (λ place. refl) (λ place. refl) refl
      (λ place ballot command. (λ i. i, λ i. i)) seen;
  busy = record {
    proposer = subst (IsProposer true log.phase) (sym (put_here r.proposers n (Some there))) (refl, about);
    asked = asked_more r (turn r n (Some there)) (λ x i. i) n servers log.phase asked;
  };
  posted = λ post i. backed_more r (turn r n (Some there)) (λ c. ⊥) (λ c. ⊥) (λ said. In (sent n said) r.letters)
      (λ said. In (sent n said) r.letters) (λ x i. i)
      (λ c h. h) (λ said h. h) post.body (posted post i);
}

-- nothing happens in the schedule
pub still : (servers n : ℕ) (running : Bool) (log : Log) (posts : List Post) (p : World) (Good : ℕ → Command → Type 0) → AreLow p
    → IsSeenAt n log.records log.applied p
    → IsBusyAs servers n running log.phase p → ((post : Post) → Among post posts → IsBacked p (λ command. ⊥) (λ said. In (sent n said) p.letters) post.body)
    → HasTurn servers n running log posts p Good
still servers n running log posts p Good low seen busy posted = record {
  events = [];
  wanted = λ place command h. absurd h;
  turns = record { apart = apart_itself n p; low = low; seen = seen; busy = busy; posted = posted };
}

pub no_letter : {A : Type 0} (letter : Letter) → Among (job.Letter letter) [] → A
unfolding Among
no_letter letter h = absurd h

pub no_posts : {A : Type 0} (post : Post) → Among post [] → A
unfolding Among
no_posts post h = absurd h

-- ### A server stops

pub wanted_on : (prefix suffix : List Event) (place : ℕ) (c : Command) → IsWanted (prefix ++ suffix) place c → IsWanted prefix place c ⊎ IsWanted suffix place c
wanted_on [] suffix place c h = inr h
wanted_on (Starts s at round want end ∷ prefix) suffix place c (inl is) = inl (inl is)
wanted_on (Starts s at round want end ∷ prefix) suffix place c (inr h) =
    elim (wanted_on prefix suffix place c h) [ inl old ↦ inl (inr old) | inr new ↦ inr new ]
wanted_on (_ ∷ prefix) suffix place c h = wanted_on prefix suffix place c h

-- what it did stands, and nothing of what it would send
pub stop_turn : (servers n : ℕ) (log : Log) (posts : List Post) (p : World) (Good : ℕ → Command → Type 0) → HasTurn servers n true log posts p Good
    → HasTurn servers n false log [] p Good
stop_turn servers n log posts p Good turn_of =
    let q = run servers turn_of.events p in
    let t = turn_of.turns in
    record {
      events = turn_of.events ++ Stops n ∷ [];
      wanted = λ place command h.
          elim (wanted_on turn_of.events (Stops n ∷ []) place command h) [ inl old ↦ turn_of.wanted place command old | inr none ↦ absurd none ];
      turns = subst (Turns servers n false log [] p) (sym (run-append servers p turn_of.events (Stops n ∷ []))) (record {
        apart = apart_both n p q (turn q n None) t.apart (apart_turn n q None);
        low = low_turn q n None t.low;
        seen = seen_same n log.records log.applied q (turn q n None) (λ x i. i) (λ place. refl) (λ place. refl) refl
            (λ place ballot command. (λ i. i, λ i. i)) t.seen;
        busy = record {
          proposer = subst (IsProposer false log.phase) (sym (put_here q.proposers n None)) refl;
          asked = asked_more q (turn q n None) (λ x i. i) n servers log.phase t.busy.asked;
        };
        posted = λ post i. no_posts post i;
      });
    }

-- a server that runs has a proposer there
pub proposer_there : (phase : Phase) (o : Option Phase) → IsProposer true phase o → (there : Phase) × (o ≡ Some there) × IsAbout phase there
proposer_there phase None h = let f : true ≡ false = h in absurd cc
proposer_there phase (Some there) h = (there, refl, h.1)

pub about_itself : (phase : Phase) → IsAbout phase phase
about_itself Idle = tt
about_itself (Collecting place ballot want heard best) = refl
about_itself (Voting place ballot command heard) = refl

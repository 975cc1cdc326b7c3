-- Each event keeps what holds, and so does each schedule.
use Rattle.law_agreement.proofs.Imports.{[], if◌then◌else◌, ◌&&◌, ◌<◌, ◌==◌, ◌∙◌, ◌∷◌, ◌≡◌, ◌≢◌, ◌≤◌, ◌⊎◌, Accept, Accepted, Ballot, Bool, Boots, Chosen}
use Rattle.law_agreement.proofs.Imports.{Collecting, Command, End, Event, Goes, Handed, Idle, In, IsChosen, IsMajority, List, None, Option, Pax, Phase}
use Rattle.law_agreement.proofs.Imports.{Prepare, Promise, Refuse, Sent, Some, Starts, Stops, StopsAfter, StopsBefore, Voting, World, arith, arrives, begin}
use Rattle.law_agreement.proofs.Imports.{boots, collected, collecting, comes_out, counted, counts, ended, false, get_or-set_other, handed, happens}
use Rattle.law_agreement.proofs.Imports.{has_majority, hear, higher, higher_ranks, in_got, in_here, in_nil, in_there, inl, inr, is_for, is_in, is_open}
use Rattle.law_agreement.proofs.Imports.{is_unpromised, keep, learn, nat_lt, nat_tests, not, number, promise, put_at_cases, raise, rank_of, refl, refusal}
use Rattle.law_agreement.proofs.Imports.{run, same, send, sent, set, started, starting, starts, subst, sym, to_propose, true, turn, vote, ℕ}
use Rattle.law_agreement.proofs.ScheduleFacts.{promised, HasPromised, IsGreatestBelow, HasCast, SomeoneCast, Asked, IsSafe, IsBacked, Knows, HasNotAsked}
use Rattle.law_agreement.proofs.ScheduleFacts.{Holds}
use Rattle.law_agreement.proofs.LaterWorldsSay.{later_cast}
use Rattle.law_agreement.proofs.MovesKeepFacts.{keep_later, cast_in, one_server, not_in_nobody, Origin, HasOrigin, Promises, Casts, Sends, Turns, Asks}
use Rattle.law_agreement.proofs.MovesKeepFacts.{Learns, Raises, move_holds, Leads, Still, goes, last, keeps}
use Rattle.law_agreement.proofs.Quorum.{meet, either}

-- tests

and_both : (a b : Bool) → (a && b) ≡ true → (a ≡ true) × (b ≡ true)
and_both true true e = (refl, refl)
and_both true false e = absurd (cc)
and_both false b e = absurd (cc)

same_ballot : (a b : Ballot) → same a b ≡ true → a ≡ b
same_ballot a b e =
    let k = and_both (a.round == b.round) (a.server == b.server) e in
    let r : a.round ≡ b.round = grind (arith, nat_tests) in
    let s : a.server ≡ b.server = grind (arith, nat_tests) in
    λ i. record { round = r i; server = s i }

pub record IsFor (p : ℕ) (b : Ballot) (place : ℕ) (ballot : Ballot) : Type 0 where
  pub place_is : p ≡ place
  pub ballot_is : b ≡ ballot

pub for_them : (p : ℕ) (b : Ballot) (place : ℕ) (ballot : Ballot) → is_for p b place ballot ≡ true → IsFor p b place ballot
for_them p b place ballot e =
    let k = and_both (p == place) (same b ballot) e in
    record { place_is = grind (arith, nat_tests); ballot_is = same_ballot b ballot k.1 }

-- who is in a list that one more joined
pub joined : (who : List Bool) (from k : ℕ) → is_in (set who from true) k ≡ true → (k ≡ from) ⊎ (is_in who k ≡ true)
joined who from k e = joined_by who from k e (k == from) refl
  where
    joined_by : (who : List Bool) (from k : ℕ) → is_in (set who from true) k ≡ true → (b : Bool) → (k == from) ≡ b → (k ≡ from) ⊎ (is_in who k ≡ true)
    joined_by who from k e true f = inl (grind (arith, nat_tests))
    joined_by who from k e false f = inr (let d : k ≢ from = grind (arith, nat_tests) in rw get_or-set_other at e)

-- the proposer collects

higher_cast : (w : World) (p : ℕ) (a b : Option (Ballot × Command)) → SomeoneCast w p a → SomeoneCast w p b → SomeoneCast w p (higher a b)
higher_cast w p a b h k = elim (nat_lt (rank_of a) (rank_of b)) as (λ t. SomeoneCast w p (if t then b else a)) [ true ↦ k | false ↦ h ]

by_one : (w : World) (s p : ℕ) (a : Option (Ballot × Command)) → HasCast w s p a → SomeoneCast w p a
by_one w s p None h = h
by_one w s p (Some x) h = (s, h)

gathers : (w : World) (s place : ℕ) (ballot : Ballot) (want : Command) (who : List Bool) (best : Option (Ballot × Command)) (from : ℕ)
    (a : Option (Ballot × Command))
    → Knows w s (Some (Collecting place ballot want who best)) → HasPromised w from place ballot → IsGreatestBelow w from place (rank_of a) ballot
    → HasCast w from place a
    → Knows w s (Some (Collecting place ballot want (set who from true) (higher best a)))
gathers w s place ballot want who best from a h up great cast =
    let r = higher_ranks best a in (
      h.0,
      h.1,
      h.2,
      λ k i. elim (joined who from k i) [
        | inl e ↦ rw e (up, grind arith)
        | inr old ↦ let f = h.3 k old in (f.0, let g = f.1 in grind arith)
      ],
      higher_cast w place best a h.4 (by_one w from place a cast),
    )

lt_or_ge : (a b : ℕ) → (a < b) ⊎ (b ≤ a)
lt_or_ge a b = by a b (nat_lt a b) refl
  where
    by : (a b : ℕ) (t : Bool) → nat_lt a b ≡ t → (a < b) ⊎ (b ≤ a)
    by a b true e = inl (grind (arith, nat_tests))
    by a b false e = inr (grind (arith, nat_tests))

-- what a majority of promises lets a ballot propose is safe
is_safe : (n : ℕ) (w : World) → Holds n w → (s place : ℕ) (ballot : Ballot) (want : Command) (who : List Bool) (best : Option (Ballot × Command))
    → Knows w s (Some (Collecting place ballot want who best)) → IsMajority n (is_in who) → IsSafe n w place ballot (to_propose want best)
is_safe n w h s place ballot want who None k most c lt = let f = k.3 in
    (is_in who, most, λ j i. let g = f j i in let up = g.0 in let great = g.1 in (omega arith, grind arith))
is_safe n w h s place ballot want who (Some y) k most c lt = elim (lt_or_ge c (number y.0)) [
  | inl less ↦ (h.backed _ _ (h.asked _ _ _ _ k.4.1)).3 c less
  | inr more ↦ let f = k.3 in let by = k.4.1 in (
    is_in who,
    most,
    λ j i. let g = f j i in let up = g.0 in let great = g.1 in (
      omega arith,
      λ d u cast at. let low : number d < number ballot =
          omega arith in let under = great d u cast low in h.one place d y.0 u y.1 (h.asked _ _ _ _ cast) (h.asked _ _ _ _ by) (omega arith),
    ),
  )
]

-- the proposer hears a letter

pub at_true : (n : ℕ) (who : List Bool) → has_majority n who ≡ true → IsMajority n (is_in who)
at_true n who is = grind (arith, nat_tests)

collects : (n : ℕ) (e : Event) (w : World) → Holds n w → (s p : ℕ) (b : Ballot) (want : Command) (who : List Bool) (best : Option (Ballot × Command))
    → Knows w s (Some (Collecting p b want who best)) → HasNotAsked w (Some (Collecting p b want who best)) → Origin e w s p want
    → Leads n e w (comes_out w s (collected n p b want who best))
collects n e w h s p b want who best k unasked from = elim (either (has_majority n who)) [
  | inl is ↦ rw is (last n e w _ h (Asks s p b want who best k unasked (is_safe n w h s p b want who best k (at_true n who is)) from))
  | inr is ↦ rw is (last n e w _ h (Turns s (Some (Collecting p b want who best)) k unasked from))
]

tallies : (n : ℕ) (e : Event) (w : World) → Holds n w → (s p : ℕ) (b : Ballot) (v : Command) (before who : List Bool)
    → Knows w s (Some (Voting p b v who))
    → Leads n e w (comes_out w s (counted n p b v before who))
tallies n e w h s p b v before who k = elim (either (not (has_majority n before) && has_majority n who)) [
  | inl is ↦ rw is (
      let most = and_both (not (has_majority n before)) (has_majority n who) is in
      goes n e w _ _ h (Sends s (Chosen p v) (λ p b v e. cc) (b, is_in who, at_true n who most.1, k.1))
      (λ h'. last n e _ _ h' (Turns s (Some (Voting p b v who)) (in_later k.0, k.1) tt tt)))
  | inr is ↦ rw is (last n e w _ h (Turns s (Some (Voting p b v who)) k tt tt))
]
  where
    in_later : Asked w p b v → Asked (send w s (Chosen p v)) p b v
    in_later i = in_there _ _ _ i

hears_promise : (n : ℕ) (e : Event) (w : World) → Holds n w
    → (s p : ℕ) (b : Ballot) (want : Command) (who : List Bool) (best : Option (Ballot × Command)) (from q : ℕ) (d : Ballot) (a : Option (Ballot × Command))
    → Knows w s (Some (Collecting p b want who best)) → HasNotAsked w (Some (Collecting p b want who best)) → Origin e w s p want
    → IsBacked n w from (Promise q d a)
    → Leads n e w (comes_out w s (hear n (Collecting p b want who best) from (Promise q d a)))
hears_promise n e w h s p b want who best from q d a k unasked origin fact = elim (either (is_for q d p b && counts n who from)) [
  | inl is ↦ rw is (let it = for_them q d p b (and_both (is_for q d p b) (counts n who from) is).0 in
      let there = subst (λ q. IsBacked n w from (Promise q b a)) it.place_is (subst (λ d. IsBacked n w from (Promise q d a)) it.ballot_is fact) in
      collects n e w h s p b want (set who from true) (higher best a) (gathers w s p b want who best from a k there.0 there.1 there.2) unasked origin)
  | inr is ↦ rw is (last n e w _ h (Turns s (Some (Collecting p b want who best)) k unasked origin))
]

hears_accepted : (n : ℕ) (e : Event) (w : World) → Holds n w → (s p : ℕ) (b : Ballot) (v : Command) (who : List Bool) (from q : ℕ) (d : Ballot)
    → Knows w s (Some (Voting p b v who)) → IsBacked n w from (Accepted q d)
    → Leads n e w (comes_out w s (hear n (Voting p b v who) from (Accepted q d)))
hears_accepted n e w h s p b v who from q d k fact = elim (either (is_for q d p b && counts n who from)) [
  | inl is ↦ rw is (let it = for_them q d p b (and_both (is_for q d p b) (counts n who from) is).0 in
      let cast : In (vote from p b fact.0) w.votes =
      subst (λ q. In (vote from q b fact.0) w.votes) it.place_is (subst (λ d. In (vote from q d fact.0) w.votes) it.ballot_is fact.1) in
      let is_v : fact.0 ≡ v = h.one p b b fact.0 v (h.asked _ _ _ _ cast) k.0 refl in
      let cast_v = subst (λ v. In (vote from p b v) w.votes) is_v cast in
      tallies n e w h s p b v who (set who from true)
      (k.0, λ j i. elim (joined who from j i) [ inl new ↦ subst (λ j. In (vote j p b v) w.votes) (sym new) cast_v | inr old ↦ k.1 j old ]))
  | inr is ↦ rw is (last n e w _ h (Turns s (Some (Voting p b v who)) k tt tt))
]

hears_refuse : (n : ℕ) (e : Event) (w : World) → Holds n w → (s : ℕ) (q : Phase) → Knows w s (Some q) → HasNotAsked w (Some q) → HasOrigin e w s (Some q)
    → (from p : ℕ) (b m : Ballot) → Leads n e w (comes_out w s (hear n q from (Refuse p b m)))
hears_refuse n e w h s Idle k unasked origin from p b m = last n e w _ h (Turns s (Some Idle) k unasked origin)
hears_refuse n e w h s (Collecting place ballot want who best) k unasked origin from p b m = elim (either (is_for p b place ballot)) [
  | inl is ↦ rw is (last n e w _ h (Turns s (Some (Collecting place ballot want who best)) k unasked origin))
  | inr is ↦ rw is (last n e w _ h (Turns s (Some (Collecting place ballot want who best)) k unasked origin))
]
hears_refuse n e w h s (Voting place ballot v who) k unasked origin from p b m = elim (either (is_for p b place ballot)) [
  | inl is ↦ rw is (last n e w _ h (Turns s (Some (Voting place ballot v who)) k unasked origin))
  | inr is ↦ rw is (last n e w _ h (Turns s (Some (Voting place ballot v who)) k unasked origin))
]

hears : (n : ℕ) (e : Event) (w : World) → Holds n w → (s : ℕ) (q : Phase) → Knows w s (Some q) → HasNotAsked w (Some q) → HasOrigin e w s (Some q)
    → (from : ℕ) (l : Pax) → IsBacked n w from l → Leads n e w (comes_out w s (hear n q from l))
hears n e w h s (Collecting p b want who best) k unasked origin from (Promise q d a) fact =
    hears_promise n e w h s p b want who best from q d a k unasked origin fact
hears n e w h s (Voting p b v who) k unasked origin from (Accepted q d) fact = hears_accepted n e w h s p b v who from q d k fact
hears n e w h s q k unasked origin from (Refuse p b m) fact = hears_refuse n e w h s q k unasked origin from p b m
hears n e w h s q k unasked origin from l fact = last n e w _ h (Turns s (Some q) k unasked origin)

-- how a server comes out of a job with this commit

ends : (n : ℕ) (e : Event) (w k d : World) → Holds n w → (s : ℕ) → ((v : World) → (Holds n k → Leads n e k v) → Leads n e w v)
    → (Holds n k → Leads n e k d) → (end : End) → Leads n e w (ended w k d s end)
ends n e w k d h s commit rest Goes = commit d rest
ends n e w k d h s commit rest StopsBefore = last n e w _ h (Turns s None tt tt tt)
ends n e w k d h s commit rest StopsAfter = commit _ (λ h'. last n e k _ h' (Turns s None tt tt tt))

-- the acceptor

at_prepare : (n : ℕ) (e : Event) (w : World) → Holds n w → (s : ℕ) (q : Phase) (from p : ℕ) (b : Ballot) (end : End)
    → Leads n e w (handed n w s q from (Prepare p b) end)
at_prepare n e w h s q from p b end = elim (either (is_open (w.acceptors s p) b)) [
  | inl is ↦ rw is (
      let kept = keep w s p (promise (w.acceptors s p) b) in
      ends n e w kept (send kept s (Promise p b (w.acceptors s p).accepted)) h s
      (λ v rest. goes n e w kept v h (Promises s p (promise (w.acceptors s p) b) (grind (arith, nat_tests)) refl) rest)
      (λ h'. last n e kept _ h' (Sends s (Promise p b (w.acceptors s p).accepted) (λ p b v e. cc) (
        grind (arith, put_at_cases),
        λ d u x lt. (h.voted s p d u x).1,
        later_cast w kept (keep_later w s p (promise (w.acceptors s p) b) (grind (arith, nat_tests))) s p _ (h.accepted s p),
      ))) end)
  | inr is ↦ rw is (
      let kept = keep w s p (w.acceptors s p) in
      ends n e w kept (send kept s (refusal p (w.acceptors s p) b)) h s (λ v rest. goes n e w kept v h (Promises s p (w.acceptors s p) (omega arith) refl) rest)
      (λ h'. last n e kept _ h' (Sends s (refusal p (w.acceptors s p) b) (λ p b v e. cc) tt)) end)
]

at_accept : (n : ℕ) (e : Event) (w : World) → Holds n w → (s : ℕ) (q : Phase) (from p : ℕ) (b : Ballot) (v : Command) (end : End) → Asked w p b v
    → Leads n e w (handed n w s q from (Accept p b v) end)
at_accept n e w h s q from p b v end asked = elim (either (is_open (w.acceptors s p) b)) [
  | inl is ↦ rw is (
      let kept = cast_in w s p b v in
      ends n e w kept (send kept s (Accepted p b)) h s (λ u rest. goes n e w kept u h (Casts s p b v (grind (arith, nat_tests)) asked) rest)
      (λ h'. last n e kept _ h' (Sends s (Accepted p b) (λ p b v e. cc) (v, in_here _ _))) end)
  | inr is ↦ rw is (
      ends n e w w (send w s (refusal p (w.acceptors s p) b)) h s (λ u rest. rest h)
      (λ h'. last n e w _ h' (Sends s (refusal p (w.acceptors s p) b) (λ p b v e. cc) tt)) end)
]

at_chosen : (n : ℕ) (e : Event) (w : World) → Holds n w → (s : ℕ) (q : Phase) (from p : ℕ) (v : Command) (end : End) → IsChosen n w p v
    → Leads n e w (handed n w s q from (Chosen p v) end)
at_chosen n e w h s q from p v end fact =
    ends n e w (learn w s p v) (learn w s p v) h s (λ u rest. goes n e w (learn w s p v) u h (Learns s p v fact) rest) (λ h'. Still) end

listens : (n : ℕ) (e : Event) (w : World) → Holds n w → (s : ℕ) (q : Phase) → Knows w s (Some q) → HasNotAsked w (Some q) → HasOrigin e w s (Some q)
    → (from : ℕ) (l : Pax) → IsBacked n w from l → (end : End) → Leads n e w (ended w w (comes_out w s (hear n q from l)) s end)
listens n e w h s q k unasked origin from l fact end =
    ends n e w w (comes_out w s (hear n q from l)) h s (λ u rest. rest h) (λ h'. hears n e w h s q k unasked origin from l fact) end

-- what a proposer is about before an event
before : (e : Event) (w : World) (s : ℕ) (q : Phase) → w.proposers s ≡ Some q → HasOrigin e w s (Some q)
before e w s Idle is = tt
before e w s (Collecting p b want who best) is = inr (b, who, best, is)
before e w s (Voting p b v who) is = tt

-- a server handles a letter that was sent
handles : (n : ℕ) (e : Event) (w : World) → Holds n w → (s : ℕ) (q : Phase) → w.proposers s ≡ Some q → (from : ℕ) (l : Pax) → In (sent from l) w.letters
    → (end : End) → Leads n e w (handed n w s q from l end)
handles n e w h s q is from (Prepare p b) i end = at_prepare n e w h s q from p b end
handles n e w h s q is from (Accept p b v) i end =
    at_accept n e w h s q from p b v end (subst (λ f. In (sent f (Accept p b v)) w.letters) (h.backed from (Accept p b v) i).0 i)
handles n e w h s q is from (Chosen p v) i end = at_chosen n e w h s q from p v end (h.backed from (Chosen p v) i)
handles n e w h s q is from (Promise p b a) i end = listens n e w h s q (subst (Knows w s) is (h.knows s)) (subst (HasNotAsked w) is (h.not_asked s))
    (before e w s q is) from (Promise p b a) (h.backed _ _ i) end
handles n e w h s q is from (Accepted p b) i end = listens n e w h s q (subst (Knows w s) is (h.knows s)) (subst (HasNotAsked w) is (h.not_asked s))
    (before e w s q is) from (Accepted p b) (h.backed _ _ i) end
handles n e w h s q is from (Refuse p b m) i end = listens n e w h s q (subst (Knows w s) is (h.knows s)) (subst (HasNotAsked w) is (h.not_asked s))
    (before e w s q is) from (Refuse p b m) (h.backed _ _ i) end

comes_in : (n : ℕ) (e : Event) (w : World) → Holds n w → (s : ℕ) (q : Option Phase) → w.proposers s ≡ q → (l : Option Sent)
    → ((x : Sent) → l ≡ Some x → In x w.letters) → (end : End) → Leads n e w (arrives n w s q l end)
comes_in n e w h s None is l i end = Still
comes_in n e w h s (Some q) is None i end = Still
comes_in n e w h s (Some q) is (Some (sent from body)) i end = handles n e w h s q is from body (i (sent from body) refl) end

-- a proposer starts

begins : (n : ℕ) (e : Event) (w : World) → Holds n w → n ≤ 256 → (s p : ℕ) (b : Ballot) (want : Command) (end : End) → b.server ≡ s → s < n
    → promised w s p ≤ number b → Origin e w s p want → Leads n e w (started w s p b want end)
begins n e w h small s p b want end own inside free from =
    let kept = starting w s p b in
    ends n e w kept (send (turn kept s (Some (collecting p b want))) s (Prepare p b)) h s
    (λ v rest. goes n e w kept v h (Promises s p (promise (w.acceptors s p) b) (omega arith) refl) rest)
    (λ h'. asks_all h' (grind (arith, put_at_cases)) from) end
  where
    asks_all : Holds n (starting w s p b) → HasPromised (starting w s p b) s p b → Origin e (starting w s p b) s p want
        → Leads n e (starting w s p b) (send (turn (starting w s p b) s (Some (collecting p b want))) s (Prepare p b))
    asks_all h' up origin = goes n e _ _ _ h' (Turns s (Some (collecting p b want))
        (own, omega arith, up, λ k i. absurd (not_in_nobody k i), tt)
        (λ d v i equal. let f = h.backed _ _ i in
        let low = f.2 in
        let o : d.server ≡ s = one_server d b low (let g = own in omega arith) equal ∙ own in
        let g = subst (λ j. HasPromised w j p d) (f.0 ∙ o) f.1 in omega arith)
        origin)
        (λ h''. last n e _ _ h'' (Sends s (Prepare p b) (λ p b v e. cc) tt))

starts_lead : (n : ℕ) (w : World) → Holds n w → n ≤ 256 → (s p round : ℕ) (want : Command) (end : End) (q : Option Phase)
    → Leads n (Starts s p round want end) w (starts n w s q p (record { round = round; server = s }) want end)
starts_lead n w h small s p round want end None = Still
starts_lead n w h small s p round want end (Some q) = elim (either (nat_lt s n && is_unpromised (w.acceptors s p) (record { round = round; server = s }))) [
  | inl is ↦ rw is (let k = and_both (nat_lt s n) (is_unpromised (w.acceptors s p) (record { round = round; server = s })) is in
      begins n (Starts s p round want end) w h small s p _ want end refl (grind (arith, nat_tests)) (grind (arith, nat_tests)) (inl (round, end, refl)))
  | inr is ↦ rw is (Still)
]

boots_lead : (n : ℕ) (e : Event) (w : World) → Holds n w → (s : ℕ) (q : Option Phase) (end : End) → Leads n e w (boots w s q end)
boots_lead n e w h s None end = ends n e w (raise w s) (turn (raise w s) s (Some Idle)) h s (λ v rest. goes n e w (raise w s) v h (Raises s) rest)
    (λ h'. last n e (raise w s) _ h' (Turns s (Some Idle) tt tt tt)) end
boots_lead n e w h s (Some q) end = Still

-- an event is made of moves
pub moves : (n : ℕ) (w : World) → n ≤ 256 → Holds n w → (e : Event) → Leads n e w (happens n w e)
moves n w small h (Starts s p round want end) = starts_lead n w h small s p round want end (w.proposers s)
moves n w small h (Handed which to end) = comes_in n (Handed which to end) w h to _ refl _ (in_got w.letters which) end
moves n w small h (Stops s) = last n (Stops s) w _ h (Turns s None tt tt tt)
moves n w small h (Boots s end) = boots_lead n (Boots s end) w h s (w.proposers s) end

pub happens_holds : (n : ℕ) (w : World) → n ≤ 256 → Holds n w → (e : Event) → Holds n (happens n w e)
happens_holds n w small h e = keeps n e (Holds n) (λ w v _ h m. move_holds n e w v h m) w _ (moves n w small h e) h

pub run_holds : (n : ℕ) (w : World) → n ≤ 256 → Holds n w → (es : List Event) → Holds n (run n es w)
run_holds n w small h [] = h
run_holds n w small h (e ∷ es) = run_holds n (happens n w e) small (happens_holds n w small h e) es

pub begin_holds : (n : ℕ) → Holds n begin
begin_holds n = record {
  backed = λ f l i. absurd (in_nil _ i);
  knows = λ s. tt;
  not_asked = λ s. tt;
  asked = λ s p b v i. absurd (in_nil _ i);
  voted = λ s p b v i. absurd (in_nil _ i);
  accepted = λ s p. tt;
  one = λ p b d v u i. absurd (in_nil _ i);
  learnt = λ s p v e. absurd (cc);
}

-- what holds makes two chosen commands the same

pub meets : (n : ℕ) (p q : ℕ → Bool) → IsMajority n p → IsMajority n q → (s : ℕ) × (s < n) × (p s ≡ true) × (q s ≡ true)
meets n p q hp hq = meet n p q (omega arith)

lower : (n : ℕ) (w : World) → Holds n w → (p : ℕ) (v u : Command) (k : IsChosen n w p v) (m : IsChosen n w p u) → number k.0 < number m.0 → v ≡ u
lower n w h p v u k m lt =
    let voter = meets n m.1 m.1 m.2 m.2 in
    let shut = (h.backed _ _ (h.asked _ _ _ _ (m.3 voter.0 voter.2))).3 (number k.0) lt in
    let both = meets n k.1 shut.0 k.2 shut.1 in
    (shut.2 both.0 both.3).1 k.0 v (k.3 both.0 both.2) refl

level : (n : ℕ) (w : World) → Holds n w → (p : ℕ) (v u : Command) (k : IsChosen n w p v) (m : IsChosen n w p u) → number k.0 ≡ number m.0 → v ≡ u
level n w h p v u k m e =
    let a = meets n k.1 k.1 k.2 k.2 in
    let b = meets n m.1 m.1 m.2 m.2 in
    h.one p k.0 m.0 v u (h.asked _ _ _ _ (k.3 a.0 a.2)) (h.asked _ _ _ _ (m.3 b.0 b.2)) e

pub one_chosen : (n : ℕ) (w : World) → Holds n w → (p : ℕ) (v u : Command) → IsChosen n w p v → IsChosen n w p u → v ≡ u
one_chosen n w h p v u k m = elim (lt_or_ge (number k.0) (number m.0)) [
  | inl less ↦ lower n w h p v u k m less
  | inr more ↦ elim (lt_or_ge (number m.0) (number k.0)) [
    | inl less ↦ sym (lower n w h p u v m k less)
    | inr same ↦ level n w h p v u k m (omega arith)
  ]
]

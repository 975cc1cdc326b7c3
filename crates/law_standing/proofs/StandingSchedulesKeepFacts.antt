-- Each event keeps what holds, and so does each schedule.
use Rattle.law_standing.proofs.Imports.{[], if◌then◌else◌, ◌&&◌, ◌++◌, ◌+◌, ◌<◌, ◌∙◌, ◌∷◌, ◌≡◌, ◌≢◌, ◌≤◌, ◌⊎◌, Accept, Accepted, Ask, Ballot, Bool, Boots}
use Rattle.law_standing.proofs.Imports.{Chosen, Command, End, Event, Fits, Goes, Handed, Idle, In, Inc, IsChosen, IsListing, IsMajority, Learnt, Letter, List}
use Rattle.law_standing.proofs.Imports.{None, Option, Phase, Prepare, Promise, PromiseFrom, Proposes, Refuse, Report, Sent, Setting, Some, Standing, Started}
use Rattle.law_standing.proofs.Imports.{Starts, StateRecord, Stops, StopsAfter, StopsBefore, Told, Vote, World, accepted_at, accepted_in, accepted_stands}
use Rattle.law_standing.proofs.Imports.{and_parts, ap, arith, arrives, at_true, begin, boots, cases_lt, collected, comes_out, commit, committed, committed_in}
use Rattle.law_standing.proofs.Imports.{counted, counts, either, ended, false, for_them, handed, happens, has_majority, hear, in_committed, in_cons, in_got}
use Rattle.law_standing.proofs.Imports.{in_here, in_nil, in_prefix, in_reported, in_there, inc_of, inl, inr, is_behind, is_for, is_in, is_open_at}
use Rattle.law_standing.proofs.Imports.{is_open_from, is_unpromised_from, is_within, joined, keep, least, length, listed, listing, majorities_meet}
use Rattle.law_standing.proofs.Imports.{may_propose, min, nat_le, nat_lt, nat_tests, not, not_in_nobody, number, one_server, promise_covers, promise_of}
use Rattle.law_standing.proofs.Imports.{promise_pledges, promised_at, promised_from, proposes, put, put_cases, rank, rank_of, refl, reported_at, reported_in}
use Rattle.law_standing.proofs.Imports.{reported_rises, run, same, send, sent, set, started, starting, starts, subst, sym, tells, to_propose, true, turn}
use Rattle.law_standing.proofs.Imports.{until_of, unwrap_or, ℕ}
use Rattle.law_standing.proofs.StandingFacts.{HasPromised, HasPledged, HasVoted, IsGreatestBelow, AreCast, Asked, Prepared, IsSafe, IsPromise, IsBacked}
use Rattle.law_standing.proofs.StandingFacts.{HasHeard, IsSafeInRange, Knows, AsksOnly, Sound}
use Rattle.law_standing.proofs.LaterStandingWorlds.{later_pledged}
use Rattle.law_standing.proofs.StandingMovesKeepFacts.{same_grown, commit_grown, keep_later, MayAsk, Keeps, Sends, Turns, Asks, move_sound, Leads, Still}
use Rattle.law_standing.proofs.StandingMovesKeepFacts.{goes, last, keeps}

-- ### The proposer hears promises

in_behind : {X : Type 0} (x : X) (xs ys : List X) → In x ys → In x (xs ++ ys)
in_behind x [] ys i = i
in_behind x (y ∷ xs) ys i = in_there _ _ _ (in_behind x xs ys i)

in_one : {X : Type 0} (x : X) (xs ys : List X) → In x (xs ++ ys) → In x xs ⊎ In x ys
in_one x [] ys i = inr i
in_one x (y ∷ xs) ys i = elim (in_cons _ _ _ i) [
  | inl e ↦ inl (subst (λ z. In x (z ∷ xs)) e (in_here _ _))
  | inr later ↦ elim (in_one x xs ys later) [ inl here ↦ inl (in_there _ _ _ here) | inr there ↦ inr there ]
]

within_both : (a b : Option ℕ) (p : ℕ) → is_within (least a b) p ≡ true → (is_within a p ≡ true) × (is_within b p ≡ true)
within_both None b p e = (refl, e)
within_both (Some a) None p e = (e, refl)
within_both (Some a) (Some b) p e =
    let low : p ≤ min a b = grind (arith, nat_tests) in
    let first : p ≤ a = omega arith in
    let second : p ≤ b = omega arith in
    (grind (arith, nat_tests), grind (arith, nat_tests))

gathers : (o : Setting) (w : World) (s : ℕ) (told : Told) (heard : List Bool) (from : ℕ) (until : Option ℕ) (accepted : List Report)
    → Knows o w s (Some (Started told heard)) → IsPromise o.most w from told.from told.ballot until accepted
    → Knows o w s (Some (Started (tells told until accepted) (set heard from true)))
gathers o w s told heard from until accepted k promise = (k.0, heard_more, cast_more)
  where
    more : List Report
    more = accepted ++ told.reported

    old_up : (p : ℕ) → rank_of (reported_at told.reported p) ≤ rank_of (reported_at (accepted ++ told.reported) p)
    old_up = reported_rises told.reported (accepted ++ told.reported) (λ r i. in_behind r accepted told.reported i)

    new_up : (p : ℕ) → rank_of (reported_at accepted p) ≤ rank_of (reported_at (accepted ++ told.reported) p)
    new_up = reported_rises accepted (accepted ++ told.reported) (λ r i. in_prefix r accepted told.reported i)

    theirs : ((p : ℕ) → told.from ≤ p → HasPromised w from p told.ballot)
        × ((p : ℕ) → told.from ≤ p → is_within (least told.until until) p ≡ true
        → IsGreatestBelow w from p (rank_of (reported_at (accepted ++ told.reported) p)) told.ballot)
    theirs = (
      promise.covers,
      λ p low within d u x under. let g = promise.below p low (within_both told.until until p within).1 d u x under in let up = new_up p in omega arith,
    )

    heard_more : HasHeard w (tells told until accepted) (set heard from true)
    heard_more j i = elim (joined heard from j i) [
      | inl e ↦ rw e theirs
      | inr old ↦ let f = k.1 j old in (
        f.0,
        λ p low within d u x under. let g = f.1 p low (within_both told.until until p within).0 d u x under in let up = old_up p in omega arith,
      )
    ]

    cast_more : AreCast w (accepted ++ told.reported)
    cast_more r i = elim (in_one r accepted told.reported i) [ inl new ↦ (from, promise.voted r new) | inr old ↦ k.2 r old ]

-- what a majority of promises lets a ballot propose is safe
is_safe : (o : Setting) (w : World) → Sound o w → (s : ℕ) (told : Told) (heard : List Bool) → Knows o w s (Some (Started told heard))
    → IsMajority o.servers (is_in heard) → IsSafeInRange o w told
is_safe o w h s told heard k most p low within want = by (reported_at told.reported p) refl
  where
    by : (best : Option (Ballot × Command)) → reported_at told.reported p ≡ best → IsSafe o w p told.ballot (to_propose want best)
    by None none c lt = (
      is_in heard,
      most,
      λ j i. let g = k.1 j i in let up = g.0 p low in (
        omega arith,
        λ d u x at. let under = g.1 p low within d u x (omega arith) in
            let zero : rank_of (reported_at told.reported p) ≡ 0 = ap rank_of none in absurd (omega arith),
      ),
    )
    by (Some y) some c lt =
        let cast = k.2 _ (reported_in told.reported p y some) in
        let asked : Asked w p y.0 y.1 = h.asked cast.0 p y.0 y.1 cast.1 in
        elim (cases_lt c (number y.0)) [
          | inl less ↦ (h.backed _ _ asked).3 c less
          | inr more ↦ (
            is_in heard,
            most,
            λ j i. let g = k.1 j i in let up = g.0 p low in (
              omega arith,
              λ d u x at. let under = g.1 p low within d u x (omega arith) in
                  let best : rank_of (reported_at told.reported p) ≡ number y.0 + 1 = ap rank_of some in
                  h.one p d y.0 u y.1 (h.asked j p d u x) asked (omega arith),
            ),
          )
        ]

-- ### The proposer hears a letter

collects : (o : Setting) (e : Event) (w : World) → Sound o w → (s : ℕ) (told : Told) (heard : List Bool) → Knows o w s (Some (Started told heard))
    → AsksOnly w (Some (Started told heard)) → Leads o e w (comes_out w s (collected o.servers told heard))
collects o e w h s told heard k only = elim (either (has_majority o.servers heard)) [
  | inl is ↦ rw is (last o e w _ h (Turns s (Some (Standing told true None)) (k.0, is_safe o w h s told heard k (at_true o.servers heard is), k.2, tt)
      (λ p d v i same. absurd (only p d v i same))))
  | inr is ↦ rw is (last o e w _ h (Turns s (Some (Started told heard)) k only))
]

hears_promise : (o : Setting) (e : Event) (w : World) → Sound o w → (s : ℕ) (told : Told) (heard : List Bool) (server from : ℕ) (b : Ballot) (until : Option ℕ)
    (accepted : List Report)
    → Knows o w s (Some (Started told heard)) → AsksOnly w (Some (Started told heard)) → IsPromise o.most w server from b until accepted
    → Leads o e w (comes_out w s (hear o.servers o.most (Started told heard) server (Promise from b until accepted)))
hears_promise o e w h s told heard server from b until accepted k only promise =
    elim (either (is_for from b told.from told.ballot && counts o.servers heard server && nat_le (length accepted) o.most)) [
      | inl is ↦ rw is (
          let first = and_parts (is_for from b told.from told.ballot && counts o.servers heard server) (nat_le (length accepted) o.most) is in
          let it = for_them from b told.from told.ballot (and_parts (is_for from b told.from told.ballot) (counts o.servers heard server) first.0).0 in
          let there : IsPromise o.most w server told.from told.ballot until accepted =
          subst (λ f. IsPromise o.most w server f told.ballot until accepted) it.place_is
          (subst (λ d. IsPromise o.most w server from d until accepted) it.ballot_is promise) in
          collects o e w h s (tells told until accepted) (set heard server true) (gathers o w s told heard server until accepted k there) only)
      | inr is ↦ rw is (last o e w _ h (Turns s (Some (Started told heard)) k only))
    ]

tallies : (o : Setting) (e : Event) (w : World) → Sound o w → (s : ℕ) (told : Told) (stands : Bool) (ask : Ask) (heard : List Bool)
    → Knows o w s (Some (Standing told stands (Some (record ask { heard = heard })))) → AsksOnly w (Some (Standing told stands (Some ask)))
    → Leads o e w (comes_out w s (counted o.servers told stands ask heard))
tallies o e w h s told stands ask heard k only = elim (either (not (has_majority o.servers ask.heard) && has_majority o.servers heard)) [
  | inl is ↦ rw is (
      let most = and_parts (not (has_majority o.servers ask.heard)) (has_majority o.servers heard) is in
      let v : World = send w s (Chosen ask.place ask.command) in
      goes o e w v _ h (Sends s (Chosen ask.place ask.command) (λ p b v e. cc) tt (told.ballot, is_in heard, at_true o.servers heard most.1, k.3.1))
      (λ h'. last o e v _ h' (Turns s (Some (Standing told stands (Some (record ask { heard = heard })))) in_later only_later)))
  | inr is ↦ rw is (last o e w _ h (Turns s (Some (Standing told stands (Some (record ask { heard = heard })))) k only))
]
  where
    in_later : Knows o (send w s (Chosen ask.place ask.command)) s (Some (Standing told stands (Some (record ask { heard = heard }))))
    in_later = (k.0, k.1, k.2, (in_there _ _ _ k.3.0, k.3.1))

    only_later : AsksOnly (send w s (Chosen ask.place ask.command)) (Some (Standing told stands (Some ask)))
    only_later p d v i same = elim (in_cons _ _ _ i) [ inl new ↦ absurd (cc) | inr old ↦ only p d v old same ]

hears_accepted : (o : Setting) (e : Event) (w : World) → Sound o w → (s : ℕ) (told : Told) (stands : Bool) (ask : Ask) (server p : ℕ) (b : Ballot)
    → Knows o w s (Some (Standing told stands (Some ask))) → AsksOnly w (Some (Standing told stands (Some ask))) → IsBacked o w server (Accepted p b)
    → Leads o e w (comes_out w s (hear o.servers o.most (Standing told stands (Some ask)) server (Accepted p b)))
hears_accepted o e w h s told stands ask server p b k only fact = elim (either (is_for p b ask.place told.ballot && counts o.servers ask.heard server)) [
  | inl is ↦ rw is (
      let it = for_them p b ask.place told.ballot (and_parts (is_for p b ask.place told.ballot) (counts o.servers ask.heard server) is).0 in
      let cast : HasVoted w server ask.place told.ballot fact.0 = subst (λ q. HasVoted w server q told.ballot fact.0) it.place_is
      (subst (λ d. HasVoted w server p d fact.0) it.ballot_is fact.1) in
      let is_v : fact.0 ≡ ask.command = h.one ask.place told.ballot told.ballot fact.0 ask.command (h.asked _ _ _ _ cast) k.3.0 refl in
      let cast_v : HasVoted w server ask.place told.ballot ask.command = subst (λ v. HasVoted w server ask.place told.ballot v) is_v cast in
      tallies o e w h s told stands ask (set ask.heard server true) (
        k.0,
        k.1,
        k.2,
        (
          k.3.0,
          λ j i. elim (joined ask.heard server j i) [
            | inl new ↦ subst (λ j. HasVoted w j ask.place told.ballot ask.command) (sym new) cast_v
            | inr old ↦ k.3.1 j old
          ],
        ),
      ) only)
  | inr is ↦ rw is (last o e w _ h (Turns s (Some (Standing told stands (Some ask))) k only))
]

hears_refuse : (o : Setting) (e : Event) (w : World) → Sound o w → (s : ℕ) (q : Phase) → Knows o w s (Some q) → AsksOnly w (Some q)
    → (server p : ℕ) (b m : Ballot) → Leads o e w (comes_out w s (hear o.servers o.most q server (Refuse p b m)))
hears_refuse o e w h s Idle k only server p b m = last o e w _ h (Turns s (Some Idle) k only)
hears_refuse o e w h s (Started told heard) k only server p b m = elim (either (same b told.ballot)) [
  | inl is ↦ rw is (last o e w _ h (Turns s (Some (Started told heard)) k only))
  | inr is ↦ rw is (last o e w _ h (Turns s (Some (Started told heard)) k only))
]
hears_refuse o e w h s (Standing told stands None) k only server p b m = elim (either (same b told.ballot)) [
  | inl is ↦ rw is (last o e w _ h (Turns s (Some (Standing told false None)) k only))
  | inr is ↦ rw is (last o e w _ h (Turns s (Some (Standing told stands None)) k only))
]
hears_refuse o e w h s (Standing told stands (Some ask)) k only server p b m = elim (either (same b told.ballot)) [
  | inl is ↦ rw is (last o e w _ h (Turns s (Some (Standing told false (Some ask))) k only))
  | inr is ↦ rw is (last o e w _ h (Turns s (Some (Standing told stands (Some ask))) k only))
]

hears : (o : Setting) (e : Event) (w : World) → Sound o w → (s : ℕ) (q : Phase) → Knows o w s (Some q) → AsksOnly w (Some q)
    → (server : ℕ) (l : Letter) → IsBacked o w server l → Leads o e w (comes_out w s (hear o.servers o.most q server l))
hears o e w h s (Started told heard) k only server (Promise from b until accepted) fact =
    hears_promise o e w h s told heard server from b until accepted k only fact
hears o e w h s (Standing told stands (Some ask)) k only server (Accepted p b) fact =
    hears_accepted o e w h s told stands ask server p b k only fact
hears o e w h s q k only server (Refuse p b m) fact = hears_refuse o e w h s q k only server p b m
hears o e w h s q k only server l fact = last o e w _ h (Turns s (Some q) k only)

-- ### How a server comes out of a job with this commit

ends : (o : Setting) (e : Event) (w k d : World) → Sound o w → (s : ℕ) → ((v : World) → (Sound o k → Leads o e k v) → Leads o e w v)
    → (Sound o k → Leads o e k d) → (end : End) → Leads o e w (ended w k d s end)
ends o e w k d h s commit rest Goes = commit d rest
ends o e w k d h s commit rest StopsBefore = last o e w _ h (Turns s None tt tt)
ends o e w k d h s commit rest StopsAfter = commit _ (λ h'. last o e k _ h' (Turns s None tt tt))

-- ### The acceptor

put_same : {A : Type 0} (f : ℕ → A) (k : ℕ) (x : A) → put f k x k ≡ x
put_same f k x = elim (put_cases f k x k) [ inl c ↦ c.1 | inr c ↦ absurd (c.0 refl) ]

-- what the server promises it lists from its own device
promise_stands : (o : Setting) (w : World) → Sound o w → 1 ≤ o.most → (s from : ℕ) (b : Ballot) → HasPledged w b.server b
    → IsPromise o.most (commit w s (PromiseFrom from b)) s from b
    (until_of (w.devices s) (listed (w.devices s) from o.most)) (listed (w.devices s) from o.most)
promise_stands o w h some s from b pledged = record {
  started = later_pledged w kept (keep_later o w s _ (commit_grown o w h s (PromiseFrom from b) tt)) b.server b pledged;
  covers = λ p low. subst (λ r. number b + 1 ≤ rank (promised_at r p)) (sym (put_same w.devices s after)) (promise_covers (w.devices s) from b p low);
  voted = λ r i. subst (λ l. In (Vote r.0 r.1 r.2) l) (sym (put_same w.devices s after))
      (in_committed _ (w.devices s) (PromiseFrom from b) (accepted_stands (w.devices s) r.0 r.1 r.2 (lists.accepted r i)));
  rising = lists.rising;
  short = lists.short;
  ends = lists.ends;
  below = λ p low within d u x under. listed_below p low within d u (before p d u x);
}
  where
    after : List StateRecord
    after = committed (w.devices s) (PromiseFrom from b)

    kept : World
    kept = commit w s (PromiseFrom from b)

    lists : IsListing (w.devices s) from o.most (until_of (w.devices s) (listed (w.devices s) from o.most)) (listed (w.devices s) from o.most)
    lists = listing (w.devices s) from o.most some

    before : (p : ℕ) (d : Ballot) (u : Command) → HasVoted (commit w s (PromiseFrom from b)) s p d u → HasVoted w s p d u
    before p d u x = elim (committed_in _ (w.devices s) (PromiseFrom from b) (subst (λ l. In (Vote p d u) l) (put_same w.devices s _) x)) [
      | inl old ↦ old
      | inr e ↦ absurd (cc)
    ]

    listed_below : (p : ℕ) → from ≤ p → is_within (until_of (w.devices s) (listed (w.devices s) from o.most)) p ≡ true → (d : Ballot) (u : Command)
        → HasVoted w s p d u → number d < rank_of (reported_at (listed (w.devices s) from o.most) p)
    listed_below p low within d u x = by (accepted_at (w.devices s) p) refl
      where
        by : (best : Option (Ballot × Command)) → accepted_at (w.devices s) p ≡ best → number d < rank_of (reported_at (listed (w.devices s) from o.most) p)
        by None e = let newest = h.newest s p d u x in let zero : rank_of (accepted_at (w.devices s) p) ≡ 0 = ap rank_of e in absurd (omega arith)
        by (Some y) e =
            let newest = h.newest s p d u x in
            let here : rank_of (accepted_at (w.devices s) p) ≡ number y.0 + 1 = ap rank_of e in
            let reported = in_reported (listed (w.devices s) from o.most) p y.0 y.1 (lists.all p y e low within) in
            omega arith

at_prepare : (o : Setting) (e : Event) (w : World) → Sound o w → 1 ≤ o.most → (s : ℕ) (q : Phase) (server from : ℕ) (b : Ballot) (end : End)
    → IsBacked o w server (Prepare from b) → Leads o e w (handed o w s q server (Prepare from b) end)
at_prepare o e w h some s q server from b end fact = elim (either (is_open_from (w.devices s) from b)) [
  | inl is ↦ rw is (
      let kept = commit w s (PromiseFrom from b) in
      ends o e w kept (send kept s (promise_of o.most (w.devices s) from b)) h s
      (λ v rest. goes o e w kept v h (Keeps s _ (commit_grown o w h s (PromiseFrom from b) tt)) rest)
      (λ h'. last o e kept _ h' (Sends s (promise_of o.most (w.devices s) from b) (λ p b v e. cc) tt
      (promise_stands o w h some s from b fact.1))) end)
  | inr is ↦ rw is (
      let kept = keep w s (w.devices s) in
      ends o e w kept _ h s (λ v rest. goes o e w kept v h (Keeps s _ (same_grown o w h s)) rest)
      (λ h'. last o e kept _ h' (Sends s _ (λ p b v e. cc) tt tt)) end)
]

at_accept : (o : Setting) (e : Event) (w : World) → Sound o w → (s : ℕ) (q : Phase) (server p : ℕ) (b : Ballot) (v : Command) (end : End)
    → Asked w p b v → Leads o e w (handed o w s q server (Accept p b v) end)
at_accept o e w h s q server p b v end asked = by (is_open_at (w.devices s) p b) refl
  where
    by : (t : Bool) → is_open_at (w.devices s) p b ≡ t
        → Leads o e w (ended w (keep w s (if t then committed (w.devices s) (Vote p b v) else w.devices s))
        (send (keep w s (if t then committed (w.devices s) (Vote p b v) else w.devices s)) s
        (if t then Accepted p b else Refuse p b (unwrap_or (promised_at (w.devices s) p) b))) s end)
    by true is =
        let kept = commit w s (Vote p b v) in
        ends o e w kept (send kept s (Accepted p b)) h s
        (λ u rest. goes o e w kept u h (Keeps s _ (commit_grown o w h s (Vote p b v) (grind (arith, nat_tests), asked))) rest)
        (λ h'. last o e kept _ h' (Sends s (Accepted p b) (λ p b v e. cc) tt
        (v, subst (λ l. In (Vote p b v) l) (sym (put_same w.devices s _)) (accepted_in (w.devices s) p b v)))) end
    by false is =
        let kept = keep w s (w.devices s) in
        ends o e w kept _ h s (λ u rest. goes o e w kept u h (Keeps s _ (same_grown o w h s)) rest)
        (λ h'. last o e kept _ h' (Sends s _ (λ p b v e. cc) tt tt)) end

at_chosen : (o : Setting) (e : Event) (w : World) → Sound o w → (s : ℕ) (q : Phase) (server p : ℕ) (v : Command) (end : End)
    → IsChosen o.servers w p v → Leads o e w (handed o w s q server (Chosen p v) end)
at_chosen o e w h s q server p v end fact =
    let kept = commit w s (Learnt p v) in
    ends o e w kept kept h s (λ u rest. goes o e w kept u h (Keeps s _ (commit_grown o w h s (Learnt p v) fact)) rest)
    (λ h'. Still) end

listens : (o : Setting) (e : Event) (w : World) → Sound o w → (s : ℕ) (q : Phase) → w.proposers s ≡ Some q → (server : ℕ) (l : Letter)
    → IsBacked o w server l → (end : End) → Leads o e w (ended w w (comes_out w s (hear o.servers o.most q server l)) s end)
listens o e w h s q is server l fact end = ends o e w w (comes_out w s (hear o.servers o.most q server l)) h s (λ u rest. rest h)
    (λ h'. hears o e w h s q (subst (Knows o w s) is (h.knows s)) (subst (AsksOnly w) is (h.asks_only s)) server l fact) end

-- a server handles a letter that was sent
handles : (o : Setting) (e : Event) (w : World) → Sound o w → 1 ≤ o.most → (s : ℕ) (q : Phase) → w.proposers s ≡ Some q → (server : ℕ) (l : Letter)
    → In (sent server l) w.letters → (end : End) → Leads o e w (handed o w s q server l end)
handles o e w h some s q is server (Prepare from b) i end = at_prepare o e w h some s q server from b end (h.backed _ _ i)
handles o e w h some s q is server (Accept p b v) i end =
    at_accept o e w h s q server p b v end (subst (λ f. In (sent f (Accept p b v)) w.letters) (h.backed server (Accept p b v) i).0 i)
handles o e w h some s q is server (Chosen p v) i end = at_chosen o e w h s q server p v end (h.backed server (Chosen p v) i)
handles o e w h some s q is server (Promise from b until told) i end = listens o e w h s q is server (Promise from b until told) (h.backed _ _ i) end
handles o e w h some s q is server (Accepted p b) i end = listens o e w h s q is server (Accepted p b) (h.backed _ _ i) end
handles o e w h some s q is server (Refuse p b m) i end = listens o e w h s q is server (Refuse p b m) (h.backed _ _ i) end

comes_in : (o : Setting) (e : Event) (w : World) → Sound o w → 1 ≤ o.most → (s : ℕ) (q : Option Phase) → w.proposers s ≡ q → (l : Option Sent)
    → ((x : Sent) → l ≡ Some x → In x w.letters) → (end : End) → Leads o e w (arrives o w s q l end)
comes_in o e w h some s None is l i end = Still
comes_in o e w h some s (Some q) is None i end = Still
comes_in o e w h some s (Some q) is (Some (sent server body)) i end = handles o e w h some s q is server body (i (sent server body) refl) end

-- ### A proposer starts

begins : (o : Setting) (e : Event) (w : World) → Sound o w → o.servers ≤ 256 → (s from : ℕ) (b : Ballot) (end : End) → b.server ≡ s → s < o.servers
    → rank (promised_from (w.devices s) from) ≤ number b → Leads o e w (started w s from b end)
begins o e w h small s from b end own inside free =
    let kept = commit w s (PromiseFrom from b) in
    ends o e w kept (send (turn kept s (Some (starting from b))) s (Prepare from b)) h s
    (λ v rest. goes o e w kept v h (Keeps s _ (commit_grown o w h s (PromiseFrom from b) tt)) rest) asks_all end
  where
    pledged : HasPledged (commit w s (PromiseFrom from b)) s b
    pledged p = subst (λ r. number b + 1 ≤ rank (promised_from r p)) (sym (put_same w.devices s _)) (promise_pledges (w.devices s) from b p)

    -- an earlier start of the ballot would have pledged it
    not_started : (d : Ballot) → d.server < 256 → HasPledged w d.server d → number d ≢ number b
    not_started d low pledged equal =
        let theirs : d.server ≡ s = one_server d b low (omega arith) equal ∙ own in
        let before = subst (λ j. HasPledged w j d) theirs pledged from in
        omega arith

    asked_nothing : (p : ℕ) (d : Ballot) (v : Command) → Asked w p d v → number d ≢ number b
    asked_nothing p d v i = let f = h.backed _ _ i in not_started d f.2 f.1

    prepared_nothing : (f : ℕ) (d : Ballot) → Prepared w f d → number d ≢ number b
    prepared_nothing f d i = let k = h.backed _ _ i in not_started d k.2 k.1

    asks_all : Sound o (commit w s (PromiseFrom from b))
        → Leads o e (commit w s (PromiseFrom from b)) (send (turn (commit w s (PromiseFrom from b)) s (Some (starting from b))) s (Prepare from b))
    asks_all h' = goes o e _ _ _ h' (Turns s (Some (starting from b))
        ((own, omega arith, pledged), λ k i. absurd (not_in_nobody k i), λ r i. absurd (in_nil _ i)) asked_nothing)
        (λ h''. last o e _ _ h'' (Sends s (Prepare from b) (λ p b v e. cc) prepared_nothing
        (sym own, subst (λ j. HasPledged (commit w s (PromiseFrom from b)) j b) (sym own) pledged, omega arith)))

starts_lead : (o : Setting) (e : Event) (w : World) → Sound o w → o.servers ≤ 256 → (s from round : ℕ) (end : End) (q : Option Phase)
    → Leads o e w (starts o.servers w s q from (record { round = round; server = s }) end)
starts_lead o e w h small s from round end None = Still
starts_lead o e w h small s from round end (Some q) = let b : Ballot = record { round = round; server = s } in
    elim (either (nat_lt s o.servers && is_unpromised_from (w.devices s) from b)) [
      | inl is ↦ rw is (let k = and_parts (nat_lt s o.servers) (is_unpromised_from (w.devices s) from b) is in
          begins o e w h small s from b end refl (grind (arith, nat_tests)) (grind (arith, nat_tests)))
      | inr is ↦ rw is (Still)
    ]

-- ### A standing proposer proposes

is_ranged : (told : Told) (stands : Bool) (asked : Option Ask) (p : ℕ) → may_propose told stands asked p ≡ true → MayAsk told asked p
is_ranged told stands asked p e =
    let one = and_parts (stands && nat_le told.from p && is_within told.until p) (is_behind asked p) e in
    let two = and_parts (stands && nat_le told.from p) (is_within told.until p) one.0 in
    let three = and_parts stands (nat_le told.from p) two.0 in
    record { from = (let low = three.1 in grind (arith, nat_tests)); within = two.1; behind = one.1 }

proposes_lead : (o : Setting) (w : World) → Sound o w → (s p : ℕ) (want : Command) (q : Option Phase) → w.proposers s ≡ q
    → Leads o (Proposes s p want) w (proposes w s q p want)
proposes_lead o w h s p want None is = Still
proposes_lead o w h s p want (Some Idle) is = last o (Proposes s p want) w _ h (Turns s (Some Idle) tt tt)
proposes_lead o w h s p want (Some (Started told heard)) is =
    last o (Proposes s p want) w _ h (Turns s (Some (Started told heard)) (subst (Knows o w s) is (h.knows s)) (subst (AsksOnly w) is (h.asks_only s)))
proposes_lead o w h s p want (Some (Standing told stands asked)) is = elim (either (may_propose told stands asked p)) [
  | inl may ↦ rw may (last o (Proposes s p want) w _ h
      (Asks s told stands asked p want (subst (Knows o w s) is (h.knows s)) (subst (AsksOnly w) is (h.asks_only s)) (is_ranged told stands asked p may) refl))
  | inr not ↦ rw not (last o (Proposes s p want) w _ h
      (Turns s (Some (Standing told stands asked)) (subst (Knows o w s) is (h.knows s)) (subst (AsksOnly w) is (h.asks_only s))))
]

-- ### Events and schedules

boots_lead : (o : Setting) (e : Event) (w : World) → Sound o w → (s : ℕ) (q : Option Phase) (end : End) → Leads o e w (boots w s q end)
boots_lead o e w h s None end =
    let kept = commit w s (Inc (inc_of (w.devices s) + 1)) in
    ends o e w kept (turn kept s (Some Idle)) h s (λ v rest. goes o e w kept v h (Keeps s _ (commit_grown o w h s (Inc _) tt)) rest)
    (λ h'. last o e kept _ h' (Turns s (Some Idle) tt tt)) end
boots_lead o e w h s (Some q) end = Still

-- an event is made of moves
pub moves : (o : Setting) (w : World) → Fits o → Sound o w → (e : Event) → Leads o e w (happens o w e)
moves o w fit h (Starts s from round end) = starts_lead o (Starts s from round end) w h fit.small s from round end (w.proposers s)
moves o w fit h (Proposes s p want) = proposes_lead o w h s p want (w.proposers s) refl
moves o w fit h (Handed which to end) = comes_in o (Handed which to end) w h fit.some to _ refl _ (in_got w.letters which) end
moves o w fit h (Stops s) = last o (Stops s) w _ h (Turns s None tt tt)
moves o w fit h (Boots s end) = boots_lead o (Boots s end) w h s (w.proposers s) end

pub happens_sound : (o : Setting) (w : World) → Fits o → Sound o w → (e : Event) → Sound o (happens o w e)
happens_sound o w fit h e = keeps o e (Sound o) (λ w v _ h m. move_sound o e w v h m) w _ (moves o w fit h e) h

pub run_sound : (o : Setting) (w : World) → Fits o → Sound o w → (es : List Event) → Sound o (run o es w)
run_sound o w fit h [] = h
run_sound o w fit h (e ∷ es) = run_sound o (happens o w e) fit (happens_sound o w fit h e) es

no_vote : (s p : ℕ) (b : Ballot) (v : Command) → HasVoted begin s p b v → ⊥
no_vote s p b v i = elim (in_cons _ _ _ i) [ inl e ↦ absurd (cc) | inr none ↦ in_nil _ none ]

pub begin_sound : (o : Setting) → Sound o begin
begin_sound o = record {
  backed = λ f l i. absurd (in_nil _ i);
  knows = λ s. tt;
  asks_only = λ s. tt;
  asked = λ s p b v i. absurd (no_vote s p b v i);
  newest = λ s p b v i. absurd (no_vote s p b v i);
  once = λ f g b d i. absurd (in_nil _ i);
  one = λ p b d v u i. absurd (in_nil _ i);
  learnt = λ s p v i. elim (in_cons _ _ _ i) [ inl e ↦ absurd (cc) | inr none ↦ absurd (in_nil _ none) ];
}

-- ### What holds makes two chosen commands the same

lower : (o : Setting) (w : World) → Sound o w → (p : ℕ) (v u : Command) (k : IsChosen o.servers w p v) (m : IsChosen o.servers w p u)
    → number k.0 < number m.0 → v ≡ u
lower o w h p v u k m lt =
    let voter = majorities_meet o.servers m.1 m.1 m.2 m.2 in
    let shut = (h.backed _ _ (h.asked voter.0 p m.0 u (m.3 voter.0 voter.2))).3 (number k.0) lt in
    let both = majorities_meet o.servers k.1 shut.0 k.2 shut.1 in
    (shut.2 both.0 both.3).1 k.0 v (k.3 both.0 both.2) refl

level : (o : Setting) (w : World) → Sound o w → (p : ℕ) (v u : Command) (k : IsChosen o.servers w p v) (m : IsChosen o.servers w p u)
    → number k.0 ≡ number m.0 → v ≡ u
level o w h p v u k m e =
    let a = majorities_meet o.servers k.1 k.1 k.2 k.2 in
    let b = majorities_meet o.servers m.1 m.1 m.2 m.2 in
    h.one p k.0 m.0 v u (h.asked a.0 p k.0 v (k.3 a.0 a.2)) (h.asked b.0 p m.0 u (m.3 b.0 b.2)) e

pub one_chosen : (o : Setting) (w : World) → Sound o w → (p : ℕ) (v u : Command) → IsChosen o.servers w p v → IsChosen o.servers w p u → v ≡ u
one_chosen o w h p v u k m = elim (cases_lt (number k.0) (number m.0)) [
  | inl less ↦ lower o w h p v u k m less
  | inr more ↦ elim (cases_lt (number m.0) (number k.0)) [
    | inl less ↦ sym (lower o w h p u v m k less)
    | inr same ↦ level o w h p v u k m (omega arith)
  ]
]

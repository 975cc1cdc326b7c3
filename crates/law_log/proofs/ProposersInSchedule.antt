-- A proposer: the ballot that it starts, and what it makes of the letters that answer it.
use Rattle.law_log.proofs.Imports.{[], if◌then◌else◌, ◌&&◌, ◌+◌, ◌<◌, ◌∙◌, ◌∷◌, ◌≡◌, ◌≤◌, Acceptor, Among, Ballot, Body, Bool, Collecting, Command, Decided}
use Rattle.law_log.proofs.Imports.{Goes, Heard, Idle, In, IsAbout, IsAnnounced, IsAskedFor, IsProposer, IsWanted, List, Log, None, Nothing, Option, Pax}
use Rattle.law_log.proofs.Imports.{Phase, Post, Promise, Refused, Send, Some, Starts, Voter, Voting, World, acceptor_of, ap, arith, by_test, collected}
use Rattle.law_log.proofs.Imports.{collecting, comes_out, committed, count_below, counted, counts, false, first_wanted, gives_way, greatest_place}
use Rattle.law_log.proofs.Imports.{has_majority, hear, hears_of_ballot, higher, in_here, in_there, inl, inr, is_for, is_open, is_unpromised, keep, learns}
use Rattle.law_log.proofs.Imports.{less_test, map, nat_le, nat_lt, nat_tests, next_place, next_round, nobody, none_some, not, not_in_nobody, number, post_of}
use Rattle.law_log.proofs.Imports.{promise, proposes, range_with_len, rank, refl, rev_of, round_of, same_some, send, sent, set, started, starts}
use Rattle.law_log.proofs.Imports.{starts_ballot, starts_for, subst, suc, sym, true, true_false, turn, with_phase, zero, ℕ, ⊤}
use Rattle.spec_paxos.specs.Proposer.{Step, is_in}
use Rattle.law_log.specs.AgreedLog.{IsSeenAt, AreLow, IsLow, IsBacked}
use Rattle.law_log.proofs.RunningLog.{VotingLog, voter_at}
use Rattle.law_log.proofs.ListPlaces.{put_here}
use Rattle.law_log.proofs.AcceptorsInSchedule.{seen_promise, prepare_turn, accept_turn, learn_turn}
use Rattle.law_log.proofs.ScheduleTurns.{Turns, HasTurn, apart_itself, apart_both, apart_keep, apart_send, apart_turn, by_letter, turned}
use Rattle.law_log.proofs.ScheduleTurns.{still as nothing_happens, no_posts, low_keep, low_send, low_turn, seen_same, about_itself}
use Rattle.petal_command.specs.declared.pax.Pax.TheVariants as pax
use Rattle.petal_msg.specs.declared.body.Body.TheVariants as body
use Rattle.spec_paxos.specs.Schedule as schedule

-- ### Nobody is no majority

none_count : (n : ℕ) (test : ℕ → Bool) → ((k : ℕ) → test k ≡ true → ⊥) → count_below n test ≡ 0
none_count zero test none = refl
none_count (suc n) test none = by_test (λ x. x + count_below n test ≡ 0) (test n) 1 0 (λ e. absurd (none n e)) (λ e. let rest = none_count n test none in
    omega arith)

nobody_is_few : (servers : ℕ) → has_majority servers nobody ≡ true → ⊥
nobody_is_few servers e = let none = none_count servers (is_in nobody) (λ k i. not_in_nobody k i) in grind (arith, nat_tests)

-- ### What a proposer asks for

-- what it is about after a letter was asked for, where it says this
abbrev AsksFor : World → ℕ → (servers : ℕ) → Phase → Heard → Type 0
AsksFor p n servers phase Nothing = IsAskedFor p n servers phase
AsksFor p n servers phase (Send said) = IsAskedFor (send p n said) n servers phase × IsLow said
AsksFor p n servers phase (Decided place command) = IsAskedFor (send p n (pax.Chosen place command)) n servers phase
AsksFor p n servers phase (Refused ballot) = ⊤

collected_asks : (p : World) (n servers place : ℕ) (ballot : Ballot) (want : Command) (heard : List Bool) (best : Option (Ballot × Command)) → AreLow p
    → In (sent n (pax.Prepare place ballot)) p.letters
    → AsksFor p n servers (collected servers place ballot want heard best).phase (collected servers place ballot want heard best).heard
collected_asks p n servers place ballot want heard best low a =
    by_test (λ (s : Step). AsksFor p n servers s.phase s.heard) (has_majority servers heard) _ _
    (λ e. ((in_here _ _, λ few. absurd (nobody_is_few servers few)), low.letters n (pax.Prepare place ballot) a)) (λ e. a)

counted_asks : (p : World) (n servers place : ℕ) (ballot : Ballot) (command : Command) (before heard : List Bool)
    → In (sent n (pax.Accept place ballot command)) p.letters
    → (has_majority servers before ≡ true → In (sent n (pax.Chosen place command)) p.letters)
    → AsksFor p n servers (counted servers place ballot command before heard).phase (counted servers place ballot command before heard).heard
counted_asks p n servers place ballot command before heard a told =
    by_test (λ (s : Step). AsksFor p n servers s.phase s.heard) (not (has_majority servers before) && has_majority servers heard) _ _
    (λ e. (in_there _ _ _ a, λ is. in_here _ _)) (λ e. (a, λ is. told (was_before (has_majority servers before) (has_majority servers heard) e is)))
  where
    was_before : (b c : Bool) → (not b && c) ≡ false → c ≡ true → b ≡ true
    was_before true c e is = refl
    was_before false c e is = absurd (true_false is e)

hear_asks : (p : World) (n servers : ℕ) → AreLow p → (phase : Phase) → IsAskedFor p n servers phase → (from : ℕ) (said : Pax)
    → AsksFor p n servers (hear servers phase from said).phase (hear servers phase from said).heard
hear_asks p n servers low Idle a from said = tt
hear_asks p n servers low (Collecting place ballot want heard best) a from (pax.Promise at b accepted) =
    by_test (λ (s : Step). AsksFor p n servers s.phase s.heard) (is_for at b place ballot && counts servers heard from) _ _
    (λ e. collected_asks p n servers place ballot want (set heard from true) (higher best accepted) low a) (λ e. a)
hear_asks p n servers low (Collecting place ballot want heard best) a from (pax.Refuse at b promised) =
    by_test (λ (s : Step). AsksFor p n servers s.phase s.heard) (is_for at b place ballot) _ _ (λ e. tt) (λ e. a)
hear_asks p n servers low (Collecting place ballot want heard best) a from _ = a
hear_asks p n servers low (Voting place ballot command heard) a from (pax.Accepted at b) =
    by_test (λ (s : Step). AsksFor p n servers s.phase s.heard) (is_for at b place ballot && counts servers heard from) _ _
    (λ e. counted_asks p n servers place ballot command heard (set heard from true) a.0 a.1) (λ e. a)
hear_asks p n servers low (Voting place ballot command heard) a from (pax.Refuse at b promised) =
    by_test (λ (s : Step). AsksFor p n servers s.phase s.heard) (is_for at b place ballot) _ _ (λ e. tt) (λ e. a)
hear_asks p n servers low (Voting place ballot command heard) a from _ = a

-- ### What it sends

pub said_to_all : (said : Body) (ns : List ℕ) (post : Post) → Among post (map (post_of said) ns) → post.body ≡ said
unfolding Among
said_to_all said [] post h = absurd h
said_to_all said (k ∷ ns) post (inl e) = ap (λ (x : Post). x.body) e
said_to_all said (k ∷ ns) post (inr h) = said_to_all said ns post h

pub all_backed : (q : World) (Good : Command → Type 0) (n : ℕ) (said : Pax) (ns : List ℕ) → In (sent n said) q.letters → (post : Post)
    → Among post (map (post_of (body.Pax said)) ns)
    → IsBacked q Good (λ x. In (sent n x) q.letters) post.body
all_backed q Good n said ns i post h = subst (IsBacked q Good (λ x. In (sent n x) q.letters)) (sym (said_to_all (body.Pax said) ns post h)) i

seen_sent : (n : ℕ) (log : Log) (p : World) (said : Pax) → IsSeenAt n log.records log.applied p → IsSeenAt n log.records log.applied (send p n said)
seen_sent n log p said seen =
    seen_same n log.records log.applied p (send p n said) (λ x i. in_there _ _ _ i) (λ place. refl) (λ place. refl) refl
    (λ place ballot command. (λ i. i, λ i. i)) seen

module _ (servers n inc : ℕ) (log : Log) (p : World) (low : AreLow p) (seen : IsSeenAt n log.records log.applied p) where
  out_by : (phase : Phase) (said : Heard) → AsksFor p n servers phase said
      → Turns servers n true (proposes (record { me = n; inc = inc; servers = servers }) log (record { phase = phase; heard = said }) said).log
      (proposes (record { me = n; inc = inc; servers = servers }) log (record { phase = phase; heard = said }) said).posts p
      (turn (schedule.acts p n said) n (Some phase))
  out_by phase Nothing a =
      turned servers n (with_phase log phase) [] p p phase (apart_itself n p) low seen (about_itself phase) a (λ post i. no_posts post i)
  out_by phase (Send said) a =
      turned servers n (with_phase log phase) _ p (send p n said) phase (apart_send n p said) (low_send p n said a.1 low) (seen_sent n log p said seen)
      (about_itself phase) a.0
      (all_backed (send p n said) (λ command. ⊥) n said (range_with_len 0 servers) (in_here _ _))
  out_by phase (Decided place command) a =
      turned servers n (with_phase log phase) _ p (send p n (pax.Chosen place command)) phase (apart_send n p _)
      (low_send p n (pax.Chosen place command) tt low)
      (seen_sent n log p (pax.Chosen place command) seen) (about_itself phase) a
      (all_backed (send p n (pax.Chosen place command)) (λ command. ⊥) n (pax.Chosen place command) (range_with_len 0 servers) (in_here _ _))
  out_by phase (Refused promised) a =
      turned servers n (gives_way log promised) [] p p phase (apart_itself n p) low seen tt tt (λ post i. no_posts post i)

-- ### Starting

unpromised : (o : Option Ballot) (b : Ballot) → ((x : Ballot) → o ≡ Some x → x.server < 256) → round_of o < b.round → nat_le (rank o) (number b) ≡ true
unfolding number
unpromised None b low lt = grind (arith, nat_tests)
unpromised (Some x) b low lt = let l = low x refl in let h : number x + 1 ≤ number b = omega arith in grind (arith, nat_tests)

opened : (a : Acceptor) (b : Ballot) → is_unpromised a b ≡ true → is_open a b ≡ true
opened a b e = grind (arith, nat_tests)

-- what is wanted first is wanted
pub first_among : (phase : Phase) (rev : ℕ) (wants : List Command) (want : Command) → first_wanted phase rev wants ≡ Some want → Among want wants
unfolding Among
first_among Idle rev (first ∷ wants) want e =
    by_test (λ (o : Option Command). o ≡ Some want → Among want (first ∷ wants)) (nat_lt rev greatest_place) (Some first) None
    (λ few f. inl (sym (same_some f))) (λ many f. none_some refl f) e
first_among _ rev _ want e = none_some refl e

both_so : (a b : Bool) → a ≡ true → b ≡ true → (a && b) ≡ true
both_so a b e f = cc

module _ (it : VotingLog) (Good : ℕ → Command → Type 0) (there : Phase) (is : it.p.proposers it.n ≡ Some there) where
  open it use {servers, n, log, p, low, seen, busy, inc, small, member}

  abbrev voter : Voter
  voter = voter_at it

  ballot_turn : (place : ℕ) (b : Ballot) (want : Command) → b.server ≡ n → is_unpromised (p.acceptors n place) b ≡ true
      → Turns servers n true (starts_ballot voter log place b want).log
      (starts_ballot voter log place b want).posts p
      (started p n place b want Goes)
  ballot_turn place b want own free =
      let kept = keep p n place (promise (p.acceptors n place) b) in
      let turned = turn kept n (Some (collecting place b want)) in
      let is_free : is_open (acceptor_of log.records place) b ≡ true = sym (ap (λ a. is_open a b) (seen.acceptors place))
      ∙ opened (p.acceptors n place) b free in
      let byte : b.server < 256 = omega arith in
      let kept_seen = seen_promise n log.records log.applied p place b is_free seen in
      record {
        apart = apart_both n p turned _ (apart_both n p kept turned (apart_keep n p place _) (apart_turn n kept _)) (apart_send n turned _);
        low = low_send turned n (pax.Prepare place b) byte
            (low_turn kept n _ (low_keep p n place _ (λ ballot e. let f : ballot ≡ b = sym (same_some e) in
            subst (λ (x : Ballot). x.server < 256) (sym f) byte) low));
        seen = seen_same n (committed log.records (Promise place b)) log.applied kept (send turned n (pax.Prepare place b)) (λ x i. in_there _ _ _ i)
            (λ place. refl) (λ place. refl) refl
            (λ place ballot command. (λ i. i, λ i. i)) kept_seen;
        busy = record {
          proposer = subst (IsProposer true (collecting place b want)) (sym (put_here p.proposers n (Some (collecting place b want)))) (refl, refl);
          asked = in_here _ _;
        };
        posted = all_backed (send turned n (pax.Prepare place b)) (λ command. ⊥) n (pax.Prepare place b) (range_with_len 0 servers) (in_here _ _);
      }

  good_want : (place : ℕ) (want : Command) → Good place want → (j : ℕ) (command : Command) → IsWanted (Starts n place 0 want Goes ∷ []) j command
      → Good j command
  good_want place want good j command (inl e) = subst (λ (x : ℕ × Command). Good x.0 x.1) (λ i. (e.0 i, e.1 i)) good
  good_want place want good j command (inr h) = absurd h

  start_for : (phase : Phase) (wants : List Command) → log.phase ≡ phase
      → ((want : Command) → first_wanted phase (rev_of log) wants ≡ Some want → Good (next_place log) want)
      → HasTurn servers n true (starts_for voter log (first_wanted phase (rev_of log) wants)).log
      (starts_for voter log (first_wanted phase (rev_of log) wants)).posts p Good
  start_for Idle (want ∷ wants) e good =
      by_test (λ (o : Option Command). HasTurn servers n true (starts_for voter log o).log
      (starts_for voter log o).posts p Good) (nat_lt (rev_of log) greatest_place) (Some want) None
      (λ few.
      let place = next_place log in
      let b : Ballot = record { round = next_round log; server = n } in
      let same : round_of (p.acceptors n place).promised ≡ round_of (acceptor_of log.records place).promised =
      ap (λ (a : Acceptor). round_of a.promised) (seen.acceptors place) in
      let free : is_unpromised (p.acceptors n place) b ≡ true = unpromised (p.acceptors n place).promised b (λ x i. low.acceptors n place x i) (omega arith) in
      let goes : (nat_lt n servers && is_unpromised (p.acceptors n place) b) ≡ true = both_so (nat_lt n servers) _ (less_test n servers member) free in
      record {
        events = Starts n place (next_round log) want Goes ∷ [];
        wanted = good_want place want (good want (ap (λ (b : Bool). if b then Some want else None) few));
        turns = rw (is, goes) (ballot_turn place b want refl free);
      })
      (λ many. nothing_happens servers n true log [] p Good low seen busy (λ post i. no_posts post i))
  start_for _ _ e good = nothing_happens servers n true log [] p Good low seen busy (λ post i. no_posts post i)

  pub start_turn : (wants : List Command) → ((want : Command) → first_wanted log.phase (rev_of log) wants ≡ Some want → Good (next_place log) want)
      → HasTurn servers n true (starts voter log wants).log
      (starts voter log wants).posts p Good
  unfolding starts
  start_turn wants good = start_for log.phase wants refl good

  -- ### Letters of a ballot

  heard_there : (phase : Phase) → there ≡ phase → IsAskedFor p n servers phase → (from : ℕ) (said : Pax) → In (sent from said) p.letters
      → schedule.handed servers p n there from said Goes ≡ schedule.comes_out p n (hear servers there from said)
      → HasTurn servers n true (comes_out voter log (hear servers phase from said)).log
      (comes_out voter log (hear servers phase from said)).posts p Good
  heard_there phase about a from said i hands =
      let done = comes_out voter log (hear servers phase from said) in
      by_letter servers n done.log done.posts p Good there from said is i
      (subst (λ (w : World). Turns servers n true done.log done.posts p w) (sym hands)
      (subst (λ (q : Phase). Turns servers n true done.log done.posts p (schedule.comes_out p n (hear servers q from said))) (sym about)
      (out_by servers n inc log p low seen (hear servers phase from said).phase (hear servers phase from said).heard
      (hear_asks p n servers low phase a from said))))

  answered : (phase : Phase) → log.phase ≡ phase → IsAbout phase there → IsAskedFor p n servers phase → (from : ℕ) (said : Pax) → In (sent from said) p.letters
      → schedule.handed servers p n there from said Goes ≡ schedule.comes_out p n (hear servers there from said)
      → HasTurn servers n true (comes_out voter log (hear servers phase from said)).log
      (comes_out voter log (hear servers phase from said)).posts p Good
  answered Idle e about a from said i hands =
      nothing_happens servers n true (with_phase log Idle) [] p Good low seen
      (record { proposer = subst (λ phase. IsProposer true phase (p.proposers n)) e busy.proposer; asked = tt }) (λ post i. no_posts post i)
  answered (Collecting place ballot want heard best) e about a from said i hands =
      heard_there (Collecting place ballot want heard best) about a from said i hands
  answered (Voting place ballot command heard) e about a from said i hands = heard_there (Voting place ballot command heard) about a from said i hands

  -- what another server told of a place is what this one knows of it
  pub pax_turn : ((place : ℕ) (c d : Command) → IsAnnounced p place c → IsAnnounced p place d → d ≡ c) → IsAbout log.phase there → (from : ℕ) (said : Pax)
      → In (sent from said) p.letters
      → HasTurn servers n true (hears_of_ballot voter log from said).log
      (hears_of_ballot voter log from said).posts p Good
  unfolding learns
  pax_turn one about from (pax.Prepare place b) i = prepare_turn it.running Good there is from place b i
  pax_turn one about from (pax.Accept place b c) i = accept_turn it.running Good there is from place b c i
  pax_turn one about from (pax.Chosen place c) i =
      let t : IsAnnounced p place c = record { from = from; is = i } in
      let h = learn_turn it.running Good there is place c t (λ d u. one place c d t u) in
      record { events = h.events; wanted = h.wanted; turns = h.turns }
  pax_turn one about from (pax.Promise place b best) i = answered log.phase refl about busy.asked from (pax.Promise place b best) i refl
  pax_turn one about from (pax.Accepted place b) i = answered log.phase refl about busy.asked from (pax.Accepted place b) i refl
  pax_turn one about from (pax.Refuse place b promised) i = answered log.phase refl about busy.asked from (pax.Refuse place b promised) i refl

-- A server that boots, in the schedule: its incarnation is raised, and it begins with what its device knows.
use Rattle.law_log.proofs.Imports.{[], ◌+◌, ◌∙◌, ◌∷◌, ◌≡◌, Accepted, Ballot, Bool, Boots, Command, Goes, Idle, Inc, IsProposer, List, Log, None, Option}
use Rattle.law_log.proofs.Imports.{Phase, Some, StateRecord, StopsAfter, World, acceptor_inc, ap, arith, commits, committed, false, inc_committed, inc_of}
use Rattle.law_log.proofs.Imports.{known_at, known_inc, known_prefix, raise, read_log, refl, subst, sym, true, turn, ℕ}
use Rattle.law_log.specs.AgreedLog.{AreLow, IsBusyAs, IsSeenAt}
use Rattle.law_log.proofs.LogJobsInSchedule.{run_known}
use Rattle.law_log.proofs.VotesAfterCommits.{same_votes}
use Rattle.law_log.proofs.ListPlaces.{put_away, put_here}
use Rattle.law_log.proofs.ScheduleTurns.{HasTurn, IsApart, Turns, apart_both, apart_turn, asked_more, low_turn, no_posts, seen_same}

no_inc : (inc place : ℕ) (ballot : Ballot) (command : Command) → Inc inc ≡ Accepted place ballot command → ⊥
no_inc inc place ballot command e = absurd cc

-- a server that doesn't run has no proposer
pub no_proposer : (phase : Phase) (o : Option Phase) → IsProposer false phase o → o ≡ None
no_proposer phase None h = refl
no_proposer phase (Some there) h = let f : false ≡ true = h.0 in absurd cc

apart_raise : (n : ℕ) (p : World) → IsApart n p (raise p n)
apart_raise n p = record {
  acceptors = λ s place ne. refl;
  known = λ s place ne. refl;
  incs = λ s ne. put_away p.incs n (p.incs n + 1) s ne;
  proposers = λ s ne. refl;
  votes = λ s place ballot command ne i. i;
  more = λ x i. i;
  letters = λ x i. i;
}

low_raise : (p : World) (n : ℕ) → AreLow p → AreLow (raise p n)
low_raise p n low = record { acceptors = low.acceptors; letters = low.letters }

-- its device has the incarnation raised by one
seen_raised : (n : ℕ) (records : List StateRecord) (entries : List Command) (p : World) (inc : ℕ) → inc_of records ≡ inc → IsSeenAt n records entries p
    → IsSeenAt n (committed records (Inc (inc + 1))) entries (raise p n)
seen_raised n records entries p inc is seen = record {
  acceptors = λ place. seen.acceptors place ∙ sym (acceptor_inc records (inc + 1) place);
  known = λ place. seen.known place ∙ sym (known_inc records (inc + 1) place);
  inc = put_here p.incs n (p.incs n + 1) ∙ ap (λ k. k + 1) (seen.inc ∙ is) ∙ sym (inc_committed records (Inc (inc + 1)));
  votes = same_votes n records entries p (Inc (inc + 1)) (λ place ballot command. no_inc (inc + 1) place ballot command) seen;
  told = λ place command e. let t = seen.told place command (sym (known_inc records (inc + 1) place) ∙ e) in record { from = t.from; is = t.is };
  applied = λ i command e. known_inc records (inc + 1) (i + 1) ∙ seen.applied i command e;
}

-- what it has applied then, it knows
seen_read : (n : ℕ) (log : Log) (entries : List Command) (p : World) → IsSeenAt n log.records entries p → IsSeenAt n log.records (known_prefix log) p
seen_read n log entries p seen = record {
  acceptors = seen.acceptors;
  known = seen.known;
  inc = seen.inc;
  votes = seen.votes;
  told = seen.told;
  applied = λ i command e. let at : i + 1 ≡ 1 + i = omega arith in ap (known_at log.records) at ∙ run_known log _ 1 i command e;
}

-- the log of a server that does not run, and what the schedule's world has of it
pub record StoppedLog : Type 0 where
  pub servers : ℕ
  pub n : ℕ
  pub log : Log
  pub p : World
  pub inc : ℕ
  pub is : inc_of log.records ≡ inc
  pub low : AreLow p
  pub seen : IsSeenAt n log.records log.applied p
  pub asleep : p.proposers n ≡ None

module _ (it : StoppedLog) (Good : ℕ → Command → Type 0) where
  open it use {servers, n, log, p, inc, is, low, seen, asleep}

  abbrev q : World
  q = raise p n

  raised_turns : (running : Bool) (left : Log) (next : Option Phase) → IsSeenAt n left.records left.applied q
      → IsBusyAs servers n running left.phase (turn q n next) → Turns servers n running left [] p (turn q n next)
  raised_turns running left next seen busy = record {
    apart = apart_both n p q (turn q n next) (apart_raise n p) (apart_turn n q next);
    low = low_turn q n next (low_raise p n low);
    seen = seen_same n left.records left.applied q (turn q n next) (λ x i. i) (λ place. refl) (λ place. refl) refl
        (λ place ballot command. (λ i. i, λ i. i)) seen;
    busy = busy;
    posted = λ post i. no_posts post i;
  }

  -- it runs
  pub wake_turn : HasTurn servers n true (read_log (commits log (Inc (inc + 1)))) [] p Good
  wake_turn =
      let raised = commits log (Inc (inc + 1)) in
      record {
        events = Boots n Goes ∷ [];
        wanted = λ place command h. absurd h;
        turns = rw asleep (raised_turns true (read_log raised) (Some Idle)
            (seen_read n raised log.applied q (seen_raised n log.records log.applied p inc is seen))
            (record { proposer = subst (IsProposer true Idle) (sym (put_here q.proposers n (Some Idle))) (refl, tt); asked = tt }));
      }

  -- it failed after its commit, and doesn't run
  pub fail_turn : IsBusyAs servers n false log.phase p → HasTurn servers n false (commits log (Inc (inc + 1))) [] p Good
  fail_turn busy = record {
    events = Boots n StopsAfter ∷ [];
    wanted = λ place command h. absurd h;
    turns = rw asleep (raised_turns false (commits log (Inc (inc + 1))) None (seen_raised n log.records log.applied p inc is seen)
        (record {
          proposer = subst (IsProposer false log.phase) (sym (put_here q.proposers n None)) refl;
          asked = asked_more p (turn q n None) (λ x i. i) n servers log.phase busy.asked;
        }));
  }

-- A ballot that a server starts for a Caught is of a link of which nothing is left to copy.
use Rattle.law_steps.proofs.Imports.{◌++◌, ◌≡◌, Caught, Command, In, JobContext, LinkRow, List, Log, NextCopy, None, Nothing, Option, PairState, Some, Voter}
use Rattle.law_steps.proofs.Imports.{all_leaves, ap, by_test, caught_among, caught_links, draining, false, filter, first_among, first_wanted, fold, id_of}
use Rattle.law_steps.proofs.Imports.{in-append, inc_of, inl, inr, is_caught, is_due, is_in, is_nothing, join_only, kept_among, log_plain, move_among, moving}
use Rattle.law_steps.proofs.Imports.{next_copy, other_of, own_join, own_leave, own_leaves, own_wants, prefix_plain, refl, report_among, returning, rev_of}
use Rattle.law_steps.proofs.Imports.{state_in, subst, sym, true, true_false, voter_of, wanted, wanted_by, with_leave, ℕ}
use Rattle.law_steps.specs.DidStep.{IsBallotFor, Starts}
use Rattle.law_steps.proofs.KnownServer.{KnownServer, parts_of}

-- what is wanted and no Caught of clients' or Leaves is of a link of the server's
module _ (voter : Voter) (log : Log) (mine : List Command) where
  fold_leaves : (c : Command) → is_caught c ≡ true → ((c : Command) → In c log.leaves → is_caught c ≡ false)
      → In c (fold with_leave (filter (is_due (state_in voter.servers log)) log.leaves)
      (own_leave voter.me voter.inc (inc_of (state_in voter.servers log) voter.me))) → ⊥
  fold_leaves c is leaves h =
      elim (all_leaves (own_leave voter.me voter.inc (inc_of (state_in voter.servers log) voter.me))
      (filter (is_due (state_in voter.servers log)) log.leaves) c h) [
        | inl due ↦ true_false is (leaves c (kept_among (is_due (state_in voter.servers log)) log.leaves c due))
        | inr own ↦ own_leaves voter.me voter.inc (inc_of (state_in voter.servers log) voter.me) c (λ earlier lt e. true_false is (ap is_caught e)) own
      ]

  wanted_of_mine : (c : Command) → is_caught c ≡ true → ((c : Command) → In c log.wants → is_caught c ≡ false)
      → ((c : Command) → In c log.leaves → is_caught c ≡ false) → In c (wanted voter log mine) → In c mine
  wanted_of_mine c is wants leaves h = elim (in-append c _ log.wants h) [
    | inr asked ↦ true_false is (wants c asked)
    | inl former ↦ elim (in-append c _ mine former) [ inr own ↦ own | inl leave ↦ absurd (fold_leaves c is leaves leave) ]
  ]

-- and no report to a fence, nor that something has moved
caught_returns : (here : JobContext) (own : PairState) (c : Command) → is_caught c ≡ true → In c (own_wants here own) → In c (returning here own)
caught_returns here own c is h = elim (in-append c (returning here own ++ draining here own) (moving here own) h) [
  | inl former ↦ elim (in-append c (returning here own) (draining here own) former) [
    | inl mine ↦ mine
    | inr report ↦ true_false is (ap is_caught (report_among here own c report).is)
  ]
  | inr moved ↦ true_false is (ap is_caught (move_among here own c moved).is)
]

module _ (it : KnownServer) where
  open it use {setting, firm, n}
  open parts_of it use {here, server, own, log}

  -- a ballot for a Caught is of a link of which nothing is left to copy
  ballot_for : (of link holder inc other other_inc : ℕ) → In (Caught of link holder inc other other_inc) (returning here own)
      → IsBallotFor here own (record { map = of; link = link })
  ballot_for of link holder inc other other_inc h =
      by_test (λ (xs : List Command). In (Caught of link holder inc other other_inc) xs → IsBallotFor here own (record { map = of; link = link }))
      (is_in here.state here.me here.inc) (caught_links here own) (own_join here.state here.me here.inc own.store.fresh)
      (λ seat i.
      let mine = caught_among here own (Caught of link holder inc other other_inc) i in
      let same : record { map = of; link = link } ≡ id_of mine.row = same_id mine.row here.me here.inc (other_of here.me mine.row) mine.inc mine.is in
      let found = (log_plain setting.servers log.applied (prefix_plain setting.servers log.applied _ firm.plain (firm.servers n))).found mine.row mine.there in
      subst (IsBallotFor here own) (sym same) (record {
        row = mine.row;
        other = other_of here.me mine.row;
        held = record { is = found; other_is = mine.other_is };
        nothing = is_it (next_copy here.state mine.row own) mine.nothing;
        seated = seat;
      }))
      (λ out i. no_join i) h
    where
      same_id : (row : LinkRow) (me inc' other' inc'' : ℕ) → Caught of link holder inc other other_inc ≡ Caught row.map row.link me inc' other' inc''
          → record { map = of; link = link } ≡ id_of row
      same_id row me inc' other' inc'' e = let a : of ≡ row.map = cc in let b : link ≡ row.link = cc in λ i. record { map = a i; link = b i }

      is_it : (next : NextCopy) → is_nothing next ≡ true → next ≡ Nothing
      is_it Nothing e = refl
      is_it _ e = true_false e refl

      no_join : In (Caught of link holder inc other other_inc) (own_join here.state here.me here.inc own.store.fresh)
          → IsBallotFor here own (record { map = of; link = link })
      no_join i = join_only here.state here.me here.inc own.store.fresh _ (λ may e. let f : true ≡ false = ap is_caught e in absurd cc) i

  pub starts_for_it : (started : Option Command) → first_wanted log.phase (rev_of log) (wanted_by here server) ≡ started → Starts here own started
  starts_for_it (Some (Caught of link holder inc other other_inc)) e =
      ballot_for of link holder inc other other_inc
      (caught_returns here own _ refl
      (wanted_of_mine (voter_of here) log (own_wants here own) _ refl (λ c i. firm.asked n c (inl i)) (λ c i. firm.asked n c (inr i))
      (first_among log.phase (rev_of log) (wanted_by here server) _ e)))
  starts_for_it (Some _) e = tt
  starts_for_it None e = tt

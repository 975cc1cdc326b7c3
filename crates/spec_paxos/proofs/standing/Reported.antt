-- What was reported of the highest ballot at a place.
use Rattle.std.proofs.Common.{◌≡◌, inl, inr, ℕ, ◌+◌, ◌≤◌, ◌<◌, Bool, true, false, if◌then◌else◌, ◌==◌, List, [], ◌∷◌, Option, Some, None}
use Rattle.std.proofs.Common.{refl, subst, arith}
use Rattle.std.proofs.lemmas.Bool.Decides.{nat_tests}
use Rattle.std.specs.Prelude.{nat_lt}
use Rattle.petal_command.specs.declared.ballot.Ballot.{Ballot}
use Rattle.petal_command.specs.declared.command.Command.{Command}
use Rattle.petal_command.specs.Ballot.{number}
use Rattle.petal_command.proofs.Equal.{number_is, number_self}
use Rattle.spec_paxos.specs.Member.{In}
use Rattle.spec_paxos.specs.Proposer.{rank_of, higher}
use Rattle.spec_paxos.specs.standing.Letters.{Report}
use Rattle.spec_paxos.specs.standing.Proposer.{best_with, reported_at}
use Rattle.spec_paxos.proofs.Members.{in_nil, in_cons, in_here, in_there}

pub higher_ranks : (a b : Option (Ballot × Command)) → (rank_of a ≤ rank_of (higher a b)) × (rank_of b ≤ rank_of (higher a b))
higher_ranks a b = by (nat_lt (rank_of a) (rank_of b)) refl
  where
    by : (t : Bool) → nat_lt (rank_of a) (rank_of b) ≡ t → (rank_of a ≤ rank_of (if t then b else a)) × (rank_of b ≤ rank_of (if t then b else a))
    by true e = (grind (arith, nat_tests), grind (arith, nat_tests))
    by false e = (grind (arith, nat_tests), grind (arith, nat_tests))

-- a report is of no higher ballot
pub in_reported : (told : List Report) (p : ℕ) (b : Ballot) (c : Command) → In (p, b, c) told → number b < rank_of (reported_at told p)
in_reported [] p b c i = absurd (in_nil _ i)
in_reported (r ∷ told) p b c i = elim (in_cons _ _ _ i) [
  | inl e ↦ subst (λ (y : Report). number b < rank_of (best_with p y (reported_at told p))) e (own (p == p) refl)
  | inr later ↦ let old = in_reported told p b c later in kept old (r.0 == p)
]
  where
    own : (t : Bool) → (p == p) ≡ t → number b < rank_of (if t then higher (reported_at told p) (Some (b, c)) else reported_at told p)
    own true e = let g = (higher_ranks (reported_at told p) (Some (b, c))).1 in omega arith
    own false e = absurd (let self = number_self p in cc)

    kept : number b < rank_of (reported_at told p) → (t : Bool)
        → number b < rank_of (if t then higher (reported_at told p) (Some (r.1, r.2)) else reported_at told p)
    kept old true = let g = (higher_ranks (reported_at told p) (Some (r.1, r.2))).0 in omega arith
    kept old false = old

abbrev StandsIn : ℕ → List Report → Option (Ballot × Command) → Type 0
StandsIn p told None = ⊥
StandsIn p told (Some x) = In (p, x.0, x.1) told

-- it is one of the reports
pub reported_in : (told : List Report) (p : ℕ) (x : Ballot × Command) → reported_at told p ≡ Some x → In (p, x.0, x.1) told
reported_in [] p x e = absurd (cc)
reported_in (r ∷ told) p x e = by (r.0 == p) refl e (reported_in told p x)
  where
    mine : r.0 ≡ p → In (p, r.1, r.2) (r ∷ told)
    mine at = subst (λ q. In (q, r.1, r.2) (r ∷ told)) at (in_here _ _)

    chosen : r.0 ≡ p → (reported_at told p ≡ Some x → In (p, x.0, x.1) told) → (t : Bool)
        → (if t then Some (r.1, r.2) else reported_at told p) ≡ Some x → In (p, x.0, x.1) (r ∷ told)
    chosen at ih true is = subst (λ (o : Option (Ballot × Command)). StandsIn p (r ∷ told) o) is (mine at)
    chosen at ih false is = in_there _ _ _ (ih is)

    by : (t : Bool) → (r.0 == p) ≡ t → (if t then higher (reported_at told p) (Some (r.1, r.2)) else reported_at told p) ≡ Some x
        → (reported_at told p ≡ Some x → In (p, x.0, x.1) told) → In (p, x.0, x.1) (r ∷ told)
    by true at is ih = chosen (number_is r.0 p at) ih (nat_lt (rank_of (reported_at told p)) (number r.1 + 1)) is
    by false at is ih = in_there _ _ _ (ih is)

-- with more reports it is of no lower ballot
pub reported_rises : (told more : List Report) → ((r : Report) → In r told → In r more) → (p : ℕ) → rank_of (reported_at told p) ≤ rank_of (reported_at more p)
reported_rises told more all p = by (reported_at told p) refl
  where
    by : (o : Option (Ballot × Command)) → reported_at told p ≡ o → rank_of o ≤ rank_of (reported_at more p)
    by None e = omega arith
    by (Some x) e = let up = in_reported more p x.0 x.1 (all _ (reported_in told p x e)) in omega arith

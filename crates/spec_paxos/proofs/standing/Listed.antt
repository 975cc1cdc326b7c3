-- What a promise lists: from its place on, up to where it says that it tells all, each last acceptance.
use Rattle.std.proofs.Common.{◌≡◌, ◌⊎◌, inl, inr, ℕ, zero, suc, ◌+◌, ◌≤◌, ◌<◌, Bool, true, false, if◌then◌else◌, List, [], ◌∷◌, length, Option, Some, None}
use Rattle.std.proofs.Common.{is_some, unwrap_or, refl, sym, ap, subst, ◌∙◌, arith}
use Rattle.std.proofs.lemmas.Bool.{cases_lt}
use Rattle.std.proofs.lemmas.Bool.Decides.{nat_tests}
use Rattle.std.specs.Prelude.{min, nat_le}
use Rattle.petal_command.specs.declared.ballot.Ballot.{Ballot}
use Rattle.petal_command.specs.declared.command.Command.{Command}
use Rattle.spec_paxos.specs.Member.{In}
use Rattle.spec_paxos.specs.standing.Letters.{Report}
use Rattle.spec_paxos.specs.standing.Kept.{StateRecord, Inc, PromiseFrom, Accepted, Chosen, accepted_at, least, place_from, next_place, report}
use Rattle.spec_paxos.specs.standing.Kept.{report_at, next_accepted}
use Rattle.spec_paxos.specs.standing.Acceptor.{behind, before_rest, listed, last_place, until_of}
use Rattle.spec_paxos.specs.standing.Listing.{IsAccepted, IsNext, IsRisingFrom, IsEnd, IsListing}
use Rattle.spec_paxos.specs.standing.Proposer.{is_within}
use Rattle.spec_paxos.proofs.Members.{in_nil, in_cons, in_here, in_there}
use Rattle.spec_paxos.proofs.standing.Committed.{accepted_stands, voted_some}

-- ### The next place with an acceptance

-- the first place from this one on of which P holds
abbrev IsFirst : (ℕ → Type 0) → ℕ → Option ℕ → Type 0
IsFirst P from None = (q : ℕ) → P q → q < from
IsFirst P from (Some p) = (from ≤ p) × P p × ((q : ℕ) → P q → from ≤ q → p ≤ q)

first_same : (P Q : ℕ → Type 0) → ((q : ℕ) → P q → Q q) → ((q : ℕ) → Q q → P q) → (from : ℕ) (o : Option ℕ) → IsFirst P from o → IsFirst Q from o
first_same P Q there back from None h = λ q k. h q (back q k)
first_same P Q there back from (Some p) h = (h.0, there p h.1, λ q k low. h.2 q (back q k) low)

least_first : (P Q : ℕ → Type 0) (from : ℕ) (a b : Option ℕ) → IsFirst P from a → IsFirst Q from b → IsFirst (λ p. P p ⊎ Q p) from (least a b)
least_first P Q from None None h k = λ q i. elim i [ inl x ↦ h q x | inr y ↦ k q y ]
least_first P Q from None (Some b) h k =
    (k.0, inr k.1, λ q i low. elim i [ inl x ↦ let under = h q x in absurd (omega arith) | inr y ↦ k.2 q y low ])
least_first P Q from (Some a) None h k =
    (h.0, inl h.1, λ q i low. elim i [ inl x ↦ h.2 q x low | inr y ↦ let under = k q y in absurd (omega arith) ])
least_first P Q from (Some a) (Some b) h k = elim (cases_lt a b) [
  | inl less ↦ subst (λ m. IsFirst (λ p. P p ⊎ Q p) from (Some m)) (let e : a ≡ min a b = omega arith in e)
      (h.0, inl h.1, λ q i low. elim i [ inl x ↦ h.2 q x low | inr y ↦ let over = k.2 q y low in omega arith ])
  | inr more ↦ subst (λ m. IsFirst (λ p. P p ⊎ Q p) from (Some m)) (let e : b ≡ min a b = omega arith in e)
      (k.0, inr k.1, λ q i low. elim i [ inl x ↦ let over = h.2 q x low in omega arith | inr y ↦ k.2 q y low ])
]

-- the record accepts at the place
abbrev IsVote : StateRecord → ℕ → Type 0
IsVote x p = (b : Ballot) × (c : Command) × (Accepted p b c ≡ x)

abbrev IsVotedAt : List StateRecord → ℕ → Type 0
IsVotedAt records p = (b : Ballot) × (c : Command) × In (Accepted p b c) records

vote_first : (from : ℕ) (x : StateRecord) → IsFirst (IsVote x) from (place_from from x)
vote_first from (Inc inc) = λ q k. let e = k.2 in absurd (cc)
vote_first from (PromiseFrom p b) = λ q k. let e = k.2 in absurd (cc)
vote_first from (Accepted p b c) = by (nat_le from p) refl
  where
    by : (t : Bool) → nat_le from p ≡ t → IsFirst (IsVote (Accepted p b c)) from (if t then Some p else None)
    by true e = (grind (arith, nat_tests), (b, c, refl), λ q k low. let is = k.2 in let at : q ≡ p = cc in omega arith)
    by false e = λ q k. let is = k.2 in let at : q ≡ p = cc in let under : p < from = grind (arith, nat_tests) in omega arith
vote_first from (Chosen p c) = λ q k. let e = k.2 in absurd (cc)

next_first : (records : List StateRecord) (from : ℕ) → IsFirst (IsVotedAt records) from (next_place records from)
next_first [] from = λ q k. absurd (in_nil _ k.2)
next_first (x ∷ records) from = first_same (λ p. IsVote x p ⊎ IsVotedAt records p) (IsVotedAt (x ∷ records)) there back from _
    (least_first (IsVote x) (IsVotedAt records) from _ _ (vote_first from x) (next_first records from))
  where
    there : (q : ℕ) → IsVote x q ⊎ IsVotedAt records q → IsVotedAt (x ∷ records) q
    there q (inl k) = (k.0, k.1, subst (λ y. In (Accepted q k.0 k.1) (y ∷ records)) k.2 (in_here _ _))
    there q (inr k) = (k.0, k.1, in_there _ _ _ k.2)

    back : (q : ℕ) → IsVotedAt (x ∷ records) q → IsVote x q ⊎ IsVotedAt records q
    back q k = elim (in_cons _ _ _ k.2) [ inl e ↦ inl (k.0, k.1, e) | inr i ↦ inr (k.0, k.1, i) ]

pub next_is : (records : List StateRecord) (from : ℕ) → IsNext records from (next_accepted records from)
next_is records from = by (next_place records from) (next_first records from)
  where
    voted : (q : ℕ) (x : Ballot × Command) → accepted_at records q ≡ Some x → IsVotedAt records q
    voted q x e = (x.0, x.1, accepted_stands records q x.0 x.1 e)

    found : (p : ℕ) → IsFirst (IsVotedAt records) from (Some p) → (o : Option (Ballot × Command))
        → accepted_at records p ≡ o → IsNext records from (report p o)
    found p h None e = let some = voted_some records p h.1.0 h.1.1 h.1.2 in absurd (cc)
    found p h (Some x) e = (h.0, e, λ q y at low. h.2 q (voted q y at) low)

    by : (o : Option ℕ) → IsFirst (IsVotedAt records) from o → IsNext records from (report_at records o)
    by None h = λ q x e. h q (voted q x e)
    by (Some p) h = found p h (accepted_at records p) refl

-- ### The list

abbrev report_of : ℕ → Ballot × Command → Report
report_of p x = (p, x.0, x.1)

same_report : (records : List StateRecord) (r : Report) → accepted_at records r.0 ≡ Some (r.1, r.2) → (p : ℕ) (x : Ballot × Command) → r.0 ≡ p
    → accepted_at records p ≡ Some x → report_of p x ≡ r
same_report records r is p x at e = subst (λ q. accepted_at records q ≡ Some x → report_of q x ≡ r) at same e
  where
    same : accepted_at records r.0 ≡ Some x → report_of r.0 x ≡ r
    same k = ap (λ (o : Option (Ballot × Command)). report_of r.0 (unwrap_or o x)) (sym k ∙ is)

-- an acceptance from the place on is listed, or stands behind the last one listed
listed_or_behind : (records : List StateRecord) (most from place p : ℕ) (x : Ballot × Command) → accepted_at records p ≡ Some x → from ≤ p
    → place < from → In (report_of p x) (listed records from most) ⊎ (last_place place (listed records from most) < p)
listed_or_behind records zero from place p x e low under = inr (omega arith)
listed_or_behind records (suc most) from place p x e low under =
    by (next_accepted records from) (next_is records from) (λ f q. listed_or_behind records most f q p x e)
  where
    by : (o : Option Report) → IsNext records from o
        → ((f q : ℕ) → f ≤ p → q < f → In (report_of p x) (listed records f most) ⊎ (last_place q (listed records f most) < p))
        → In (report_of p x) (before_rest o (listed records (behind from o) most))
        ⊎ (last_place place (before_rest o (listed records (behind from o) most)) < p)
    by None h ih = let none = h p x e in absurd (omega arith)
    by (Some r) h ih = elim (cases_lt r.0 p) [
      | inl less ↦ elim (ih (r.0 + 1) r.0 (omega arith) (omega arith)) [ inl i ↦ inl (in_there _ _ _ i) | inr far ↦ inr far ]
      | inr more ↦ let least = h.2 p x e low in
          inl (subst (λ y. In (report_of p x) (y ∷ listed records (r.0 + 1) most)) (same_report records r h.1 p x (omega arith) e) (in_here _ _))
    ]

listed_are : (records : List StateRecord) (most from : ℕ) (x : Report) → In x (listed records from most)
    → accepted_at records x.0 ≡ Some (x.1, x.2)
listed_are records zero from x i = absurd (in_nil _ i)
listed_are records (suc most) from x i = by (next_accepted records from) (next_is records from) (λ f. listed_are records most f x) i
  where
    by : (o : Option Report) → IsNext records from o → ((f : ℕ) → In x (listed records f most) → accepted_at records x.0 ≡ Some (x.1, x.2))
        → In x (before_rest o (listed records (behind from o) most)) → accepted_at records x.0 ≡ Some (x.1, x.2)
    by None h ih i = absurd (in_nil _ i)
    by (Some r) h ih i = elim (in_cons _ _ _ i) [
      | inl e ↦ subst (λ (y : Report). accepted_at records y.0 ≡ Some (y.1, y.2)) (sym e) h.1
      | inr later ↦ ih (r.0 + 1) later
    ]

listed_rises : (records : List StateRecord) (most from : ℕ) → IsRisingFrom from (listed records from most)
listed_rises records zero from = tt
listed_rises records (suc most) from = by (next_accepted records from) (next_is records from) (λ f. listed_rises records most f)
  where
    by : (o : Option Report) → IsNext records from o → ((f : ℕ) → IsRisingFrom f (listed records f most))
        → IsRisingFrom from (before_rest o (listed records (behind from o) most))
    by None h ih = tt
    by (Some r) h ih = (h.0, ih (r.0 + 1))

listed_length : (records : List StateRecord) (most from : ℕ) → length (listed records from most) ≤ most
listed_length records zero from = omega arith
listed_length records (suc most) from = by (next_accepted records from) (λ f. listed_length records most f)
  where
    by : (o : Option Report) → ((f : ℕ) → length (listed records f most) ≤ most) → length (before_rest o (listed records (behind from o) most)) ≤ suc most
    by None ih = omega arith
    by (Some r) ih = let rest = ih (r.0 + 1) in omega arith

last_low : (place : ℕ) (told : List Report) → IsRisingFrom (place + 1) told → place ≤ last_place place told
last_low place [] rising = omega arith
last_low place (r ∷ told) rising = let first = rising.0 in let rest = last_low r.0 told rising.1 in omega arith

-- from this place on nothing is accepted behind the last one
abbrev IsLast : List StateRecord → ℕ → ℕ → Type 0
IsLast records from last = (q : ℕ) (x : Ballot × Command) → accepted_at records q ≡ Some x → from ≤ q → q ≤ last

full_or_last : (records : List StateRecord) (most from place : ℕ) → place < from
    → (length (listed records from most) ≡ most) ⊎ IsLast records from (last_place place (listed records from most))
full_or_last records zero from place under = inl refl
full_or_last records (suc most) from place under = by (next_accepted records from) (next_is records from)
    (λ f q. full_or_last records most f q) (λ f. listed_rises records most f)
  where
    by : (o : Option Report) → IsNext records from o
        → ((f q : ℕ) → q < f → (length (listed records f most) ≡ most) ⊎ IsLast records f (last_place q (listed records f most)))
        → ((f : ℕ) → IsRisingFrom f (listed records f most))
        → (length (before_rest o (listed records (behind from o) most)) ≡ suc most)
        ⊎ IsLast records from (last_place place (before_rest o (listed records (behind from o) most)))
    by None h ih up = inr (λ q x e low. let none = h q x e in absurd (omega arith))
    by (Some r) h ih up = elim (ih (r.0 + 1) r.0 (omega arith)) [
      | inl full ↦ inl (omega arith)
      | inr all ↦ inr (λ q x e low. elim (cases_lt r.0 q) [
        | inl more ↦ all q x e (omega arith)
        | inr less ↦ let rest = last_low r.0 (listed records (r.0 + 1) most) (up (r.0 + 1)) in omega arith
      ])
    ]

lists_all : (records : List StateRecord) (from most : ℕ) → 1 ≤ most → (p : ℕ) (x : Ballot × Command)
    → accepted_at records p ≡ Some x → from ≤ p → is_within (until_of records (listed records from most)) p ≡ true
    → In (report_of p x) (listed records from most)
lists_all records from zero some p x e low within = absurd (omega arith)
lists_all records from (suc most) some p x e low within = by (next_accepted records from) (next_is records from) within
  where
    ended : (place : ℕ) → place < p → (o : Option Report) → IsNext records (place + 1) o → is_within (if is_some o then Some place else None) p ≡ true → ⊥
    ended place far None h k = let none = h p x e in omega arith
    ended place far (Some r) h k = let up : p ≤ place = grind (arith, nat_tests) in omega arith

    by : (o : Option Report) → IsNext records from o → is_within (until_of records (before_rest o (listed records (behind from o) most))) p ≡ true
        → In (report_of p x) (before_rest o (listed records (behind from o) most))
    by None h k = let none = h p x e in absurd (omega arith)
    by (Some r) h k = elim (cases_lt r.0 p) [
      | inl less ↦ elim (listed_or_behind records most (r.0 + 1) r.0 p x e (omega arith) (omega arith)) [
        | inl i ↦ in_there _ _ _ i
        | inr far ↦ absurd (ended (last_place r.0 (listed records (r.0 + 1) most)) far _ (next_is records _) k)
      ]
      | inr more ↦ let least = h.2 p x e low in
          subst (λ y. In (report_of p x) (y ∷ listed records (r.0 + 1) most)) (same_report records r h.1 p x (omega arith) e) (in_here _ _)
    ]

list_ends : (records : List StateRecord) (from most : ℕ) → 1 ≤ most
    → IsEnd (until_of records (listed records from most)) (last_place from (listed records from most)) (length (listed records from most)) most
list_ends records from zero some = absurd (omega arith)
list_ends records from (suc most) some = by (next_accepted records from)
  where
    ended : (first last : ℕ) → first ≤ last → (told : List Report) → (length told ≡ most) ⊎ IsLast records (first + 1) last
        → (o : Option Report) → IsNext records (last + 1) o → IsEnd (if is_some o then Some last else None) last (suc (length told)) (suc most)
    ended first last low told side None h = inl refl
    ended first last low told (inl full) (Some r) h = inr (refl, omega arith)
    ended first last low told (inr all) (Some r) h =
        let far = h.0 in let near = all r.0 (r.1, r.2) h.1 (omega arith) in absurd (omega arith)

    by : (o : Option Report)
        → IsEnd (until_of records (before_rest o (listed records (behind from o) most)))
        (last_place from (before_rest o (listed records (behind from o) most)))
        (length (before_rest o (listed records (behind from o) most))) (suc most)
    by None = inl refl
    by (Some r) = ended r.0 (last_place r.0 (listed records (r.0 + 1) most))
        (last_low r.0 (listed records (r.0 + 1) most) (listed_rises records most (r.0 + 1))) (listed records (r.0 + 1) most)
        (full_or_last records most (r.0 + 1) r.0 (omega arith)) _ (next_is records _)

-- where a last place is told, something is accepted behind it
more_behind : (records : List StateRecord) (told : List Report) (last : ℕ) → until_of records told ≡ Some last
    → (place : ℕ) × (x : Ballot × Command) × IsAccepted records place x × (last < place)
more_behind records [] last e = absurd (cc)
more_behind records (r ∷ told) last e =
    by (last_place r.0 told) (next_accepted records (last_place r.0 told + 1)) (next_is records (last_place r.0 told + 1)) e
  where
    by : (p : ℕ) (o : Option Report) → IsNext records (p + 1) o → (if is_some o then Some p else None) ≡ Some last
        → (place : ℕ) × (x : Ballot × Command) × IsAccepted records place x × (last < place)
    by p None h is = absurd (cc)
    by p (Some r) h is = let at : p ≡ last = ap (λ (o : Option ℕ). unwrap_or o last) is in let far = h.0 in (r.0, (r.1, r.2), h.1, omega arith)

pub listing : (records : List StateRecord) (from most : ℕ) → 1 ≤ most
    → IsListing records from most (until_of records (listed records from most)) (listed records from most)
listing records from most some = record {
  accepted = λ r i. listed_are records most from r i;
  all = lists_all records from most some;
  rising = listed_rises records most from;
  short = listed_length records most from;
  ends = list_ends records from most some;
  more = λ last e. more_behind records (listed records from most) last e;
}

-- What the records on a state device stand for after a commit.
use Rattle.std.proofs.Common.{◌≡◌, ◌⊎◌, inl, inr, ℕ, ◌+◌, ◌≤◌, ◌<◌, Bool, true, false, if◌then◌else◌, ◌==◌, List, [], ◌∷◌, ◌++◌, fold, Option, Some, None}
use Rattle.std.proofs.Common.{is_some, unwrap_or, refl, sym, ap, subst, ◌∙◌, arith}
use Rattle.std.proofs.lemmas.Bool.{cases_lt}
use Rattle.std.proofs.lemmas.Bool.Decides.{nat_tests}
use Rattle.std.specs.Prelude.{⊤, max, nat_le}
use Rattle.petal_command.specs.declared.ballot.Ballot.{Ballot}
use Rattle.petal_command.specs.declared.command.Command.{Command}
use Rattle.petal_command.specs.Ballot.{number}
use Rattle.petal_command.proofs.Equal.{number_is, number_self}
use Rattle.spec_paxos.specs.Member.{In}
use Rattle.spec_paxos.specs.Acceptor.{rank}
use Rattle.spec_paxos.specs.Proposer.{rank_of}
use Rattle.spec_paxos.specs.Kept.{empty_row, greater, promise_row, accept_row, choose_row}
use Rattle.spec_paxos.specs.declared.record.Row.{Row}
use Rattle.spec_paxos.specs.standing.Kept.{StateRecord, Inc, PromiseFrom, Accepted, Chosen, row_after, row_of, promised_at, accepted_at, known_at}
use Rattle.spec_paxos.specs.standing.Kept.{inc_of, highest_after, promised_from, covering_after, AddsNothing, Commits, adds_nothing, committed}
use Rattle.spec_paxos.proofs.Committed.{fold_last, in_prefix, in_last, in_either, row_is, row_same}

-- ### A commit adds its record, or nothing

pub tested_nothing : (records : List StateRecord) (entry : StateRecord) → adds_nothing records entry ≡ true → AddsNothing records entry
tested_nothing records (Inc inc) e = number_is (inc_of records) inc e
tested_nothing records (PromiseFrom p b) e = grind (arith, nat_tests)
tested_nothing records (Accepted p b c) e = row_is (accept_row (row_of records p) b c) (row_of records p) e
tested_nothing records (Chosen p c) e = row_is (choose_row (row_of records p) c) (row_of records p) e

pub nothing_tested : (records : List StateRecord) (entry : StateRecord) → AddsNothing records entry → adds_nothing records entry ≡ true
nothing_tested records (Inc inc) h = grind (arith, nat_tests)
nothing_tested records (PromiseFrom p b) h = grind (arith, nat_tests)
nothing_tested records (Accepted p b c) h = row_same (accept_row (row_of records p) b c) (row_of records p) h
nothing_tested records (Chosen p c) h = row_same (choose_row (row_of records p) c) (row_of records p) h

-- the records after a commit, by cases
pub data Commit (records : List StateRecord) (entry : StateRecord) : Type 0 where
  Left : AddsNothing records entry → committed records entry ≡ records → Commit records entry
  More : (AddsNothing records entry → ⊥) → committed records entry ≡ records ++ entry ∷ [] → Commit records entry

pub commits : (records : List StateRecord) (entry : StateRecord) → Commit records entry
commits records entry = by (adds_nothing records entry) refl
  where
    choice : (t : Bool) → adds_nothing records entry ≡ t → committed records entry ≡ (if t then records else records ++ entry ∷ [])
    choice t e = ap (λ (t : Bool). if t then records else records ++ entry ∷ []) e

    by : (t : Bool) → adds_nothing records entry ≡ t → Commit records entry
    by true e = Left (tested_nothing records entry e) (choice true e)
    by false e = More (λ h. let agree = nothing_tested records entry h in absurd (cc)) (choice false e)

pub commits_is : (old new : List StateRecord) (entry : StateRecord) → Commits old new entry → new ≡ committed old entry
commits_is old new entry (inl nothing) = elim (commits old entry) [
  | Left h is ↦ nothing.1 ∙ sym is
  | More h is ↦ absurd (h nothing.0)
]
commits_is old new entry (inr more) = elim (commits old entry) [
  | Left h is ↦ absurd (more.0 h)
  | More h is ↦ more.1 ∙ sym is
]

pub in_committed : (x : StateRecord) (records : List StateRecord) (entry : StateRecord) → In x records → In x (committed records entry)
in_committed x records entry h = elim (commits records entry) [
  | Left nothing is ↦ subst (λ l. In x l) (sym is) h
  | More something is ↦ subst (λ l. In x l) (sym is) (in_prefix x records (entry ∷ []) h)
]

pub committed_in : (x : StateRecord) (records : List StateRecord) (entry : StateRecord) → In x (committed records entry) → In x records ⊎ (x ≡ entry)
committed_in x records entry h = elim (commits records entry) [
  | Left nothing is ↦ inl (subst (λ l. In x l) is h)
  | More something is ↦ in_either x entry records (subst (λ l. In x l) is h)
]

-- what holds of a fold with and without the record
folds : {A : Type 0} (f : A → StateRecord → A) (a : A) (records : List StateRecord) (entry : StateRecord) (P : A → Type 0) → P (fold f a records)
    → P (f (fold f a records) entry) → P (fold f a (committed records entry))
folds f a records entry P old new = elim (commits records entry) [
  | Left nothing is ↦ subst (λ l. P (fold f a l)) (sym is) old
  | More something is ↦ subst (λ l. P (fold f a l)) (sym is) (subst P (sym (fold_last f a records entry)) new)
]

-- ### What is promised only rises

greater_ranks : (o : Option Ballot) (b : Ballot) → rank (greater o b) ≡ max (rank o) (number b + 1)
greater_ranks o b = by (nat_le (rank o) (number b + 1)) refl
  where
    by : (t : Bool) → nat_le (rank o) (number b + 1) ≡ t → rank (if t then Some b else o) ≡ max (rank o) (number b + 1)
    by true e = let low : rank o ≤ number b + 1 = grind (arith, nat_tests) in omega arith
    by false e = let high : number b + 1 < rank o = grind (arith, nat_tests) in omega arith

row_rises : (p : ℕ) (row : Row) (x : StateRecord) → rank row.promised ≤ rank (row_after p row x).promised
row_rises p row (Inc inc) = omega arith
row_rises p row (PromiseFrom q b) = by (nat_le q p)
  where
    by : (t : Bool) → rank row.promised ≤ rank (if t then promise_row row b else row).promised
    by true = let g = greater_ranks row.promised b in omega arith
    by false = omega arith
row_rises p row (Accepted q b c) = by (q == p)
  where
    by : (t : Bool) → rank row.promised ≤ rank (if t then accept_row row b c else row).promised
    by true = let g = greater_ranks row.promised b in omega arith
    by false = omega arith
row_rises p row (Chosen q c) = by (q == p)
  where
    by : (t : Bool) → rank row.promised ≤ rank (if t then choose_row row c else row).promised
    by true = omega arith
    by false = omega arith

rows_rise : (p : ℕ) (row : Row) (records : List StateRecord) → rank row.promised ≤ rank (fold (row_after p) row records).promised
rows_rise p row [] = omega arith
rows_rise p row (x ∷ records) = let first = row_rises p row x in let rest = rows_rise p (row_after p row x) records in omega arith

pub promised_rises : (records : List StateRecord) (entry : StateRecord) (p : ℕ) → rank (promised_at records p) ≤ rank (promised_at (committed records entry) p)
promised_rises records entry p = folds (row_after p) empty_row records entry (λ (r : Row). rank (promised_at records p) ≤ rank r.promised) (omega arith)
    (row_rises p (row_of records p) entry)

highest_rises : (p : ℕ) (o : Option Ballot) (x : StateRecord) → rank o ≤ rank (highest_after p o x)
highest_rises p o (Inc inc) = omega arith
highest_rises p o (PromiseFrom q b) = let g = greater_ranks o b in omega arith
highest_rises p o (Accepted q b c) = by (nat_le p q)
  where
    by : (t : Bool) → rank o ≤ rank (if t then greater o b else o)
    by true = let g = greater_ranks o b in omega arith
    by false = omega arith
highest_rises p o (Chosen q c) = omega arith

pub pledge_rises : (records : List StateRecord) (entry : StateRecord) (p : ℕ)
    → rank (promised_from records p) ≤ rank (promised_from (committed records entry) p)
pledge_rises records entry p = folds (highest_after p) None records entry (λ (o : Option Ballot). rank (promised_from records p) ≤ rank o) (omega arith)
    (highest_rises p (promised_from records p) entry)

-- ### A promise covers every place from its own on

covers : (q p : ℕ) (row : Row) (b : Ballot) → q ≤ p → number b + 1 ≤ rank (row_after p row (PromiseFrom q b)).promised
covers q p row b low = by (nat_le q p) refl
  where
    by : (t : Bool) → nat_le q p ≡ t → number b + 1 ≤ rank (if t then promise_row row b else row).promised
    by true e = let g = greater_ranks row.promised b in omega arith
    by false e = absurd (grind (arith, nat_tests))

covering_row : (f p : ℕ) → f ≤ p → (o : Option Ballot) (row : Row) → rank o ≤ rank row.promised → (x : StateRecord)
    → rank (covering_after f o x) ≤ rank (row_after p row x).promised
covering_row f p low o row h (Inc inc) = h
covering_row f p low o row h (PromiseFrom q b) = by (nat_le q f) refl
  where
    by : (t : Bool) → nat_le q f ≡ t → rank (if t then greater o b else o) ≤ rank (row_after p row (PromiseFrom q b)).promised
    by true e =
        let below : q ≤ f = grind (arith, nat_tests) in
        let g = greater_ranks o b in
        let own = covers q p row b (omega arith) in
        let kept = row_rises p row (PromiseFrom q b) in
        omega arith
    by false e = let kept = row_rises p row (PromiseFrom q b) in omega arith
covering_row f p low o row h (Accepted q b c) = let kept = row_rises p row (Accepted q b c) in omega arith
covering_row f p low o row h (Chosen q c) = let kept = row_rises p row (Chosen q c) in omega arith

covering_rows : (f p : ℕ) → f ≤ p → (o : Option Ballot) (row : Row) → rank o ≤ rank row.promised → (records : List StateRecord)
    → rank (fold (covering_after f) o records) ≤ rank (fold (row_after p) row records).promised
covering_rows f p low o row h [] = h
covering_rows f p low o row h (x ∷ records) = covering_rows f p low (covering_after f o x) (row_after p row x) (covering_row f p low o row h x) records

covering_highest : (f p : ℕ) (o h : Option Ballot) → rank o ≤ rank h → (x : StateRecord) → rank (covering_after f o x) ≤ rank (highest_after p h x)
covering_highest f p o h low (Inc inc) = low
covering_highest f p o h low (PromiseFrom q b) = by (nat_le q f)
  where
    by : (t : Bool) → rank (if t then greater o b else o) ≤ rank (greater h b)
    by true = let g = greater_ranks o b in let k = greater_ranks h b in omega arith
    by false = let k = greater_ranks h b in omega arith
covering_highest f p o h low (Accepted q b c) = let kept = highest_rises p h (Accepted q b c) in omega arith
covering_highest f p o h low (Chosen q c) = low

covering_all : (f p : ℕ) (o h : Option Ballot) → rank o ≤ rank h → (records : List StateRecord)
    → rank (fold (covering_after f) o records) ≤ rank (fold (highest_after p) h records)
covering_all f p o h low [] = low
covering_all f p o h low (x ∷ records) = covering_all f p (covering_after f o x) (highest_after p h x) (covering_highest f p o h low x) records

pub promise_covers : (records : List StateRecord) (f : ℕ) (b : Ballot) (p : ℕ) → f ≤ p
    → number b + 1 ≤ rank (promised_at (committed records (PromiseFrom f b)) p)
promise_covers records f b p low = elim (commits records (PromiseFrom f b)) [
  | Left nothing is ↦ subst (λ l. number b + 1 ≤ rank (promised_at l p)) (sym is)
      (let row = covering_rows f p low None empty_row (omega arith) records in omega arith)
  | More something is ↦ subst (λ l. number b + 1 ≤ rank (promised_at l p)) (sym is)
      (subst (λ (r : Row). number b + 1 ≤ rank r.promised) (sym (fold_last (row_after p) empty_row records (PromiseFrom f b)))
      (covers f p (row_of records p) b low))
]

pub promise_pledges : (records : List StateRecord) (f : ℕ) (b : Ballot) (p : ℕ) → number b + 1 ≤ rank (promised_from (committed records (PromiseFrom f b)) p)
promise_pledges records f b p = elim (commits records (PromiseFrom f b)) [
  | Left nothing is ↦ subst (λ l. number b + 1 ≤ rank (promised_from l p)) (sym is)
      (let all = covering_all f p None None (omega arith) records in omega arith)
  | More something is ↦ subst (λ l. number b + 1 ≤ rank (promised_from l p)) (sym is)
      (subst (λ (o : Option Ballot). number b + 1 ≤ rank o) (sym (fold_last (highest_after p) None records (PromiseFrom f b)))
      (let g = greater_ranks (promised_from records p) b in omega arith))
]

-- ### What was accepted stands in a record, and the last is of the highest ballot

abbrev pair_of : Ballot → Command → Ballot × Command
pair_of b c = (b, c)

accepts : (p : ℕ) (row : Row) (x : StateRecord) (b : Ballot) (c : Command) → (row_after p row x).accepted ≡ Some (b, c)
    → (x ≡ Accepted p b c) ⊎ (row.accepted ≡ Some (b, c))
accepts p row (Inc inc) b c e = inr e
accepts p row (PromiseFrom q d) b c e = inr (by (nat_le q p) e)
  where
    by : (t : Bool) → (if t then promise_row row d else row).accepted ≡ Some (b, c) → row.accepted ≡ Some (b, c)
    by true is = is
    by false is = is
accepts p row (Accepted q d u) b c e = by (q == p) refl e
  where
    by : (t : Bool) → (q == p) ≡ t → (if t then accept_row row d u else row).accepted ≡ Some (b, c)
        → (Accepted q d u ≡ Accepted p b c) ⊎ (row.accepted ≡ Some (b, c))
    by true at is =
        let here : q ≡ p = number_is q p at in
        let ballot : d ≡ b = ap (λ (o : Option (Ballot × Command)). (unwrap_or o (pair_of b c)).0) is in
        let command : u ≡ c = ap (λ (o : Option (Ballot × Command)). (unwrap_or o (pair_of b c)).1) is in
        inl (cc)
    by false at is = inr is
accepts p row (Chosen q d) b c e = inr (by (q == p) e)
  where
    by : (t : Bool) → (if t then choose_row row d else row).accepted ≡ Some (b, c) → row.accepted ≡ Some (b, c)
    by true is = is
    by false is = is

acceptance_stands : (p : ℕ) (b : Ballot) (c : Command) (row : Row) (records : List StateRecord)
    → (fold (row_after p) row records).accepted ≡ Some (b, c) → In (Accepted p b c) records ⊎ (row.accepted ≡ Some (b, c))
unfolding In
acceptance_stands p b c row [] e = inr e
acceptance_stands p b c row (x ∷ records) e = elim (acceptance_stands p b c (row_after p row x) records e) [
  | inl later ↦ inl (inr later)
  | inr is ↦ elim (accepts p row x b c is) [ inl new ↦ inl (inl (sym new)) | inr old ↦ inr old ]
]

pub accepted_stands : (records : List StateRecord) (p : ℕ) (b : Ballot) (c : Command) → accepted_at records p ≡ Some (b, c) → In (Accepted p b c) records
accepted_stands records p b c e = elim (acceptance_stands p b c empty_row records e) [
  | inl h ↦ h
  | inr is ↦ absurd (cc)
]

-- an acceptance that is committed stands
pub accepted_in : (records : List StateRecord) (p : ℕ) (b : Ballot) (c : Command) → In (Accepted p b c) (committed records (Accepted p b c))
accepted_in records p b c = elim (commits records (Accepted p b c)) [
  | Left nothing is ↦ subst (λ l. In (Accepted p b c) l) (sym is) (accepted_stands records p b c
      (ap (λ (r : Row). r.accepted) (sym nothing)))
  | More something is ↦ subst (λ l. In (Accepted p b c) l) (sym is) (in_last (Accepted p b c) records)
]

-- ### Where something was accepted, something is told to be accepted

some_stays : (p : ℕ) (row : Row) (x : StateRecord) → is_some row.accepted ≡ true → is_some (row_after p row x).accepted ≡ true
some_stays p row (Inc inc) h = h
some_stays p row (PromiseFrom q b) h = by (nat_le q p)
  where
    by : (t : Bool) → is_some (if t then promise_row row b else row).accepted ≡ true
    by true = h
    by false = h
some_stays p row (Accepted q b c) h = by (q == p)
  where
    by : (t : Bool) → is_some (if t then accept_row row b c else row).accepted ≡ true
    by true = refl
    by false = h
some_stays p row (Chosen q c) h = by (q == p)
  where
    by : (t : Bool) → is_some (if t then choose_row row c else row).accepted ≡ true
    by true = h
    by false = h

all_stay : (p : ℕ) (row : Row) (records : List StateRecord) → is_some row.accepted ≡ true → is_some (fold (row_after p) row records).accepted ≡ true
all_stay p row [] h = h
all_stay p row (x ∷ records) h = all_stay p (row_after p row x) records (some_stays p row x h)

some_here : (p : ℕ) (row : Row) (b : Ballot) (c : Command) → is_some (row_after p row (Accepted p b c)).accepted ≡ true
some_here p row b c = by (p == p) refl
  where
    by : (t : Bool) → (p == p) ≡ t → is_some (if t then accept_row row b c else row).accepted ≡ true
    by true e = refl
    by false e = absurd (let own = number_self p in cc)

vote_tells : (p : ℕ) (b : Ballot) (c : Command) (row : Row) (records : List StateRecord) → In (Accepted p b c) records
    → is_some (fold (row_after p) row records).accepted ≡ true
unfolding In
vote_tells p b c row [] h = absurd h
vote_tells p b c row (x ∷ records) (inl is) =
    all_stay p (row_after p row x) records (subst (λ y. is_some (row_after p row y).accepted ≡ true) is (some_here p row b c))
vote_tells p b c row (x ∷ records) (inr later) = vote_tells p b c (row_after p row x) records later

pub voted_some : (records : List StateRecord) (p : ℕ) (b : Ballot) (c : Command) → In (Accepted p b c) records → is_some (accepted_at records p) ≡ true
voted_some records p b c i = vote_tells p b c empty_row records i

-- ### What is promised, by its records

votes_promise : (p : ℕ) (row : Row) (b : Ballot) (c : Command) → number b + 1 ≤ rank (row_after p row (Accepted p b c)).promised
votes_promise p row b c = by (p == p) refl
  where
    by : (t : Bool) → (p == p) ≡ t → number b + 1 ≤ rank (if t then accept_row row b c else row).promised
    by true e = let g = greater_ranks row.promised b in omega arith
    by false e = absurd (let own = number_self p in cc)

vote_promises : (p : ℕ) (b : Ballot) (c : Command) (row : Row) (records : List StateRecord) → In (Accepted p b c) records
    → number b + 1 ≤ rank (fold (row_after p) row records).promised
unfolding In
vote_promises p b c row [] h = absurd h
vote_promises p b c row (x ∷ records) (inl is) =
    let own = subst (λ y. number b + 1 ≤ rank (row_after p row y).promised) is (votes_promise p row b c) in
    let rest = rows_rise p (row_after p row x) records in
    omega arith
vote_promises p b c row (x ∷ records) (inr later) = vote_promises p b c (row_after p row x) records later

-- an acceptance counts as a promise of its ballot
pub voted_promised : (records : List StateRecord) (p : ℕ) (b : Ballot) (c : Command) → In (Accepted p b c) records
    → number b + 1 ≤ rank (promised_at records p)
voted_promised records p b c i = vote_promises p b c empty_row records i

-- ### The highest from a place on is the highest of one place

row_highest : (f p : ℕ) → f ≤ p → (row : Row) (o : Option Ballot) → rank row.promised ≤ rank o → (x : StateRecord)
    → rank (row_after p row x).promised ≤ rank (highest_after f o x)
row_highest f p low row o h (Inc inc) = h
row_highest f p low row o h (PromiseFrom q b) = by (nat_le q p)
  where
    by : (t : Bool) → rank (if t then promise_row row b else row).promised ≤ rank (greater o b)
    by true = let g = greater_ranks row.promised b in let k = greater_ranks o b in omega arith
    by false = let k = greater_ranks o b in omega arith
row_highest f p low row o h (Accepted q b c) = by (q == p) refl (nat_le f q) refl
  where
    by : (t : Bool) → (q == p) ≡ t → (u : Bool) → nat_le f q ≡ u
        → rank (if t then accept_row row b c else row).promised ≤ rank (if u then greater o b else o)
    by true at true e = let g = greater_ranks row.promised b in let k = greater_ranks o b in omega arith
    by true at false e = let here : q ≡ p = number_is q p at in let under : q < f = grind (arith, nat_tests) in absurd (omega arith)
    by false at true e = let k = greater_ranks o b in omega arith
    by false at false e = h
row_highest f p low row o h (Chosen q c) = by (q == p)
  where
    by : (t : Bool) → rank (if t then choose_row row c else row).promised ≤ rank o
    by true = h
    by false = h

rows_highest : (f p : ℕ) → f ≤ p → (row : Row) (o : Option Ballot) → rank row.promised ≤ rank o → (records : List StateRecord)
    → rank (fold (row_after p) row records).promised ≤ rank (fold (highest_after f) o records)
rows_highest f p low row o h [] = h
rows_highest f p low row o h (x ∷ records) = rows_highest f p low (row_after p row x) (highest_after f o x) (row_highest f p low row o h x) records

pub highest_of_all : (records : List StateRecord) (f p : ℕ) → f ≤ p → rank (promised_at records p) ≤ rank (promised_from records f)
highest_of_all records f p low = rows_highest f p low empty_row None (omega arith) records

-- the ballot is promised at some place not below f
abbrev IsPromisedBy : List StateRecord → ℕ → ℕ → Type 0
IsPromisedBy records f k = (p : ℕ) × (f ≤ p) × ((row : Row) → k ≤ rank (fold (row_after p) row records).promised)

highest_step : (f : ℕ) (o : Option Ballot) (x : StateRecord) (records : List StateRecord)
    → (rank (highest_after f o x) ≡ rank o) ⊎ IsPromisedBy (x ∷ records) f (rank (highest_after f o x))
highest_step f o (Inc inc) records = inl refl
highest_step f o (PromiseFrom q b) records = elim (cases_lt (rank o) (number b + 1)) [
  | inl less ↦ inr (
    max q f,
    omega arith,
    λ row.
        let own = covers q (max q f) row b (omega arith) in
        let rest = rows_rise (max q f) (row_after (max q f) row (PromiseFrom q b)) records in
        let g = greater_ranks o b in
        omega arith,
  )
  | inr more ↦ inl (let g = greater_ranks o b in omega arith)
]
highest_step f o (Accepted q b c) records = by (nat_le f q) refl
  where
    by : (t : Bool) → nat_le f q ≡ t
        → (rank (if t then greater o b else o) ≡ rank o) ⊎ IsPromisedBy (Accepted q b c ∷ records) f (rank (if t then greater o b else o))
    by true e = elim (cases_lt (rank o) (number b + 1)) [
      | inl less ↦ inr (
        q,
        grind (arith, nat_tests),
        λ row.
            let own = votes_promise q row b c in
            let rest = rows_rise q (row_after q row (Accepted q b c)) records in
            let g = greater_ranks o b in
            omega arith,
      )
      | inr more ↦ inl (let g = greater_ranks o b in omega arith)
    ]
    by false e = inl refl
highest_step f o (Chosen q c) records = inl refl

highest_by : (f : ℕ) (o : Option Ballot) (records : List StateRecord)
    → (rank (fold (highest_after f) o records) ≡ rank o) ⊎ IsPromisedBy records f (rank (fold (highest_after f) o records))
highest_by f o [] = inl refl
highest_by f o (x ∷ records) = elim (highest_by f (highest_after f o x) records) [
  | inr k ↦ inr (k.0, k.1, λ row. k.2 (row_after k.0 row x))
  | inl same ↦ elim (highest_step f o x records) [
    | inl old ↦ inl (omega arith)
    | inr k ↦ inr (k.0, k.1, λ row. let up = k.2 row in omega arith)
  ]
]

pub highest_of_one : (records : List StateRecord) (f : ℕ) → (p : ℕ) × (f ≤ p) × (rank (promised_at records p) ≡ rank (promised_from records f))
highest_of_one records f = elim (highest_by f None records) [
  | inl none ↦ (f, omega arith, let low = highest_of_all records f f (omega arith) in omega arith)
  | inr k ↦ (k.0, k.1, let up = k.2 empty_row in let low = highest_of_all records f k.0 k.1 in omega arith)
]

-- the last acceptance of each place is of the highest ballot
abbrev pub IsRising : List StateRecord → Type 0
IsRising records = (p : ℕ) (b : Ballot) (c : Command) → In (Accepted p b c) records → number b < rank_of (accepted_at records p)

-- an acceptance is of no lower ballot than what was promised
abbrev pub IsFit : List StateRecord → StateRecord → Type 0
IsFit records (Accepted p b c) = rank (promised_at records p) ≤ number b + 1
IsFit records _ = ⊤

stays_below : (p : ℕ) (row : Row) (x : StateRecord) (k : ℕ) → k < rank_of row.accepted
    → ((b : Ballot) (c : Command) → x ≡ Accepted p b c → k ≤ number b) → k < rank_of (row_after p row x).accepted
stays_below p row (Inc inc) k low fit = low
stays_below p row (PromiseFrom q d) k low fit = by (nat_le q p)
  where
    by : (t : Bool) → k < rank_of (if t then promise_row row d else row).accepted
    by true = low
    by false = low
stays_below p row (Accepted q d u) k low fit = by (q == p) refl
  where
    by : (t : Bool) → (q == p) ≡ t → k < rank_of (if t then accept_row row d u else row).accepted
    by true at = let here : q ≡ p = number_is q p at in let less = fit d u (ap (λ (n : ℕ). Accepted n d u) here) in omega arith
    by false at = low
stays_below p row (Chosen q d) k low fit = by (q == p)
  where
    by : (t : Bool) → k < rank_of (if t then choose_row row d else row).accepted
    by true = low
    by false = low

newest_here : (p : ℕ) (row : Row) (b : Ballot) (c : Command) → number b < rank_of (row_after p row (Accepted p b c)).accepted
newest_here p row b c = by (p == p) refl
  where
    by : (t : Bool) → (p == p) ≡ t → number b < rank_of (if t then accept_row row b c else row).accepted
    by true e = omega arith
    by false e = absurd (let own = number_self p in cc)

pub rising_committed : (records : List StateRecord) (entry : StateRecord) → IsRising records → IsFit records entry → IsRising (committed records entry)
rising_committed records entry rising fit p d u i = elim (commits records entry) [
  | Left nothing is ↦ subst (λ l. number d < rank_of (accepted_at l p)) (sym is) (rising p d u (subst (λ l. In (Accepted p d u) l) is i))
  | More something is ↦ subst (λ l. number d < rank_of (accepted_at l p)) (sym is)
      (subst (λ (r : Row). number d < rank_of r.accepted) (sym (fold_last (row_after p) empty_row records entry))
      (elim (in_either (Accepted p d u) entry records (subst (λ l. In (Accepted p d u) l) is i)) [
        | inl old ↦ stays_below p (row_of records p) entry (number d) (rising p d u old) (not_below old)
        | inr new ↦ subst (λ x. number d < rank_of (row_after p (row_of records p) x).accepted) new (newest_here p (row_of records p) d u)
      ]))
]
  where
    not_below : In (Accepted p d u) records → (b : Ballot) (c : Command) → entry ≡ Accepted p b c → number d ≤ number b
    not_below old b c is =
        let up : rank (promised_at records p) ≤ number b + 1 = subst (IsFit records) is fit in
        let low = voted_promised records p d u old in
        omega arith

-- ### What is known to be chosen stands in a record

learns : (p : ℕ) (row : Row) (x : StateRecord) (c : Command) → (row_after p row x).chosen ≡ Some c → (x ≡ Chosen p c) ⊎ (row.chosen ≡ Some c)
learns p row (Inc inc) c e = inr e
learns p row (PromiseFrom q d) c e = inr (by (nat_le q p) e)
  where
    by : (t : Bool) → (if t then promise_row row d else row).chosen ≡ Some c → row.chosen ≡ Some c
    by true is = is
    by false is = is
learns p row (Accepted q d u) c e = inr (by (q == p) e)
  where
    by : (t : Bool) → (if t then accept_row row d u else row).chosen ≡ Some c → row.chosen ≡ Some c
    by true is = is
    by false is = is
learns p row (Chosen q d) c e = by (q == p) refl e
  where
    by : (t : Bool) → (q == p) ≡ t → (if t then choose_row row d else row).chosen ≡ Some c → (Chosen q d ≡ Chosen p c) ⊎ (row.chosen ≡ Some c)
    by true at is =
        let here : q ≡ p = number_is q p at in
        let command : d ≡ c = ap (λ (o : Option Command). unwrap_or o c) is in
        inl (cc)
    by false at is = inr is

learnt_stands : (p : ℕ) (c : Command) (row : Row) (records : List StateRecord) → (fold (row_after p) row records).chosen ≡ Some c
    → In (Chosen p c) records ⊎ (row.chosen ≡ Some c)
unfolding In
learnt_stands p c row [] e = inr e
learnt_stands p c row (x ∷ records) e = elim (learnt_stands p c (row_after p row x) records e) [
  | inl later ↦ inl (inr later)
  | inr is ↦ elim (learns p row x c is) [ inl new ↦ inl (inl (sym new)) | inr old ↦ inr old ]
]

pub known_stands : (records : List StateRecord) (p : ℕ) (c : Command) → known_at records p ≡ Some c → In (Chosen p c) records
known_stands records p c e = elim (learnt_stands p c empty_row records e) [
  | inl h ↦ h
  | inr is ↦ absurd (cc)
]

-- a place that is known stays known

known_here : (p : ℕ) (row : Row) (x : StateRecord) → is_some row.chosen ≡ true → is_some (row_after p row x).chosen ≡ true
known_here p row (Inc inc) h = h
known_here p row (PromiseFrom q b) h = by (nat_le q p)
  where
    by : (t : Bool) → is_some (if t then promise_row row b else row).chosen ≡ true
    by true = h
    by false = h
known_here p row (Accepted q b c) h = by (q == p)
  where
    by : (t : Bool) → is_some (if t then accept_row row b c else row).chosen ≡ true
    by true = h
    by false = h
known_here p row (Chosen q c) h = by (q == p)
  where
    by : (t : Bool) → is_some (if t then choose_row row c else row).chosen ≡ true
    by true = refl
    by false = h

pub known_stays : (records : List StateRecord) (entry : StateRecord) (p : ℕ) → is_some (known_at records p) ≡ true
    → is_some (known_at (committed records entry) p) ≡ true
known_stays records entry p h = folds (row_after p) empty_row records entry (λ (r : Row). is_some r.chosen ≡ true) h (known_here p (row_of records p) entry h)

-- what is known after a commit was known, or is what was committed
pub known_from : (records : List StateRecord) (entry : StateRecord) (p : ℕ) (c : Command) → known_at (committed records entry) p ≡ Some c
    → (known_at records p ≡ Some c) ⊎ (entry ≡ Chosen p c)
known_from records entry p c e =
    folds (row_after p) empty_row records entry (λ (r : Row). r.chosen ≡ Some c → (known_at records p ≡ Some c) ⊎ (entry ≡ Chosen p c)) (λ old. inl old)
    (λ new. elim (learns p (row_of records p) entry c new) [ inl is ↦ inr is | inr old ↦ inl old ]) e

-- What a list of records stands for after a commit: which records it has, and what is kept for each place.
use Rattle.std.proofs.Common.{◌≡◌, ◌≢◌, ◌⊎◌, inl, inr, ℕ, Bool, true, false, if◌then◌else◌, ◌==◌, ◌&&◌, List, [], ◌∷◌, ◌++◌, fold, Option}
use Rattle.std.proofs.Common.{Some, None, is_some, unwrap_or, refl, sym, ap, subst, ◌∙◌, arith}
use Rattle.std.proofs.lemmas.Bool.Decides.{nat_tests}
use Rattle.petal_command.specs.declared.ballot.Ballot.{Ballot}
use Rattle.petal_command.specs.declared.command.Command.{Command}
use Rattle.petal_command.specs.Ballot.{same}
use Rattle.petal_command.specs.Same.{same_command}
use Rattle.petal_command.proofs.Equal.{both, both_left, both_right, number_is, ballot_is, ballot_self, command_is, command_self}
use Rattle.spec_paxos.specs.Member.{In, put}
use Rattle.spec_paxos.specs.Acceptor.{Acceptor, is_open, promise, accept}
use Rattle.spec_paxos.specs.declared.record.StateRecord.{StateRecord}
use Rattle.spec_paxos.specs.declared.record.StateRecord.TheVariants.{Inc, Promise, Accepted, Chosen}
use Rattle.spec_paxos.specs.declared.record.Row.{Row}
use Rattle.spec_paxos.specs.Kept.{row_after, inc_after, row_of, inc_of, acceptor_of, known_at, empty_row, promise_row, accept_row, choose_row, AddsNothing}
use Rattle.spec_paxos.specs.Kept.{Commits, same_promise, same_acceptance, same_accepted, same_chosen, same_row, adds_nothing, committed}

-- ### Equal rows

pub promise_is : (a b : Option Ballot) → same_promise a b ≡ true → a ≡ b
promise_is None None e = refl
promise_is (Some a) (Some b) e = ap Some (ballot_is a b e)
promise_is None (Some b) e = absurd (cc)
promise_is (Some a) None e = absurd (cc)

pub promise_self : (a : Option Ballot) → same_promise a a ≡ true
promise_self None = refl
promise_self (Some a) = ballot_self a

abbrev pair_of : Ballot → Command → Ballot × Command
pair_of b c = (b, c)

pub acceptance_is : (a b : Ballot × Command) → same_acceptance a b ≡ true → a ≡ b
acceptance_is a b e =
    let first : a.0 ≡ b.0 = ballot_is a.0 b.0 (both_left (same a.0 b.0) (same_command a.1 b.1) e) in
    let second : a.1 ≡ b.1 = command_is a.1 b.1 (both_right (same a.0 b.0) (same_command a.1 b.1) e) in
    ap (λ x. pair_of x a.1) first ∙ ap (λ x. pair_of b.0 x) second

pub acceptance_self : (a : Ballot × Command) → same_acceptance a a ≡ true
acceptance_self a = both (same a.0 a.0) (same_command a.1 a.1) (ballot_self a.0) (command_self a.1)

pub accepted_is : (a b : Option (Ballot × Command)) → same_accepted a b ≡ true → a ≡ b
accepted_is None None e = refl
accepted_is (Some a) (Some b) e = ap Some (acceptance_is a b e)
accepted_is None (Some b) e = absurd (cc)
accepted_is (Some a) None e = absurd (cc)

pub accepted_self : (a : Option (Ballot × Command)) → same_accepted a a ≡ true
accepted_self None = refl
accepted_self (Some a) = acceptance_self a

pub chosen_is : (a b : Option Command) → same_chosen a b ≡ true → a ≡ b
chosen_is None None e = refl
chosen_is (Some a) (Some b) e = ap Some (command_is a b e)
chosen_is None (Some b) e = absurd (cc)
chosen_is (Some a) None e = absurd (cc)

pub chosen_self : (a : Option Command) → same_chosen a a ≡ true
chosen_self None = refl
chosen_self (Some a) = command_self a

abbrev row_with : Option Ballot → Option (Ballot × Command) → Option Command → Row
row_with promised accepted chosen = record { promised = promised; accepted = accepted; chosen = chosen }

pub row_is : (a b : Row) → same_row a b ≡ true → a ≡ b
row_is a b e =
    let two = both_left (same_promise a.promised b.promised && same_accepted a.accepted b.accepted) (same_chosen a.chosen b.chosen) e in
    let first : a.promised ≡ b.promised = promise_is a.promised b.promised
    (both_left (same_promise a.promised b.promised) (same_accepted a.accepted b.accepted) two) in
    let second : a.accepted ≡ b.accepted = accepted_is a.accepted b.accepted
    (both_right (same_promise a.promised b.promised) (same_accepted a.accepted b.accepted) two) in
    let third : a.chosen ≡ b.chosen = chosen_is a.chosen b.chosen
    (both_right (same_promise a.promised b.promised && same_accepted a.accepted b.accepted) (same_chosen a.chosen b.chosen) e) in
    ap (λ x. row_with x a.accepted a.chosen) first ∙ ap (λ x. row_with b.promised x a.chosen) second ∙ ap (λ x. row_with b.promised b.accepted x) third

pub row_self : (a : Row) → same_row a a ≡ true
row_self a =
    both (same_promise a.promised a.promised && same_accepted a.accepted a.accepted) (same_chosen a.chosen a.chosen)
    (both (same_promise a.promised a.promised) (same_accepted a.accepted a.accepted) (promise_self a.promised) (accepted_self a.accepted))
    (chosen_self a.chosen)

pub row_same : (a b : Row) → a ≡ b → same_row a b ≡ true
row_same a b e = subst (λ c. same_row a c ≡ true) e (row_self a)

-- ### A test of one place against another

pub at_place : {A : Type 0} (place p : ℕ) (x y : A) → p ≡ place → (if place == p then x else y) ≡ x
at_place place p x y is = by (place == p) refl
  where
    by : (b : Bool) → (place == p) ≡ b → (if b then x else y) ≡ x
    by true e = refl
    by false e = absurd (grind (arith, nat_tests))

pub off_place : {A : Type 0} (place p : ℕ) (x y : A) → p ≢ place → (if place == p then x else y) ≡ y
off_place place p x y away = by (place == p) refl
  where
    by : (b : Bool) → (place == p) ≡ b → (if b then x else y) ≡ y
    by true e = absurd (away (grind (arith, nat_tests)))
    by false e = refl

-- ### A record that changes nothing

still_there : (f : Row → Row) (row : ℕ → Row) (place : ℕ) → f (row place) ≡ row place → (p : ℕ) → (if place == p then f (row p) else row p) ≡ row p
still_there f row place still p = by (place == p) refl
  where
    by : (b : Bool) → (place == p) ≡ b → (if b then f (row p) else row p) ≡ row p
    by true e = let at : place ≡ p = number_is place p e in subst (λ n. f (row n) ≡ row n) at still
    by false e = refl

pub tested_nothing : (records : List StateRecord) (entry : StateRecord) → adds_nothing records entry ≡ true → AddsNothing records entry
tested_nothing records (Inc inc) e = record { rows = λ p. refl; inc = sym (number_is (inc_of records) inc e) }
tested_nothing records (Promise place b) e = record {
  rows = still_there (λ r. promise_row r b) (row_of records) place
      (row_is (promise_row (row_of records place) b) (row_of records place) e);
  inc = refl;
}
tested_nothing records (Accepted place b c) e = record {
  rows = still_there (λ r. accept_row r b c) (row_of records) place
      (row_is (accept_row (row_of records place) b c) (row_of records place) e);
  inc = refl;
}
tested_nothing records (Chosen place c) e = record {
  rows = still_there (λ r. choose_row r c) (row_of records) place
      (row_is (choose_row (row_of records place) c) (row_of records place) e);
  inc = refl;
}

here_still : (row changed : Row) (place : ℕ) → (if place == place then changed else row) ≡ row → same_row changed row ≡ true
here_still row changed place e = row_same changed row (sym (at_place place place changed row refl) ∙ e)

pub nothing_tested : (records : List StateRecord) (entry : StateRecord) → AddsNothing records entry → adds_nothing records entry ≡ true
nothing_tested records (Inc inc) h = let e : inc ≡ inc_of records = h.inc in grind (arith, nat_tests)
nothing_tested records (Promise place b) h = here_still (row_of records place) (promise_row (row_of records place) b) place (h.rows place)
nothing_tested records (Accepted place b c) h = here_still (row_of records place) (accept_row (row_of records place) b c) place (h.rows place)
nothing_tested records (Chosen place c) h = here_still (row_of records place) (choose_row (row_of records place) c) place (h.rows place)

-- the records after a commit, by cases
pub data Committed (records : List StateRecord) (entry : StateRecord) : Type 0 where
  Left : AddsNothing records entry → committed records entry ≡ records → Committed records entry
  More : (AddsNothing records entry → ⊥) → committed records entry ≡ records ++ entry ∷ [] → Committed records entry

pub committed_as : (records : List StateRecord) (entry : StateRecord) → Committed records entry
committed_as records entry = by (adds_nothing records entry) refl
  where
    choice : (b : Bool) → adds_nothing records entry ≡ b → committed records entry ≡ (if b then records else records ++ entry ∷ [])
    choice b e = ap (λ (t : Bool). if t then records else records ++ entry ∷ []) e

    by : (b : Bool) → adds_nothing records entry ≡ b → Committed records entry
    by true e = Left (tested_nothing records entry e) (choice true e)
    by false e = More (λ h. let agree : adds_nothing records entry ≡ true = nothing_tested records entry h in absurd (cc)) (choice false e)

pub commits_is : (old new : List StateRecord) (entry : StateRecord) → Commits old new entry → new ≡ committed old entry
commits_is old new entry (inl nothing) = elim (committed_as old entry) [
  | Left h is ↦ nothing.1 ∙ sym is
  | More h is ↦ absurd (h nothing.0)
]
commits_is old new entry (inr more) = elim (committed_as old entry) [
  | Left h is ↦ absurd (more.0 h)
  | More h is ↦ more.1 ∙ sym is
]

-- ### Which records there are

pub in_prefix : {X : Type 0} (x : X) (xs ys : List X) → In x xs → In x (xs ++ ys)
unfolding In
in_prefix x [] ys h = absurd h
in_prefix x (y ∷ xs) ys (inl is) = inl is
in_prefix x (y ∷ xs) ys (inr later) = inr (in_prefix x xs ys later)

pub in_last : {X : Type 0} (x : X) (xs : List X) → In x (xs ++ x ∷ [])
unfolding In
in_last x [] = inl refl
in_last x (y ∷ xs) = inr (in_last x xs)

pub in_either : {X : Type 0} (x y : X) (xs : List X) → In x (xs ++ y ∷ []) → In x xs ⊎ (x ≡ y)
unfolding In
in_either x y [] (inl is) = inr is
in_either x y [] (inr h) = absurd h
in_either x y (z ∷ xs) (inl is) = inl (inl is)
in_either x y (z ∷ xs) (inr later) = elim (in_either x y xs later) [
  | inl h ↦ inl (inr h)
  | inr is ↦ inr is
]

pub in_committed : (r : StateRecord) (records : List StateRecord) (entry : StateRecord) → In r records → In r (committed records entry)
in_committed r records entry h = elim (committed_as records entry) [
  | Left nothing is ↦ subst (λ l. In r l) (sym is) h
  | More something is ↦ subst (λ l. In r l) (sym is) (in_prefix r records (entry ∷ []) h)
]

pub committed_in : (r : StateRecord) (records : List StateRecord) (entry : StateRecord) → In r (committed records entry) → In r records ⊎ (r ≡ entry)
committed_in r records entry h = elim (committed_as records entry) [
  | Left nothing is ↦ inl (subst (λ l. In r l) is h)
  | More something is ↦ in_either r entry records (subst (λ l. In r l) is h)
]

-- the acceptance of a row was accepted in a record, or stood at the start
acceptance_stands : (place : ℕ) (b : Ballot) (c : Command) (row : Row) (records : List StateRecord)
    → (fold (row_after place) row records).accepted ≡ Some (b, c) → In (Accepted place b c) records ⊎ (row.accepted ≡ Some (b, c))
unfolding In
acceptance_stands place b c row [] e = inr e
acceptance_stands place b c row (Inc inc ∷ records) e = elim (acceptance_stands place b c row records e) [
  | inl h ↦ inl (inr h)
  | inr is ↦ inr is
]
acceptance_stands place b c row (Promise p d ∷ records) e = elim (acceptance_stands place b c (row_after place row (Promise p d)) records e) [
  | inl h ↦ inl (inr h)
  | inr is ↦ inr (by (p == place) is)
]
  where
    by : (t : Bool) → (if t then promise_row row d else row).accepted ≡ Some (b, c) → row.accepted ≡ Some (b, c)
    by true is = is
    by false is = is
acceptance_stands place b c row (Chosen p d ∷ records) e = elim (acceptance_stands place b c (row_after place row (Chosen p d)) records e) [
  | inl h ↦ inl (inr h)
  | inr is ↦ inr (by (p == place) is)
]
  where
    by : (t : Bool) → (if t then choose_row row d else row).accepted ≡ Some (b, c) → row.accepted ≡ Some (b, c)
    by true is = is
    by false is = is
acceptance_stands place b c row (Accepted p a d ∷ records) e = elim (acceptance_stands place b c (row_after place row (Accepted p a d)) records e) [
  | inl h ↦ inl (inr h)
  | inr is ↦ by (p == place) refl is
]
  where
    by : (t : Bool) → (p == place) ≡ t → (if t then accept_row row a d else row).accepted ≡ Some (b, c)
        → In (Accepted place b c) (Accepted p a d ∷ records) ⊎ (row.accepted ≡ Some (b, c))
    by true at is =
        let here : p ≡ place = number_is p place at in
        let ballot : a ≡ b = ap (λ (o : Option (Ballot × Command)). (unwrap_or o (pair_of b c)).0) is in
        let command : d ≡ c = ap (λ (o : Option (Ballot × Command)). (unwrap_or o (pair_of b c)).1) is in
        inl (inl (cc))
    by false at is = inr is

-- what a row has accepted stands in a record
pub accepted_stands : (records : List StateRecord) (place : ℕ) (b : Ballot) (c : Command) → (row_of records place).accepted ≡ Some (b, c)
    → In (Accepted place b c) records
accepted_stands records place b c e = elim (acceptance_stands place b c empty_row records e) [
  | inl h ↦ h
  | inr is ↦ absurd (cc)
]

-- an acceptance that is committed stands
pub accepted_in : (records : List StateRecord) (place : ℕ) (b : Ballot) (c : Command) → In (Accepted place b c) (committed records (Accepted place b c))
accepted_in records place b c = elim (committed_as records (Accepted place b c)) [
  | Left nothing is ↦ subst (λ l. In (Accepted place b c) l) (sym is) (accepted_stands records place b c (stands nothing))
  | More something is ↦ subst (λ l. In (Accepted place b c) l) (sym is) (in_last (Accepted place b c) records)
]
  where
    stands : AddsNothing records (Accepted place b c) → (row_of records place).accepted ≡ Some (b, c)
    stands nothing = ap (λ (r : Row). r.accepted)
        (sym (nothing.rows place) ∙ at_place place place (accept_row (row_of records place) b c) (row_of records place) refl)

-- ### What is kept

pub fold_last : {A X : Type 0} (f : A → X → A) (a : A) (xs : List X) (x : X) → fold f a (xs ++ x ∷ []) ≡ f (fold f a xs) x
fold_last f a [] x = refl
fold_last f a (y ∷ ys) x = fold_last f (f a y) ys x

pub row_committed : (records : List StateRecord) (entry : StateRecord) (q : ℕ) → row_of (committed records entry) q ≡ row_after q (row_of records q) entry
row_committed records entry q = elim (committed_as records entry) [
  | Left nothing is ↦ ap (λ l. row_of l q) is ∙ sym (nothing.rows q)
  | More something is ↦ ap (λ l. row_of l q) is ∙ fold_last (row_after q) empty_row records entry
]

pub inc_committed : (records : List StateRecord) (entry : StateRecord) → inc_of (committed records entry) ≡ inc_after (inc_of records) entry
inc_committed records entry = elim (committed_as records entry) [
  | Left nothing is ↦ ap inc_of is ∙ sym nothing.inc
  | More something is ↦ ap inc_of is ∙ fold_last inc_after 0 records entry
]

-- a table of a part of each row, after a change to the row of one place
changed_part : {A : Type 0} (part : Row → A) (f : Row → Row) (row : ℕ → Row) (place q : ℕ)
    → part (if place == q then f (row q) else row q) ≡ put (λ k. part (row k)) place (part (f (row place))) q
unfolding put
changed_part part f row place q = by (place == q) (q == place) refl refl
  where
    by : (s t : Bool) → (place == q) ≡ s → (q == place) ≡ t → part (if s then f (row q) else row q) ≡ (if t then part (f (row place)) else part (row q))
    by true true d e = let at : q ≡ place = number_is q place e in ap (λ k. part (f (row k))) at
    by false false d e = refl
    by true false d e = absurd (grind (arith, nat_tests))
    by false true d e = absurd (grind (arith, nat_tests))

-- a part that the change leaves
same_part : {A : Type 0} (part : Row → A) (changed row : Row) → part changed ≡ part row → (t : Bool) → part (if t then changed else row) ≡ part row
same_part part changed row e true = e
same_part part changed row e false = refl

-- what is known to be chosen

pub known_here : (records : List StateRecord) (place : ℕ) (c : Command) → known_at (committed records (Chosen place c)) place ≡ Some c
known_here records place c = ap (λ (r : Row). r.chosen)
    (row_committed records (Chosen place c) place ∙ at_place place place (choose_row (row_of records place) c) (row_of records place) refl)

pub known_elsewhere : (records : List StateRecord) (place : ℕ) (c : Command) (q : ℕ) → q ≢ place
    → known_at (committed records (Chosen place c)) q ≡ known_at records q
known_elsewhere records place c q away = ap (λ (r : Row). r.chosen)
    (row_committed records (Chosen place c) q ∙ off_place place q (choose_row (row_of records q) c) (row_of records q) away)

pub known_promise : (records : List StateRecord) (place : ℕ) (b : Ballot) (q : ℕ) → known_at (committed records (Promise place b)) q ≡ known_at records q
known_promise records place b q = ap (λ (r : Row). r.chosen) (row_committed records (Promise place b) q)
    ∙ same_part (λ (r : Row). r.chosen) (promise_row (row_of records q) b) (row_of records q) refl (place == q)

pub known_accepted : (records : List StateRecord) (place : ℕ) (b : Ballot) (c : Command) (q : ℕ)
    → known_at (committed records (Accepted place b c)) q ≡ known_at records q
known_accepted records place b c q = ap (λ (r : Row). r.chosen) (row_committed records (Accepted place b c) q)
    ∙ same_part (λ (r : Row). r.chosen) (accept_row (row_of records q) b c) (row_of records q) refl (place == q)

pub known_inc : (records : List StateRecord) (inc q : ℕ) → known_at (committed records (Inc inc)) q ≡ known_at records q
known_inc records inc q = ap (λ (r : Row). r.chosen) (row_committed records (Inc inc) q)

-- a place that is known stays known
pub known_stays : (records : List StateRecord) (entry : StateRecord) (q : ℕ) → is_some (known_at records q) ≡ true
    → is_some (known_at (committed records entry) q) ≡ true
known_stays records (Inc inc) q h = ap is_some (known_inc records inc q) ∙ h
known_stays records (Promise place b) q h = ap is_some (known_promise records place b q) ∙ h
known_stays records (Accepted place b c) q h = ap is_some (known_accepted records place b c q) ∙ h
known_stays records (Chosen place c) q h = by (place == q) refl
  where
    by : (t : Bool) → (place == q) ≡ t → is_some (known_at (committed records (Chosen place c)) q) ≡ true
    by true e = let at : place ≡ q = number_is place q e in
        ap is_some (subst (λ k. known_at (committed records (Chosen place c)) k ≡ Some c) at (known_here records place c))
    by false e = ap is_some (known_elsewhere records place c q (grind (arith, nat_tests))) ∙ h

-- what is known after a commit was known, or is what was committed
pub known_from : (records : List StateRecord) (entry : StateRecord) (q : ℕ) (c : Command) → known_at (committed records entry) q ≡ Some c
    → (known_at records q ≡ Some c) ⊎ (entry ≡ Chosen q c)
known_from records (Inc inc) q c h = inl (sym (known_inc records inc q) ∙ h)
known_from records (Promise place b) q c h = inl (sym (known_promise records place b q) ∙ h)
known_from records (Accepted place b d) q c h = inl (sym (known_accepted records place b d q) ∙ h)
known_from records (Chosen place d) q c h = by (place == q) refl
  where
    by : (t : Bool) → (place == q) ≡ t → (known_at records q ≡ Some c) ⊎ (Chosen place d ≡ Chosen q c)
    by true e =
        let at : place ≡ q = number_is place q e in
        let new : known_at (committed records (Chosen place d)) q ≡ Some d = subst (λ k. known_at (committed records (Chosen place d)) k ≡ Some d) at
        (known_here records place d) in
        inr (cc)
    by false e = inl (sym (known_elsewhere records place d q (grind (arith, nat_tests))) ∙ h)

-- what an acceptor keeps

abbrev kept_in : Row → Acceptor
kept_in row = record { promised = row.promised; accepted = row.accepted }

open_promise : (row : Row) (b : Ballot) → is_open (kept_in row) b ≡ true → kept_in (promise_row row b) ≡ promise (kept_in row) b
open_promise row b is = rw is

open_accept : (row : Row) (b : Ballot) (c : Command) → is_open (kept_in row) b ≡ true → kept_in (accept_row row b c) ≡ accept b c
open_accept row b c is = rw is

pub acceptor_promise : (records : List StateRecord) (place : ℕ) (b : Ballot) → is_open (acceptor_of records place) b ≡ true → (q : ℕ)
    → acceptor_of (committed records (Promise place b)) q ≡ put (acceptor_of records) place (promise (acceptor_of records place) b) q
acceptor_promise records place b is q =
    ap kept_in (row_committed records (Promise place b) q) ∙ changed_part kept_in (λ r. promise_row r b) (row_of records) place q
    ∙ ap (λ a. put (acceptor_of records) place a q) (open_promise (row_of records place) b is)

pub acceptor_accepted : (records : List StateRecord) (place : ℕ) (b : Ballot) (c : Command) → is_open (acceptor_of records place) b ≡ true → (q : ℕ)
    → acceptor_of (committed records (Accepted place b c)) q ≡ put (acceptor_of records) place (accept b c) q
acceptor_accepted records place b c is q =
    ap kept_in (row_committed records (Accepted place b c) q) ∙ changed_part kept_in (λ r. accept_row r b c) (row_of records) place q
    ∙ ap (λ a. put (acceptor_of records) place a q) (open_accept (row_of records place) b c is)

pub acceptor_chosen : (records : List StateRecord) (place : ℕ) (c : Command) (q : ℕ)
    → acceptor_of (committed records (Chosen place c)) q ≡ acceptor_of records q
acceptor_chosen records place c q = ap kept_in (row_committed records (Chosen place c) q)
    ∙ same_part kept_in (choose_row (row_of records q) c) (row_of records q) refl (place == q)

pub acceptor_inc : (records : List StateRecord) (inc q : ℕ) → acceptor_of (committed records (Inc inc)) q ≡ acceptor_of records q
acceptor_inc records inc q = ap kept_in (row_committed records (Inc inc) q)

-- the incarnation

pub inc_promise : (records : List StateRecord) (place : ℕ) (b : Ballot) → inc_of (committed records (Promise place b)) ≡ inc_of records
inc_promise records place b = inc_committed records (Promise place b)

pub inc_accepted : (records : List StateRecord) (place : ℕ) (b : Ballot) (c : Command) → inc_of (committed records (Accepted place b c)) ≡ inc_of records
inc_accepted records place b c = inc_committed records (Accepted place b c)

pub inc_chosen : (records : List StateRecord) (place : ℕ) (c : Command) → inc_of (committed records (Chosen place c)) ≡ inc_of records
inc_chosen records place c = inc_committed records (Chosen place c)

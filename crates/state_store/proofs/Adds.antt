-- What a record about one place changes: the row of that place alone.
use Rattle.std.proofs.Common.{◌≡◌, inl, ℕ, Bool, true, false, if◌then◌else◌, ◌==◌, List, refl, sym, ap, subst, ◌∙◌, arith, ◌≢◌, [], ◌∷◌}
use Rattle.std.proofs.Common.{◌++◌, length-append, inr, ⊎_elim, Result, Ok, Err, OnOk}
use Rattle.std.proofs.lemmas.Bool.Decides.{nat_tests}
use Rattle.petal_command.specs.declared.ballot.Ballot.{Ballot}
use Rattle.petal_command.specs.declared.command.Command.{Command}
use Rattle.spec_paxos.specs.declared.record.StateRecord.{StateRecord}
use Rattle.spec_paxos.specs.declared.record.StateRecord.TheVariants.{Promise, Accepted, Chosen}
use Rattle.spec_paxos.specs.declared.record.Row.{Row}
use Rattle.petal_disk.specs.Disk.{LeavesOnly}
use Rattle.petal_disk.specs.declared.disk.Disk.{Ghosts}
use Rattle.petal_disk.proofs.Moments.{weaker}
use Rattle.state_store.specs.Device.{StandsForEither, WithOrWithout}
use Rattle.spec_paxos.specs.Kept.{row_after, inc_after, row_of, inc_of, promise_row, accept_row, choose_row, AddsNothing}

tested : (f : Row → Row) (place p : ℕ) (row : ℕ → Row)
    → (if place == p then f (row p) else row p) ≡ (if p == place then (if place == place then f (row place) else row place) else row p)
tested f place p row = by (place == p) (p == place) (place == place) refl refl refl
  where
    by : (a b c : Bool) → (place == p) ≡ a → (p == place) ≡ b → (place == place) ≡ c
        → (if a then f (row p) else row p) ≡ (if b then (if c then f (row place) else row place) else row p)
    by true true true e d r = let same : p ≡ place = grind (arith, nat_tests) in ap (λ k. f (row k)) same
    by true true false e d r = absurd (grind (arith, nat_tests))
    by true false c e d r = absurd (grind (arith, nat_tests))
    by false true c e d r = absurd (grind (arith, nat_tests))
    by false false c e d r = refl

pub promise_here : (place : ℕ) (b : Ballot) (row : ℕ → Row) (p : ℕ)
    → row_after p (row p) (Promise place b) ≡ (if p == place then row_after place (row place) (Promise place b) else row p)
promise_here place b row p = tested (λ r. promise_row r b) place p row

pub accept_here : (place : ℕ) (b : Ballot) (c : Command) (row : ℕ → Row) (p : ℕ)
    → row_after p (row p) (Accepted place b c) ≡ (if p == place then row_after place (row place) (Accepted place b c) else row p)
accept_here place b c row p = tested (λ r. accept_row r b c) place p row

pub choose_here : (place : ℕ) (c : Command) (row : ℕ → Row) (p : ℕ)
    → row_after p (row p) (Chosen place c) ≡ (if p == place then row_after place (row place) (Chosen place c) else row p)
choose_here place c row p = tested (λ r. choose_row r c) place p row

-- a record that leaves its place's row leaves all
pub adds_nothing : (records : List StateRecord) (entry : StateRecord) (place : ℕ)
    → ((row : ℕ → Row) (p : ℕ) → row_after p (row p) entry ≡ (if p == place then row_after place (row place) entry else row p))
    → ((i : ℕ) → inc_after i entry ≡ i)
    → row_after place (row_of records place) entry ≡ row_of records place → AddsNothing records entry
adds_nothing records entry place here inc still = record { rows = λ p. here (row_of records) p ∙ by p (p == place) refl; inc = inc (inc_of records) }
  where
    by : (p : ℕ) (b : Bool) → (p == place) ≡ b → (if b then row_after place (row_of records place) entry else row_of records p) ≡ row_of records p
    by p true e = let same : place ≡ p = grind (arith, nat_tests) in still ∙ ap (row_of records) same
    by p false e = refl

pub still_nothing : (records : List StateRecord) (entry : StateRecord) (place : ℕ)
    → ((row : ℕ → Row) (p : ℕ) → row_after p (row p) entry ≡ (if p == place then row_after place (row place) entry else row p))
    → ((i : ℕ) → inc_after i entry ≡ i)
    → (row : Row) → row ≡ row_of records place → row_after place row entry ≡ row → AddsNothing records entry
still_nothing records entry place here inc row is still = adds_nothing records entry place here inc (subst (λ r. row_after place r entry ≡ r) is still)

-- a record that changes its place's row adds something
pub adds_something : (records : List StateRecord) (entry : StateRecord) (place : ℕ) (row : Row) → row ≡ row_of records place
    → row_after place row entry ≢ row → AddsNothing records entry → ⊥
adds_something records entry place row is changes nothing = changes (subst (λ r. row_after place r entry ≡ r) (sym is) (nothing.rows place))

pub on_ok : {T E : Type 0} (r : Result T E) (P Q : Type 0) → (P → Q) → OnOk r P → OnOk r Q
on_ok (Ok x) P Q f h = f h
on_ok (Err e) P Q f h = h

-- what a crash leaves of a commit, with its record or without it
pub one_more : {D : Type 0} (device : Ghosts D) (old new : D) (records : List StateRecord) (entry : StateRecord)
    → LeavesOnly device.moment device.left_since old new (λ c. WithOrWithout c records entry)
    → LeavesOnly device.moment device.left_since old new (StandsForEither records (records ++ entry ∷ []))
one_more device old new records entry run = weaker device.moment device.left_since old new _ _ run
    (λ c. ⊎_elim (λ was. inl was) (λ now. inr (now, length-append records (entry ∷ []))))

-- What a commit makes of what an acceptor keeps for each place.
use Rattle.std.proofs.Common.{◌≡◌, ◌≢◌, inl, inr, ℕ, Bool, true, false, if◌then◌else◌, ◌==◌, List, Option, Some, None, refl, sym, ap, ◌∙◌, arith}
use Rattle.std.proofs.lemmas.Bool.Decides.{nat_tests}
use Rattle.petal_command.specs.declared.ballot.Ballot.{Ballot}
use Rattle.petal_command.specs.declared.command.Command.{Command}
use Rattle.spec_paxos.specs.Member.{put}
use Rattle.spec_paxos.specs.Acceptor.{Acceptor, rank, is_open, promise, accept}
use Rattle.spec_paxos.proofs.Members.{put_cases}
use Rattle.spec_paxos.specs.declared.record.StateRecord.{StateRecord}
use Rattle.spec_paxos.specs.declared.record.StateRecord.TheVariants.{Promise, Accepted}
use Rattle.spec_paxos.specs.declared.record.Row.{Row}
use Rattle.spec_paxos.specs.Kept.{row_after, row_of, acceptor_of, empty_row, promise_row, accept_row, Commits}
use Rattle.state_store.proofs.Records.{fold_more}

-- what an acceptor keeps is a part of the row
abbrev kept_in : Row → Acceptor
kept_in row = record { promised = row.promised; accepted = row.accepted }

rows_after : (old new : List StateRecord) (entry : StateRecord) → Commits old new entry → (p : ℕ) → row_of new p ≡ row_after p (row_of old p) entry
rows_after old new entry (inl nothing) p = ap (λ rs. row_of rs p) nothing.1 ∙ sym (nothing.0.rows p)
rows_after old new entry (inr more) p = ap (λ rs. row_of rs p) more.1 ∙ fold_more (row_after p) empty_row old entry

-- a test of one place against another
at_test : {A : Type 0} (place p : ℕ) (x y : A) → p ≡ place → (if place == p then x else y) ≡ x
at_test place p x y is = by (place == p) refl
  where
    by : (b : Bool) → (place == p) ≡ b → (if b then x else y) ≡ x
    by true e = refl
    by false e = absurd (grind (arith, nat_tests))

off_test : {A : Type 0} (place p : ℕ) (x y : A) → p ≢ place → (if place == p then x else y) ≡ y
off_test place p x y away = by (place == p) refl
  where
    by : (b : Bool) → (place == p) ≡ b → (if b then x else y) ≡ y
    by true e = absurd (away (grind (arith, nat_tests)))
    by false e = refl

open_promise : (row : Row) (b : Ballot) → is_open (kept_in row) b ≡ true → kept_in (promise_row row b) ≡ promise (kept_in row) b
open_promise row b is = rw is

open_accept : (row : Row) (b : Ballot) (c : Command) → is_open (kept_in row) b ≡ true → kept_in (accept_row row b c) ≡ accept b c
open_accept row b c is = rw is

pub promised_rows : (old new : List StateRecord) (place : ℕ) (b : Ballot) → Commits old new (Promise place b) → is_open (acceptor_of old place) b ≡ true
    → (p : ℕ) → acceptor_of new p ≡ put (acceptor_of old) place (promise (acceptor_of old place) b) p
promised_rows old new place b made is p =
    let rows : acceptor_of new p ≡ kept_in (row_after p (row_of old p) (Promise place b)) = ap kept_in (rows_after old new (Promise place b) made p) in
    elim (put_cases (acceptor_of old) place (promise (acceptor_of old place) b) p) [
      | inl at ↦ rows ∙ ap kept_in (at_test place p (promise_row (row_of old p) b) (row_of old p) at.0 ∙ ap (λ k. promise_row (row_of old k) b) at.0)
          ∙ open_promise (row_of old place) b is ∙ sym at.1
      | inr off ↦ rows ∙ ap kept_in (off_test place p (promise_row (row_of old p) b) (row_of old p) off.0) ∙ sym off.1
    ]

pub accepted_rows : (old new : List StateRecord) (place : ℕ) (b : Ballot) (c : Command) → Commits old new (Accepted place b c)
    → is_open (acceptor_of old place) b ≡ true → (p : ℕ) → acceptor_of new p ≡ put (acceptor_of old) place (accept b c) p
accepted_rows old new place b c made is p =
    let rows : acceptor_of new p ≡ kept_in (row_after p (row_of old p) (Accepted place b c)) = ap kept_in (rows_after old new (Accepted place b c) made p) in
    elim (put_cases (acceptor_of old) place (accept b c) p) [
      | inl at ↦ rows ∙ ap kept_in (at_test place p (accept_row (row_of old p) b c) (row_of old p) at.0 ∙ ap (λ k. accept_row (row_of old k) b c) at.0)
          ∙ open_accept (row_of old place) b c is ∙ sym at.1
      | inr off ↦ rows ∙ ap kept_in (off_test place p (accept_row (row_of old p) b c) (row_of old p) off.0) ∙ sym off.1
    ]

-- a refusal keeps everything
pub same_rows : (old : List StateRecord) (place p : ℕ) → acceptor_of old p ≡ put (acceptor_of old) place (acceptor_of old place) p
same_rows old place p = elim (put_cases (acceptor_of old) place (acceptor_of old place) p) [
  | inl at ↦ ap (acceptor_of old) at.0 ∙ sym at.1
  | inr off ↦ sym off.1
]

-- what tells that a ballot is refused, and that it is not
pub closed : {A : Type 0} (o : Bool) (x : Option A) (y : A) → (if o then None else x) ≡ Some y → o ≡ false
closed true x y e = absurd (cc)
closed false x y e = refl

pub opened : (a : Acceptor) (b : Ballot) → (if is_open a b then None else a.promised) ≡ None → is_open a b ≡ true
opened a b e = by (is_open a b) refl e
  where
    by : (o : Bool) → is_open a b ≡ o → (if o then None else a.promised) ≡ None → is_open a b ≡ true
    by true p q = p
    by false p q = let none : rank a.promised ≡ 0 = ap rank q in absurd (grind (arith, nat_tests))

-- the records after a promise or an acceptance, by the test that chose it
pub when_open : (o : Bool) (x a b : List StateRecord) → o ≡ true → x ≡ a → x ≡ (if o then a else b)
when_open true x a b o e = e
when_open false x a b o e = absurd (cc)

pub when_shut : (o : Bool) (x a b : List StateRecord) → o ≡ false → x ≡ b → x ≡ (if o then a else b)
when_shut true x a b o e = absurd (cc)
when_shut false x a b o e = e

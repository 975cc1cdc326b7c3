-- A server that boots goes on from what it had applied: its device knew that, and no device knows more places than it has
-- records. And it is not yet In as its next incarnation, of which no Join can be chosen before.
use Rattle.law_steps.proofs.Imports.{[], ◌+◌, ◌<◌, ◌==◌, ◌∙◌, ◌∷◌, ◌≡◌, ◌≢◌, ◌≤◌, ◌⊎◌, Accepted, AreSteps, Bool, Command, Inc, IsPrefix, IsSound, List, Log}
use Rattle.law_steps.proofs.Imports.{Promise, Record, Row, Script, Some, StateRecord, accept_row, ap, arith, before_known, by_bool, by_test, choose_row}
use Rattle.law_steps.proofs.Imports.{chosen_log, chosen_state, empty_row, false, fold, history_agrees, inl, inr, is_in, known, known_at, known_inc}
use Rattle.law_steps.proofs.Imports.{known_prefix, known_run, length, logged, none_some, out_has_stopped, promise_row, raised, refl, row_after, run_known}
use Rattle.law_steps.proofs.Imports.{same_numbers, same_some, setting_of, slice_get, start, state_after, suc, sym, true, true_false, who_is_in_has_begun}
use Rattle.law_steps.proofs.Imports.{world_after, zero, ℕ}
use Rattle.spec_paxos.specs.declared.record.StateRecord.TheVariants.{Chosen}
use Rattle.law_steps.specs.WakingServers.{MayWake}

-- ### Places that records tell of

-- the record says what is chosen for the place
abbrev chooses : ℕ → StateRecord → Bool
chooses place (Chosen p c) = p == place
chooses place _ = false

abbrev IsTold : ℕ → List StateRecord → Type 0
IsTold place [] = ⊥
IsTold place (entry ∷ records) = (chooses place entry ≡ true) ⊎ IsTold place records

one_place : (entry : StateRecord) (p q : ℕ) → chooses p entry ≡ true → chooses q entry ≡ true → p ≡ q
one_place (Chosen place c) p q e f = sym (same_numbers place p e) ∙ same_numbers place q f
one_place _ p q e f = true_false e refl

chosen_by : (place : ℕ) (row : Row) (entry : StateRecord) (c : Command) → (row_after place row entry).chosen ≡ Some c
    → (row.chosen ≡ Some c) ⊎ (chooses place entry ≡ true)
chosen_by place row (Inc inc) c e = inl e
chosen_by place row (Promise p b) c e =
    by_test (λ (r : Row). r.chosen ≡ Some c → (row.chosen ≡ Some c) ⊎ (false ≡ true)) (p == place) (promise_row row b) row
    (λ same f. inl f) (λ other f. inl f) e
chosen_by place row (Accepted p b d) c e =
    by_test (λ (r : Row). r.chosen ≡ Some c → (row.chosen ≡ Some c) ⊎ (false ≡ true)) (p == place) (accept_row row b d) row
    (λ same f. inl f) (λ other f. inl f) e
chosen_by place row (Chosen p d) c e =
    by_test (λ (r : Row). r.chosen ≡ Some c → (row.chosen ≡ Some c) ⊎ ((p == place) ≡ true)) (p == place) (choose_row row d) row
    (λ same f. inr same) (λ other f. inl f) e

told_by : (place : ℕ) (records : List StateRecord) (row : Row) (c : Command) → (fold (row_after place) row records).chosen ≡ Some c
    → (row.chosen ≡ Some c) ⊎ IsTold place records
told_by place [] row c e = inl e
told_by place (entry ∷ records) row c e = elim (told_by place records (row_after place row entry) c e) [
  | inl before ↦ elim (chosen_by place row entry c before) [ inl old ↦ inl old | inr here ↦ inr (inl here) ]
  | inr later ↦ inr (inr later)
]

known_told : (place : ℕ) (records : List StateRecord) (c : Command) → known_at records place ≡ Some c → IsTold place records
known_told place records c e = elim (told_by place records empty_row c e) [ inl none ↦ none_some refl none | inr told ↦ told ]

-- the records without one that tells of this place tell of the others
record But (place : ℕ) (records : List StateRecord) : Type 0 where
  rest : List StateRecord
  count : length records ≡ length rest + 1
  others : (p : ℕ) → p ≢ place → IsTold p records → IsTold p rest

but : (place : ℕ) (records : List StateRecord) → IsTold place records → But place records
but place [] told = absurd told
but place (entry ∷ records) (inl here) = record {
  rest = records;
  count = omega arith;
  others = λ p ne h. elim h [ inl e ↦ absurd (ne (one_place entry p place e here)) | inr later ↦ later ];
}
but place (entry ∷ records) (inr later) =
    let less = but place records later in
    let count = less.count in
    record {
      rest = entry ∷ less.rest;
      count = omega arith;
      others = λ p ne h. elim h [ inl e ↦ inl e | inr told ↦ inr (less.others p ne told) ];
    }

apart_from : (i k : ℕ) → i < k → i + 1 ≢ k + 1
apart_from i k lt e = absurd (omega arith)

-- so many places need so many records
as_many : (k : ℕ) (records : List StateRecord) → ((i : ℕ) → i < k → IsTold (i + 1) records) → k ≤ length records
as_many zero records h = omega arith
as_many (suc k) records h =
    let less = but (k + 1) records (h k (omega arith)) in
    let count = less.count in
    let rest = as_many k less.rest (λ i lt. less.others (i + 1) (apart_from i k lt) (h i (omega arith))) in
    omega arith

-- ### Prefixes

-- what is known for each place of a list stands at the front of what is read from the device
run_prefix : (log : Log) (xs : List Command) (place most : ℕ) → ((i : ℕ) (c : Command) → slice_get xs i ≡ Some c → known log (place + i) ≡ Some c)
    → length xs ≤ most → IsPrefix xs (known_run log place most)
run_prefix log [] place most h le = record { later = known_run log place most; is = refl }
run_prefix log (x ∷ xs) place zero h le = absurd (omega arith)
run_prefix log (x ∷ xs) place (suc most) h le =
    let at : place + 0 ≡ place = omega arith in
    let here : known log place ≡ Some x = sym (ap (known log) at) ∙ h 0 x refl in
    let rest = run_prefix log xs (place + 1) most
    (λ i c e. let next : place + 1 + i ≡ place + suc i = omega arith in ap (known log) next ∙ h (suc i) c e) (omega arith) in
    record { later = rest.later; is = ap (λ o. before_known o (known_run log (place + 1) most)) here ∙ ap (λ ys. x ∷ ys) rest.is }

-- a list whose members stand in another one, each at its place, is at its front
prefix_by : (xs ys : List Command) → ((i : ℕ) (c : Command) → slice_get xs i ≡ Some c → slice_get ys i ≡ Some c) → IsPrefix xs ys
prefix_by [] ys h = record { later = ys; is = refl }
prefix_by (x ∷ xs) [] h = none_some refl (h 0 x refl)
prefix_by (x ∷ xs) (y ∷ ys) h =
    let rest = prefix_by xs ys (λ i c e. h (suc i) c e) in
    let same : y ≡ x = same_some (h 0 x refl) in
    record { later = rest.later; is = ap (λ z. z ∷ ys) same ∙ ap (λ zs. x ∷ zs) rest.is }

inside : (xs : List Command) (i : ℕ) → i < length xs → (c : Command) × (slice_get xs i ≡ Some c)
inside [] i lt = absurd (omega arith)
inside (x ∷ xs) zero lt = (x, refl)
inside (x ∷ xs) (suc i) lt = inside xs i (omega arith)

-- ### Histories

-- in each world of a legal history each server may wake
pub may_wake : (script : Script) (records : List Record) → IsSound script → AreSteps script records → (n : ℕ)
    → MayWake (setting_of script) (world_after (setting_of script) (start (setting_of script)) records) n
may_wake script records sound legal n =
    let setting = setting_of script in
    let w = world_after setting (start setting) records in
    let server = w.servers n in
    let log = (raised server).log in
    let prefix = known_prefix log in
    let still : (place : ℕ) → known log place ≡ known_at server.log.records place = λ place. known_inc server.log.records (server.life.inc + 1) place in
    let applied : (i : ℕ) (c : Command) → slice_get server.log.applied i ≡ Some c → known log (i + 1) ≡ Some c =
    λ i c e. still (i + 1) ∙ ((logged script records sound legal).is.servers n).applied i c e in
    let many : length server.log.applied ≤ length log.records =
    as_many (length server.log.applied) log.records (λ i lt.
    let c = inside server.log.applied i lt in known_told (i + 1) log.records c.0 (applied i c.0 c.1)) in
    let chosen : IsPrefix prefix (chosen_log setting w) =
    prefix_by prefix (chosen_log setting w) (λ i c e.
    let at : 1 + i ≡ i + 1 = omega arith in
    (history_agrees script records sound legal).known n i c
    (sym (ap (known_at server.log.records) at) ∙ sym (still (1 + i)) ∙ run_known log (length log.records) 1 i c e)) in
    record {
      onward = run_prefix log server.log.applied 1 (length log.records)
          (λ i c e. let at : 1 + i ≡ i + 1 = omega arith in ap (known log) at ∙ applied i c e) many;
      chosen = chosen;
      out = by_bool (is_in (state_after script.servers prefix) n (server.life.inc + 1))
          (λ up. by_bool (is_in (chosen_state setting w) n (server.life.inc + 1))
          (λ now. let begun = who_is_in_has_begun script records sound legal n (server.life.inc + 1) now in absurd (omega arith))
          (λ gone. elim (out_has_stopped script records sound legal n (server.life.inc + 1) prefix chosen up gone) [
            | inl rests ↦ (let le = rests.1 in absurd (omega arith))
            | inr later ↦ absurd (omega arith)
          ]))
          (λ no. no);
    }

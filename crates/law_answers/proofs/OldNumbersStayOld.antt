-- Along a plain log each state tells as many clients, and a client's number that is old stays so.
use Rattle.law_answers.proofs.Imports.{[], ◌<◌, ◌∙◌, ◌∷◌, ◌≡◌, ◌≤◌, Answer, Command, HasProperTuple, HasProperTuples, IsSettledState, List, Some, ap, arith}
use Rattle.law_answers.proofs.Imports.{asker, cases_lt, false, fold-append, get_within, in_get, inl, inr, is_new, latest, length, log_plain, none_some, refl}
use Rattle.law_answers.proofs.Imports.{slice_get, state_after, subst, suc, take, verdict_for, zero, ℕ}
use Rattle.spec_state.specs.State.{State, start}
use Rattle.spec_state.specs.Command.{after}
use Rattle.law_answers.proofs.EntriesTellClients.{many_after, none_past, old_after, old_following}
use Rattle.law_answers.proofs.RequestsStayDone.{plain_prefix, take_next}

module _ (servers : ℕ) (log : List Command) (plain : HasProperTuples servers log) where
  -- the state before a place
  abbrev pub at : ℕ → State
  at k = state_after servers (take k log)

  pub at_next : (k : ℕ) (e : Command) → slice_get log k ≡ Some e → at (suc k) ≡ after (at k) e
  at_next k e is = ap (state_after servers) (take_next log k e is) ∙ fold-append after (start servers) (take k log) (e ∷ [])

  pub plain_at : (k : ℕ) → IsSettledState servers (at k)
  plain_at k = log_plain servers (take k log) (plain_prefix servers log k plain)

  pub entry_plain : (k : ℕ) (e : Command) → slice_get log k ≡ Some e → HasProperTuple servers e
  entry_plain k e is = plain e (in_get log k e is)

  -- each state tells as many clients
  pub many_at : (k : ℕ) → k ≤ length log → length (at k).verdicts ≡ 9
  many_at zero low = refl
  many_at (suc k) low =
      let e = get_within log k (omega arith) in
      ap (λ (s : State). length s.verdicts) (at_next k e.0 e.1) ∙ many_after servers (at k) (plain_at k) e.0 (entry_plain k e.0 e.1) ∙ many_at k (omega arith)

  -- a number that is old stays so
  pub old_on : (c seq i k : ℕ) → i ≤ k → k ≤ length log → is_new seq (latest (at i) c) ≡ false → is_new seq (latest (at k) c) ≡ false
  old_on c seq i zero le low old = let same : i ≡ 0 = omega arith in subst (λ j. is_new seq (latest (at j) c) ≡ false) same old
  old_on c seq i (suc k) le low old = elim (cases_lt i (suc k)) [
    | inr past ↦ (let same : i ≡ suc k = omega arith in subst (λ j. is_new seq (latest (at j) c) ≡ false) same old)
    | inl before ↦
        let e = get_within log k (omega arith) in
        ap (λ (s : State). is_new seq (latest s c)) (at_next k e.0 e.1)
        ∙ old_after servers (at k) (plain_at k) e.0 c seq (entry_plain k e.0 e.1) (old_on c seq i k (omega arith) (omega arith) old)
  ]

  -- after a client's own command its number is old
  pub own_old : (c seq i : ℕ) (e : Command) → slice_get log i ≡ Some e → i < length log → asker e ≡ Some (c, seq) → c < 9
      → is_new seq (latest (at (suc i)) c) ≡ false
  own_old c seq i e is low own few =
      ap (λ (s : State). is_new seq (latest s c)) (at_next i e is)
      ∙ old_following servers (at i) (plain_at i) e (entry_plain i e is) c seq own (let many = many_at i (omega arith) in omega arith)

  -- who is answered is one of the clients
  pub judged_low : (c seq k : ℕ) (given : Answer) → k ≤ length log → verdict_for seq (latest (at k) c) ≡ Some given → c < 9
  judged_low c seq k given low h = elim (cases_lt c 9) [
    | inl few ↦ few
    | inr high ↦ none_some (ap (verdict_for seq) (none_past (at k) c (let many = many_at k low in omega arith))) h
  ]

-- The Joins of a server with an empty store that act, counted along a log.
use Rattle.law_state.proofs.Imports.{[], if◌then◌else◌, ◌&&◌, ◌++◌, ◌+◌, ◌<◌, ◌==◌, ◌∙◌, ◌∷◌, ◌≡◌, ◌≤◌, Command, IsPrefix, Join, List, State, after, ap}
use Rattle.law_state.proofs.Imports.{arith, blank_joins_from, both_true, by_bool, fold, inl, inr, joins_blank, may_join, number_itself, refl, same_numbers}
use Rattle.law_state.proofs.Imports.{slice_get, start, state_after, sym, true, true_false, ℕ}
use Rattle.law_state.specs.Joins.{CountsJoins, HasJoinedSince}
use Rattle.law_state.proofs.EntriesTouchLinks.{counted}

pub joins_on : (n : ℕ) (s : State) (prefix more : List Command)
    → blank_joins_from s (prefix ++ more) n ≡ blank_joins_from s prefix n + blank_joins_from (fold after s prefix) more n
joins_on n s [] more = omega arith
joins_on n s (entry ∷ prefix) more = counted (joins_blank s entry n) _ _ _ (joins_on n (after s entry) prefix more)

pub joins_grow : (servers : ℕ) (prefix whole : List Command) (n : ℕ) → IsPrefix prefix whole
    → blank_joins_from (start servers) prefix n ≤ blank_joins_from (start servers) whole n
joins_grow servers prefix whole n is_prefix =
    let e : blank_joins_from (start servers) whole n
    ≡ blank_joins_from (start servers) prefix n + blank_joins_from (state_after servers prefix) is_prefix.later n =
    ap (λ log. blank_joins_from (start servers) log n) is_prefix.is ∙ joins_on n (start servers) prefix is_prefix.later in
    omega arith

-- what counts is a Join of the server with an empty store that acts
counted_by : (s : State) (entry : Command) (n : ℕ) → joins_blank s entry n ≡ true
    → (inc : ℕ) × (entry ≡ Join n inc true) × (may_join (slice_get s.view.members n) inc ≡ true)
counted_by s (Join server inc true) n e =
    let h = both_true (server == n) (may_join (slice_get s.view.members server) inc) e in
    let same = same_numbers server n h.0 in
    (inc, ap (λ k. Join k inc true) same, ap (λ k. may_join (slice_get s.view.members k) inc) (sym same) ∙ h.1)
counted_by s _ n e = true_false e refl

pub counts_joins : (servers : ℕ) (prefix : List Command) (entry : Command) (n : ℕ) → CountsJoins servers prefix entry n
counts_joins servers prefix entry n =
    let s = state_after servers prefix in
    let e = joins_on n (start servers) prefix (entry ∷ []) in
    by_bool (joins_blank s entry n)
    (λ is.
    let one : blank_joins_from s (entry ∷ []) n ≡ 1 = ap (λ b. if b then 1 else 0) is in
    let by = counted_by s entry n is in
    inr (record { inc = by.0; is = by.1; may = by.2; counts = omega arith }))
    (λ no. let none : blank_joins_from s (entry ∷ []) n ≡ 0 = ap (λ b. if b then 1 else 0) no in inl (omega arith))

pub joined_counts : (servers : ℕ) (prefix whole : List Command) (n inc : ℕ) → HasJoinedSince servers prefix whole n inc true
    → blank_joins_from (start servers) prefix n < blank_joins_from (start servers) whole n
joined_counts servers prefix whole n inc joined =
    let s = state_after servers joined.until in
    let before = joins_grow servers prefix joined.until n joined.following in
    let following = joins_grow servers (joined.until ++ Join n inc true ∷ []) whole n joined.stands in
    let e = joins_on n (start servers) joined.until (Join n inc true ∷ []) in
    let one : blank_joins_from s (Join n inc true ∷ []) n ≡ 1 =
    ap (λ b. if b && may_join (slice_get s.view.members n) inc then 1 else 0) (number_itself n) ∙ ap (λ b. if b then 1 else 0) joined.may in
    omega arith

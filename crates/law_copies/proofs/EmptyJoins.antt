-- Joins with an empty store between a prefix of the log and the whole of it.
use Rattle.law_copies.proofs.Imports.{[], ◌++◌, ◌∙◌, ◌∷◌, ◌≡◌, ◌≢◌, ◌⊎◌, Bool, Command, HasJoinedSince, In, IsPrefix, Join, List, ap, append-nil}
use Rattle.law_copies.proofs.Imports.{append_assoc, arith, blank_joins_from, counts_joins, drop, in_later, inl, inr, length, length-append, one_prefix}
use Rattle.law_copies.proofs.Imports.{prefix_itself, prefix_long, prefix_more, prefix_on, prefix_within, refl, same_some, slice_get, subst, sym, true, ℕ}
use Rattle.spec_state.specs.State.{start}
use Rattle.law_copies.proofs.PlacesByPrefixes.{at_most_or_above}

-- where more are counted one has acted
joined_by : (servers : ℕ) (n : ℕ) (prefix later : List Command)
    → blank_joins_from (start servers) (prefix ++ later) n ≢ blank_joins_from (start servers) prefix n
    → (inc : ℕ) × HasJoinedSince servers prefix (prefix ++ later) n inc true
joined_by servers n prefix [] more = absurd (more (ap (λ log. blank_joins_from (start servers) log n) (append-nil prefix)))
joined_by servers n prefix (entry ∷ later) more = elim (counts_joins servers prefix entry n) [
  | inl same ↦
      let e = append_assoc prefix (entry ∷ []) later in
      let rest = joined_by servers n (prefix ++ entry ∷ []) later
      (λ none. more (ap (λ log. blank_joins_from (start servers) log n) (sym e) ∙ none ∙ same)) in (
        rest.0,
        record {
          until = rest.1.until;
          following = prefix_on prefix (prefix ++ entry ∷ []) rest.1.until (prefix_more prefix entry) rest.1.following;
          stands = subst (IsPrefix (rest.1.until ++ Join n rest.0 true ∷ [])) e rest.1.stands;
          may = rest.1.may;
        },
      )
  | inr joins ↦ (
    joins.inc,
    record {
      until = prefix;
      following = prefix_itself prefix;
      stands = record {
        later = later;
        is = ap (λ c. prefix ++ c ∷ later) joins.is ∙ sym (append_assoc prefix (Join n joins.inc true ∷ []) later);
      };
      may = joins.may;
    },
  )
]

pub joined_where : (servers : ℕ) (n : ℕ) (prefix whole : List Command) → IsPrefix prefix whole
    → blank_joins_from (start servers) prefix n ≢ blank_joins_from (start servers) whole n → (inc : ℕ) × HasJoinedSince servers prefix whole n inc true
joined_where servers n prefix whole is_prefix more =
    let found = joined_by servers n prefix is_prefix.later (λ same. more (sym same ∙ ap (λ log. blank_joins_from (start servers) log n) (sym is_prefix.is))) in
    (found.0, subst (λ log. HasJoinedSince servers prefix log n found.0 true) (sym is_prefix.is) found.1)

-- an entry that stands after a prefix stands in the log
pub stands_in : (prefix whole : List Command) (entry : Command) → IsPrefix (prefix ++ entry ∷ []) whole → In entry whole
unfolding In
stands_in prefix whole entry is_prefix =
    subst (In entry) (sym (is_prefix.is ∙ append_assoc prefix (entry ∷ []) is_prefix.later)) (in_later entry prefix (entry ∷ is_prefix.later) (inl refl))

-- one that does not stand in a prefix stands after it
pub after_prefix : (prefix log whole : List Command) (entry : Command) → IsPrefix prefix whole → IsPrefix (log ++ entry ∷ []) whole
    → In entry prefix ⊎ IsPrefix prefix log
after_prefix prefix log whole entry one two = elim (at_most_or_above (length prefix) (length log)) [
  | inl within ↦ inr (prefix_within prefix log whole one (prefix_on log (log ++ entry ∷ []) whole (prefix_more log entry) two) within)
  | inr past ↦ inl (stands_in log prefix entry (prefix_within (log ++ entry ∷ []) prefix whole two one (omega (arith, past, length-append log (entry ∷ [])))))
]

-- what joins between a log and the log with one entry more is that entry
pub joins_by_entry : (servers : ℕ) (log : List Command) (entry : Command) (n inc : ℕ) (blank : Bool)
    → HasJoinedSince servers log (log ++ entry ∷ []) n inc blank → entry ≡ Join n inc blank
joins_by_entry servers log entry n inc blank joined =
    let a = prefix_long log joined.until joined.following in
    let b = prefix_long (joined.until ++ Join n inc blank ∷ []) (log ++ entry ∷ []) joined.stands in
    let many : length log ≡ length joined.until = omega (arith, a, b, length-append log (entry ∷ []), length-append joined.until (Join n inc blank ∷ [])) in
    let whole = log ++ entry ∷ [] in
    let same : log ≡ joined.until = one_prefix log joined.until whole (prefix_more log entry)
    (prefix_on joined.until (joined.until ++ Join n inc blank ∷ []) whole (prefix_more joined.until (Join n inc blank)) joined.stands) many in
    last log (Join n inc blank) joined.stands.later
    (joined.stands.is ∙ ap (λ xs. (xs ++ Join n inc blank ∷ []) ++ joined.stands.later) (sym same)
    ∙ append_assoc log (Join n inc blank ∷ []) joined.stands.later)
  where
    last : (xs : List Command) (c : Command) (rest : List Command) → xs ++ entry ∷ [] ≡ xs ++ c ∷ rest → entry ≡ c
    last [] c rest e = same_some (ap (λ (ys : List Command). slice_get ys 0) e)
    last (x ∷ xs) c rest e = last xs c rest (ap (λ (ys : List Command). drop 1 ys) e)

-- Who is In as an incarnation has joined as it, once: no Join of that incarnation or an earlier one acts any more.
use Rattle.law_state.proofs.Imports.{[], if◌then◌else◌, ◌++◌, ◌+◌, ◌==◌, ◌∙◌, ◌∷◌, ◌≡◌, ◌≤◌, ◌⊎◌, Bool, Command, In, IsPrefix, Join, List, Member, None}
use Rattle.law_state.proofs.Imports.{Option, Some, State, act, after, ap, arith, by_bool, false, fold-append, in_former, in_later, inc_in, inl, inr, is_up_as}
use Rattle.law_state.proofs.Imports.{may_join, number_itself, option_and_then, option_map_or, refl, same_numbers, same_or_apart, slice_get, start}
use Rattle.law_state.proofs.Imports.{state_after, subst, sym, true, true_false, ℕ}
use Rattle.law_state.specs.Ages.{age, age_of}
use Rattle.law_state.specs.Disks.{HasJoined}
use Rattle.law_state.specs.Joins.{HasJoinedSince}
use Rattle.law_state.specs.Plain.{HasProperTuples}
use Rattle.law_state.specs.Tables.{IsSettledState}
use Rattle.law_state.proofs.Ages.{in_age, may_by}
use Rattle.law_state.proofs.EntriesOnlyAdd.{in_at_start, log_plain}
use Rattle.law_state.proofs.Joins.{joined_by, in_now, in_beside as joined_beside}
use Rattle.law_state.proofs.Leaves.{in_before}
use Rattle.law_state.proofs.FencesPass.{in_settled}
use Rattle.law_state.proofs.Steady.{prefix_plain, log_below}
use Rattle.law_state.proofs.EntryByEntry.{NextEntry, by_entries, settled_there}
use Rattle.law_state.proofs.EntryOutcomes.{Joins, Leaves, Outcome, outcome}
use Rattle.global_tables.specs.declared.fence.Member.TheVariants as member

-- the entry is the Join of this incarnation, which acts
abbrev IsJoinOf : State → Command → (n inc : ℕ) → Type 0
IsJoinOf s entry n inc = (blank : Bool) × (entry ≡ Join n inc blank) × (may_join (slice_get s.view.members n) inc ≡ true)

-- an incarnation that an entry makes In has this very Join
made_in : (servers : ℕ) (s : State) (p : IsSettledState servers s) (entry : Command) (t : State) → Outcome servers s p entry t → (n inc : ℕ)
    → is_up_as s n inc ≡ false → is_up_as t n inc ≡ true → IsJoinOf s entry n inc
made_in servers s p _ _ (Joins server later blank may) n inc out is = elim (same_or_apart n server) [
  | inl e ↦ (
      let same : later ≡ inc = same_numbers later inc
      (sym (in_now servers s p server later blank may inc) ∙ sym (ap (λ k. is_up_as (joined_by s server later blank) k inc) e) ∙ is) in
      (blank, λ i. Join (sym e i) (same i) blank, (λ i. may_join (slice_get s.view.members (e i)) (sym same i)) ∙ may))
  | inr ne ↦ true_false (sym (joined_beside servers s p server later blank may n inc ne) ∙ is) out
]
made_in servers s p _ _ (Leaves server last now) n inc out is = true_false (in_before servers s p server last now n inc is) out
made_in servers s p _ _ _ n inc out is = true_false is out

-- ### Prefixes of a log

module _ (servers : ℕ) (prefix whole : List Command) (n inc : ℕ) (all : HasProperTuples servers whole) (is_prefix : IsPrefix prefix whole) where
  abbrev Since : Type 0
  Since = (blank : Bool) × HasJoinedSince servers prefix whole n inc blank

  out_or_since : (it : NextEntry servers prefix whole) → (is_up_as (state_after servers it.until) n inc ≡ false) ⊎ Since
      → (is_up_as (after (state_after servers it.until) it.entry) n inc ≡ false) ⊎ Since
  out_or_since it (inr since) = inr since
  out_or_since it (inl out) = by_bool (is_up_as (after (state_after servers it.until) it.entry) n inc)
      (λ now.
      let s = state_after servers it.until in
      let p = settled_there servers prefix whole all is_prefix it in
      let made = made_in servers s p it.entry (act it.entry s) (outcome servers s p it.entry it.proper) n inc out
      (sym (in_settled (act it.entry s) n inc) ∙ now) in
      inr (
        made.0,
        record {
          until = it.until;
          following = it.following;
          stands = subst (λ e. IsPrefix (it.until ++ e ∷ []) whole) made.1 it.stands;
          may = made.2;
        },
      ))
      inl

  pub joined_since : is_up_as (state_after servers whole) n inc ≡ true
      → (is_up_as (state_after servers prefix) n inc ≡ true) ⊎ ((blank : Bool) × HasJoinedSince servers prefix whole n inc blank)
  joined_since is = by_bool (is_up_as (state_after servers prefix) n inc) inl
      (λ out. elim (by_entries servers prefix whole all is_prefix (λ log t. (is_up_as t n inc ≡ false) ⊎ Since) out_or_since (inl out)) [
        | inl still ↦ true_false is still
        | inr since ↦ inr since
      ])

  -- no Join of an incarnation that was In, or of an earlier one, acts
  pub joined_once : (other : ℕ) → is_up_as (state_after servers prefix) n inc ≡ true → other ≤ inc
      → may_join (slice_get (state_after servers whole).view.members n) other ≡ false
  joined_once other is low = by_bool (may_join (slice_get (state_after servers whole).view.members n) other)
      (λ may.
      let was = may_by (slice_get (state_after servers whole).view.members n) other may in
      let old = in_age (state_after servers prefix) n inc is in
      let grown = (log_below servers prefix whole all is_prefix).ages n in
      let now : age_of (state_after servers whole) n ≡ was.0 + was.0 + 2 = ap age was.1 in
      let lt = was.2 in
      absurd (omega arith))
      (λ no. no)

pub joined_in : (servers : ℕ) (prefix whole : List Command) (n inc : ℕ) (blank : Bool) → HasProperTuples servers whole
    → (joined : HasJoinedSince servers prefix whole n inc blank)
    → is_up_as (state_after servers (joined.until ++ Join n inc blank ∷ [])) n inc ≡ true
unfolding In
joined_in servers prefix whole n inc blank all joined =
    let plain = prefix_plain servers (joined.until ++ Join n inc blank ∷ []) whole all joined.stands in
    let s = state_after servers joined.until in
    let p = log_plain servers joined.until (prefix_plain servers joined.until _ plain (record { later = Join n inc blank ∷ []; is = refl })) in
    ap (λ (t : State). is_up_as t n inc) (fold-append after (start servers) joined.until (Join n inc blank ∷ []))
    ∙ in_settled (act (Join n inc blank) s) n inc
    ∙ ap (λ b. is_up_as (if b then joined_by s n inc blank else s) n inc) joined.may
    ∙ in_now servers s p n inc blank joined.may inc ∙ number_itself inc

-- ### From the start on

-- who is In at the start is so with the first incarnation
one_at_start : (servers n inc : ℕ) → is_up_as (start servers) n inc ≡ true → inc ≡ 1
one_at_start servers n inc e = by (slice_get (start servers).view.members n) refl e
  where
    by : (o : Option Member) → slice_get (start servers).view.members n ≡ o → option_map_or (λ present. present == inc) (option_and_then inc_in o) false ≡ true
        → inc ≡ 1
    by None is f = true_false f refl
    by (Some m) is f =
        let one : Some m ≡ Some (member.In 1) = ap Some (in_at_start servers n m is) in
        sym (same_numbers 1 inc
        (sym (ap (λ (o : Option Member). option_map_or (λ present. present == inc) (option_and_then inc_in o) false) one) ∙ f))

in_log : (servers : ℕ) (log : List Command) (n inc : ℕ) (blank : Bool) → HasJoinedSince servers [] log n inc blank → In (Join n inc blank) log
unfolding In
in_log servers log n inc blank joined = subst (In (Join n inc blank)) (sym joined.stands.is)
    (in_former (Join n inc blank) (joined.until ++ Join n inc blank ∷ []) joined.stands.later
    (in_later (Join n inc blank) joined.until (Join n inc blank ∷ []) (inl refl)))

pub who_is_in : (servers : ℕ) (log : List Command) (n inc : ℕ) → HasProperTuples servers log → is_up_as (state_after servers log) n inc ≡ true
    → (inc ≡ 1) ⊎ HasJoined log n inc
who_is_in servers log n inc all is = elim (joined_since servers [] log n inc all (record { later = log; is = refl }) is) [
  | inl first ↦ inl (one_at_start servers n inc first)
  | inr joined ↦ inr (joined.0, in_log servers log n inc joined.0 joined.1)
]

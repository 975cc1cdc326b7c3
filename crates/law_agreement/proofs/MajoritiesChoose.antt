-- A command is chosen for a place exactly where a majority of the state devices has its acceptance in one ballot.
use Rattle.law_agreement.proofs.Imports.{[], if◌then◌else◌, ◌++◌, ◌+◌, ◌/◌, ◌<◌, ◌==◌, ◌||◌, ◌∙◌, ◌∷◌, ◌≡◌, ◌≤◌, ◌⊎◌, Ballot, Bool, Command, Devices, In}
use Rattle.law_agreement.proofs.Imports.{IsChosenBy, IsMajority, List, None, Option, Some, StateRecord, acceptance_at, acceptance_is, acceptance_self, ap}
use Rattle.law_agreement.proofs.Imports.{arith, at_place, chosen_at, cond, cons_option, count_below, false, filter_map, find, flat_map, has_voted, inl, inr}
use Rattle.law_agreement.proofs.Imports.{list_any, nat_tests, number_is, option_map, range_with_len, refl, same_acceptance, subst, suc, sym, true, unwrap_or}
use Rattle.law_agreement.proofs.Imports.{votes_for, wins, zero, ℕ}
use Rattle.spec_paxos.specs.declared.record.StateRecord.TheVariants.{Accepted}
use Rattle.law_agreement.specs.Single.{IsSingle, IsKept}

-- ### Members of lists

pub in_left : {X : Type 0} (x : X) (xs ys : List X) → In x xs → In x (xs ++ ys)
unfolding In
in_left x [] ys h = absurd h
in_left x (y ∷ xs) ys (inl is) = inl is
in_left x (y ∷ xs) ys (inr later) = inr (in_left x xs ys later)

pub in_right : {X : Type 0} (x : X) (xs ys : List X) → In x ys → In x (xs ++ ys)
unfolding In
in_right x [] ys h = h
in_right x (y ∷ xs) ys h = inr (in_right x xs ys h)

pub in_flat : {A X : Type 0} (f : A → List X) (a : A) (bs : List A) (x : X) → In a bs → In x (f a) → In x (flat_map f bs)
unfolding In
in_flat f a [] x there h = absurd there
in_flat f a (b ∷ bs) x (inl is) h = in_left x (f b) (flat_map f bs) (subst (λ c. In x (f c)) is h)
in_flat f a (b ∷ bs) x (inr later) h = in_right x (f b) (flat_map f bs) (in_flat f a bs x later h)

pub in_range : (a n s : ℕ) → a ≤ s → s < a + n → In s (range_with_len a n)
unfolding In
in_range a zero s low high = absurd (omega arith)
in_range a (suc n) s low high = by (s == a) refl (λ above. in_range (a + 1) n s above (omega arith))
  where
    by : (b : Bool) → (s == a) ≡ b → (a + 1 ≤ s → In s (range_with_len (a + 1) n)) → (s ≡ a) ⊎ In s (range_with_len (a + 1) n)
    by true e ih = inl (number_is s a e)
    by false e ih = inr (ih (grind (arith, nat_tests)))

-- what is found passes the test
pub found_passes : {X : Type 0} (p : X → Bool) (xs : List X) (x : X) → find p xs ≡ Some x → p x ≡ true
found_passes p [] x e = absurd (cc)
found_passes p (y ∷ xs) x e = by (p y) refl (found_passes p xs x) e
  where
    by : (b : Bool) → p y ≡ b → (find p xs ≡ Some x → p x ≡ true) → cond b (Some y) (find p xs) ≡ Some x → p x ≡ true
    by true t ih is = let same : y ≡ x = cc in subst (λ z. p z ≡ true) same t
    by false t ih is = ih is

here_found : {X : Type 0} (p : X → Bool) (xs : List X) (y : X) → p y ≡ true → (z : X) × (find p (y ∷ xs) ≡ Some z)
here_found p xs y t = (y, ap (λ b. cond b (Some y) (find p xs)) t)

later_found : {X : Type 0} (p : X → Bool) (xs : List X) (y : X) → (z : X) × (find p xs ≡ Some z) → (z : X) × (find p (y ∷ xs) ≡ Some z)
later_found {X = X} p xs y f = by (p y) f
  where
    by : (b : Bool) → (z : X) × (find p xs ≡ Some z) → (z : X) × (cond b (Some y) (find p xs) ≡ Some z)
    by true f = (y, refl)
    by false f = f

-- where one passes, one is found
pub one_found : {X : Type 0} (p : X → Bool) (xs : List X) (x : X) → In x xs → p x ≡ true → (y : X) × (find p xs ≡ Some y)
unfolding In
one_found p [] x there t = absurd there
one_found p (y ∷ xs) x (inl is) t = here_found p xs y (subst (λ z. p z ≡ true) is t)
one_found p (y ∷ xs) x (inr later) t = later_found p xs y (one_found p xs x later t)

-- ### Votes

abbrev pair_of : Ballot → Command → Ballot × Command
pair_of b c = (b, c)

kept : {X Y : Type 0} (h : X → Option Y) (xs : List X) (x : X) (y : Y) → In x xs → h x ≡ Some y → In y (filter_map h xs)
unfolding In
kept h [] x y there e = absurd there
kept h (z ∷ xs) x y (inl is) e = subst (λ o. In y (cons_option o (filter_map h xs))) (sym (ap h (sym is) ∙ e)) (inl refl)
kept {Y = Y} h (z ∷ xs) x y (inr later) e = by (h z) (kept h xs x y later e)
  where
    by : (o : Option Y) → In y (filter_map h xs) → In y (cons_option o (filter_map h xs))
    by None ih = ih
    by (Some w) ih = inr ih

abbrev Source : {X Y : Type 0} → (X → Option Y) → List X → Y → Type 0
Source {X = X} h xs y = (x : X) × In x xs × (h x ≡ Some y)

source : {X Y : Type 0} (h : X → Option Y) (xs : List X) (y : Y) → In y (filter_map h xs) → Source h xs y
unfolding In
source h [] y there = absurd there
source {Y = Y} h (z ∷ xs) y there = by (h z) refl (source h xs y) there
  where
    later : Source h xs y → Source h (z ∷ xs) y
    later f = (f.0, inr f.1, f.2)

    by : (o : Option Y) → h z ≡ o → (In y (filter_map h xs) → Source h xs y) → In y (cons_option o (filter_map h xs)) → Source h (z ∷ xs) y
    by None e ih there = later (ih there)
    by (Some w) e ih (inl is) = (z, inl refl, e ∙ ap Some (sym is))
    by (Some w) e ih (inr there) = later (ih there)

any_of : {X : Type 0} (p : X → Bool) (xs : List X) (x : X) → In x xs → p x ≡ true → list_any p xs ≡ true
unfolding In
any_of p [] x there t = absurd there
any_of p (y ∷ xs) x (inl is) t = ap (λ b. b || list_any p xs) (subst (λ z. p z ≡ true) is t)
any_of p (y ∷ xs) x (inr later) t = by (p y) (any_of p xs x later t)
  where
    by : (b : Bool) → list_any p xs ≡ true → (b || list_any p xs) ≡ true
    by true ih = refl
    by false ih = ih

of_any : {X : Type 0} (p : X → Bool) (xs : List X) → list_any p xs ≡ true → (x : X) × In x xs × (p x ≡ true)
unfolding In
of_any p [] e = absurd (cc)
of_any {X = X} p (y ∷ xs) e = by (p y) refl (of_any p xs) e
  where
    by : (b : Bool) → p y ≡ b → (list_any p xs ≡ true → (x : X) × In x xs × (p x ≡ true)) → (b || list_any p xs) ≡ true
        → (x : X) × ((x ≡ y) ⊎ In x xs) × (p x ≡ true)
    by true t ih is = (y, inl refl, t)
    by false t ih is = let f = ih is in (f.0, inr f.1, f.2)

pub in_votes : (place : ℕ) (b : Ballot) (c : Command) (records : List StateRecord) → In (Accepted place b c) records
    → In (pair_of b c) (votes_for records place)
in_votes place b c records h = kept (acceptance_at place) records (Accepted place b c) (pair_of b c) h (at_place place place (Some (pair_of b c)) None refl)

told_by : (place : ℕ) (vote : Ballot × Command) (r : StateRecord) → acceptance_at place r ≡ Some vote → r ≡ Accepted place vote.0 vote.1
told_by place vote (Accepted p b c) e = by (p == place) refl e
  where
    by : (t : Bool) → (p == place) ≡ t → (if t then Some (pair_of b c) else None) ≡ Some vote → Accepted p b c ≡ Accepted place vote.0 vote.1
    by true at is =
        let here : p ≡ place = number_is p place at in
        let ballot : b ≡ vote.0 = ap (λ (o : Option (Ballot × Command)). (unwrap_or o vote).0) is in
        let command : c ≡ vote.1 = ap (λ (o : Option (Ballot × Command)). (unwrap_or o vote).1) is in
        cc
    by false at is = absurd (cc)
told_by place vote _ e = absurd (cc)

pub votes_in : (place : ℕ) (vote : Ballot × Command) (records : List StateRecord) → In vote (votes_for records place)
    → In (Accepted place vote.0 vote.1) records
votes_in place vote records h =
    let f = source (acceptance_at place) records vote h in
    subst (λ r. In r records) (told_by place vote f.0 f.2) f.1

pub voted : (records : List StateRecord) (place : ℕ) (vote : Ballot × Command) → In (Accepted place vote.0 vote.1) records → has_voted records place vote ≡ true
voted records place vote h = any_of (same_acceptance vote) (votes_for records place) vote (in_votes place vote.0 vote.1 records h) (acceptance_self vote)

pub has_vote : (records : List StateRecord) (place : ℕ) (vote : Ballot × Command) → has_voted records place vote ≡ true
    → In (Accepted place vote.0 vote.1) records
has_vote records place vote h =
    let f = of_any (same_acceptance vote) (votes_for records place) h in
    votes_in place vote records (subst (λ v. In v (votes_for records place)) (sym (acceptance_is vote f.0 f.2)) f.1)

-- ### Majorities

pub count_grows : (n : ℕ) (p q : ℕ → Bool) → ((s : ℕ) → p s ≡ true → q s ≡ true) → count_below n p ≤ count_below n q
count_grows zero p q more = omega arith
count_grows (suc n) p q more = by (p n) (q n) refl refl (count_grows n p q more)
  where
    by : (a b : Bool) → p n ≡ a → q n ≡ b → count_below n p ≤ count_below n q → (if a then 1 else 0) + count_below n p ≤ (if b then 1 else 0) + count_below n q
    by true true e f ih = omega arith
    by true false e f ih = let also : q n ≡ true = more n e in absurd (cc)
    by false true e f ih = omega arith
    by false false e f ih = omega arith

abbrev Counted : ℕ → (ℕ → Bool) → Type 0
Counted n p = (s : ℕ) × (s < n) × (p s ≡ true)

pub one_of_many : (n : ℕ) (p : ℕ → Bool) → 0 < count_below n p → Counted n p
one_of_many zero p h = absurd (omega arith)
one_of_many (suc n) p h = by (p n) refl (one_of_many n p) h
  where
    by : (a : Bool) → p n ≡ a → (0 < count_below n p → Counted n p) → 0 < (if a then 1 else 0) + count_below n p → Counted (suc n) p
    by true e ih h = (n, omega arith, e)
    by false e ih h = let f = ih (omega arith) in (f.0, omega arith, f.2)

-- ### Chosen

pub winner_is_chosen : (n : ℕ) (devices : Devices) (place : ℕ) (vote : Ballot × Command) → wins n devices place vote ≡ true → IsChosenBy n devices place vote.1
winner_is_chosen n devices place vote h = (vote.0, (λ s. has_voted (devices s) place vote), grind (arith, nat_tests), λ s. has_vote (devices s) place vote)

pub told_is_chosen : (n : ℕ) (devices : Devices) (place : ℕ) (c : Command) → chosen_at n devices place ≡ Some c → IsChosenBy n devices place c
told_is_chosen n devices place c e = by (find (wins n devices place) (flat_map (λ s. votes_for (devices s) place) (range_with_len 0 n))) refl e
  where
    by : (o : Option (Ballot × Command)) → find (wins n devices place) (flat_map (λ s. votes_for (devices s) place) (range_with_len 0 n)) ≡ o
        → option_map (λ vote. vote.1) o ≡ Some c → IsChosenBy n devices place c
    by None f is = absurd (cc)
    by (Some vote) f is =
        let same : vote.1 ≡ c = cc in
        subst (IsChosenBy n devices place) same (winner_is_chosen n devices place vote
        (found_passes (wins n devices place) (flat_map (λ s. votes_for (devices s) place) (range_with_len 0 n)) vote f))

-- the votes for a place, of all servers
abbrev all_votes : ℕ → Devices → ℕ → List (Ballot × Command)
all_votes n devices place = flat_map (λ s. votes_for (devices s) place) (range_with_len 0 n)

-- a vote of a majority wins, and is among the votes
majority_wins : (n : ℕ) (devices : Devices) (place : ℕ) (vote : Ballot × Command) (who : ℕ → Bool) → IsMajority n who
    → ((s : ℕ) → who s ≡ true → In (Accepted place vote.0 vote.1) (devices s)) → wins n devices place vote ≡ true
majority_wins n devices place vote who majority each =
    let counted = count_grows n who (λ s. has_voted (devices s) place vote) (λ s is. voted (devices s) place vote (each s is)) in
    let many : n / 2 + 1 ≤ count_below n (λ s. has_voted (devices s) place vote) = omega arith in
    grind (arith, nat_tests)

majority_voted : (n : ℕ) (devices : Devices) (place : ℕ) (vote : Ballot × Command) (who : ℕ → Bool) → IsMajority n who
    → ((s : ℕ) → who s ≡ true → In (Accepted place vote.0 vote.1) (devices s)) → In vote (all_votes n devices place)
majority_voted n devices place vote who majority each =
    let one = one_of_many n who (omega arith) in
    let there = in_votes place vote.0 vote.1 (devices one.0) (each one.0 one.2) in
    in_flat (λ s. votes_for (devices s) place) one.0 (range_with_len 0 n) vote (in_range 0 n one.0 (omega arith) (omega arith)) there

winner_told : (n : ℕ) (devices : Devices) (place : ℕ) (vote : Ballot × Command) → In vote (all_votes n devices place) → wins n devices place vote ≡ true
    → (c : Command) × (chosen_at n devices place ≡ Some c)
winner_told n devices place vote there won =
    let found = one_found (wins n devices place) (all_votes n devices place) vote there won in
    (found.0.1, ap (option_map (λ (x : Ballot × Command). x.1)) found.1)

pub chosen_is_told : (n : ℕ) (devices : Devices) (place : ℕ) (c : Command) → IsSingle n devices → IsChosenBy n devices place c
    → chosen_at n devices place ≡ Some c
chosen_is_told n devices place c single h =
    let told = winner_told n devices place (pair_of h.0 c) (majority_voted n devices place (pair_of h.0 c) h.1 h.2 h.3)
    (majority_wins n devices place (pair_of h.0 c) h.1 h.2 h.3) in
    told.1 ∙ ap Some (single place told.0 c (told_is_chosen n devices place told.0 told.1) h)

-- what is chosen stays chosen
pub chosen_stays : (n : ℕ) (devices later : Devices) (place : ℕ) (c : Command) → IsKept devices later → IsChosenBy n devices place c
    → IsChosenBy n later place c
chosen_stays n devices later place c kept h = (h.0, h.1, h.2, λ s yes. kept s (Accepted place h.0 c) (h.3 s yes))

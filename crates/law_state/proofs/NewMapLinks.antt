-- The links of a new map: each between two neighbours of its tuple, and served by those of them that are In.
use Rattle.law_state.proofs.Imports.{[], ◌%◌, ◌&&◌, ◌+◌, ◌<◌, ◌==◌, ◌||◌, ◌∙◌, ◌∷◌, ◌≡◌, ◌≢◌, ◌≤◌, ◌⊎◌, Bool, Decides-eqb, In, LinkRow, List, Member, None}
use Rattle.law_state.proofs.Imports.{Option, Some, ap, arith, both_true, by_bool, cond, distinct, false, find, inl, inr, is_in, is_link, is_tuple, is_up}
use Rattle.law_state.proofs.Imports.{length, link_at, list_all, list_any, map, mod-eq_of_lt, mod_self, nat_eq, nat_le, nat_lt, nat_tests, new_row, new_rows}
use Rattle.law_state.proofs.Imports.{new_state, not, not_true, number_itself, option_map, option_map_or, range_with_len, refl, row_between, same_numbers}
use Rattle.law_state.proofs.Imports.{same_or_apart, slice_get, slice_get-map, slice_index, stands_up, suc, sym, true, true_false, unwrap_or, ups, zero, ℕ}
use Rattle.spec_state.specs.State.{State}
use Rattle.law_state.specs.LinkRows.{IsServed, ByBoth, ByOne}
use Rattle.law_state.proofs.Ages.{out_not}
use Rattle.law_state.proofs.ListLookups.{find_none, in_get}

pub in_map : {A B : Type 0} (f : A → B) (xs : List A) (y : B) → In y (map f xs) → (x : A) × In x xs × (y ≡ f x)
unfolding In
in_map f [] y h = absurd h
in_map f (x ∷ xs) y (inl e) = (x, inl refl, e)
in_map f (x ∷ xs) y (inr h) = let found = in_map f xs y h in (found.0, inr found.1, found.2)

in_range : (start length i : ℕ) → In i (range_with_len start length) → (start ≤ i) × (i < start + length)
unfolding In
in_range start zero i h = absurd h
in_range start (suc n) i (inl e) = (omega arith, omega arith)
in_range start (suc n) i (inr h) = let later = in_range (start + 1) n i h in let low = later.0 in let high = later.1 in (omega arith, omega arith)

index_all : (p : ℕ → Bool) (xs : List ℕ) (i : ℕ) → list_all p xs ≡ true → i < length xs → p (slice_index xs i) ≡ true
index_all p [] i h lt = absurd (omega arith)
index_all p (x ∷ xs) zero h lt = (both_true (p x) (list_all p xs) h).0
index_all p (x ∷ xs) (suc i) h lt = index_all p xs i (both_true (p x) (list_all p xs) h).1 (omega arith)

pub either_false : (a b : Bool) → (a || b) ≡ false → (a ≡ false) × (b ≡ false)
either_false true b e = let f : true ≡ false = e in absurd cc
either_false false b e = (refl, e)

pub or_true : (a b : Bool) → b ≡ true → (a || b) ≡ true
or_true true b e = refl
or_true false b e = e

no_member : (n : ℕ) (xs : List ℕ) (i : ℕ) → list_any (nat_eq n) xs ≡ false → i < length xs → n ≢ slice_index xs i
no_member n [] i h lt = absurd (omega arith)
no_member n (x ∷ xs) zero h lt = λ e. let f : (n == x) ≡ true = (Decides-eqb n x).1 e in true_false f (either_false (nat_eq n x) (list_any (nat_eq n) xs) h).0
no_member n (x ∷ xs) (suc i) h lt = no_member n xs i (either_false (nat_eq n x) (list_any (nat_eq n) xs) h).1 (omega arith)

index_apart : (xs : List ℕ) (i j : ℕ) → distinct xs ≡ true → i < j → j < length xs → slice_index xs i ≢ slice_index xs j
index_apart [] i j h lt lt' = absurd (omega arith)
index_apart (x ∷ xs) i zero h lt lt' = absurd (omega arith)
index_apart (x ∷ xs) zero (suc j) h lt lt' = no_member x xs j (not_true _ (both_true (not (list_any (nat_eq x) xs)) (distinct xs) h).0) (omega arith)
index_apart (x ∷ xs) (suc i) (suc j) h lt lt' = index_apart xs i j (both_true (not (list_any (nat_eq x) xs)) (distinct xs) h).1 (omega arith) (omega arith)

next_index : (i n : ℕ) → i < n → ((i + 1) % n ≡ i + 1) × (i + 1 < n) ⊎ ((i + 1) % n ≡ 0) × (i + 1 ≡ n)
next_index i n lt = elim (same_or_apart (i + 1) n) [
  | inl e ↦ inr (ap (λ k. k % n) e ∙ mod_self n, e)
  | inr ne ↦ inl (mod-eq_of_lt (omega arith), omega arith)
]

-- neighbours in a tuple are two servers
neighbours : (xs : List ℕ) (i : ℕ) → distinct xs ≡ true → 2 ≤ length xs → i < length xs → slice_index xs i ≢ slice_index xs ((i + 1) % length xs)
neighbours xs i h two lt = elim (next_index i (length xs) lt) [
  | inl n ↦ λ e. index_apart xs i (i + 1) h (omega arith) n.1 (e ∙ ap (slice_index xs) n.0)
  | inr n ↦ λ e. let last = n.1 in index_apart xs 0 i h (omega arith) lt (sym (e ∙ ap (slice_index xs) n.0))
]

below_next : (i n : ℕ) → i < n → (i + 1) % n < n
below_next i n lt = elim (next_index i n lt) [ inl h ↦ let e = h.0 in let f = h.1 in omega arith | inr h ↦ let e = h.0 in omega arith ]

-- the links that a proper tuple asks for: at least two, each between two of so many servers
pub record IsProper (servers : ℕ) (tuple : List ℕ) : Type 0 where
  pub two : 2 ≤ length tuple
  pub apart : (i : ℕ) → i < length tuple → slice_index tuple i ≢ slice_index tuple ((i + 1) % length tuple)
  pub low : (i : ℕ) → i < length tuple → slice_index tuple i < servers
  pub next : (i : ℕ) → i < length tuple → slice_index tuple ((i + 1) % length tuple) < servers

pub proper : (servers : ℕ) (tuple : List ℕ) → is_tuple servers tuple ≡ true → IsProper servers tuple
proper servers tuple h =
    let one = both_true (nat_le 2 (length tuple) && nat_le (length tuple) 8 && list_all (λ n. nat_lt n servers && nat_lt n 8) tuple) (distinct tuple) h in
    let two = both_true (nat_le 2 (length tuple) && nat_le (length tuple) 8) (list_all (λ n. nat_lt n servers && nat_lt n 8) tuple) one.0 in
    let three = both_true (nat_le 2 (length tuple)) (nat_le (length tuple) 8) two.0 in
    let many = at_least (length tuple) three.0 in
    let low = λ (j : ℕ) (l : j < length tuple). below servers (slice_index tuple j)
    (both_true (nat_lt (slice_index tuple j) servers) (nat_lt (slice_index tuple j) 8)
    (index_all (λ n. nat_lt n servers && nat_lt n 8) tuple j two.1 l)).0 in
    record { two = many; apart = λ i lt. neighbours tuple i one.1 many lt; low = low; next = λ i lt. low _ (below_next i (length tuple) lt) }
  where
    below : (a b : ℕ) → nat_lt b a ≡ true → b < a
    below a b e = grind (arith, nat_tests)

    at_least : (n : ℕ) → nat_le 2 n ≡ true → 2 ≤ n
    at_least n e = grind (arith, nat_tests)

-- ### Who serves a new link

up_as : (s : State) (n : ℕ) → stands_up (ups s) n ≡ is_up s n
up_as s n = ap (λ o. unwrap_or o false) (slice_get-map is_in s.view.members n) ∙ by (slice_get s.view.members n)
  where
    by : (o : Option Member) → unwrap_or (option_map is_in o) false ≡ option_map_or is_in o false
    by None = refl
    by (Some member) = refl

served_between : (s : State) (of i primary secondary : ℕ) → IsServed s (row_between of (ups s) i primary secondary)
served_between s of i primary secondary = by (is_up s primary) (is_up s secondary) refl refl
  where
    so : (a b : Bool) → is_up s primary ≡ a → is_up s secondary ≡ b
        → (row_between of (ups s) i primary secondary).state ≡ new_state a b primary secondary
    so a b e f = λ k. new_state ((up_as s primary ∙ e) k) ((up_as s secondary ∙ f) k) primary secondary

    by : (a b : Bool) → is_up s primary ≡ a → is_up s secondary ≡ b → IsServed s (row_between of (ups s) i primary secondary)
    by true true e f = ByBoth (so true true e f) e f
    by true false e f = ByOne primary secondary false (so true false e f) (inl (refl, refl)) (out_not s secondary f 1)
    by false true e f = ByOne secondary primary false (so false true e f) (inr (refl, refl)) (out_not s primary e 1)
    by false false e f = ByOne primary secondary false (so false false e f) (inl (refl, refl)) (out_not s secondary f 1)

pub new_served : (s : State) (of : ℕ) (tuple : List ℕ) (i : ℕ) → IsServed s (new_row of tuple (ups s) i)
new_served s of tuple i = served_between s of i (slice_index tuple i) (slice_index tuple ((i + 1) % length tuple))

-- ### The rows of a new map

pub row_in : (up : List Bool) (of : ℕ) (tuple : List ℕ) (j : ℕ) (row : LinkRow) → slice_get (new_rows of tuple up) j ≡ Some row
    → (i : ℕ) × (i < length tuple) × (row ≡ new_row of tuple up i)
row_in up of tuple j row e =
    let made = in_map (new_row of tuple up) (range_with_len 0 (length tuple)) row (in_get _ j row e) in
    let within = in_range 0 (length tuple) made.0 made.1 in
    (made.0, (let lt = within.1 in omega arith), made.2)

-- what the rows of a new map have at each link
new_at : (up : List Bool) (of : ℕ) (tuple : List ℕ) (link start many : ℕ) → start ≤ link → link < start + many
    → find (is_link of link) (map (new_row of tuple up) (range_with_len start many)) ≡ Some (new_row of tuple up link)
new_at up of tuple link start zero low high = absurd (omega arith)
new_at up of tuple link start (suc n) low high = by_bool (start == link)
    (λ t. ap (λ b. pick (b && (start == link))) (number_itself of) ∙ ap pick t
    ∙ ap (λ k. Some (new_row of tuple up k)) (same_numbers start link t))
    (λ f. ap (λ b. pick (b && (start == link))) (number_itself of) ∙ ap pick f ∙ new_at up of tuple link (start + 1) n (past f) (omega arith))
  where
    pick : Bool → Option LinkRow
    pick b = cond b (Some (new_row of tuple up start))
        (find (is_link of link) (map (new_row of tuple up) (range_with_len (start + 1) n)))

    past : (start == link) ≡ false → start + 1 ≤ link
    past f = grind (arith, nat_tests)

pub link_new : (up : List Bool) (of : ℕ) (tuple : List ℕ) (link : ℕ) → link < length tuple
    → link_at (new_rows of tuple up) of link ≡ Some (new_row of tuple up link)
link_new up of tuple link lt = new_at up of tuple link 0 (length tuple) (omega arith) (omega arith)

-- no row of a new map is of another one
pub link_other : (up : List Bool) (of other : ℕ) (tuple : List ℕ) (link : ℕ) → of ≢ other → link_at (new_rows of tuple up) other link ≡ None
link_other up of other tuple link ne =
    find_none (is_link other link) (new_rows of tuple up)
    (λ j row e. let is = row_in up of tuple j row e in
    by_bool (is_link other link row) (λ t. absurd (ne (sym (ap (λ r. r.map) is.2) ∙ same_numbers row.map other (both_true (row.map == other) _ t).0))) (λ f. f))

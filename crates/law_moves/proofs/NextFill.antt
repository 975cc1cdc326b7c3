-- The keys that an old lead has still to move: which one comes next, and what the new map is known to have once none is left.
use Rattle.law_moves.proofs.Imports.{[], ◌&&◌, ◌==◌, ◌||◌, ◌∙◌, ◌∷◌, ◌≡◌, ◌⊎◌, Cell, Chain, Equal, Greater, In, Key, Less, LinkRow, List, None, Option}
use Rattle.law_moves.proofs.Imports.{Ordering, PairState, Some, State, Stored, Table, ap, arith, at, at-empty, by_bool, by_test, cell_cmp, cell_cmp_same}
use Rattle.law_moves.proofs.Imports.{comes_before, comes_next, cond, earlier, false, fill_left, fill_of, filter, first_key, flat_map, in_filter, in_former}
use Rattle.law_moves.proofs.Imports.{in_kept, in_later, in_mapped, in_none, inl, inr, is_eq, is_on, is_some, key_at, keys_in, keys_of, lookup, map}
use Rattle.law_moves.proofs.Imports.{nat_cmp, nat_tests, next_fill, none_some, not, number_itself, ranked, refl, region_of, region_to_move, same_numbers}
use Rattle.law_moves.proofs.Imports.{same_some, subst, sym, true, true_false, unwrap_or, ℕ}
use Rattle.std.specs.BTreeMap.{is_at}
use Rattle.law_moves.specs.LeftToMove.{IsKept, IsKnown, IsNext, IsOurs, last_told}

-- ### The order of keys

-- a key is another one, or comes after it: by its block, or by its epoch, which falls
abbrev pub IsAfter : Key → Key → Type 0
IsAfter one other = comes_before one other ≡ false

after_itself : (key : Key) → IsAfter key key
after_itself key = grind (arith, nat_tests)

following_on : (one mid other : Key) → IsAfter one mid → IsAfter mid other → IsAfter one other
following_on one mid other a b = grind (arith, nat_tests, a, b)

after_before : (one other : Key) → comes_before other one ≡ true → IsAfter one other
after_before one other before = grind (arith, nat_tests, before)

-- of one map: a key that another one does not come before is that one, or comes before it
pub here_or_before : (key last : Key) → key.map ≡ last.map → comes_before last key ≡ false → (key ≡ last) ⊎ (comes_before key last ≡ true)
here_or_before key last map e = by_bool (comes_before key last) (λ before. inr before) (λ no.
    let block : key.block ≡ last.block = grind (arith, nat_tests, e, no) in
    let epoch : key.epoch ≡ last.epoch = grind (arith, nat_tests, e, no) in
    inl (λ i. record { map = map i; block = block i; epoch = epoch i }))

-- ### The first of some keys

none_first : (keys : List Key) → first_key keys ≡ None → keys ≡ []
none_first [] e = refl
none_first (key ∷ keys) e = none_some e refl

-- it is one of them, and none of them comes before it
pub record IsFirst (keys : List Key) (first : Key) : Type 0 where
  pub among : In first keys
  pub least : (key : Key) → In key keys → IsAfter key first

first_is : (keys : List Key) (first : Key) → first_key keys ≡ Some first → IsFirst keys first
unfolding In
first_is [] first e = none_some refl e
first_is (key ∷ keys) first e = by (first_key keys) refl (λ one some. first_is keys one some) e
  where
    by : (o : Option Key) → first_key keys ≡ o → ((one : Key) → first_key keys ≡ Some one → IsFirst keys one) → Some (earlier key o) ≡ Some first
        → IsFirst (key ∷ keys) first
    by None none of_rest is = subst (IsFirst (key ∷ keys)) (same_some is) (record {
      among = inl refl;
      least = λ other i. elim i [
        | inl same ↦ subst (λ k. IsAfter k key) (sym same) (after_itself key)
        | inr later ↦ absurd (subst (In other) (none_first keys none) later)
      ];
    })
    by (Some one) some of_rest is =
        let rest = of_rest one some in
        by_test (λ k. Some k ≡ Some first → IsFirst (key ∷ keys) first) (comes_before one key) one key
        (λ before same. subst (IsFirst (key ∷ keys)) (same_some same) (record {
          among = inr rest.among;
          least = λ other i. elim i [
            | inl here ↦ subst (λ k. IsAfter k one) (sym here) (after_before key one before)
            | inr later ↦ rest.least other later
          ];
        }))
        (λ following same. subst (IsFirst (key ∷ keys)) (same_some same) (record {
          among = inl refl;
          least = λ other i. elim i [
            | inl here ↦ subst (λ k. IsAfter k key) (sym here) (after_itself key)
            | inr later ↦ following_on other one key (rest.least other later) following
          ];
        })) is

-- ### The keys of a link and a region

pub in_flat : {A B : Type 0} (f : A → List B) (xs : List A) (x : A) (y : B) → In x xs → In y (f x) → In y (flat_map f xs)
unfolding In
in_flat f [] x y i h = absurd i
in_flat f (z ∷ xs) x y (inl e) h = in_former y (f z) (flat_map f xs) (subst (λ a. In y (f a)) e h)
in_flat f (z ∷ xs) x y (inr i) h = in_later y (f z) (flat_map f xs) (in_flat f xs x y i h)

-- what is found in a table is one of its rows
at_in : {K X : Type 0} (R : K → K → Ordering) (t : Table K X) (q : K) (x : X) → ((k : K) → R q k ≡ Equal → q ≡ k) → at R t q ≡ Some x → In (q, x) t
unfolding In at
at_in R [] q x same h = none_some refl h
at_in {K} {X} R (e ∷ es) q x same h =
    elim (R q e.0) as (λ r. R q e.0 ≡ r → cond (is_eq r) (Some e.1) (lookup (is_at (R q)) es) ≡ Some x → In (q, x) (e ∷ es)) [
      | Less ↦ λ is k. inr (at_in R es q x same k)
      | Equal ↦ λ is k. inl (λ i. (same e.0 is i, sym (same_some k) i))
      | Greater ↦ λ is k. inr (at_in R es q x same k)
    ] refl h

module _ (state : State) (row : LinkRow) (region : ℕ) (own : PairState) where
  key_in : (cell : Cell) (epoch : ℕ) → IsOurs state row region cell → IsKept own cell epoch → In (key_at cell epoch) (keys_in state row region own)
  key_in cell epoch ours kept = by (at cell_cmp own.store.chains cell) refl
    where
      test : (is_on state row cell && (region_of cell.block == region)) ≡ true
      test = λ i. ours.on i && (subst (λ k. (region_of cell.block == k) ≡ true) ours.of (number_itself (region_of cell.block))) i

      entry_of : (chain : Chain) (o : Option Stored) → at nat_cmp chain epoch ≡ o → is_some (at nat_cmp chain epoch) ≡ true
          → (entry : Stored) × (at nat_cmp chain epoch ≡ Some entry)
      entry_of chain None none is = true_false is (ap is_some none)
      entry_of chain (Some entry) some is = (entry, some)

      by : (o : Option Chain) → at cell_cmp own.store.chains cell ≡ o → In (key_at cell epoch) (keys_in state row region own)
      by None none =
          true_false kept (ap (λ (o : Option Chain). is_some (at nat_cmp (unwrap_or o []) epoch)) none ∙ ap is_some (at-empty nat_cmp epoch))
      by (Some chain) some =
          let here = at_in cell_cmp own.store.chains cell chain (cell_cmp_same cell) some in
          let found : is_some (at nat_cmp chain epoch) ≡ true =
          sym (ap (λ (o : Option Chain). is_some (at nat_cmp (unwrap_or o []) epoch)) some) ∙ kept in
          let entry = entry_of chain (at nat_cmp chain epoch) refl found in
          in_flat keys_of _ (cell, chain) (key_at cell epoch)
          (in_kept (λ (held : Cell × Chain). is_on state row held.0 && (region_of held.0.block == region)) own.store.chains (cell, chain) here test)
          (in_mapped (λ (r : ℕ × Stored). key_at cell r.0) chain (epoch, entry.0)
          (at_in nat_cmp chain epoch entry.0 (λ k e. ranked epoch k Equal (sym e)) entry.1))

  -- what does not come next is known to be there
  known_by : (o : Option Key) → last_told row own ≡ o → (key : Key) → comes_next region o key ≡ false → IsKnown row region own key
  known_by None is key e = true_false refl e
  known_by (Some until) is key e =
      by_bool (region_of until.block == region)
      (λ same. record {
        until = until;
        is = is;
        of = same_numbers (region_of until.block) region same;
        so = sym (ap (λ b. not b || comes_before until key) same) ∙ e;
      })
      (λ other. true_false (ap (λ b. not b || comes_before until key) other) e)

  -- once nothing is left, all of the link and the region is known to be there
  pub none_left : next_fill state row region own ≡ None → (cell : Cell) (epoch : ℕ) → IsOurs state row region cell → IsKept own cell epoch
      → IsKnown row region own (key_at cell epoch)
  unfolding next_fill
  none_left none cell epoch ours kept =
      let keys = keys_in state row region own in
      let i = key_in cell epoch ours kept in
      by_bool (comes_next region (last_told row own) (key_at cell epoch))
      (λ new. in_none (key_at cell epoch) (subst (In (key_at cell epoch)) (none_first (filter (comes_next region (last_told row own)) keys) none)
      (in_kept (comes_next region (last_told row own)) keys (key_at cell epoch) i new)))
      (λ known. known_by (last_told row own) refl (key_at cell epoch) known)

  -- and of what comes before the next key, all
  pub next_is : (next : Key) → next_fill state row region own ≡ Some next → IsNext state row region own next
  unfolding next_fill
  next_is next e =
      let keys = keys_in state row region own in
      let first = first_is (filter (comes_next region (last_told row own)) keys) next e in
      let here = in_filter (comes_next region (last_told row own)) keys next first.among in
      record {
        among = here.0;
        new = here.1;
        before = λ cell epoch ours kept before.
            let i = key_in cell epoch ours kept in
            by_bool (comes_next region (last_told row own) (key_at cell epoch))
            (λ new. true_false before
            (first.least (key_at cell epoch) (in_kept (comes_next region (last_told row own)) keys (key_at cell epoch) i new)))
            (λ known. known_by (last_told row own) refl (key_at cell epoch) known);
      }

-- of a Moved that was wanted (law_log's WasMoving), nothing was left
pub nothing_left : (state : State) (server region : ℕ) (row : LinkRow) (own : PairState) → region_to_move state server row ≡ Some region
    → fill_of state server row own ≡ None → next_fill state row region own ≡ None
nothing_left state server region row own moves left = sym (ap (fill_left state server row own) moves) ∙ left

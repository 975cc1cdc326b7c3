-- Chains after puts.
use Rattle.std.proofs.Common.{◌≡◌, ◌≢◌, ◌⊎◌, inl, inr, ℕ, true, false, List, [], ◌∷◌, Option, Some, None, refl, sym, subst, ap, ◌∙◌, arith}
use Rattle.std.specs.Prelude.{unwrap_or}
use Rattle.std.proofs.lemmas.Bool.{cases_Bool, cases_eq}
use Rattle.std.proofs.lemmas.Bool.Decides.{nat_tests}
use Rattle.std.specs.Ordering.{nat_cmp}
use Rattle.std.specs.declared.cmp.Ordering.TheVariants.{Equal}
use Rattle.std.specs.Cmp.{nat_cmp_total, ranked}
use Rattle.petal_base.specs.declared.cell.Cell.{Cell}
use Rattle.petal_base.specs.declared.cell.Key.{Key}
use Rattle.petal_base.specs.Cells.{cell_of}
use Rattle.petal_table.specs.Table.{Table, at, put}
use Rattle.petal_table.proofs.Rows.{at-empty}
use Rattle.spec_rules.specs.Store.{Chain, Stored, cell_cmp, chain_in, chains_with}
use Rattle.spec_rules.proofs.CellTables.{cell_cmp_total, cell_cmp_same, cell_same, cell_apart}
use Rattle.physical_map.specs.Keys.{key_below, same_key, placed}
use Rattle.kept_chains.specs.Chains.{chains_by}
use Rattle.kept_chains.proofs.Puts.{IsSorted, sorted_put, put_over, put_stays, put_swap}

pub cell_cases : (a b : Cell) → (a ≡ b) ⊎ (a ≢ b)
cell_cases a b = elim (cases_eq a.map b.map) [
  | inl m ↦ elim (cases_eq a.block b.block) [
    | inl n ↦ inl (λ i. record { map = m i; block = n i })
    | inr n ↦ inr (λ e. n (ap (λ (c : Cell). c.block) e))
  ]
  | inr m ↦ inr (λ e. m (ap (λ (c : Cell). c.map) e))
]

-- the chains with an entry in a cell's chain
abbrev pub with_at : Table Cell Chain → Cell → ℕ → Stored → Table Cell Chain
with_at t c e x = put cell_cmp t c (put nat_cmp (chain_in t c) e x)

chain_put : (t : Table Cell Chain) (c : Cell) (chain : Chain) → chain_in (put cell_cmp t c chain) c ≡ chain
chain_put t c chain = ap (λ (o : Option Chain). unwrap_or o []) (cell_same t c chain)

chain_put_apart : (t : Table Cell Chain) (c : Cell) (chain : Chain) (q : Cell) → q ≢ c → chain_in (put cell_cmp t c chain) q ≡ chain_in t q
chain_put_apart t c chain q ne = ap (λ (o : Option Chain). unwrap_or o []) (cell_apart t c chain q ne)

pub chain_here : (t : Table Cell Chain) (c : Cell) (e : ℕ) (x : Stored) → chain_in (with_at t c e x) c ≡ put nat_cmp (chain_in t c) e x
chain_here t c e x = chain_put t c (put nat_cmp (chain_in t c) e x)

pub chain_apart : (t : Table Cell Chain) (c : Cell) (e : ℕ) (x : Stored) (q : Cell) → q ≢ c → chain_in (with_at t c e x) q ≡ chain_in t q
chain_apart t c e x q ne = chain_put_apart t c (put nat_cmp (chain_in t c) e x) q ne

-- cells and epochs rise
pub record IsWell (t : Table Cell Chain) : Type 0 where
  pub sorted : IsSorted cell_cmp t
  pub each : (c : Cell) → IsSorted nat_cmp (chain_in t c)

well_none : IsWell []
well_none = record { sorted = tt; each = λ c. subst (λ (o : Option Chain). IsSorted nat_cmp (unwrap_or o [])) (sym (at-empty cell_cmp c)) tt }

well_with : (t : Table Cell Chain) (c : Cell) (e : ℕ) (x : Stored) → IsWell t → IsWell (with_at t c e x)
well_with t c e x well =
    let own : IsSorted nat_cmp (put nat_cmp (chain_in t c) e x) = sorted_put nat_cmp nat_cmp_total (chain_in t c) e x (well.each c) in
    record {
      sorted = sorted_put cell_cmp cell_cmp_total t c (put nat_cmp (chain_in t c) e x) well.sorted;
      each = λ q. elim (cell_cases q c) [
        | inl same ↦ subst (λ (d : Cell). IsSorted nat_cmp (chain_in (with_at t c e x) d)) (sym same) (subst (IsSorted nat_cmp) (sym (chain_here t c e x)) own)
        | inr ne ↦ subst (IsSorted nat_cmp) (sym (chain_apart t c e x q ne)) (well.each q)
      ];
    }

over : (t : Table Cell Chain) (c : Cell) (e : ℕ) (x y : Stored) → with_at (with_at t c e x) c e y ≡ with_at t c e y
over t c e x y =
    ap (λ (chain : Chain). put cell_cmp (with_at t c e x) c (put nat_cmp chain e y)) (chain_here t c e x)
    ∙ put_over cell_cmp cell_cmp_total t c (put nat_cmp (chain_in t c) e x) (put nat_cmp (put nat_cmp (chain_in t c) e x) e y)
    ∙ ap (put cell_cmp t c) (put_over nat_cmp nat_cmp_total (chain_in t c) e x y)

one_number : (a b : ℕ) → nat_cmp a b ≡ Equal → a ≡ b
one_number a b e = ranked a b Equal (sym e)

swap_here : (t : Table Cell Chain) (c : Cell) (e f : ℕ) (x y : Stored) → IsWell t → e ≢ f → with_at (with_at t c e x) c f y ≡ with_at (with_at t c f y) c e x
swap_here t c e f x y well ne =
    ap (λ (chain : Chain). put cell_cmp (with_at t c e x) c (put nat_cmp chain f y)) (chain_here t c e x)
    ∙ put_over cell_cmp cell_cmp_total t c _ _
    ∙ ap (put cell_cmp t c) (put_swap nat_cmp nat_cmp_total one_number (chain_in t c) e f x y ne (well.each c))
    ∙ sym (put_over cell_cmp cell_cmp_total t c (put nat_cmp (chain_in t c) f y) (put nat_cmp (put nat_cmp (chain_in t c) f y) e x))
    ∙ sym (ap (λ (chain : Chain). put cell_cmp (with_at t c f y) c (put nat_cmp chain e x)) (chain_here t c f y))

swap_apart : (t : Table Cell Chain) (c d : Cell) (e f : ℕ) (x y : Stored) → IsWell t → c ≢ d → with_at (with_at t c e x) d f y ≡ with_at (with_at t d f y) c e x
swap_apart t c d e f x y well ne =
    ap (λ (chain : Chain). put cell_cmp (with_at t c e x) d (put nat_cmp chain f y)) (chain_apart t c e x d (λ same. ne (sym same)))
    ∙ put_swap cell_cmp cell_cmp_total cell_cmp_same t c d (put nat_cmp (chain_in t c) e x) (put nat_cmp (chain_in t d) f y) ne well.sorted
    ∙ sym (ap (λ (chain : Chain). put cell_cmp (with_at t d f y) c (put nat_cmp chain e x)) (chain_apart t d f y c ne))

other_epoch : (a b : Key) → same_key a b ≡ false → a.map ≡ b.map → a.block ≡ b.block → a.epoch ≢ b.epoch
other_epoch a b differ m n e = grind (arith, nat_tests)

swap : (t : Table Cell Chain) (a b : Key) (x y : Stored) → IsWell t → same_key a b ≡ false
    → chains_with (chains_with t a x) b y ≡ chains_with (chains_with t b y) a x
swap t a b x y well differ = elim (cell_cases (cell_of a) (cell_of b)) [
  | inl same ↦
      let ne = other_epoch a b differ (ap (λ (c : Cell). c.map) same) (ap (λ (c : Cell). c.block) same) in
      subst (λ (d : Cell). with_at (with_at t (cell_of a) a.epoch x) d b.epoch y ≡ with_at (with_at t d b.epoch y) (cell_of a) a.epoch x) same
      (swap_here t (cell_of a) a.epoch b.epoch x y well ne)
  | inr ne ↦ swap_apart t (cell_of a) (cell_of b) a.epoch b.epoch x y well ne
]

-- to put what stands at a key changes nothing
pub put_again : (t : Table Cell Chain) (k : Key) (x : Stored) → IsWell t → at nat_cmp (chain_in t (cell_of k)) k.epoch ≡ Some x → chains_with t k x ≡ t
put_again t k x well is = by (at cell_cmp t (cell_of k)) refl
  where
    by : (o : Option Chain) → at cell_cmp t (cell_of k) ≡ o → chains_with t k x ≡ t
    by None none =
        let nothing : None ≡ Some x = sym (ap (λ (o : Option Chain). at nat_cmp (unwrap_or o []) k.epoch) none ∙ at-empty nat_cmp k.epoch) ∙ is in
        absurd (cc)
    by (Some chain) there =
        ap (put cell_cmp t (cell_of k))
        (put_stays nat_cmp nat_cmp_total one_number (chain_in t (cell_of k)) k.epoch x (well.each (cell_of k)) is ∙ ap (λ (o : Option Chain). unwrap_or o []) there)
        ∙ put_stays cell_cmp cell_cmp_total cell_cmp_same t (cell_of k) chain well.sorted there

key_map : (a b : Key) → same_key a b ≡ true → a.map ≡ b.map
key_map a b same = grind (arith, nat_tests)

key_block : (a b : Key) → same_key a b ≡ true → a.block ≡ b.block
key_block a b same = grind (arith, nat_tests)

key_epoch : (a b : Key) → same_key a b ≡ true → a.epoch ≡ b.epoch
key_epoch a b same = grind (arith, nat_tests)

pub one_key : (a b : Key) → same_key a b ≡ true → a ≡ b
one_key a b same = λ i. record { map = key_map a b same i; block = key_block a b same i; epoch = key_epoch a b same i }

below_differs : (a b : Key) → key_below a b ≡ true → same_key a b ≡ false
below_differs a b below = grind (arith, nat_tests)

module _ {A : Type 0} (key : A → Key) (stored : A → Stored) where
  pub well_by : (xs : List A) → IsWell (chains_by key stored xs)
  well_by [] = well_none
  well_by (x ∷ xs) = well_with (chains_by key stored xs) (cell_of (key x)) (key x).epoch (stored x) (well_by xs)

  -- to put into the list is to put into the chains
  pub chains_placed : (xs : List A) (x : A) → chains_by key stored (placed key xs x) ≡ chains_with (chains_by key stored xs) (key x) (stored x)
  chains_placed [] x = refl
  chains_placed (y ∷ ys) x =
      let t = chains_by key stored ys in
      elim (cases_Bool (key_below (key y) (key x))) [
        | inl before ↦ rw before
            (ap (λ (u : Table Cell Chain). chains_with u (key y) (stored y)) (chains_placed ys x)
            ∙ sym (swap t (key y) (key x) (stored y) (stored x) (well_by ys) (below_differs (key y) (key x) before)))
        | inr before ↦ elim (cases_Bool (same_key (key y) (key x))) [
          | inl same ↦ rw (before, same)
              (sym (ap (λ (k : Key). chains_with (chains_with t k (stored y)) (key x) (stored x)) (one_key (key y) (key x) same)
              ∙ over t (cell_of (key x)) (key x).epoch (stored y) (stored x)))
          | inr same ↦ rw (before, same) refl
        ]
      ]

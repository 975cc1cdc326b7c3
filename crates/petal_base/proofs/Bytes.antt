-- Bytes that are compared many at a time.
use Rattle.std.proofs.Common.{◌≡◌, ◌↔◌, ℕ, ◌+◌, ◌-◌, ◌*◌, ◌%◌, ◌^◌, List, [], ◌∷◌, ◌++◌, Bool, true, false, not, length, take}
use Rattle.std.proofs.Common.{drop, map, sym, refl, ◌∙◌, ap, arith, IsTrue}
use Rattle.std.proofs.Math.Dec.{eqb}
use Rattle.std.proofs.Math.Seq.{take-add}
use Rattle.std.proofs.lemmas.Bool.{eq-eqb, eqb-true}
use Rattle.std.proofs.lemmas.Simd.{tops_compared, mask_l-mod, length-zip2}
use Rattle.std.specs.Simd.Lanes.{zip2, mask_l, top}
use mathlib.Core.Bool.{cond}
use mir.Syntax.{w8}
use mir.Val.{bits, hbits}

abbrev unequal : ℕ → ℕ → Bool
unequal x y = not (eqb x y)

-- the first bit says that one pair is equal
first_bit : (b : Bool) (n : ℕ) → cond (not b) 1 0 + 2 * n ≡ 0 → (b ≡ true) × (n ≡ 0)
first_bit true n e = (refl, omega (arith, e))
first_bit false n e = absurd (omega (arith, e))

unmarked : (xs ys : List ℕ) → length xs ≡ length ys → mask_l (zip2 unequal xs ys) ≡ 0 → xs ≡ ys
unmarked [] [] l e = refl
unmarked [] (y ∷ ys) l e = absurd (omega (arith, l))
unmarked (x ∷ xs) [] l e = absurd (omega (arith, l))
unmarked (x ∷ xs) (y ∷ ys) l e =
    let both = first_bit (eqb x y) (mask_l (zip2 unequal xs ys)) e in
    let same = eqb-true x y both.0 in
    let rest = unmarked xs ys (omega (arith, l)) both.1 in
    cc (same, rest)

unmarked_self : (xs : List ℕ) → mask_l (zip2 unequal xs xs) ≡ 0
unmarked_self [] = refl
unmarked_self (x ∷ xs) =
    ap (λ (b : Bool). cond (not b) 1 0 + 2 * mask_l (zip2 unequal xs xs)) (eq-eqb x x refl)
    ∙ (let e : 0 + 2 * mask_l (zip2 unequal xs xs) ≡ 0 = omega (arith, unmarked_self xs) in e)

-- what a comparison of 64 bytes in one step says
pub compared : (xs ys : List ℕ) → length xs ≡ 64 → length ys ≡ 64
    → IsTrue (eqb (mask_l (map (top (hbits w8)) (zip2 (λ a b. cond (unequal a b) (2 ^ bits w8 - 1) 0) xs ys)) % 2 ^ 64) 0) ↔ (xs ≡ ys)
compared xs ys long long' =
    let marks : List Bool = zip2 unequal xs ys in
    let is : mask_l (map (top (hbits w8)) (zip2 (λ a b. cond (unequal a b) (2 ^ bits w8 - 1) 0) xs ys)) % 2 ^ 64 ≡ mask_l marks =
    ap (λ (l : List Bool). mask_l l % 2 ^ 64) (tops_compared w8 unequal xs ys)
    ∙ mask_l-mod marks 64 (omega (arith, length-zip2 unequal xs ys (long ∙ sym long'), long)) in (
      λ yes. unmarked xs ys (long ∙ sym long') (sym is ∙ eqb-true _ 0 yes),
      λ same. eq-eqb _ 0 (is ∙ ap (λ (l : List ℕ). mask_l (zip2 unequal xs l)) (sym same) ∙ unmarked_self xs),
    )

-- what is the same up to a place, and from there on, is the same further on
pub same_further : (at n : ℕ) (xs ys : List ℕ) → take at xs ≡ take at ys → take n (drop at xs) ≡ take n (drop at ys) → take (at + n) xs ≡ take (at + n) ys
same_further at n xs ys front next =
    take-add at n xs
    ∙ ap (λ (l : List ℕ). l ++ take n (drop at xs)) front
    ∙ ap (λ (l : List ℕ). take at ys ++ l) next
    ∙ sym (take-add at n ys)

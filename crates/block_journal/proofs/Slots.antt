-- Where records lie, and what bytes of a range mean for the others.
use Rattle.std.proofs.Common.{◌≡◌, ◌⊎◌, inl, inr, ℕ, suc, ◌+◌, ◌-◌, ◌*◌, ◌<◌, ◌≤◌, List, take, drop, get_or, sym, ◌∙◌, ap, arith}
use Rattle.std.proofs.Math.Nat.{mul-suc, mul-le-mul_left}
use Rattle.std.proofs.lemmas.List.{get_or-drop, drop-take, drop-drop, take-take, get_or-take}
use Rattle.petal_disk.specs.Disk.{Torn, part}
use Rattle.petal_disk.proofs.Tearing.{torn_front, torn_rest}

-- a record ends where the next one begins, or before
pub apart : (r i k : ℕ) → i < k → r * i + r ≤ r * k
apart r i k lt = omega (arith, mul-suc r i, mul-le-mul_left {m = suc i} {n = k} r lt)

pub up_to : (r i k : ℕ) → i ≤ k → r * i ≤ r * k
up_to r i k le = mul-le-mul_left {m = i} {n = k} r le

-- a place outside a range
abbrev pub Outside : ℕ → ℕ → ℕ → ℕ → Type 0
Outside at n k m = (k + m ≤ at) ⊎ (at + n ≤ k)

pub same_byte : (at n k : ℕ) (x y : List ℕ) → Torn at n x y → Outside at n k 1 → get_or y k 0 ≡ get_or x k 0
same_byte at n k x y torn where_it_is = elim where_it_is [
  | inl before ↦
      sym (get_or-take (k + 1) y k 0 (omega arith))
      ∙ ap (λ (l : List ℕ). get_or l k 0) (torn_front (k + 1) at n x y before torn)
      ∙ get_or-take (k + 1) x k 0 (omega arith)
  | inr following ↦
      let here : k + 0 ≡ k = omega arith in
      ap (λ (j : ℕ). get_or y j 0) (sym here)
      ∙ sym (get_or-drop k y 0 0)
      ∙ ap (λ (l : List ℕ). get_or l 0 0) (torn_rest k at n x y following torn)
      ∙ get_or-drop k x 0 0
      ∙ ap (λ (j : ℕ). get_or x j 0) here
]

pub same_part : (at n k m : ℕ) (x y : List ℕ) → Torn at n x y → Outside at n k m → part y k m ≡ part x k m
same_part at n k m x y torn where_it_is = elim where_it_is [
  | inl before ↦ sym (drop-take k m y) ∙ ap (λ (l : List ℕ). drop k l) (torn_front (k + m) at n x y before torn) ∙ drop-take k m x
  | inr following ↦ ap (λ (l : List ℕ). take m l) (torn_rest k at n x y following torn)
]

-- a byte of a part
pub byte_of_part : (file : List ℕ) (at n k : ℕ) → k < n → get_or (part file at n) k 0 ≡ get_or file (at + k) 0
byte_of_part file at n k lt = get_or-take n (drop at file) k 0 lt ∙ get_or-drop at file k 0

-- a part of a part
pub part_of_part : (file : List ℕ) (at n k m : ℕ) → k + m ≤ n → part (part file at n) k m ≡ part file (at + k) m
part_of_part file at n k m le =
    let split : k + (n - k) ≡ n = omega arith in
    ap (λ (j : ℕ). take m (drop k (take j (drop at file)))) (sym split)
    ∙ ap (λ (l : List ℕ). take m l) (drop-take k (n - k) (drop at file))
    ∙ take-take m (n - k) (drop k (drop at file)) (omega arith)
    ∙ ap (λ (l : List ℕ). take m l) (drop-drop k at file)

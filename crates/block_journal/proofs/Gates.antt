-- What a write over the gate leaves.
use Rattle.std.proofs.Common.{◌≡◌, ◌⊎◌, inl, inr, ℕ, ◌+◌, ◌-◌, ◌≤◌, List, [], ◌∷◌, ◌++◌, length, take, drop, refl, sym, ◌∙◌, ap, arith}
use Rattle.std.proofs.lemmas.Bool.{cases_eq}
use Rattle.std.proofs.lemmas.List.{take_all, length-drop}
use Rattle.petal_disk.specs.Disk.{Torn, Only, LeavesOnly, LeftByWrite, written}
use Rattle.petal_disk.proofs.Moments.{joined, weaker}
use Rattle.petal_disk.proofs.Tearing.{torn_front}
use Rattle.block_journal.specs.Gate.{IsShut, BeginsOpen}

-- the bytes of a closed gate stay those of one where it is not written
pub shut_still : (at n : ℕ) (x y : List ℕ) → 1 ≤ at → Torn at n x y → IsShut x → IsShut y
shut_still at n x y le torn shut is = shut (sym (torn_front 1 at n x y le torn) ∙ is)

-- what is written after a first byte
after_one : (f : ℕ) (fs hs : List ℕ) → written (f ∷ fs) 1 (drop 1 (0 ∷ hs)) ≡ f ∷ (hs ++ drop (1 + length hs) (f ∷ fs))
after_one f fs hs = refl

-- and over it
over_first : (h : ℕ) (hs file : List ℕ) → h ∷ (hs ++ drop (1 + length hs) file) ≡ written file 0 (h ∷ hs)
over_first h hs file = ap (λ (k : ℕ). h ∷ (hs ++ drop k file)) (let e : 1 + length hs ≡ 0 + length (h ∷ hs) = omega arith in e)

-- all after the first byte
pub all_following : (xs : List ℕ) → take (length xs - 1) (drop 1 xs) ≡ drop 1 xs
all_following xs = take_all (length xs - 1) (drop 1 xs) (omega (arith, length-drop 1 xs))

-- a write over a closed gate with nothing else pending leaves it closed, or the header that stands after it
pub torn_shut : (file header x y : List ℕ) → BeginsOpen header → length header ≤ length file → x ≡ written file 1 (drop 1 header) → Torn 0 1 x y
    → IsShut y ⊎ (y ≡ written file 0 header)
torn_shut file [] x y opens fits is torn = absurd (cc)
torn_shut [] (h ∷ hs) x y opens fits is torn = absurd (omega arith)
torn_shut (f ∷ fs) (h ∷ hs) [] y opens fits is torn = absurd (cc)
torn_shut (f ∷ fs) (h ∷ hs) (a ∷ x) [] opens fits is torn = absurd (let e = torn.size in omega arith)
torn_shut (f ∷ fs) (h ∷ hs) (a ∷ x) (b ∷ y) opens fits is torn = elim (cases_eq b 165) [
  | inl is_gate ↦ inr (let rest : y ≡ x = torn.after in let head : h ∷ [] ≡ 165 ∷ [] = opens in let tail = is ∙ after_one f fs hs in
      let goal : b ∷ y ≡ h ∷ (hs ++ drop (1 + length hs) (f ∷ fs)) = cc in goal ∙ over_first h hs (f ∷ fs))
  | inr other ↦ inl (λ is. other (let head : b ∷ [] ≡ 165 ∷ [] = is in cc))
]

module _ {D : Type 0} (moment : D → ℕ) (left_since : D → ℕ → List ℕ → Type 0) where
  -- what stands after the gate alone is written
  pub after_gate : (d0 d1 : D) (n : ℕ) (leave0 : List ℕ → Type 0) (file header : List ℕ) → Only file leave0 → IsShut file
      → LeavesOnly moment left_since d0 d1 (LeftByWrite 1 n leave0) → LeavesOnly moment left_since d0 d1 (λ c. IsShut c ⊎ (c ≡ written file 0 header))
  after_gate d0 d1 n leave0 file header only shut first =
      weaker moment left_since d0 d1 (LeftByWrite 1 n leave0) (λ c. IsShut c ⊎ (c ≡ written file 0 header)) first
      (λ c left. inl (shut_still 1 n left.0 c (omega arith) left.2 (λ is. shut (sym (ap (take 1) (only left.0 left.1)) ∙ is))))

  -- a header is written, and then its gate
  pub heading : (d0 d1 d2 : D) (n : ℕ) (leave0 leave1 : List ℕ → Type 0) (file mid header : List ℕ) → Only file leave0 → IsShut file → Only mid leave1
      → BeginsOpen header → length header ≤ length file → mid ≡ written file 1 (drop 1 header)
      → LeavesOnly moment left_since d0 d1 (LeftByWrite 1 n leave0) → LeavesOnly moment left_since d1 d2 (LeftByWrite 0 1 leave1)
      → LeavesOnly moment left_since d0 d2 (λ c. IsShut c ⊎ (c ≡ written file 0 header))
  heading d0 d1 d2 n leave0 leave1 file mid header only shut only' opens fits is first second =
      joined moment left_since d0 d1 d2 (λ c. IsShut c ⊎ (c ≡ written file 0 header)) (LeftByWrite 0 1 leave1)
      (after_gate d0 d1 n leave0 file header only shut first) second
      (λ c left. torn_shut file header left.0 c opens fits (only' left.0 left.1 ∙ is) left.2)

  -- the gate is closed, and then a range after it is written
  pub clearing : (d0 d1 d2 : D) (at n : ℕ) (leave0 leave1 : List ℕ → Type 0) (file : List ℕ) → 1 ≤ at → Only file leave1 → IsShut file
      → LeavesOnly moment left_since d0 d1 (λ c. leave0 c ⊎ IsShut c) → LeavesOnly moment left_since d1 d2 (LeftByWrite at n leave1)
      → LeavesOnly moment left_since d0 d2 (λ c. leave0 c ⊎ IsShut c)
  clearing d0 d1 d2 at n leave0 leave1 file following only shut first second =
      joined moment left_since d0 d1 d2 (λ c. leave0 c ⊎ IsShut c) (LeftByWrite at n leave1) first second
      (λ c left. inr (shut_still at n left.0 c following left.2 (λ is. shut (sym (ap (take 1) (only left.0 left.1)) ∙ is))))

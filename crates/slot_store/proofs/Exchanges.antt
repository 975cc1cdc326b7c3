-- An exchange of two places keeps the order and the places each other's way back.
use Rattle.std.proofs.Common.{◌≡◌, ◌≢◌, ℕ, ◌<◌, List, length, set, get_or, sym, ◌∙◌, ap, arith, inl, inr}
use Rattle.std.proofs.lemmas.Bool.{cases_eq}
use Rattle.std.proofs.lemmas.List.{length-set, get_or-set_same, get_or-set_other}
use Rattle.slot_store.specs.Turn.{IsBackBy, exchanged}

pub length-exchanged : (f g : List ℕ) (k j : ℕ) → length (exchanged f g k j) ≡ length f
length-exchanged f g k j = length-set (set f k j) (get_or g j 0) (get_or f k 0) ∙ length-set f k j

-- what stands after an exchange
pub exchanged-other : (f g : List ℕ) (k j t : ℕ) → get_or g j 0 < length f → t ≡ get_or g j 0 → get_or (exchanged f g k j) t 0 ≡ get_or f k 0
exchanged-other f g k j t within is =
    ap (λ (i : ℕ). get_or (exchanged f g k j) i 0) is ∙ get_or-set_same (set f k j) (get_or g j 0) (get_or f k 0) 0 (omega (arith, length-set f k j))

pub exchanged-here : (f g : List ℕ) (k j t : ℕ) → k < length f → t ≢ get_or g j 0 → t ≡ k → get_or (exchanged f g k j) t 0 ≡ j
exchanged-here f g k j t within not is =
    get_or-set_other (set f k j) (get_or g j 0) t (get_or f k 0) 0 not ∙ ap (λ (i : ℕ). get_or (set f k j) i 0) is ∙ get_or-set_same f k j 0 within

pub exchanged-rest : (f g : List ℕ) (k j t : ℕ) → t ≢ get_or g j 0 → t ≢ k → get_or (exchanged f g k j) t 0 ≡ get_or f t 0
exchanged-rest f g k j t not nor =
    get_or-set_other (set f k j) (get_or g j 0) t (get_or f k 0) 0 not ∙ get_or-set_other f k t j 0 nor

-- where g leads back, f goes from two numbers to one only where they are one
pub one_way : (n : ℕ) (f g : List ℕ) → IsBackBy n f g → (k t : ℕ) → k < n → t < n → get_or f k 0 ≡ get_or f t 0 → k ≡ t
one_way n f g back k t within less is = sym (back k within).1 ∙ ap (λ (i : ℕ). get_or g i 0) is ∙ (back t less).1

module _ (n : ℕ) (f g : List ℕ) (there : IsBackBy n f g) (back : IsBackBy n g f) where
  pub back-exchanged : (k j : ℕ) → length f ≡ n → length g ≡ n → k < n → j < n → IsBackBy n (exchanged f g k j) (exchanged g f j k)
  back-exchanged k j long wide from to t within = elim (cases_eq t (get_or g j 0)) [
    | inl other ↦
        let goes = exchanged-other f g k j t (omega (arith, (back j to).0)) other in
        let comes = exchanged-other g f j k (get_or (exchanged f g k j) t 0) (omega (arith, (there k from).0)) goes in
        (omega (arith, goes, (there k from).0), comes ∙ sym other)
    | inr apart ↦ elim (cases_eq t k) [
      | inl here ↦
          let goes = exchanged-here f g k j t (omega arith) apart here in
          let not : get_or (exchanged f g k j) t 0 ≢ get_or f k 0 = λ is. apart (here ∙ sym (there k from).1 ∙ ap (λ (i : ℕ). get_or g i 0) (sym is ∙ goes)) in
          (omega (arith, goes), exchanged-here g f j k (get_or (exchanged f g k j) t 0) (omega arith) not goes ∙ sym here)
      | inr nor ↦
          let goes = exchanged-rest f g k j t apart nor in
          let not : get_or (exchanged f g k j) t 0 ≢ get_or f k 0 = λ is. nor (one_way n f g there t k within from (sym goes ∙ is)) in
          let off : get_or (exchanged f g k j) t 0 ≢ j = λ is. apart (sym (there t within).1 ∙ ap (λ (i : ℕ). get_or g i 0) (sym goes ∙ is)) in (
            omega (arith, goes, (there t within).0),
            exchanged-rest g f j k (get_or (exchanged f g k j) t 0) not off ∙ ap (λ (i : ℕ). get_or g i 0) goes ∙ (there t within).1,
          )
    ]
  ]

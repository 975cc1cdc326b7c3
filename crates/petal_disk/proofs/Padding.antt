-- What is read and written where a file is bytes with zeros after them.
use Rattle.std.proofs.Common.{◌≡◌, ℕ, ◌+◌, ◌-◌, ◌≤◌, ◌<◌, List, [], ◌∷◌, ◌++◌, zero, suc, length, take, drop, replicate, min, sym, subst}
use Rattle.std.proofs.Common.{◌∙◌, ap, arith, append_assoc, length-append, length-drop, length-take, ⊎_elim}
use Rattle.std.proofs.lemmas.Bool.{cases_lt}
use Rattle.std.proofs.lemmas.List.{length-replicate, take-append-le, replicate-append-replicate, drop-replicate, take-replicate, length-take-le, drop_all}
use Rattle.petal_disk.specs.Disk.{part, written}
use Rattle.petal_disk.specs.Padded.{padded, length-padded}

-- as much as the file has
pub within_padded : (file : List ℕ) (n end : ℕ) → length file ≤ n → end ≤ n → end ≤ length (padded file n)
within_padded file n end l fits = subst (λ (k : ℕ). end ≤ k) (sym (length-padded file n l)) fits

take_over : (n : ℕ) (xs ys : List ℕ) → take n (xs ++ ys) ≡ take n xs ++ take (n - length xs) ys
take_over zero xs ys = ap (λ (k : ℕ). take k ys) (let e : 0 ≡ 0 - length xs = omega arith in e)
take_over (suc n) [] ys = ap (λ (k : ℕ). take k ys) (let e : suc n ≡ suc n - 0 = omega arith in e)
take_over (suc n) (x ∷ xs) ys = ap (λ (l : List ℕ). x ∷ l)
    (take_over n xs ys ∙ ap (λ (k : ℕ). take n xs ++ take k ys) (let e : n - length xs ≡ suc n - suc (length xs) = omega arith in e))

drop_over : (n : ℕ) (xs ys : List ℕ) → drop n (xs ++ ys) ≡ drop n xs ++ drop (n - length xs) ys
drop_over zero xs ys = ap (λ (k : ℕ). xs ++ drop k ys) (let e : 0 ≡ 0 - length xs = omega arith in e)
drop_over (suc n) [] ys = ap (λ (k : ℕ). drop k ys) (let e : suc n ≡ suc n - 0 = omega arith in e)
drop_over (suc n) (x ∷ xs) ys =
    drop_over n xs ys ∙ ap (λ (k : ℕ). drop n xs ++ drop k ys) (let e : n - length xs ≡ suc n - suc (length xs) = omega arith in e)

-- what comes from a place on
drop-padded : (at : ℕ) (file : List ℕ) (n : ℕ)
    → drop at (padded file n) ≡ drop at file ++ replicate ((n - length file) - (at - length file)) 0
drop-padded at file n =
    drop_over at file (replicate (n - length file) 0)
    ∙ ap (λ (l : List ℕ). drop at file ++ l) (drop-replicate (at - length file) (n - length file) 0)

-- a part of it
pub part_padded : (file : List ℕ) (at count n : ℕ) → at + count ≤ n → length file ≤ n → padded (part file at count) count ≡ part (padded file n) at count
part_padded file at count n fits l =
    let rest : ℕ = (n - length file) - (at - length file) in
    let left : ℕ = count - length (drop at file) in
    let enough : left ≤ rest = omega (arith, length-drop at file) in
    let same : count - length (part file at count) ≡ left = omega (arith, length-take count (drop at file)) in
    ap (λ (k : ℕ). part file at count ++ replicate k 0) same
    ∙ ap (λ (l : List ℕ). part file at count ++ l) (sym (take-replicate left rest 0 enough))
    ∙ sym (take_over count (drop at file) (replicate rest 0))
    ∙ sym (ap (λ (l : List ℕ). take count l) (drop-padded at file n))

length-grown : (bytes : List ℕ) (end : ℕ) → length (padded bytes end) ≡ length bytes + (end - length bytes)
length-grown bytes end = length-append bytes (replicate (end - length bytes) 0)
    ∙ ap (λ (k : ℕ). length bytes + k) (length-replicate {A = ℕ} (end - length bytes) 0)

-- zeros that come into memory change nothing
pub padded_grown : (bytes : List ℕ) (end n : ℕ) → length bytes ≤ n → end ≤ n → padded (padded bytes end) n ≡ padded bytes n
padded_grown bytes end n l l' =
    append_assoc bytes (replicate (end - length bytes) 0) (replicate (n - length (padded bytes end)) 0)
    ∙ ap (λ (l : List ℕ). bytes ++ l) (replicate-append-replicate (end - length bytes) (n - length (padded bytes end)) 0)
    ∙ ap (λ (k : ℕ). bytes ++ replicate k 0)
    (let e : (end - length bytes) + (n - length (padded bytes end)) ≡ n - length bytes = omega (arith, length-grown bytes end) in e)

-- a write that begins among the bytes, or right after them
pub padded_written : (file : List ℕ) (at : ℕ) (bytes : List ℕ) (n : ℕ) → at ≤ length file → length file ≤ n → at + length bytes ≤ n
    → padded (written file at bytes) n ≡ written (padded file n) at bytes
padded_written file at bytes n begins l fits =
    let end : ℕ = at + length bytes in
    let long : length (written file at bytes) ≡ end + (length file - end) = omega (
      arith,
      length-append (take at file ++ bytes) (drop end file),
      length-append (take at file) bytes,
      length-take-le at file begins,
      length-drop end file,
    ) in
    ap (λ (k : ℕ). written file at bytes ++ replicate k 0)
    (let e : n - length (written file at bytes) ≡ (n - length file) - (end - length file) = omega (arith, long) in e)
    ∙ append_assoc (take at file ++ bytes) (drop end file) (replicate ((n - length file) - (end - length file)) 0)
    ∙ ap (λ (l : List ℕ). (take at file ++ bytes) ++ l) (sym (drop-padded end file n))
    ∙ ap (λ (l : List ℕ). (l ++ bytes) ++ drop end (padded file n)) (sym (take-append-le at file (replicate (n - length file) 0) begins))

-- a write anywhere
pub padded_put : (file : List ℕ) (at : ℕ) (bytes : List ℕ) (n : ℕ) → length file ≤ n → at + length bytes ≤ n
    → padded (written (padded file at) at bytes) n ≡ written (padded file n) at bytes
padded_put file at bytes n l fits =
    padded_written (padded file at) at bytes n (omega (arith, length-grown file at)) (omega (arith, length-grown file at)) fits
    ∙ ap (λ (l : List ℕ). written l at bytes) (padded_grown file at n l (omega arith))

-- zeros up to the end of the bytes, and further on
zeros_on : (file : List ℕ) (at count n : ℕ) → length file ≤ at + count → at + count ≤ n
    → written (padded file n) at (replicate count 0) ≡ take at (padded file n) ++ replicate (n - at) 0
zeros_on file at count n past fits =
    let end : at + length (replicate {A = ℕ} count 0) ≡ at + count = ap (λ (k : ℕ). at + k) (length-replicate {A = ℕ} count 0) in
    let rest : drop (at + count) (padded file n) ≡ replicate (n - (at + count)) 0 =
    drop-padded (at + count) file n
    ∙ ap (λ (l : List ℕ). l ++ replicate ((n - length file) - ((at + count) - length file)) 0) (drop_all (at + count) file past)
    ∙ ap (λ (k : ℕ). replicate k 0) (let e : (n - length file) - ((at + count) - length file) ≡ n - (at + count) = omega arith in e) in
    append_assoc (take at (padded file n)) (replicate count 0) (drop (at + length (replicate {A = ℕ} count 0)) (padded file n))
    ∙ ap (λ (k : ℕ). take at (padded file n) ++ (replicate count 0 ++ drop k (padded file n))) end
    ∙ ap (λ (l : List ℕ). take at (padded file n) ++ (replicate count 0 ++ l)) rest
    ∙ ap (λ (l : List ℕ). take at (padded file n) ++ l) (replicate-append-replicate count (n - (at + count)) 0)
    ∙ ap (λ (k : ℕ). take at (padded file n) ++ replicate k 0) (let e : count + (n - (at + count)) ≡ n - at = omega arith in e)

-- zeros after the bytes are there
pub zeros_written : (file : List ℕ) (at count there n : ℕ) → at + count ≤ n → length file ≤ n → at ≤ length file → there ≡ min count (length file - at)
    → padded (written file at (replicate there 0)) n ≡ written (padded file n) at (replicate count 0)
zeros_written file at count there n fits l begins is =
    padded_written file at (replicate there 0) n begins l (omega (arith, is, length-replicate {A = ℕ} there 0))
    ∙ ⊎_elim
    (λ (few : count < length file - at). ap (λ (k : ℕ). written (padded file n) at (replicate k 0)) (let e : there ≡ count = omega (arith, is) in e))
    (λ (many : length file - at ≤ count). zeros_on file at there n (omega (arith, is)) (omega (arith, is)) ∙ sym (zeros_on file at count n (omega arith) fits))
    (cases_lt count (length file - at))

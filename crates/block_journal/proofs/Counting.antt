-- Which bodies count, as they are read piece by piece.
use Rattle.std.proofs.Common.{◌≡◌, inl, inr, true, false, Bool, ℕ, ◌+◌, ◌-◌, ◌*◌, ◌<◌, ◌≤◌, List, [], ◌∷◌, ◌++◌, length}
use Rattle.std.proofs.Common.{get_or, sym, ◌∙◌, ap, subst, arith, length-append}
use Rattle.std.proofs.Math.Nat.{mul-add, mul-zero}
use Rattle.std.proofs.lemmas.List.{get_or_append_left, get_or-append_right, same_lists}
use Rattle.std.proofs.lemmas.Bool.{cases_eq}
use Rattle.std.proofs.lemmas.Option.{slice_get-get_or}
use Rattle.petal_disk.specs.Disk.{part, Only}
use Rattle.block_journal.specs.Records.{IsOpen, body_at, Counts, Stands, Stored}
use Rattle.block_journal.specs.Pieces.{Took}
use Rattle.block_journal.proofs.Slots.{apart, byte_of_part, part_of_part}

pub counts_one : (r base : ℕ) (file body : List ℕ) → IsOpen r base file 0 → body_at r base file 0 ≡ body → Counts r base 1 file (body ∷ [])
counts_one r base file body opened is = record {
  few = omega arith;
  counted = λ i lt. let first : i ≡ 0 = omega (arith, lt) in
      subst (λ (k : ℕ). IsOpen r base file k × (body_at r base file k ≡ get_or (body ∷ []) k [])) (sym first) (opened, is);
  ends = λ lt. absurd (omega (arith, lt));
}

-- those of one piece after those of another, all of whose records count
pub counts_joined : (r base n m : ℕ) (file : List ℕ) (xs ys : List (List ℕ)) → length xs ≡ n → Counts r base n file xs → Counts r (base + r * n) m file ys
    → Counts r base (n + m) file (xs ++ ys)
counts_joined r base n m file xs ys all front rest =
    let longer : length (xs ++ ys) ≡ n + length ys = omega (arith, length-append xs ys, all) in
    let place : (j : ℕ) → base + r * n + r * j ≡ base + r * (n + j) = λ j. omega (arith, mul-add r n j) in
    record {
      few = omega (arith, longer, rest.few);
      counted = λ i lt. elim (cases_eq (n - i) 0) [
        | inl following ↦
            let le : n ≤ i = omega arith in
            let at : n + (i - n) ≡ i = omega arith in
            let here = rest.counted (i - n) (omega (arith, lt, longer, le)) in
            let spot : base + r * n + r * (i - n) ≡ base + r * i = place (i - n) ∙ ap (λ (k : ℕ). base + r * k) at in (
              ap (λ (k : ℕ). get_or file k 0) (sym spot) ∙ here.0,
              ap (λ (k : ℕ). part file (k + 1) (r - 1)) (sym spot) ∙ here.1 ∙ sym (get_or-append_right xs ys n i [] all le),
            )
        | inr before ↦
            let within : i < length xs = omega (arith, all) in
            ((front.counted i within).0, (front.counted i within).1 ∙ sym (get_or_append_left xs ys [] i within))
      ];
      ends = λ lt opened.
          rest.ends (omega (arith, longer, lt)) (ap (λ (k : ℕ). get_or file k 0) (place (length ys) ∙ ap (λ (k : ℕ). base + r * k) (sym longer)) ∙ opened);
    }

-- the body of the next record of a piece after those that count
pub counts_next : (r n : ℕ) (piece body : List ℕ) (bodies : List (List ℕ)) → length bodies ≡ n → IsOpen r 0 piece n → body_at r 0 piece n ≡ body
    → Counts r 0 n piece bodies → Counts r 0 (n + 1) piece (bodies ++ body ∷ [])
counts_next r n piece body bodies all opened is counts =
    let at : 0 + r * n + r * 0 ≡ 0 + r * n = omega (arith, mul-zero r) in
    counts_joined r 0 n 1 piece bodies (body ∷ []) all counts
    (counts_one r (0 + r * n) piece body (ap (λ (k : ℕ). get_or piece k 0) at ∙ opened) (ap (λ (k : ℕ). part piece (k + 1) (r - 1)) at ∙ is))

-- where one does not count, no later record does
pub counts_stopped : (r base n limit : ℕ) (file : List ℕ) (xs : List (List ℕ)) → length xs < n → n ≤ limit → Counts r base n file xs
    → Counts r base limit file xs
counts_stopped r base n limit file xs lt le counts = record { few = omega arith; counted = counts.counted; ends = λ _. counts.ends lt }

-- a piece of the file
pub counts_in_piece : (r at n : ℕ) (file piece : List ℕ) (xs : List (List ℕ)) → 0 < r → piece ≡ part file at (r * n)
    → Counts r 0 n piece xs → Counts r at n file xs
counts_in_piece r at n file piece xs wide is counts =
    let byte : (i : ℕ) → i < n → get_or piece (0 + r * i) 0 ≡ get_or file (at + r * i) 0 = λ i lt.
    ap (λ (k : ℕ). get_or piece k 0) (let e : 0 + r * i ≡ r * i = omega arith in e)
    ∙ ap (λ (l : List ℕ). get_or l (r * i) 0) is
    ∙ byte_of_part file at (r * n) (r * i) (omega (arith, apart r i n lt, wide)) in
    let body : (i : ℕ) → i < n → body_at r 0 piece i ≡ body_at r at file i = λ i lt.
    ap (λ (k : ℕ). part piece k (r - 1)) (let e : 0 + r * i + 1 ≡ r * i + 1 = omega arith in e)
    ∙ ap (λ (l : List ℕ). part l (r * i + 1) (r - 1)) is
    ∙ part_of_part file at (r * n) (r * i + 1) (r - 1) (omega (arith, apart r i n lt, wide))
    ∙ ap (λ (k : ℕ). part file k (r - 1)) (let e : at + (r * i + 1) ≡ at + r * i + 1 = omega arith in e) in
    record {
      few = counts.few;
      counted = λ i lt. let within : i < n = omega (arith, counts.few) in
          (sym (byte i within) ∙ (counts.counted i lt).0, sym (body i within) ∙ (counts.counted i lt).1);
      ends = λ lt opened. counts.ends lt (byte (length xs) lt ∙ opened);
    }

-- one piece more is read
pub piece_more : (r base n m : ℕ) (file seen : List ℕ) (xs ys : List (List ℕ)) (more : Bool) → 0 < r → seen ≡ file → length xs ≡ n
    → Counts r base n file xs → Took r m (part seen (base + r * n) (r * m)) xs ys more
    → Counts r base (n + m) file ys × (more ≡ true → length ys ≡ n + m) × (more ≡ false → length ys < n + m)
piece_more r base n m file seen xs ys more wide same all counts took =
    let piece = part seen (base + r * n) (r * m) in
    let inside = counts_in_piece r (base + r * n) m file piece took.taken wide (ap (λ (f : List ℕ). part f (base + r * n) (r * m)) same) took.counts in
    let long : length ys ≡ n + length took.taken = omega (arith, ap length took.new_is, length-append xs took.taken, all) in (
      subst (λ (bs : List (List ℕ)). Counts r base (n + m) file bs) (sym took.new_is) (counts_joined r base n m file xs took.taken all counts inside),
      (λ e. omega (arith, long, took.all e)),
      (λ e. omega (arith, long, took.not_all e)),
    )

-- one list counts in a region
pub counts_once : (r base limit : ℕ) (file : List ℕ) (xs ys : List (List ℕ)) → Counts r base limit file xs → Counts r base limit file ys → xs ≡ ys
counts_once r base limit file xs ys one other =
    let no_fewer : ¬ (length xs < length ys) = λ lt. one.ends (omega (arith, other.few)) (other.counted (length xs) lt).0 in
    let no_more : ¬ (length ys < length xs) = λ lt. other.ends (omega (arith, one.few)) (one.counted (length ys) lt).0 in
    let same : length xs ≡ length ys = omega (arith, no_fewer, no_more) in
    same_lists xs ys same (λ k d lt.
    let within : k < length ys = omega (arith, same) in
    let here : get_or xs k [] ≡ get_or ys k [] = sym (one.counted k lt).1 ∙ (other.counted k within).1 in
    let left = slice_get-get_or xs k d lt in
    let left' = slice_get-get_or xs k [] lt in
    let right = slice_get-get_or ys k d within in
    let right' = slice_get-get_or ys k [] within in
    cc (left, left', right, right', here))

-- a region stands for no other bodies than those that count
pub only_those : (r base limit : ℕ) (file : List ℕ) (xs ys : List (List ℕ)) → Counts r base limit file xs → Stands r base limit file ys → xs ≡ ys
only_those r base limit file xs ys counts stands =
    counts_once r base limit file xs ys counts
    (record { few = stands.few; counted = stands.counted; ends = λ lt. stands.closed (length ys) (omega arith) lt })

-- what a read finds is stored where a crash leaves nothing else
pub stored_now : (r base limit : ℕ) (seen : List ℕ) (may_leave : List ℕ → Type 0) (bodies : List (List ℕ)) (count : ℕ) → count ≡ length bodies
    → Only seen may_leave → Stands r base limit seen bodies → Stored r (record { base = base; limit = limit; count = count }) seen may_leave bodies
stored_now r base limit seen may_leave bodies count counts only stands = record {
  count = counts;
  now = stands;
  left = λ c here. subst (λ (file : List ℕ). Stands r base limit file bodies) (sym (only c here)) stands;
}

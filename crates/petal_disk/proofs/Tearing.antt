-- Ranges that may have any bytes.
use Rattle.std.proofs.Common.{◌≡◌, ℕ, ◌+◌, ◌-◌, ◌≤◌, List, ◌++◌, length, take, drop, sym, ◌∙◌, ap, arith, append_assoc, length-append, length-drop}
use Rattle.std.proofs.lemmas.List.{drop-drop, take-take, take_at, drop_at, length-take-le}
use Rattle.petal_disk.specs.Disk.{Torn, written, part}

pub drop_further : (a b : ℕ) (x y : List ℕ) → a ≤ b → drop a y ≡ drop a x → drop b y ≡ drop b x
drop_further a b x y le same =
    let split : (xs : List ℕ) → drop b xs ≡ drop (b - a) (drop a xs) = λ xs. ap (λ (k : ℕ). drop k xs) (let e : b ≡ a + (b - a) = omega arith in e)
    ∙ sym (drop-drop (b - a) a xs) in
    split y ∙ ap (λ (l : List ℕ). drop (b - a) l) same ∙ sym (split x)

pub take_less : (a b : ℕ) (x y : List ℕ) → a ≤ b → take b y ≡ take b x → take a y ≡ take a x
take_less a b x y le same = sym (take-take a b y le) ∙ ap (λ (l : List ℕ). take a l) same ∙ take-take a b x le

-- within a wider range
pub torn_wider : (at n low wide : ℕ) (x y : List ℕ) → low ≤ at → at + n ≤ low + wide → Torn at n x y → Torn low wide x y
torn_wider at n low wide x y le fits torn = record {
  before = take_less low at x y le torn.before;
  after = drop_further (at + n) (low + wide) x y fits torn.after;
  size = torn.size;
}

pub torn_twice : (at n : ℕ) (x y z : List ℕ) → Torn at n x y → Torn at n y z → Torn at n x z
torn_twice at n x y z first second = record {
  before = second.before ∙ first.before;
  after = second.after ∙ first.after;
  size = second.size ∙ first.size;
}

-- what stands before the range
pub torn_front : (k at n : ℕ) (x y : List ℕ) → k ≤ at → Torn at n x y → take k y ≡ take k x
torn_front k at n x y le torn = take_less k at x y le torn.before

-- what stands after the range
pub torn_rest : (k at n : ℕ) (x y : List ℕ) → at + n ≤ k → Torn at n x y → drop k y ≡ drop k x
torn_rest k at n x y le torn = drop_further (at + n) k x y le torn.after

-- a write tears no more than its range
pub torn_written : (file : List ℕ) (at : ℕ) (bytes : List ℕ) → at + length bytes ≤ length file → Torn at (length bytes) file (written file at bytes)
torn_written file at bytes fits =
    let front : length (take at file) ≡ at = length-take-le at file (omega arith) in
    let both : length (take at file ++ bytes) ≡ at + length bytes = omega (arith, front, length-append (take at file) bytes) in
    record {
      before = ap (λ (l : List ℕ). take at l) (append_assoc (take at file) bytes (drop (at + length bytes) file))
          ∙ take_at (take at file) (bytes ++ drop (at + length bytes) file) at front;
      after = drop_at (take at file ++ bytes) (drop (at + length bytes) file) (at + length bytes) both;
      size = omega (arith, both, length-append (take at file ++ bytes) (drop (at + length bytes) file), length-drop (at + length bytes) file);
    }

-- and the bytes stand there
pub part_written : (file : List ℕ) (at : ℕ) (bytes : List ℕ) → at + length bytes ≤ length file → part (written file at bytes) at (length bytes) ≡ bytes
part_written file at bytes fits =
    let front : length (take at file) ≡ at = length-take-le at file (omega arith) in
    ap (λ (l : List ℕ). take (length bytes) (drop at l)) (append_assoc (take at file) bytes (drop (at + length bytes) file))
    ∙ ap (λ (l : List ℕ). take (length bytes) l) (drop_at (take at file) (bytes ++ drop (at + length bytes) file) at front)
    ∙ take_at bytes (drop (at + length bytes) file) (length bytes) (λ i. length bytes)

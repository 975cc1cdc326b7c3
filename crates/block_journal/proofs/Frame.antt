-- Writes outside a journal's region leave what it stands for.
use Rattle.std.proofs.Common.{◌≡◌, inl, inr, ℕ, ◌+◌, ◌-◌, ◌*◌, ◌<◌, ◌≤◌, List, length, get_or, sym, ◌∙◌, arith}
use Rattle.petal_disk.specs.Disk.{Torn}
use Rattle.block_journal.specs.Records.{body_at, Counts, Stands}
use Rattle.block_journal.proofs.Counting.{only_those}
use Rattle.block_journal.proofs.Slots.{apart, Outside, same_byte, same_part}

-- the region stands for the same bodies where its gates and their bodies are the same
pub stands_along : (r base limit : ℕ) (x y : List ℕ) (bodies : List (List ℕ))
    → ((i : ℕ) → i < limit → get_or y (base + r * i) 0 ≡ get_or x (base + r * i) 0) → ((i : ℕ) → i < length bodies → body_at r base y i ≡ body_at r base x i)
    → Stands r base limit x bodies → Stands r base limit y bodies
stands_along r base limit x y bodies gates same stands = record {
  few = stands.few;
  counted = λ i lt. (gates i (omega (arith, stands.few, lt)) ∙ (stands.counted i lt).0, same i lt ∙ (stands.counted i lt).1);
  closed = λ i le lt opened. stands.closed i le lt (sym (gates i lt) ∙ opened);
}

-- a range outside the region may have any bytes
pub stands_outside : (r base limit at n : ℕ) (x y : List ℕ) (bodies : List (List ℕ)) → 0 < r → Outside at n base (r * limit) → Torn at n x y
    → Stands r base limit x bodies → Stands r base limit y bodies
stands_outside r base limit at n x y bodies wide away torn stands =
    stands_along r base limit x y bodies
    (λ i lt. same_byte at n (base + r * i) x y torn
    (elim away [ inl before ↦ inl (omega (arith, apart r i limit lt)) | inr following ↦ inr (omega (arith, apart r i limit lt)) ]))
    (λ i lt. same_part at n (base + r * i + 1) (r - 1) x y torn (let le : r * i + r ≤ r * limit = apart r i limit (omega (arith, stands.few)) in
    elim away [ inl before ↦ inl (omega arith) | inr following ↦ inr (omega arith) ]))
    stands

-- the bodies that a region stands for count in it
pub stands_counts : (r base limit : ℕ) (file : List ℕ) (bodies : List (List ℕ)) → Stands r base limit file bodies → Counts r base limit file bodies
stands_counts r base limit file bodies stands =
    record { few = stands.few; counted = stands.counted; ends = λ lt. stands.closed (length bodies) (omega arith) lt }

-- so it stands for no others
pub stands_once : (r base limit : ℕ) (file : List ℕ) (xs ys : List (List ℕ)) → Stands r base limit file xs → Stands r base limit file ys → xs ≡ ys
stands_once r base limit file xs ys one two = only_those r base limit file xs ys (stands_counts r base limit file xs one) two

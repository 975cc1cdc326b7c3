-- What is read of a Head.
use Rattle.std.proofs.Common.{◌≡◌, ℕ, ◌+◌, List, get_or, sym, ◌∙◌, ap, subst, arith}
use Rattle.std.specs.Prelude.{Option, Some, None, IfSome}
use Rattle.petal_disk.specs.Disk.{part}
use Rattle.block_journal.specs.Halves.{HeadCounts}
use Rattle.block_journal.specs.Heads.{GenerationIs}
use Rattle.block_journal.proofs.Slots.{byte_of_part, part_of_part}

gate_of : (file : List ℕ) (at : ℕ) → get_or (part file at 64) 0 0 ≡ get_or file at 0
gate_of file at = byte_of_part file at 64 0 (omega arith) ∙ ap (λ (k : ℕ). get_or file k 0) (let e : at + 0 ≡ at = omega arith in e)

body_of : (file : List ℕ) (at : ℕ) → part (part file at 64) 1 63 ≡ part file (at + 1) 63
body_of file at = part_of_part file at 64 1 63 (omega arith)

pub head_of_part : (file : List ℕ) (at generation : ℕ) → HeadCounts 0 generation (part file at 64) → HeadCounts at generation file
head_of_part file at generation head =
    record { opened = sym (gate_of file at) ∙ head.opened; spelled = sym (body_of file at) ∙ head.spelled; fits = head.fits }

pub part_of_head : (file : List ℕ) (at generation : ℕ) → HeadCounts at generation file → HeadCounts 0 generation (part file at 64)
part_of_head file at generation head =
    record { opened = gate_of file at ∙ head.opened; spelled = body_of file at ∙ head.spelled; fits = head.fits }

pub generation_read : (found : Option ℕ) (at : ℕ) (file bytes : List ℕ) → bytes ≡ part file at 64 → IfSome found (λ generation. HeadCounts 0 generation bytes)
    → ((generation : ℕ) → HeadCounts 0 generation bytes → found ≡ Some generation) → GenerationIs found at file
generation_read (Some generation) at file bytes is some only = (
  head_of_part file at generation (subst (λ (l : List ℕ). HeadCounts 0 generation l) is some),
  λ other head. let one : Some generation ≡ Some other =
      only other (subst (λ (l : List ℕ). HeadCounts 0 other l) (sym is) (part_of_head file at other head)) in cc,
)
generation_read None at file bytes is some only =
    λ generation head. let one : None ≡ Some generation =
    only generation (subst (λ (l : List ℕ). HeadCounts 0 generation l) (sym is) (part_of_head file at generation head)) in absurd (cc)

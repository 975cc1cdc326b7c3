-- What was there at earlier moments, the last one first.
use Rattle.std.specs.Prelude.{◌≡◌, ◌⊎◌, ◌≤◌, ℕ, List, [], ◌∷◌, ◌++◌, length}
use Rattle.std.proofs.Common.{inl, inr, arith, sym, ap, ◌∙◌, append_assoc}
use Rattle.block_journal.specs.Records.{Stands}
use Rattle.block_journal.specs.Region.{Region}

-- one of the moments from this number on might have left these bytes
abbrev pub LeftIn : {D : Type 0} → (D → List ℕ → Type 0) → List D → ℕ → List ℕ → Type 0
LeftIn may_leave [] t c = ⊥
LeftIn may_leave (d ∷ ds) t c = ((t ≤ length ds) × may_leave d c) ⊎ LeftIn may_leave ds t c

-- this moment might leave them, or one of those before it from that number on
abbrev pub LeftSince : {D : Type 0} → (D → List ℕ → Type 0) → List D → D → ℕ → List ℕ → Type 0
LeftSince may_leave past now t c = may_leave now c ⊎ LeftIn may_leave past t c

-- nothing has happened, or the later past goes back to the earlier disk
abbrev pub Remembers : {D : Type 0} → List D → D → List D → D → Type 0
Remembers {D} past now later then = ((later ≡ past) × (then ≡ now)) ⊎ ((between : List D) × (later ≡ between ++ now ∷ past))

-- a moment might have left these bodies, and a crash now leaves them no more
pub record WasLeft (r : ℕ) (region : Region) (bodies : List (List ℕ)) (left_since may_leave : List ℕ → Type 0) : Type 0 where
  pub file : List ℕ
  pub left : left_since file
  pub stands : Stands r region.base region.limit file bodies
  pub gone : ¬ may_leave file

-- no moment of that number has been yet
pub none_yet : {D : Type 0} (may_leave : D → List ℕ → Type 0) (past : List D) (t : ℕ) (c : List ℕ) → length past ≤ t → LeftIn may_leave past t c → ⊥
none_yet may_leave [] t c le left = left
none_yet may_leave (d ∷ ds) t c le (inl here) = omega (arith, le, here.0)
none_yet may_leave (d ∷ ds) t c le (inr there) = none_yet may_leave ds t c (omega (arith, le)) there

pub only_here : {D : Type 0} (may_leave : D → List ℕ → Type 0) (past : List D) (now : D) (c : List ℕ)
    → LeftSince may_leave past now (length past) c → may_leave now c
only_here may_leave past now c (inl here) = here
only_here may_leave past now c (inr there) = absurd (none_yet may_leave past (length past) c (omega arith) there)

-- what is remembered is remembered later
pub remembers_on : {D : Type 0} (a b e : List D) (x y z : D) → Remembers a x b y → Remembers b y e z → Remembers a x e z
remembers_on a b e x y z (inl same) (inl still) = inl (still.0 ∙ same.0, still.1 ∙ same.1)
remembers_on a b e x y z (inl same) (inr grown) =
    inr (grown.0, grown.1 ∙ ap (λ (d : _). grown.0 ++ d ∷ b) same.1 ∙ ap (λ (ds : List _). grown.0 ++ x ∷ ds) same.0)
remembers_on a b e x y z (inr grown) (inl still) = inr (grown.0, still.0 ∙ grown.1)
remembers_on a b e x y z (inr grown) (inr more) =
    inr (more.0 ++ y ∷ grown.0, more.1 ∙ ap (λ (ds : List _). more.0 ++ y ∷ ds) grown.1 ∙ sym (append_assoc more.0 (y ∷ grown.0) (x ∷ a)))

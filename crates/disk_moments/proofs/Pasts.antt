-- That the past of an append is not empty.
use Rattle.std.specs.Prelude.{OnOk, Result}
use Rattle.std.proofs.Common.{◌≡◌, inl, inr, ℕ, List, [], ◌∷◌, ◌++◌, length, sym, ap, subst, arith, length-append, Ok, Err}
use Rattle.block_journal.specs.Records.{Stands, Stored}
use Rattle.block_journal.specs.Region.{Region}
use Rattle.block_journal.proofs.Frame.{stands_once}
use Rattle.disk_moments.specs.Moments.{LeftIn, LeftSince, Remembers, WasLeft}

-- what an earlier disk might have left is remembered
pub left_earlier : {D : Type 0} (may_leave : D → List ℕ → Type 0) (between past : List D) (d : D) (c : List ℕ) → may_leave d c
    → LeftIn may_leave (between ++ d ∷ past) (length past) c
left_earlier may_leave [] past d c left = inl (omega arith, left)
left_earlier may_leave (b ∷ between) past d c left = inr (left_earlier may_leave between past d c left)

-- one file does not stand for a list and for a longer one
pub one_more : (r : ℕ) (region region' : Region) (file : List ℕ) (bodies : List (List ℕ)) (body : List ℕ) → region'.base ≡ region.base
    → region'.limit ≡ region.limit → Stands r region.base region.limit file bodies → Stands r region'.base region'.limit file (bodies ++ body ∷ []) → ⊥
one_more r region region' file bodies body base limit old new =
    let placed : Stands r region.base region.limit file (bodies ++ body ∷ []) =
    subst (λ b. Stands r b region.limit file (bodies ++ body ∷ [])) base (subst (λ n. Stands r region'.base n file (bodies ++ body ∷ [])) limit new) in
    let same = ap (λ (bs : List (List ℕ)). length bs) (stands_once r region.base region.limit file bodies (bodies ++ body ∷ []) old placed) in
    omega (arith, same, length-append bodies (body ∷ []))

-- the disk before the append is remembered, and shows the bodies without the new one
pub was_left : {D : Type 0} (may_leave : D → List ℕ → Type 0) (past later : List D) (old new : D) (r : ℕ) (region region' : Region) (file seen' : List ℕ)
    (bodies : List (List ℕ)) (body : List ℕ)
    → region'.base ≡ region.base → region'.limit ≡ region.limit → may_leave old file → Remembers past old later new
    → Stored r region file (may_leave old) bodies → Stored r region' seen' (may_leave new) (bodies ++ body ∷ [])
    → WasLeft r region bodies (LeftSince may_leave later new (length past)) (may_leave new)
was_left may_leave past later old new r region region' file seen' bodies body base limit here remembers before then = record {
  file = file;
  left = elim remembers [
    | inl same ↦ absurd (gone (subst (λ (d : _). may_leave d file) (sym same.1) here))
    | inr grown ↦ inr (subst (λ (ds : List _). LeftIn may_leave ds (length past) file) (sym grown.1) (left_earlier may_leave grown.0 past old file here))
  ];
  stands = before.now;
  gone = gone;
}
  where
    gone : may_leave new file → ⊥
    gone left = one_more r region region' file bodies body base limit before.now (then.left file left)

-- what follows from an outcome
pub on_ok : {T E : Type 0} (r : Result T E) (P Q : Type 0) → (P → Q) → OnOk r P → OnOk r Q
on_ok (Ok x) P Q f h = f h
on_ok (Err e) P Q f h = h

-- What a crash of a disk in memory may leave, after each call.
use Rattle.std.proofs.Common.{◌≡◌, inl, inr, ⊎_elim, ℕ, zero, suc, ◌+◌, ◌≤◌, List, [], ◌∷◌, ◌++◌, length, take, drop, refl, sym, ◌∙◌, ap}
use Rattle.std.proofs.Common.{subst, arith, length-append, length-drop, append_assoc}
use Rattle.std.proofs.lemmas.List.{take_at, drop_at, length-take-le, drop-drop}
use Rattle.petal_disk.specs.Disk.{written, Torn}
use Rattle.petal_disk.specs.Mixes.{Mixes, length-Mixes}

-- what was written is one outcome
pub mixes_now : (now kept : List ℕ) → length kept ≡ length now → Mixes now kept now
mixes_now [] [] e = tt
mixes_now (a ∷ now) (b ∷ kept) e = (inl refl, mixes_now now kept (omega (arith, e)))
mixes_now [] (b ∷ kept) e = absurd (omega (arith, e))
mixes_now (a ∷ now) [] e = absurd (omega (arith, e))

-- where both agree there is no other
pub mixes_same : (now c : List ℕ) → Mixes now now c → c ≡ now
mixes_same [] [] m = refl
mixes_same [] (x ∷ c) m = absurd m
mixes_same (a ∷ now) [] m = absurd m
mixes_same (a ∷ now) (x ∷ c) m = let h : x ≡ a = ⊎_elim (λ e. e) (λ e. e) m.0 in let t = mixes_same now c m.1 in cc (h, t)

-- so is what was kept
pub mixes_kept : (now kept : List ℕ) → length kept ≡ length now → Mixes now kept kept
mixes_kept [] [] e = tt
mixes_kept (a ∷ now) (b ∷ kept) e = (inr refl, mixes_kept now kept (omega (arith, e)))
mixes_kept [] (b ∷ kept) e = absurd (omega (arith, e))
mixes_kept (a ∷ now) [] e = absurd (omega (arith, e))

over_start : (bytes now kept c : List ℕ) → length bytes ≤ length now → Mixes (bytes ++ drop (length bytes) now) kept c
    → Mixes now kept (take (length bytes) now ++ drop (length bytes) c)
over_start [] now kept c l m = m
over_start (y ∷ bytes) [] kept c l m = absurd (omega arith)
over_start (y ∷ bytes) (a ∷ now) [] c l m = absurd m
over_start (y ∷ bytes) (a ∷ now) (b ∷ kept) [] l m = absurd m
over_start (y ∷ bytes) (a ∷ now) (b ∷ kept) (x ∷ c) l m = (inl refl, over_start bytes now kept c (omega arith) m.1)

-- c with what was there in the range
abbrev undone : List ℕ → ℕ → ℕ → List ℕ → List ℕ
undone now at n c = take at c ++ (take n (drop at now) ++ drop n (drop at c))

over_at : (at : ℕ) (bytes now kept c : List ℕ) → at + length bytes ≤ length now
    → Mixes (take at now ++ (bytes ++ drop (length bytes) (drop at now))) kept c → Mixes now kept (undone now at (length bytes) c)
over_at zero bytes now kept c l m = over_start bytes now kept c (omega arith) m
over_at (suc at) bytes [] kept c l m = absurd (omega arith)
over_at (suc at) bytes (a ∷ now) [] c l m = absurd m
over_at (suc at) bytes (a ∷ now) (b ∷ kept) [] l m = absurd m
over_at (suc at) bytes (a ∷ now) (b ∷ kept) (x ∷ c) l m = (m.0, over_at at bytes now kept c (omega arith) m.1)

torn_undone : (at n : ℕ) (now c : List ℕ) → at + n ≤ length now → length c ≡ length now → Torn at n (undone now at n c) c
torn_undone at n now c l e =
    let front : length (take at c) ≡ at = length-take-le at c (omega arith) in
    let mid : length (take n (drop at now)) ≡ n = length-take-le n (drop at now) (omega (arith, length-drop at now)) in
    let rest : drop n (drop at c) ≡ drop (at + n) c = drop-drop n at c in
    let both : length (take at c ++ take n (drop at now)) ≡ at + n = omega (arith, length-append (take at c) (take n (drop at now))) in
    record {
      before = sym (take_at (take at c) (take n (drop at now) ++ drop n (drop at c)) at front);
      after = sym (ap (λ (l : List ℕ). drop (at + n) l) (sym (append_assoc (take at c) (take n (drop at now)) (drop n (drop at c))))
          ∙ drop_at (take at c ++ take n (drop at now)) (drop n (drop at c)) (at + n) both ∙ rest);
      size = omega (
        arith,
        length-append (take at c) (take n (drop at now) ++ drop n (drop at c)),
        length-append (take n (drop at now)) (drop n (drop at c)),
        length-drop n (drop at c),
        length-drop at c,
      );
    }

regroup : (at : ℕ) (bytes now : List ℕ) → written now at bytes ≡ take at now ++ (bytes ++ drop (length bytes) (drop at now))
regroup at bytes now = append_assoc (take at now) bytes (drop (at + length bytes) now)
    ∙ ap (λ (l : List ℕ). take at now ++ (bytes ++ l)) (sym (drop-drop (length bytes) at now))

-- a write among the bytes leaves as many
pub length-written : (at : ℕ) (bytes now : List ℕ) → at + length bytes ≤ length now → length (written now at bytes) ≡ length now
length-written at bytes now l = omega (
  arith,
  length-append (take at now ++ bytes) (drop (at + length bytes) now),
  length-append (take at now) bytes,
  length-take-le at now (omega arith),
  length-drop (at + length bytes) now,
)

-- an outcome after a write was one before it, but in the range
pub written_follows : (at : ℕ) (bytes now kept after c : List ℕ) → at + length bytes ≤ length now → after ≡ written now at bytes → Mixes after kept c
    → (d : List ℕ) × Mixes now kept d × Torn at (length bytes) d c
written_follows at bytes now kept after c l is m =
    let m' = subst (λ (x : List ℕ). Mixes x kept c) is m in (
      undone now at (length bytes) c,
      over_at at bytes now kept c l (subst (λ (x : List ℕ). Mixes x kept c) (regroup at bytes now) m'),
      torn_undone
          at (length bytes) now c l (length-Mixes (written now at bytes) kept c m' ∙ length-written at bytes now l),
    )

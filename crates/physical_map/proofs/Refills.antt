-- A list in order, made again item by item.
use Rattle.std.proofs.Common.{◌≡◌, true, List, [], ◌∷◌, ◌++◌, refl, sym, ap, subst, ◌∙◌, append_assoc}
use Rattle.std.proofs.lemmas.List.{append-nil}
use Rattle.std.specs.Prelude.{fold}
use Rattle.petal_base.specs.declared.cell.Key.{Key}
use Rattle.physical_map.specs.Keys.{key_below, placed, IsAbove, IsInOrder}

module _ {A : Type 0} (key : A → Key) where
  abbrev AreBelow : List A → Key → Type 0
  AreBelow [] k = Unit {0}
  AreBelow (x ∷ xs) k = (key_below (key x) k ≡ true) × AreBelow xs k

  above_next : (k : Key) (x : A) (front xs : List A) → IsAbove key k (front ++ x ∷ xs) → key_below k (key x) ≡ true
  above_next k x [] xs above = above.0
  above_next k x (y ∷ ys) xs above = above_next k x ys xs above.1

  below_next : (x : A) (front xs : List A) → IsInOrder key (front ++ x ∷ xs) → AreBelow front (key x)
  below_next x [] xs order = tt
  below_next x (y ∷ ys) xs order = (above_next (key y) x ys xs order.0, below_next x ys xs order.1)

  -- what has a key above all others stands last
  pub placed_last : (x : A) (xs : List A) → AreBelow xs (key x) → placed key xs x ≡ xs ++ x ∷ []
  placed_last x [] below = refl
  placed_last x (y ∷ ys) below = rw below.0 (ap (λ (l : List A). y ∷ l) (placed_last x ys below.1))

  pub refilled : (front xs : List A) → IsInOrder key (front ++ xs) → fold (placed key) front xs ≡ front ++ xs
  refilled front [] order = sym (append-nil front)
  refilled front (x ∷ xs) order =
      let last : placed key front x ≡ front ++ x ∷ [] = placed_last x front (below_next x front xs order) in
      let whole : (front ++ x ∷ []) ++ xs ≡ front ++ x ∷ xs = append_assoc front (x ∷ []) xs in
      ap (λ (l : List A). fold (placed key) l xs) last
      ∙ refilled (front ++ x ∷ []) xs (subst (λ (l : List A). IsInOrder key l) (sym whole) order)
      ∙ whole

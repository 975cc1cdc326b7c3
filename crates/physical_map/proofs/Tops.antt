-- The greatest version after a put and after a drop.
use Rattle.std.proofs.Common.{◌≡◌, max, List, [], ◌∷◌, refl, arith, inl, inr}
use Rattle.std.proofs.lemmas.Bool.{cases_Bool}
use Rattle.petal_base.specs.declared.cell.Key.{Key}
use Rattle.physical_map.specs.declared.entry.Entry.{Entry}
use Rattle.physical_map.specs.Entries.{key_of, without_key, top_of}
use Rattle.physical_map.specs.Keys.{key_below, same_key, placed, IsInOrder}
use Rattle.physical_map.specs.Replaced.{entry_of, version_in}
use Rattle.physical_map.proofs.Orders.{below-other, beyond}
use Rattle.physical_map.proofs.Places.{further-above, without-above}

-- it is that of a key's entry and of the rest
pub top-parted : (es : List Entry) (key : Key) → top_of es ≡ max (version_in (entry_of es key)) (top_of (without_key es key))
top-parted [] key = refl
top-parted (x ∷ xs) key = elim (cases_Bool (same_key x.key key)) [
  | inl same ↦ rw same refl
  | inr other ↦ rw other (omega (arith, top-parted xs key))
]

-- after a put, it is that of the new entry and of the rest
pub top-placed : (es : List Entry) (e : Entry) → IsInOrder key_of es → top_of (placed key_of es e) ≡ max e.version (top_of (without_key es e.key))
top-placed [] e order = refl
top-placed (x ∷ xs) e order = elim (cases_Bool (key_below x.key e.key)) [
  | inl before ↦ rw (before, below-other x.key e.key before) (omega (arith, top-placed xs e order.1))
  | inr following ↦ elim (cases_Bool (same_key x.key e.key)) [
    | inl same ↦ rw (following, same) refl
    | inr other ↦
        rw (following, other, without-above xs e.key (further-above xs e.key x.key (beyond x.key e.key following other) order.0)) refl
  ]
]

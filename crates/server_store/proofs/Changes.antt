-- Changes that change nothing.
use Rattle.std.proofs.Common.{◌≡◌, ℕ, false, List, [], ◌∷◌, map, Option, None, Some, is_some, Result, Ok, Err, refl, ◌∙◌, ap, inl, inr}
use Rattle.std.proofs.lemmas.Bool.{cases_Bool}
use Rattle.std.specs.Result.{OnErr}
use Rattle.petal_base.specs.declared.cell.Key.{Key}
use Rattle.physical_map.specs.declared.entry.Entry.{Entry}
use Rattle.physical_map.specs.Entries.{key_of, slot_of, without_key}
use Rattle.physical_map.specs.Keys.{placed, same_key}
use Rattle.server_store.specs.Holdings.{Held, held_in, key_held, listed, without_held}
use Rattle.data_device.specs.Slots.{slot_bytes}
use Rattle.server_store.proofs.Contents.{listed-held, is_listed, map-placed}

-- entries do not depend on contents
pub listed_still : (x y : List ℕ) (es : List Entry) → listed (map (held_in y) es) ≡ listed (map (held_in x) es)
listed_still x y es = listed-held y es ∙ is_listed x es

-- a key that is not there is not dropped
pub not_there : (es : List Entry) (key : Key) → slot_of es key ≡ None → without_key es key ≡ es
not_there [] key none = refl
not_there (x ∷ xs) key none = elim (cases_Bool (same_key x.key key)) [
  | inl same ↦ let here : Some x.slot ≡ None = rw same at none in absurd (cc)
  | inr same ↦ let there : slot_of xs key ≡ None = rw same at none in rw same (ap (λ (l : List Entry). x ∷ l) (not_there xs key there))
]

pub none_is : (slot : Option ℕ) → is_some slot ≡ false → slot ≡ None
none_is None none = refl
none_is (Some s) none = absurd (cc)

-- the entry that was put, with the content of its slot
pub put_shown : (x y : List ℕ) (es : List Entry) (e : Entry) (content : List ℕ) → map (held_in y) es ≡ map (held_in x) es → slot_bytes y e.slot ≡ content
    → map (held_in y) (placed key_of es e) ≡ placed key_held (map (held_in x) es) (record { entry = e; content = content })
put_shown x y es e content contents is =
    map-placed y es e
    ∙ ap (λ (c : List ℕ). placed key_held (map (held_in y) es) (record { entry = e; content = c })) is
    ∙ ap (λ (hs : List Held). placed key_held hs (record { entry = e; content = content })) contents

-- nor what is held there
pub not_held : (hs : List Held) (key : Key) → slot_of (listed hs) key ≡ None → without_held hs key ≡ hs
not_held [] key none = refl
not_held (h ∷ hs) key none = elim (cases_Bool (same_key h.entry.key key)) [
  | inl same ↦ let here : Some h.entry.slot ≡ None = rw same at none in absurd (cc)
  | inr same ↦ let there : slot_of (listed hs) key ≡ None = rw same at none in rw same (ap (λ (l : List Held). h ∷ l) (not_held hs key there))
]

-- what holds anyway holds of an error
pub on_err : {T E : Type 0} (result : Result T E) (A : Type 0) → A → OnErr result A
on_err (Ok value) A a = tt
on_err (Err error) A a = a

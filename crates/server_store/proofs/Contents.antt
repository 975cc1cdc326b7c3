-- What a write into one slot leaves of the others.
use Rattle.std.proofs.Common.{◌≡◌, ◌≢◌, ℕ, suc, ◌+◌, ◌<◌, ◌≤◌, List, [], ◌∷◌, length, take, drop, map, refl, sym, ◌∙◌, ap, arith}
use Rattle.std.proofs.Common.{inl, inr, Option, None, Some, option_map, nat_lt}
use Rattle.std.proofs.lemmas.Bool.{cases_Bool, cases_lt}
use Rattle.std.proofs.lemmas.List.{drop-take}
use Rattle.std.specs.List.{All}
use Rattle.petal_base.specs.declared.cell.Key.{Key}
use Rattle.petal_disk.specs.Disk.{part, Torn, written}
use Rattle.petal_disk.proofs.Tearing.{torn_front, torn_rest, part_written}
use Rattle.physical_map.specs.declared.entry.Entry.{Entry}
use Rattle.physical_map.specs.Entries.{key_of, without_key}
use Rattle.physical_map.specs.Keys.{placed, newest, later, sees, key_below, same_key, IsAbove, IsInOrder}
use Rattle.server_store.specs.Holdings.{held_in, key_held, listed, content_of, without_held}
use Rattle.data_device.specs.Slots.{slot_start, slot_bytes}
use Rattle.petal_base.specs.Block.{block_bytes}

-- a range that lies before or after another
part-apart : (at n low m : ℕ) (x y : List ℕ) → Torn at n x y → low + m ≤ at → part y low m ≡ part x low m
part-apart at n low m x y torn fits =
    sym (drop-take low m y) ∙ ap (λ (l : List ℕ). drop low l) (torn_front (low + m) at n x y fits torn) ∙ drop-take low m x

pub part-following : (at n low m : ℕ) (x y : List ℕ) → Torn at n x y → at + n ≤ low → part y low m ≡ part x low m
part-following at n low m x y torn fits = ap (λ (l : List ℕ). take m l) (torn_rest low at n x y fits torn)

pub slot-apart : (slot other : ℕ) (x y : List ℕ) → other ≢ slot → Torn (slot_start slot) block_bytes x y → slot_bytes y other ≡ slot_bytes x other
slot-apart slot other x y apart torn = elim (cases_lt other slot) [
  | inl before ↦ part-apart (slot_start slot) block_bytes (slot_start other) block_bytes x y torn (omega arith)
  | inr following ↦ part-following (slot_start slot) block_bytes (slot_start other) block_bytes x y torn
      (let more : slot < other = omega (arith, apart) in omega arith)
]

-- contents stay where no entry has the slot
pub held-apart : (es : List Entry) (slot : ℕ) (x y : List ℕ) → All (λ e. e.slot ≢ slot) es → Torn (slot_start slot) block_bytes x y
    → map (held_in y) es ≡ map (held_in x) es
held-apart [] slot x y apart torn = refl
held-apart (e ∷ es) slot x y apart torn =
    let here : slot_bytes y e.slot ≡ slot_bytes x e.slot = slot-apart slot e.slot x y (apart 0 e (omega arith)) torn in
    let rest = held-apart es slot x y (λ k d within. apart (suc k) d (omega arith)) torn in
    rw (here, rest) refl

pub map-placed : (file : List ℕ) (es : List Entry) (e : Entry)
    → map (held_in file) (placed key_of es e) ≡ placed key_held (map (held_in file) es) (held_in file e)
map-placed file [] e = refl
map-placed file (x ∷ xs) e = elim (cases_Bool (key_below x.key e.key)) [
  | inl below ↦ rw (below, map-placed file xs e) refl
  | inr below ↦ elim (cases_Bool (same_key x.key e.key)) [
    | inl same ↦ rw (below, same) refl
    | inr same ↦ rw (below, same) refl
  ]
]

pub listed-held : (file : List ℕ) (es : List Entry) → listed (map (held_in file) es) ≡ es
listed-held file [] = refl
listed-held file (e ∷ es) = ap (λ (l : List Entry). e ∷ l) (listed-held file es)

later-held : (file : List ℕ) (a b : Option Entry)
    → later key_held (option_map (held_in file) a) (option_map (held_in file) b) ≡ option_map (held_in file) (later key_of a b)
later-held file None b = refl
later-held file (Some x) None = refl
later-held file (Some x) (Some y) = elim (cases_Bool (nat_lt x.key.epoch y.key.epoch)) [
  | inl less ↦ rw less refl
  | inr less ↦ rw less refl
]

pub newest-held : (file : List ℕ) (at : Key) (es : List Entry) → newest key_held at (map (held_in file) es) ≡ option_map (held_in file) (newest key_of at es)
newest-held file at [] = refl
newest-held file at (x ∷ xs) = elim (cases_Bool (sees at x.key)) [
  | inl seen ↦ rw (seen, newest-held file at xs) (later-held file (Some x) (newest key_of at xs))
  | inr seen ↦ rw seen (newest-held file at xs)
]

-- a slot has what was written into it
pub slot-written : (slot : ℕ) (file block : List ℕ) → length block ≡ block_bytes → slot_start slot + block_bytes ≤ length file
    → slot_bytes (written file (slot_start slot) block) slot ≡ block
slot-written slot file block whole fits =
    ap (λ (n : ℕ). part (written file (slot_start slot) block) (slot_start slot) n) (sym whole)
    ∙ part_written file (slot_start slot) block (omega (arith, whole))

-- what is found among the entries is what is found among what is held
pub found-listed : (file : List ℕ) (at : Key) (es : List Entry) (found : Option Entry) → found ≡ newest key_of at es
    → found ≡ newest key_of at (listed (map (held_in file) es))
found-listed file at es found is = is ∙ ap (λ (l : List Entry). newest key_of at l) (sym (listed-held file es))

pub found-content : (file : List ℕ) (at : Key) (es : List Entry) (found : Option Entry) → found ≡ newest key_of at es
    → content_of (option_map (held_in file) found) ≡ content_of (newest key_held at (map (held_in file) es))
found-content file at es found is =
    ap (λ (f : Option Entry). content_of (option_map (held_in file) f)) is ∙ ap content_of (sym (newest-held file at es))

pub map-without : (file : List ℕ) (es : List Entry) (key : Key) → map (held_in file) (without_key es key) ≡ without_held (map (held_in file) es) key
map-without file [] key = refl
map-without file (x ∷ xs) key = elim (cases_Bool (same_key x.key key)) [
  | inl same ↦ rw same refl
  | inr same ↦ rw (same, map-without file xs key) refl
]

-- a list of entries is what is listed of them with any contents
pub is_listed : (file : List ℕ) (es : List Entry) → es ≡ listed (map (held_in file) es)
is_listed file es = sym (listed-held file es)

above-held : (file : List ℕ) (k : Key) (es : List Entry) → IsAbove key_of k es → IsAbove key_held k (map (held_in file) es)
above-held file k [] above = tt
above-held file k (e ∷ es) above = (above.0, above-held file k es above.1)

pub order-held : (file : List ℕ) (es : List Entry) → IsInOrder key_of es → IsInOrder key_held (map (held_in file) es)
order-held file [] order = tt
order-held file (e ∷ es) order = (above-held file e.key es order.0, order-held file es order.1)

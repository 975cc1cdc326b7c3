-- What the holder's entries do is what the rules say.
use Rattle.std.proofs.Common.{◌≡◌, ℕ, ◌==◌, ◌||◌, true, false, nat_lt, Bool, Option, Some, None, refl, sym, ap, ◌∙◌}
use Rattle.std.specs.Prelude.{if◌then◌else◌, option_map}
use Rattle.petal_base.specs.Cells.{cell_of}
use Rattle.petal_table.specs.Table.{at}
use Rattle.petal_msg.specs.declared.body.Body.TheVariants as body
use Rattle.petal_msg.specs.declared.copying.LastCopy.{LastCopy}
use Rattle.spec_rules.specs.Copies.{Entry, cell_holder, has_room, hears_entry, hears_sync, on_sync, puts_entry}
use Rattle.spec_rules.specs.Server.{PairState, JobContext, says_to, silent}
use Rattle.spec_rules.specs.Store.{Store, cell_cmp, free_of, has_stored, marked_by, with_entry, with_ticket}
use Rattle.copy_transfer.specs.Entries.{counted, one_more, put_as, put_at}

next_is : (place : ℕ) (next : LastCopy) (last : LastCopy) → Some next ≡ option_map (put_at place) (Some last) → next ≡ put_at place last
next_is place next last is = cc

pub next_of : (place : ℕ) (next last : LastCopy) (o : Option LastCopy) → Some next ≡ option_map (put_at place) o → o ≡ Some last
    → last.index ≡ place → next ≡ one_more last
next_of place next last o is there same =
    next_is place next last (is ∙ ap (option_map (put_at place)) there) ∙ ap (λ (n : ℕ). put_at n last) (sym same)

or_true : (b : Bool) → (b || true) ≡ true
or_true true = refl
or_true false = refl

or_false : (b : Bool) → (b || false) ≡ b
or_false true = refl
or_false false = refl

-- an entry that is put moves the copy on by one
put_one : (own : PairState) (entry : Entry) (last next : LastCopy) (holder : ℕ) (room : Bool) → next ≡ one_more last
    → put_as own entry next holder room ≡ puts_entry own entry last holder room
put_one own entry last next holder true more = ap (λ (copy : LastCopy). put_as own entry copy holder true) more
put_one own entry last next holder false more = refl

pub hears_next : (own : PairState) (entry : Entry) (holder : ℕ) (last next : LastCopy) → next ≡ one_more last → nat_lt entry.index last.index ≡ false
    → (entry.index == last.index) ≡ true → put_as own entry next holder (has_room own.store entry) ≡ hears_entry own entry holder last
hears_next own entry holder last next more older same = rw (older, same) (put_one own entry last next holder (has_room own.store entry) more)

-- one that is put already is answered again
pub hears_older : (own : PairState) (entry : Entry) (holder : ℕ) (last : LastCopy) → nat_lt entry.index last.index ≡ true
    → says_to own (Some holder) (body.Synced entry.op (cell_of entry.key) entry.index) ≡ hears_entry own entry holder last
hears_older own entry holder last older = rw older refl

pub hears_other : (own : PairState) (entry : Entry) (holder : ℕ) (last : LastCopy) → nat_lt entry.index last.index ≡ false
    → (entry.index == last.index) ≡ false → silent own ≡ hears_entry own entry holder last
hears_other own entry holder last older other = rw (older, other) refl

-- an entry that is there already: the store stays
pub counted_is : (own : PairState) (entry : Entry) (next : LastCopy) (holder : ℕ) → has_stored own.store entry.key entry.stored ≡ true
    → with_entry (with_ticket own.store) entry.key entry.stored ≡ own.store
    → counted own entry next holder ≡ put_as own entry next holder (has_room own.store entry)
counted_is own entry next holder there again =
    let room : has_room own.store entry ≡ true = ap (λ b. nat_lt 0 (free_of own.store) || b) there ∙ or_true (nat_lt 0 (free_of own.store)) in
    ap (λ (s : Store). counted (record own { store = s }) entry next holder) (sym again) ∙ ap (put_as own entry next holder) (sym room)

-- one that is not there needs a slot
pub needs_slot : (own : PairState) (entry : Entry) (next : LastCopy) (holder : ℕ) → has_stored own.store entry.key entry.stored ≡ false
    → put_as own entry next holder (nat_lt 0 (free_of own.store)) ≡ put_as own entry next holder (has_room own.store entry)
needs_slot own entry next holder none =
    ap (put_as own entry next holder) (sym (ap (λ b. nat_lt 0 (free_of own.store) || b) none ∙ or_false (nat_lt 0 (free_of own.store))))

pub marked_as : (own : PairState) (entry : Entry) (next : LastCopy) (holder : ℕ) (room : Bool)
    → marked_by (put_as own entry next holder room).own.store ≡ marked_by own.store
marked_as own entry next holder true = refl
marked_as own entry next holder false = refl

pair_is : (a b : ℕ × ℕ) → Some a ≡ Some b → a ≡ b
pair_is a b same = cc

pub known_place : (o : Option LastCopy) (op index : ℕ) → option_map {U = ℕ × ℕ} (λ last. (last.op, last.index)) o ≡ Some (op, index)
    → (last : LastCopy) × ((o ≡ Some last) × ((last.op ≡ op) × (last.index ≡ index)))
known_place None op index is = absurd (cc)
known_place (Some last) op index is =
    let here : ℕ × ℕ = (last.op, last.index) in
    let there : ℕ × ℕ = (op, index) in
    let same : here ≡ there = pair_is here there is in
    (last, (refl, (ap (λ (p : ℕ × ℕ). p.0) same, ap (λ (p : ℕ × ℕ). p.1) same)))

pub sync_is : (here : JobContext) (own : PairState) (entry : Entry) (holder : ℕ) (last : LastCopy) → cell_holder here (cell_of entry.key) ≡ Some holder
    → at cell_cmp own.copies.last (cell_of entry.key) ≡ Some last → (entry.op == last.op) ≡ true → hears_entry own entry holder last ≡ on_sync here own entry
unfolding on_sync
sync_is here own entry holder last is there same =
    sym ((λ i. hears_sync own entry (is i) (there i)) ∙ ap (λ (b : Bool). if b then hears_entry own entry holder last else silent own) same)

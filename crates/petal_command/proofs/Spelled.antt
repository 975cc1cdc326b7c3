-- What the bytes of a spelling tell: their number, the kind, and the fields with a length of their own.
use Rattle.std.proofs.Common.{◌≡◌, ℕ, ◌≤◌, Bool, true, false, ◌&&◌, List, ◌++◌, length, drop, get_or, replicate, Option, Some}
use Rattle.std.proofs.Common.{refl, ap, sym, ◌∙◌, append_assoc, arith, length-append}
use Rattle.std.proofs.lemmas.Bool.Decides.{nat_tests}
use Rattle.std.proofs.lemmas.List.{drop-drop, length-replicate}
use Rattle.std.specs.Prelude.{nat_le, nat_lt, slice_index}
use Rattle.std.specs.List.{list_all}
use Rattle.std.specs.Char.{is_ascii_lowercase}
use Rattle.petal_base.specs.Name.{is_name, is_name_byte, name_of}
use Rattle.petal_base.specs.Tuple.{is_tuple, tuple_of, distinct}
use Rattle.petal_command.specs.declared.command.Command.{Command}
use Rattle.petal_command.specs.declared.command.Command.TheVariants.{Join, Leave, Caught, MakeDisk, Snap, StartMove, Drained, Moved, Witness}
use Rattle.petal_command.specs.Spelling.{spelling, HasSpelling, name_field, tuple_field}
use Rattle.record_fields.proofs.Padded.{padded-following, padded-total}

and_left : (a b : Bool) → (a && b) ≡ true → a ≡ true
and_left true b e = refl
and_left false b e = absurd (cc)

and_right : (a b : Bool) → (a && b) ≡ true → b ≡ true
and_right true b e = e
and_right false b e = absurd (cc)

pub name-short : (name : List ℕ) → is_name name ≡ true → length name ≤ 16
name-short name is =
    let three = and_left (nat_lt 0 (length name) && nat_le (length name) 16 && is_ascii_lowercase (slice_index name 0)) (list_all is_name_byte name) is in
    let two = and_left (nat_lt 0 (length name) && nat_le (length name) 16) (is_ascii_lowercase (slice_index name 0)) three in
    let one = and_right (nat_lt 0 (length name)) (nat_le (length name) 16) two in
    grind (arith, nat_tests)

pub tuple-short : (tuple : List ℕ) → is_tuple 8 tuple ≡ true → length tuple ≤ 8
tuple-short tuple is =
    let three = and_left (nat_le 2 (length tuple) && nat_le (length tuple) 8 && list_all (λ n. nat_lt n 8 && nat_lt n 8) tuple) (distinct tuple) is in
    let two = and_left (nat_le 2 (length tuple) && nat_le (length tuple) 8) (list_all (λ n. nat_lt n 8 && nat_lt n 8) tuple) three in
    let one = and_right (nat_le 2 (length tuple)) (nat_le (length tuple) 8) two in
    grind (arith, nat_tests)

pub name_of-name : (word name : List ℕ) → word ≡ name → is_name name ≡ true → name_of word ≡ Some name
name_of-name word name e is = rw (e, is)

pub tuple_of-tuple : (ids tuple : List ℕ) → ids ≡ tuple → is_tuple 8 tuple ≡ true → tuple_of 8 ids ≡ Some tuple
tuple_of-tuple ids tuple e is = rw (e, is)

-- the field after a name that begins at byte 6
pub second_field : (name second rest bytes : List ℕ) → is_name name ≡ true → drop 6 bytes ≡ name_field name ++ second ++ rest → drop 23 bytes ≡ second ++ rest
second_field name second rest bytes is e =
    sym (drop-drop 17 6 bytes) ∙ ap (drop 17) (e ∙ append_assoc (name_field name) second rest) ∙ padded-following 16 name (second ++ rest) (name-short name is)

pub length-spelling : (command : Command) → HasSpelling command → length (spelling command) ≡ 64
length-spelling (Join server inc blank) fits = refl
length-spelling (Leave server inc) fits = refl
length-spelling (Caught map link holder holder_inc other other_inc) fits = refl
length-spelling (MakeDisk client seq name tuple) fits =
    omega (
      arith,
      length-append (name_field name ++ tuple_field tuple) (replicate 32 0),
      length-append (name_field name) (tuple_field tuple),
      padded-total 16 name (name-short name fits.2),
      padded-total 8 tuple (tuple-short tuple fits.3),
      length-replicate {A = ℕ} 32 0,
    )
length-spelling (Snap client seq disk name) fits =
    omega (
      arith,
      length-append (name_field disk ++ name_field name) (replicate 24 0),
      length-append (name_field disk) (name_field name),
      padded-total 16 disk (name-short disk fits.2),
      padded-total 16 name (name-short name fits.3),
      length-replicate {A = ℕ} 24 0,
    )
length-spelling (StartMove client seq disk tuple) fits =
    omega (
      arith,
      length-append (name_field disk ++ tuple_field tuple) (replicate 32 0),
      length-append (name_field disk) (tuple_field tuple),
      padded-total 16 disk (name-short disk fits.2),
      padded-total 8 tuple (tuple-short tuple fits.3),
      length-replicate {A = ℕ} 32 0,
    )
length-spelling (Drained server inc fence) fits = refl
length-spelling (Moved map region link) fits = refl
length-spelling (Witness client seq turn) fits = refl

-- the first byte
abbrev pub kind_of : Command → ℕ
kind_of (Join server inc blank) = 1
kind_of (Leave server inc) = 2
kind_of (Caught map link holder holder_inc other other_inc) = 3
kind_of (MakeDisk client seq name tuple) = 4
kind_of (Snap client seq disk name) = 5
kind_of (StartMove client seq disk tuple) = 6
kind_of (Drained server inc fence) = 7
kind_of (Moved map region link) = 8
kind_of (Witness client seq turn) = 9

pub kind_of-spelling : (bytes : List ℕ) (command : Command) → bytes ≡ spelling command → get_or bytes 0 0 ≡ kind_of command
kind_of-spelling bytes (Join server inc blank) e = ap (λ (l : List ℕ). get_or l 0 0) e
kind_of-spelling bytes (Leave server inc) e = ap (λ (l : List ℕ). get_or l 0 0) e
kind_of-spelling bytes (Caught map link holder holder_inc other other_inc) e = ap (λ (l : List ℕ). get_or l 0 0) e
kind_of-spelling bytes (MakeDisk client seq name tuple) e = ap (λ (l : List ℕ). get_or l 0 0) e
kind_of-spelling bytes (Snap client seq disk name) e = ap (λ (l : List ℕ). get_or l 0 0) e
kind_of-spelling bytes (StartMove client seq disk tuple) e = ap (λ (l : List ℕ). get_or l 0 0) e
kind_of-spelling bytes (Drained server inc fence) e = ap (λ (l : List ℕ). get_or l 0 0) e
kind_of-spelling bytes (Moved map region link) e = ap (λ (l : List ℕ). get_or l 0 0) e
kind_of-spelling bytes (Witness client seq turn) e = ap (λ (l : List ℕ). get_or l 0 0) e

pub some_pair : {X Y : Type 0} (a d : X) (b e : Y) → Some a ≡ Some d → Some b ≡ Some e → ◌≡◌ {A = Option (X × Y)} (Some (a, b)) (Some (d, e))
some_pair a d b e p q = cc

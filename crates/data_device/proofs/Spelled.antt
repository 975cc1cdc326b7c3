-- What the bytes of a spelling tell: their number and the kind.
use Rattle.std.proofs.Common.{◌≡◌, ℕ, List, Option, None, Some, length, get_or, refl, ap}
use Rattle.petal_base.specs.Origins.{Named}
use Rattle.busy_marks.specs.declared.marks.MarkKind.{MarkKind}
use Rattle.petal_base.specs.declared.cell.Cell.{Cell}
use Rattle.petal_base.specs.declared.cell.Key.{Key}
use Rattle.data_device.specs.declared.record.StoreRecord.{StoreRecord}
use Rattle.data_device.specs.declared.record.StoreRecord.TheVariants.{Put, Drop, Mark, Unmark, Settled, Forget, Done}
use Rattle.data_device.specs.Spelling.{spelling}

pub length-spelling : (entry : StoreRecord) → length (spelling entry) ≡ 63
length-spelling (Put key version slot None) = refl
length-spelling (Put key version slot (Some o)) = refl
length-spelling (Drop key) = refl
length-spelling (Mark kind cell) = refl
length-spelling (Unmark kind cell) = refl
length-spelling Settled = refl
length-spelling (Forget map link) = refl
length-spelling (Done map o) = refl

-- the first byte
abbrev pub kind_of : StoreRecord → ℕ
kind_of (Put key version slot origin) = 1
kind_of (Drop key) = 2
kind_of (Mark kind cell) = 3
kind_of (Unmark kind cell) = 4
kind_of Settled = 5
kind_of (Forget map link) = 7
kind_of (Done map o) = 8

pub kind_of-spelling : (bytes : List ℕ) (entry : StoreRecord) → bytes ≡ spelling entry → get_or bytes 0 0 ≡ kind_of entry
kind_of-spelling bytes (Put key version slot origin) e = ap (λ (l : List ℕ). get_or l 0 0) e
kind_of-spelling bytes (Drop key) e = ap (λ (l : List ℕ). get_or l 0 0) e
kind_of-spelling bytes (Mark kind cell) e = ap (λ (l : List ℕ). get_or l 0 0) e
kind_of-spelling bytes (Unmark kind cell) e = ap (λ (l : List ℕ). get_or l 0 0) e
kind_of-spelling bytes Settled e = ap (λ (l : List ℕ). get_or l 0 0) e
kind_of-spelling bytes (Forget map link) e = ap (λ (l : List ℕ). get_or l 0 0) e
kind_of-spelling bytes (Done map o) e = ap (λ (l : List ℕ). get_or l 0 0) e

-- cells and keys are their numbers
pub cell_is : (map block : ℕ) (cell : Cell) → map ≡ cell.map → block ≡ cell.block → ◌≡◌ {A = Cell} (record { map = map; block = block }) cell
cell_is map block cell e f = rw (e, f) refl

pub key_is : (map block epoch : ℕ) (key : Key) → map ≡ key.map → block ≡ key.block → epoch ≡ key.epoch
    → ◌≡◌ {A = Key} (record { map = map; block = block; epoch = epoch }) key
key_is map block epoch key e f h = rw (e, f, h) refl

pub put_is : (a : Key) (b d : ℕ) (o : Option Named) (key : Key) (version slot : ℕ) (origin : Option Named) → a ≡ key → b ≡ version → d ≡ slot → o ≡ origin
    → Put a b d o ≡ Put key version slot origin
put_is a b d o key version slot origin e f h i = rw (e, f, h, i) refl

pub mark_is : (a : MarkKind) (b : Cell) (kind : MarkKind) (cell : Cell) → a ≡ kind → b ≡ cell → Mark a b ≡ Mark kind cell
mark_is a b kind cell e f = rw (e, f) refl

pub unmark_is : (a : MarkKind) (b : Cell) (kind : MarkKind) (cell : Cell) → a ≡ kind → b ≡ cell → Unmark a b ≡ Unmark kind cell
unmark_is a b kind cell e f = rw (e, f) refl

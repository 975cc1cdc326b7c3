-- Keys in order, and lists of what stands under keys.
use Rattle.std.specs.Prelude.{◌≡◌, Bool, true, ◌&&◌, ◌||◌, ◌==◌, nat_lt, nat_le, List, [], ◌∷◌, Option, None, Some, if◌then◌else◌}
use Rattle.petal_base.specs.declared.cell.Key.{Key}

-- by map, then by block, then by epoch
abbrev pub key_below : Key → Key → Bool
key_below a b =
    nat_lt a.map b.map || (a.map == b.map && (nat_lt a.block b.block || (a.block == b.block && nat_lt a.epoch b.epoch)))

-- the same map, block and epoch
abbrev pub same_key : Key → Key → Bool
same_key a b = a.map == b.map && a.block == b.block && a.epoch == b.epoch

-- a read at this key sees that one: the same cell, and no later epoch
abbrev pub sees : Key → Key → Bool
sees at key = key.map == at.map && key.block == at.block && nat_le key.epoch at.epoch

-- the list with x at the place of its key, in the place of what has that key
abbrev pub placed : {A : Type 0} → (A → Key) → List A → A → List A
placed key [] x = x ∷ []
placed key (y ∷ ys) x =
    if key_below (key y) (key x) then y ∷ placed key ys x else if same_key (key y) (key x) then x ∷ ys else x ∷ y ∷ ys

-- the later of two by epoch, and the first of equals
abbrev pub later : {A : Type 0} → (A → Key) → Option A → Option A → Option A
later key None y = y
later key (Some x) None = Some x
later key (Some x) (Some y) = if nat_lt (key x).epoch (key y).epoch then Some y else Some x

-- what a read at a key finds: of all that it sees, what has the greatest epoch
abbrev pub newest : {A : Type 0} → (A → Key) → Key → List A → Option A
newest key at [] = None
newest key at (x ∷ xs) = if sees at (key x) then later key (Some x) (newest key at xs) else newest key at xs

-- everything in the list has a key after this one
abbrev pub IsAbove : {A : Type 0} → (A → Key) → Key → List A → Type 0
IsAbove key k [] = Unit {0}
IsAbove key k (x ∷ xs) = (key_below k (key x) ≡ true) × IsAbove key k xs

-- the list rises by its keys
abbrev pub IsInOrder : {A : Type 0} → (A → Key) → List A → Type 0
IsInOrder key [] = Unit {0}
IsInOrder key (x ∷ xs) = IsAbove key (key x) xs × IsInOrder key xs

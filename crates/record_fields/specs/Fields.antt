-- How the fields of a record are spelled.
use Rattle.std.specs.Prelude.{ℕ, ◌<◌, ◌^◌, ◌-◌, Bool, if◌then◌else◌, List, [], ◌∷◌, ◌++◌, length, replicate}
use Rattle.byteorder.specs.Endian.{big_bytes}

-- a number in one byte
abbrev pub byte : ℕ → List ℕ
byte n = n ∷ []

-- a number in four bytes, the highest first
abbrev pub word : ℕ → List ℕ
word n = big_bytes 4 n

-- a number in eight bytes, the highest first
abbrev pub long : ℕ → List ℕ
long n = big_bytes 8 n

-- 0 for no, 1 for yes
abbrev pub flag : Bool → List ℕ
flag b = byte (if b then 1 else 0)

-- a list of at most `room` bytes: its length, its bytes, zeros
unfoldable pub padded : ℕ → List ℕ → List ℕ
padded room xs = length xs ∷ (xs ++ replicate (room - length xs) 0)

abbrev pub IsWord : ℕ → Type 0
IsWord n = n < 2 ^ 32

abbrev pub IsLong : ℕ → Type 0
IsLong n = n < 2 ^ 64

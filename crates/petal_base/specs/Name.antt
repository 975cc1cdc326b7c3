-- What a name is.
use Rattle.std.specs.Prelude.{ℕ, Bool, ◌||◌, ◌&&◌, ◌==◌, nat_lt, nat_le, List, length, slice_index, if◌then◌else◌, Option, Some, None}
use Rattle.std.specs.List.{list_all}
use Rattle.std.specs.Char.{is_ascii_digit, is_ascii_lowercase}

-- a letter, a digit, `-` or `_`
abbrev pub is_name_byte : ℕ → Bool
is_name_byte b = is_ascii_lowercase b || is_ascii_digit b || b == 45 || b == 95

-- 1 to 16 such bytes, beginning with a letter
abbrev pub is_name : List ℕ → Bool
is_name word =
    nat_lt 0 (length word) && nat_le (length word) 16 && is_ascii_lowercase (slice_index word 0)
    && list_all is_name_byte word

-- the name that a word is
abbrev pub name_of : List ℕ → Option (List ℕ)
name_of word = if is_name word then Some word else None

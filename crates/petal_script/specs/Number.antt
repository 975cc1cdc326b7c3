-- What digits spell.
use Rattle.std.specs.Prelude.{ℕ, ◌+◌, ◌-◌, ◌*◌, Bool, ◌&&◌, nat_lt, nat_le, List, length, if◌then◌else◌, Option, Some, None}
use Rattle.std.specs.List.{fold, list_all}
use Rattle.std.specs.Char.{is_ascii_digit}

-- 1 to 20 digits
abbrev pub is_number : List ℕ → Bool
is_number word = nat_lt 0 (length word) && nat_le (length word) 20 && list_all is_ascii_digit word

-- what the digits spell, however much it is
abbrev pub value : List ℕ → ℕ
value word = fold (λ n digit. 10 * n + (digit - 48)) 0 word

-- the number that a word is
abbrev pub number_of : List ℕ → Option ℕ
number_of word = if is_number word then Some (value word) else None

-- What a tuple of servers is.
use Rattle.std.specs.Prelude.{ℕ, Bool, true, not, ◌&&◌, nat_eq, nat_lt, nat_le, List, [], ◌∷◌, length, if◌then◌else◌, Option, Some, None}
use Rattle.std.specs.List.{list_any, list_all}

-- no number stands twice
abbrev pub distinct : List ℕ → Bool
distinct [] = true
distinct (n ∷ ns) = not (list_any (nat_eq n) ns) && distinct ns

-- 2 to 8 distinct numbers below the number of servers and below 8
abbrev pub is_tuple : ℕ → List ℕ → Bool
is_tuple servers ids =
    nat_le 2 (length ids) && nat_le (length ids) 8 && list_all (λ n. nat_lt n servers && nat_lt n 8) ids && distinct ids

-- the tuple that the numbers are
abbrev pub tuple_of : ℕ → List ℕ → Option (List ℕ)
tuple_of servers ids = if is_tuple servers ids then Some ids else None

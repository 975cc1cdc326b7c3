-- Whether two commands are one.
use Rattle.std.specs.Prelude.{ℕ, Bool, true, false, ◌==◌, ◌&&◌, nat_eq, List}
use Rattle.std.specs.List.{list_any}
use Rattle.std.specs.Cmp.Lexicographic.{pointwise}
use Rattle.petal_command.specs.declared.command.Command.{Command}
use Rattle.petal_command.specs.declared.command.Command.TheVariants.{Join, Leave, Caught, MakeDisk, Snap, StartMove, Drained, Moved, Witness}

-- the same bytes of a name, or the same servers of a tuple
abbrev pub same_items : List ℕ → List ℕ → Bool
same_items = pointwise nat_eq

abbrev pub same_flag : Bool → Bool → Bool
same_flag true true = true
same_flag false false = true
same_flag _ _ = false

-- both have one kind, and the same in each field
abbrev pub same_command : Command → Command → Bool
same_command (Join s i b) (Join t j c) = (s == t) && (i == j) && same_flag b c
same_command (Leave s i) (Leave t j) = (s == t) && (i == j)
same_command (Caught m l h i o p) (Caught n k g j q r) = (m == n) && (l == k) && (h == g) && (i == j) && (o == q) && (p == r)
same_command (MakeDisk c s n t) (MakeDisk d r m u) = (c == d) && (s == r) && same_items n m && same_items t u
same_command (Snap c s n t) (Snap d r m u) = (c == d) && (s == r) && same_items n m && same_items t u
same_command (StartMove c s n t) (StartMove d r m u) = (c == d) && (s == r) && same_items n m && same_items t u
same_command (Drained s i f) (Drained t j g) = (s == t) && (i == j) && (f == g)
same_command (Moved m r l) (Moved n q k) = (m == n) && (r == q) && (l == k)
same_command (Witness c s t) (Witness d r u) = (c == d) && (s == r) && (t == u)
same_command _ _ = false

-- the command stands in the list
abbrev pub has_command : List Command → Command → Bool
has_command commands command = list_any (same_command command) commands

-- Tables: rows of a key and what stands there, by rising key. `cmp` is the keys' order.
use Rattle.std.specs.Prelude.{List, Option, not, filter}
use Rattle.std.specs.declared.cmp.Ordering.{Ordering}
use Rattle.std.specs.BTreeMap.{insert_entry, is_at}
use Rattle.std.specs.Map.{lookup}

-- rows of a key and what stands there
abbrev pub Table : Type 0 → Type 0 → Type 0
Table K X = List (K × X)

-- what stands at the key
unfoldable pub at : {K X : Type 0} → (K → K → Ordering) → Table K X → K → Option X
at cmp t k = lookup (is_at (cmp k)) t

-- the table with this at the key
unfoldable pub put : {K X : Type 0} → (K → K → Ordering) → Table K X → K → X → Table K X
put cmp t k x = insert_entry cmp t k x

-- the table with nothing at the key
unfoldable pub without : {K X : Type 0} → (K → K → Ordering) → Table K X → K → Table K X
without cmp t k = filter (λ row. not (is_at (cmp k) row.0)) t

-- Which write of each client was put last, as a list of rows in order.
use Rattle.std.specs.Prelude.{ℕ, Bool, ◌&&◌, ◌||◌, ◌==◌, true, not, nat_le, nat_lt, max, List, Option, None, Some, filter}
use Rattle.std.specs.List.{find, list_any}
use Rattle.std.specs.Ordering.{nat_cmp, on, then_cmp}
use Rattle.std.specs.declared.cmp.Ordering.{Ordering}
use Rattle.std.specs.declared.ops.Bound.{Bound}
use Rattle.std.specs.declared.ops.Bound.TheVariants.{Excluded, Unbounded}
use Rattle.petal_base.specs.Limits.{client_limit}
use Rattle.petal_base.specs.Origins.{Named}
use Rattle.sorted_list.specs.Lists.{placed}
use Rattle.client_rows.specs.declared.row.Row.{Row}

-- rows in order, and for how many more there is room
pub record Numbered : Type 0 where
  pub rows : List Row
  pub spare : ℕ

-- by map, then by link, then by client
abbrev pub row_cmp : Row → Row → Ordering
row_cmp = then_cmp (then_cmp (on (λ r. r.map) nat_cmp) (on (λ r. r.link) nat_cmp)) (on (λ r. r.client) nat_cmp)

-- of one map, link and client
abbrev pub same_row : Row → Row → Bool
same_row a b = a.map == b.map && a.link == b.link && a.client == b.client

-- the row is of this map, link and client
abbrev pub is_of : ℕ → ℕ → ℕ → Row → Bool
is_of map link client row = row.map == map && row.link == link && row.client == client

-- the row is of this map and link
abbrev pub is_on : ℕ → ℕ → Row → Bool
is_on map link row = row.map == map && row.link == link

abbrev pub seq_in : Option Row → Option ℕ
seq_in None = None
seq_in (Some row) = Some row.seq

-- the number that a client put on a link of a map
abbrev pub row_of : List Row → ℕ → ℕ → ℕ → Option ℕ
row_of rows map link client = seq_in (find (is_of map link client) rows)

-- the greater of a number that may be there and another one
abbrev pub greater : Option ℕ → ℕ → ℕ
greater None seq = seq
greater (Some there) seq = max there seq

-- the rows with the number of a write, where none as great is there
abbrev pub with_row : List Row → ℕ → Named → List Row
with_row rows map origin =
    placed row_cmp rows (record {
      map = map;
      link = origin.link;
      client = origin.client;
      seq = greater (row_of rows map origin.link origin.client) origin.seq;
    })

-- the rows after a put for a write, if it is for one
abbrev pub rows_after : List Row → (map : ℕ) → Option Named → List Row
rows_after rows map None = rows
rows_after rows map (Some origin) = with_row rows map origin

-- the rows without those of a link of a map
abbrev pub without_rows : List Row → ℕ → ℕ → List Row
without_rows rows map link = filter (λ row. not (is_on map link row)) rows

-- without those there of the clients from that one on
abbrev pub without_from : ℕ → List Row → ℕ → ℕ → List Row
without_from client rows map link = filter (λ row. not (is_on map link row && nat_le client row.client)) rows

-- a row of a link of a map is there
abbrev pub has_rows : ℕ → ℕ → List Row → Bool
has_rows map link rows = list_any (is_on map link) rows

-- the row is of a later map or link, if there is one
abbrev pub is_past : Option (ℕ × ℕ) → Row → Bool
is_past None row = true
is_past (Some place) row = nat_lt place.0 row.map || (row.map == place.0 && nat_lt place.1 row.link)

abbrev pub place_in : Option Row → Option (ℕ × ℕ)
place_in None = None
place_in (Some row) = Some (row.map, row.link)

-- of rows in order, the least map and link past these
abbrev pub next_rows_of : Option (ℕ × ℕ) → List Row → Option (ℕ × ℕ)
next_rows_of after rows = place_in (find (is_past after) rows)

-- where a search for them begins
abbrev pub behind : Option (ℕ × ℕ) → Bound Row
behind None = Unbounded
behind (Some place) = Excluded (record { map = place.0; link = place.1; client = client_limit; seq = 0 })

-- Each change of the links leaves the numbers of their rows.
use Rattle.std.proofs.Common.{◌≡◌, ◌+◌, ◌%◌, ◌<◌, ◌&&◌, nat_lt, ◌≤◌, ℕ, Bool, true, false, if◌then◌else◌, List, map, length, sym, subst, arith, mod-lt}
use Rattle.std.specs.List.{All, list_all, range_with_len}
use Rattle.std.proofs.lemmas.Bool.Decides.{nat_tests}
use Rattle.std.proofs.lemmas.List.{length-map}
use Rattle.std.proofs.lemmas.List.Elements.{All-filter, All-map, All-weaker}
use Rattle.std.proofs.lemmas.List.FromFn.{get_or-map-range_with_len, length-range_with_len}
use Rattle.std.proofs.lemmas.List.Sums.{AllPass-from_list_all}
use Rattle.global_tables.specs.Link.{caught, dropped, has_server, is_link, joined, left, left_state, new_row, new_rows, other_of}
use Rattle.global_tables.specs.Link.{row_blanked, row_caught, row_left}
use Rattle.global_tables.specs.declared.link.LinkRow.{LinkRow}
use Rattle.global_tables.specs.declared.link.LinkState.TheVariants.{Both}
use Rattle.petal_base.specs.Tuple.{is_tuple}
use Rattle.link_table.specs.Numbers.{IsNumbered}

pub as_numbered : (a b : List LinkRow) → a ≡ b → All IsNumbered b → All IsNumbered a
as_numbered a b is = subst (λ (rows : List LinkRow). All IsNumbered rows) (sym is)

all_changed : (f : LinkRow → LinkRow) (rows : List LinkRow) → ((row : LinkRow) → IsNumbered row → IsNumbered (f row))
    → All IsNumbered rows → All IsNumbered (map f rows)
all_changed f rows keeps all = All-map IsNumbered f rows (All-weaker IsNumbered (λ row. IsNumbered (f row)) keeps rows all)

pub left_numbered : (rows : List LinkRow) (server : ℕ) → All IsNumbered rows → All IsNumbered (left rows server)
left_numbered rows server = all_changed (row_left server) rows (λ row is. by row is (has_server server row))
  where
    by : (row : LinkRow) → IsNumbered row → (b : Bool)
        → IsNumbered (if b then record row { state = left_state (other_of server row) row.state } else row)
    by row is true = is
    by row is false = is

pub blanked_numbered : (rows : List LinkRow) (server : ℕ) → All IsNumbered rows → All IsNumbered (joined rows server true)
blanked_numbered rows server = all_changed (row_blanked server) rows (λ row is. is)

pub caught_numbered : (rows : List LinkRow) (of link : ℕ) → All IsNumbered rows → All IsNumbered (caught rows of link)
caught_numbered rows of link = all_changed (row_caught of link) rows (λ row is. by row is (is_link of link row))
  where
    by : (row : LinkRow) → IsNumbered row → (b : Bool) → IsNumbered (if b then record row { state = Both } else row)
    by row is true = is
    by row is false = is

pub dropped_numbered : (rows : List LinkRow) (of : ℕ) → All IsNumbered rows → All IsNumbered (dropped rows of)
dropped_numbered rows of = All-filter _ IsNumbered rows

server_below : (ids : List ℕ) → is_tuple 8 ids ≡ true → All (λ n. n < 8) ids
server_below ids is =
    let all : list_all (λ n. nat_lt n 8 && nat_lt n 8) ids ≡ true = grind (arith, nat_tests) in
    All-weaker _ (λ n. n < 8) below ids (AllPass-from_list_all _ ids all)
  where
    below : (n : ℕ) → (nat_lt n 8 && nat_lt n 8) ≡ true → n < 8
    below n both = grind (arith, nat_tests)

few_servers : (ids : List ℕ) → is_tuple 8 ids ≡ true → length ids ≤ 8
few_servers ids is = grind (arith, nat_tests)

pub new_numbered : (of : ℕ) (ids : List ℕ) (up : List Bool) → is_tuple 8 ids ≡ true → All IsNumbered (new_rows of ids up)
new_numbered of ids up is k d within =
    let few = few_servers ids is in
    let inside : k < length ids = omega (arith, within, length-map (range_with_len 0 (length ids)) (new_row of ids up), length-range_with_len 0 (length ids)) in
    let numbers : IsNumbered (new_row of ids up k) =
    (omega (arith, few, inside), server_below ids is k 0 inside, server_below ids is ((k + 1) % length ids) 0 (mod-lt (k + 1) (omega (arith, inside)))) in
    subst IsNumbered (sym (get_or-map-range_with_len (new_row of ids up) 0 (length ids) k k d inside (omega arith))) numbers

-- The cells of a link.
use Rattle.std.proofs.Common.{◌≡◌, inl, inr, ℕ, Bool, true, false, List, [], ◌∷◌, Option, Some, None, length, sym, ap, ◌∙◌, refl, arith}
use Rattle.std.proofs.lemmas.Bool.{cases_Bool}
use Rattle.std.proofs.lemmas.Bool.Decides.{nat_tests}
use Rattle.std.specs.Prelude.{find, option_and_then}
use Rattle.std.specs.Option.{option_map_or}
use Rattle.global_tables.specs.declared.link.LinkRow.{LinkRow}
use Rattle.global_tables.specs.Link.{is_link, link_at}
use Rattle.global_tables.specs.Map.{tuple_of}
use Rattle.global_tables.specs.Region.{link_of}
use Rattle.petal_base.specs.declared.cell.Cell.{Cell}
use Rattle.spec_rules.specs.State.{State, is_on}

found_is : (test : LinkRow → Bool) (rows : List LinkRow) (row : LinkRow) → find test rows ≡ Some row → test row ≡ true
found_is test [] row is = absurd (cc)
found_is test (r ∷ rs) row is = elim (cases_Bool (test r)) [
  | inl has ↦ let same : r ≡ row = (let e : Some r ≡ Some row = rw has at is in cc) in ap test (sym same) ∙ has
  | inr has ↦ found_is test rs row (rw has at is)
]

row_of_map : (rows : List LinkRow) (of link : ℕ) (row found : LinkRow) → link_at rows of link ≡ Some found
    → is_link row.map row.link found ≡ true → of ≡ row.map
row_of_map rows of link row found is same =
    let own = found_is (is_link of link) rows found is in
    grind (arith, nat_tests, own, same)

linked : (state : State) (row : LinkRow) (cell : Cell) (link : ℕ) (o : Option LinkRow) → link_at state.links cell.map link ≡ o
    → option_map_or (is_link row.map row.link) o false ≡ true → cell.map ≡ row.map
linked state row cell link None found has = absurd (cc)
linked state row cell link (Some other) found has = row_of_map state.links cell.map link row other found has

-- a cell of the link is one of its map
pub on_map : (state : State) (row : LinkRow) (cell : Cell) → is_on state row cell ≡ true → cell.map ≡ row.map
on_map state row cell is = elim (tuple_of state.maps cell.map) as (λ o. option_map_or (is_link row.map row.link)
    (option_and_then (λ tuple. link_at state.links cell.map (link_of (length tuple) cell.block)) o) false ≡ true → cell.map ≡ row.map) [
      | None ↦ λ no. absurd (cc)
      | Some tuple ↦ λ has. linked state row cell (link_of (length tuple) cell.block)
          (link_at state.links cell.map (link_of (length tuple) cell.block)) refl has
    ] is

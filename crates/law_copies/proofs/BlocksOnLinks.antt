-- Which blocks of a map lie on a link: by how many links the map has.
use Rattle.law_copies.proofs.Imports.{◌==◌, ◌∙◌, ◌≡◌, Cell, LinkRow, List, Some, State, ap, both_true, cell_at, cell_link, found_at, inl, inr, is_link}
use Rattle.law_copies.proofs.Imports.{length, link_at, link_of, none_some, option_and_then, option_map_or, same_numbers, some_or_none, sym, tuple_of, ℕ}
use Rattle.law_copies.specs.CopyProgress.{links_of}

module _ (state : State) (cell : Cell) (row : LinkRow) (is : cell_link state cell ≡ Some row) where
  -- the cell's map is known
  tuple_there : (tuple : List ℕ) × (tuple_of state.maps cell.map ≡ Some tuple)
  tuple_there = elim (some_or_none (tuple_of state.maps cell.map)) [
    | inl there ↦ there
    | inr none ↦ none_some (ap (option_and_then (λ tuple. link_at state.links cell.map (link_of (length tuple) cell.block))) none) is
  ]

  abbrev links : ℕ
  links = links_of state cell.map

  -- a cell of the map is looked up by its block
  found_by : (block : ℕ) → cell_link state (record { map = cell.map; block = block }) ≡ link_at state.links cell.map (link_of links block)
  found_by block = ap (option_and_then (λ tuple. link_at state.links cell.map (link_of (length tuple) block))) tuple_there.1
      ∙ ap (λ o. link_at state.links cell.map (link_of (option_map_or length o 0) block)) (sym tuple_there.1)

  both : (row.map ≡ cell.map) × (row.link ≡ link_of links cell.block)
  both =
      let found = found_at (is_link cell.map (link_of links cell.block)) state.links row (sym (found_by cell.block) ∙ is) in
      let two = both_true (row.map == cell.map) (row.link == link_of links cell.block) found.2 in
      (same_numbers row.map cell.map two.0, same_numbers row.link (link_of links cell.block) two.1)

  -- the cell's block is on its link
  pub block_on : link_of (links_of state cell.map) cell.block ≡ row.link
  block_on = sym both.1

  -- and a block on the link is one of its cells
  pub on_block : (block : ℕ) → link_of (links_of state cell.map) block ≡ row.link → cell_link state (cell_at row block) ≡ Some row
  on_block block same =
      let one : cell_at row block ≡ record { map = cell.map; block = block } = λ i. record { map = both.0 i; block = block } in
      ap (cell_link state) one ∙ found_by block ∙ ap (link_at state.links cell.map) (same ∙ sym block_on) ∙ sym (found_by cell.block) ∙ is

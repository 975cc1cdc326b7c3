-- What a job leaves of a cell without a link.
use Rattle.law_copies.proofs.Imports.{◌∙◌, ◌≡◌, Body, Cell, Did, Effect, Ends_copy, Found_no_slot, IsSettledState, IsToEnd, Is_whole, JobContext}
use Rattle.law_copies.proofs.Imports.{JobResult, LinkId, LinkRow, May, None, Option, PairState, Some, State, Turns_page, ap, applied, by_bool, cell_link}
use Rattle.law_copies.proofs.Imports.{ended_copy, eq_by_cmp, false, id_of, inl, inr, job_keeps, link_at, link_cmp, link_named, linked, none_some, owner}
use Rattle.law_copies.proofs.Imports.{progress_on, refl, row_named, same_id, some_or_none, sym, without_copying, ℕ}
use Rattle.law_copies.proofs.CopiesGoOn.{copied_apart}
use Rattle.law_copies.proofs.HolderPace.{page_beside}
use Rattle.law_copies.proofs.RolesOfWorkers.{named_id}

-- ### Links

-- where a cell has no link its map has none
map_unlinked : (servers : ℕ) (state : State) → IsSettledState servers state → (cell : Cell) → cell_link state cell ≡ None → (link : ℕ)
    → link_at state.links cell.map link ≡ None
map_unlinked servers state plain cell none link = elim (some_or_none (owner state cell.map)) [
  | inl owned ↦ none_some none (linked servers state plain cell (λ gone. none_some gone owned.1)).1
  | inr gone ↦ plain.unlinked cell.map link gone
]

-- a link of its map is none that is found by its name
pub unlinked_apart : (servers : ℕ) (state : State) → IsSettledState servers state → (cell : Cell) → cell_link state cell ≡ None → (row : LinkRow)
    → row.map ≡ cell.map → (id : LinkId) (of : LinkRow) → link_named state id ≡ Some of → eq_by_cmp link_cmp (id_of row) (id_of of) ≡ false
unlinked_apart servers state plain cell none row map_is id of named = by_bool (eq_by_cmp link_cmp (id_of row) (id_of of))
    (λ t.
    let same : id_of row ≡ id = same_id (id_of row) (id_of of) t ∙ named_id state id of named in
    none_some (map_unlinked servers state plain cell none row.link)
    (ap (λ map. link_at state.links map row.link) (sym map_is) ∙ ap (link_named state) same ∙ named))
    (λ off. off)

-- ### How far a link is that the server's state has not

module _ (heard : Body → Type 0) (here : JobContext) (own : PairState) (row : LinkRow)
    (apart : (id : LinkId) (of : LinkRow) → link_named here.state id ≡ Some of → eq_by_cmp link_cmp (id_of row) (id_of of) ≡ false) where
  each_pages : (now : PairState) (e : Effect) → May heard here own now e → progress_on (applied now e) row ≡ progress_on now row
  each_pages now (Ends_copy cell of) may = ended cell of may
    where
      by_link : (cell : Cell) (of : Option LinkRow) → cell_link here.state cell ≡ of → progress_on (ended_copy of now cell) row ≡ progress_on now row
      by_link cell None is = refl
      by_link cell (Some of) is = copied_apart (without_copying now cell) of cell.block row (apart (id_of of) of (row_named here.state cell of is))

      ended : (cell : Cell) (of : Option LinkRow) → IsToEnd here own now cell of → progress_on (ended_copy of now cell) row ≡ progress_on now row
      ended cell _ (Found_no_slot copy under trimmed lt) = refl
      ended cell _ (Is_whole copy under synced) = by_link cell (cell_link here.state cell) refl
  each_pages now (Turns_page of block) may = page_beside now of row block (apart may.0.id of may.0.held.is)
  each_pages now _ may = refl

  pub did_pages : (done : JobResult) → Did heard here own done → progress_on done.own row ≡ progress_on own row
  did_pages = job_keeps heard here own (λ (o : PairState). progress_on o row ≡ progress_on own row) (λ now e may same. each_pages now e may ∙ same) refl

-- The blocks of a link among those of its map.
use Rattle.std.proofs.Common.{◌≡◌, inl, inr, ℕ, ◌==◌, ◌++◌, ◌&&◌, not, Bool, true, false, List, [], ◌∷◌, Option, refl, sym, ap, ◌∙◌, arith}
use Rattle.std.proofs.Common.{Some, None, zero, suc}
use Rattle.std.proofs.lemmas.Bool.{cases_Bool}
use Rattle.std.proofs.lemmas.Bool.Decides.{nat_tests}
use Rattle.std.proofs.lemmas.List.{append-nil}
use Rattle.std.specs.Prelude.{filter, if◌then◌else◌}
use Rattle.busy_marks.specs.declared.marks.Mark.{Mark}
use Rattle.busy_marks.specs.declared.marks.MarkKind.{MarkKind}
use Rattle.busy_marks.specs.Marks.{above, lesser}
use Rattle.global_tables.specs.declared.link.LinkRow.{LinkRow}
use Rattle.petal_base.specs.declared.cell.Cell.{Cell}
use Rattle.petal_table.specs.Table.{Table}
use Rattle.spec_rules.specs.Copies.{cell_at, idle_from, is_kept_on, least, next_idle}
use Rattle.spec_rules.specs.Server.{PairState}
use Rattle.spec_rules.specs.State.{State, is_on, needs_full_copy}
use Rattle.spec_rules.specs.Store.{Chain, is_marked}
use Rattle.spec_rules.specs.Writes.{is_under_way}
use Rattle.pair_memory.specs.Walking.{marked_in, stored_in}
use Rattle.pair_memory.proofs.Linked.{on_map}
use Rattle.link_blocks.specs.Walks.{idle_on, left_on, marked_on, on_link, stored_on}
use Rattle.link_blocks.proofs.Least.{filter_both, from_start, least_both}

same_cell : (cell : Cell) (row : LinkRow) → (cell.map == row.map) ≡ true → cell_at row cell.block ≡ cell
same_cell cell row is = λ i. record { map = sym map_is i; block = cell.block }
  where
    map_is : cell.map ≡ row.map
    map_is = grind (arith, nat_tests, is)

off_map : (state : State) (row : LinkRow) (cell : Cell) → (cell.map == row.map) ≡ false → is_on state row cell ≡ false
off_map state row cell other = elim (cases_Bool (is_on state row cell)) [
  | inl has ↦ absurd (let same = on_map state row cell has in
      (let e : (cell.map == row.map) ≡ true = grind (arith, nat_tests, same) in let no : true ≡ false = sym e ∙ other in cc))
  | inr has ↦ has
]

off_link : (state : State) (row : LinkRow) (cell : Cell) → (cell.map == row.map) ≡ false → is_kept_on state row cell ≡ false
off_link state row cell other = rw (off_map state row cell other) refl

pub marked_is : (state : State) (row : LinkRow) (marks : List Mark) → marked_on state row marks ≡ filter (on_link state row) (marked_in row.map marks)
marked_is state row [] = refl
marked_is state row (m ∷ ms) =
    let rest = marked_is state row ms in
    elim (cases_Bool (m.cell.map == row.map)) [
      | inl own ↦
          let here : on_link state row m.cell.block ≡ is_kept_on state row m.cell = ap (is_kept_on state row) (same_cell m.cell row own) in
          elim (cases_Bool (is_kept_on state row m.cell)) [
            | inl has ↦ rw (own, has) (rw (here ∙ has) (ap (λ (l : List ℕ). m.cell.block ∷ l) rest))
            | inr has ↦ rw (own, has) (rw (here ∙ has) rest)
          ]
      | inr own ↦ rw (own, off_link state row m.cell own) rest
    ]

pub stored_is : (state : State) (row : LinkRow) (chains : Table Cell Chain) → stored_on state row chains ≡ filter (on_link state row) (stored_in row.map chains)
stored_is state row [] = refl
stored_is state row (r ∷ rs) =
    let rest = stored_is state row rs in
    elim (cases_Bool (r.0.map == row.map)) [
      | inl own ↦
          let here : on_link state row r.0.block ≡ is_kept_on state row r.0 = ap (is_kept_on state row) (same_cell r.0 row own) in
          elim (cases_Bool (is_kept_on state row r.0)) [
            | inl has ↦ rw (own, has) (rw (here ∙ has) (ap (λ (l : List ℕ). r.0.block ∷ l) rest))
            | inr has ↦ rw (own, has) (rw (here ∙ has) rest)
          ]
      | inr own ↦ rw (own, off_link state row r.0 own) rest
    ]

-- the next mark on which nothing is under way
pub idle_is : (state : State) (row : LinkRow) (own : PairState) (kind : MarkKind) (after : Option ℕ)
    → least (filter (above after) (filter (idle_on state row own kind) (marked_in row.map own.store.marks))) ≡ next_idle state row own kind after
idle_is state row own kind after =
    let idle : ℕ → Bool = λ block. is_marked own.store kind (cell_at row block) && not (is_under_way own (cell_at row block)) in
    ap (λ (blocks : List ℕ). least (filter (above after) blocks))
    (sym (filter_both (on_link state row) idle (marked_in row.map own.store.marks)) ∙ ap (filter idle) (sym (marked_is state row own.store.marks)))

-- ### The cells with old marks

module _ (state : State) (row : LinkRow) (own : PairState) (kind : MarkKind) where
  -- where there is room for one more, the next one is the first
  pub idle_more : (room left : ℕ) → room ≡ suc left → (next : Option ℕ) (block : ℕ) → next ≡ Some block
      → idle_from state row own kind room next ≡ cell_at row block ∷ idle_from state row own kind left (next_idle state row own kind (Some block))
  idle_more room left is next block some = rw (is, some) refl

  pub idle_none : (room : ℕ) (next : Option ℕ) → next ≡ None → idle_from state row own kind room next ≡ []
  idle_none zero next none = refl
  idle_none (suc room) next none = rw none refl

  pub idle_full : (room : ℕ) (next : Option ℕ) → room ≡ 0 → idle_from state row own kind room next ≡ []
  idle_full room next full = rw full refl

module _ (state : State) (row : LinkRow) (marks : List Mark) (chains : Table Cell Chain) (copied : Option ℕ) where
  pub left_plain : needs_full_copy row.state ≡ false → least (filter (above None) (marked_on state row marks)) ≡ least (left_on state row marks chains copied)
  left_plain is =
      ap least (from_start (marked_on state row marks) ∙ sym (append-nil (marked_on state row marks)))
      ∙ ap (λ (b : Bool). least (marked_on state row marks ++ (if b then filter (above copied) (stored_on state row chains) else []))) (sym is)

  pub left_whole : needs_full_copy row.state ≡ true
      → lesser (least (filter (above None) (marked_on state row marks))) (least (filter (above copied) (stored_on state row chains)))
      ≡ least (left_on state row marks chains copied)
  left_whole is =
      ap (λ (l : List ℕ). lesser (least l) (least (filter (above copied) (stored_on state row chains)))) (from_start (marked_on state row marks))
      ∙ sym (least_both (marked_on state row marks) (filter (above copied) (stored_on state row chains)))
      ∙ ap (λ (b : Bool). least (marked_on state row marks ++ (if b then filter (above copied) (stored_on state row chains) else []))) (sym is)

-- What an entry drops of a side's tables, and the tickets that are given back.
use Rattle.std.proofs.Common.{◌≡◌, ℕ, ◌+◌, ◌-◌, ◌≤◌, ◌<◌, Bool, true, false, not, cond, T, ◌&&◌, List, [], ◌∷◌, length, map, filter, find}
use Rattle.std.proofs.Common.{IsSome, Option, Some, None, is_some, refl, sym, subst, ap, ◌∙◌, arith}
use Rattle.std.specs.declared.cmp.Ordering.TheVariants.{Less}
use Rattle.std.specs.Ordering.{is_eq}
use Rattle.std.specs.Cmp.{tied_itself}
use Rattle.std.specs.List.{AllByRecursion}
use Rattle.std.specs.List.Sorted.{IsStrictlySortedBy}
use Rattle.std.specs.BTreeMap.{is_at}
use Rattle.std.specs.Map.{lookup, remove_entry, keys_of, values_of}
use Rattle.std.proofs.lemmas.List.Filters.{length-filter_both}
use Rattle.std.specs.FinMap.Entries as rows
use Rattle.petal_base.specs.declared.cell.Cell.{Cell}
use Rattle.petal_command.specs.declared.command.Command.{Command}
use Rattle.petal_table.specs.Table.{Table, at, without}
use Rattle.petal_table.proofs.Rows.{at-where, remove_is_without}
use Rattle.petal_msg.specs.declared.operation.LastOp.{LastOp}
use Rattle.petal_base.specs.declared.cell.Key.{Key}
use Rattle.petal_msg.specs.declared.copying.LinkId.{LinkId}
use Rattle.spec_state.specs.Command as commands
use Rattle.spec_rules.specs.Crossing.{copies_crossed, ends_cell, loses_slot}
use Rattle.spec_rules.specs.Server.{Copies}
use Rattle.spec_rules.specs.State.{State, link_named}
use Rattle.spec_rules.specs.Store.{cell_cmp}
use Rattle.spec_rules.specs.Writes.{has_slot}
use Rattle.spec_rules.proofs.CellTables.{cell_cmp_same, cell_cmp_total}
use Rattle.kept_chains.specs.Holdings.{Holdings}
use Rattle.kept_chains.specs.Tickets as store
use Rattle.kept_chains.proofs.Puts.{tied}
use Rattle.pair_memory.specs.Ended.{cell_ends, copies_left}
use Rattle.pair_memory.specs.Crossed.{AreFreed, IsCrossed}
use Rattle.pair_memory.specs.PairMemory.{PairMemory, HasTicketsAt, needs_apart, pairs_of, times}
use Rattle.pair_memory.specs.Slots.{IsOutAt}
use Rattle.kept_chains.specs.Kept.{store_of}
use Rattle.pair_memory.proofs.Tickets.{contained, counted_in, counted_own, length_less, one_at, slot_by, times_less, times_without, with_tickets}

-- the rows whose cells a test takes, and the others
abbrev pub taken : {X : Type 0} → (Cell → Bool) → Table Cell X → Table Cell X
taken test t = filter (λ row. test row.0) t

abbrev pub left : {X : Type 0} → (Cell → Bool) → Table Cell X → Table Cell X
left test t = filter (λ row. not (test row.0)) t

module _ {X : Type 0} (test : Cell → Bool) where
  at_left : (t : Table Cell X) (c : Cell) → at cell_cmp (left test t) c ≡ cond (not (test c)) (at cell_cmp t c) None
  at_left t c = at-where cell_cmp t (λ k. not (test k)) c (λ k tie. ap (λ b. not (test b)) (sym (cell_cmp_same c k tie)))

  -- a row that the test takes can go before the others do
  left_but : (c : Cell) (t : Table Cell X) → test c ≡ true → left test (without cell_cmp t c) ≡ left test t
  unfolding without
  left_but c [] is = refl
  left_but c (r ∷ rs) is =
      let rest = left_but c rs is in
      elim (is_eq (cell_cmp c r.0)) as (λ e. is_eq (cell_cmp c r.0) ≡ e
      → left test (cond (not e) (r ∷ without cell_cmp rs c) (without cell_cmp rs c)) ≡ cond (not (test r.0)) (r ∷ left test rs) (left test rs)) [
        | true ↦ λ tie. rest ∙ sym (ap (λ b. cond (not b) (r ∷ left test rs) (left test rs)) (ap test (sym (cell_cmp_same c r.0 (tied _ tie))) ∙ is))
        | false ↦ λ tie. ap (λ rows. cond (not (test r.0)) (r ∷ rows) rows) rest
      ] refl

  -- where the test takes no row all are left
  pub all_left : (t : Table Cell X) → find test (keys_of t) ≡ None → left test t ≡ t
  all_left [] none = refl
  all_left (r ∷ rs) none =
      let rest = all_left rs in
      elim (test r.0) as (λ b. cond b (Some r.0) (find test (keys_of rs)) ≡ None → cond (not b) (r ∷ left test rs) (left test rs) ≡ r ∷ rs) [
        | true ↦ λ found. absurd (cc)
        | false ↦ λ found. ap (λ rows. r ∷ rows) (rest found)
      ] none

  -- the first cell that the test takes stands in the table
  pub found_there : (t : Table Cell X) (c : Cell) → find test (keys_of t) ≡ Some c → is_some (at cell_cmp t c) ≡ true
  unfolding at
  found_there [] c is = absurd (cc)
  found_there (r ∷ rs) c is =
      let rest = found_there rs c in
      elim (test r.0) as (λ b. cond b (Some r.0) (find test (keys_of rs)) ≡ Some c
      → is_some (cond (is_eq (cell_cmp c r.0)) (Some r.1) (lookup (is_at (cell_cmp c)) rs)) ≡ true) [
        | true ↦ λ found.
            let same : r.0 ≡ c = cc in
            ap (λ e. is_some (cond e (Some r.1) (lookup (is_at (cell_cmp c)) rs)))
            (ap (λ (k : Cell). is_eq (cell_cmp c k)) same ∙ ap is_eq (tied_itself cell_cmp_total c))
        | false ↦ λ found. elim (is_eq (cell_cmp c r.0)) as (λ e. is_some (cond e (Some r.1) (lookup (is_at (cell_cmp c)) rs)) ≡ true) [
          | true ↦ refl
          | false ↦ rest found
        ]
      ] is

  pub found_taken : (t : Table Cell X) (c : Cell) → find test (keys_of t) ≡ Some c → test c ≡ true
  found_taken [] c is = absurd (cc)
  found_taken (r ∷ rs) c is =
      let rest = found_taken rs c in
      elim (test r.0) as (λ b. test r.0 ≡ b → cond b (Some r.0) (find test (keys_of rs)) ≡ Some c → test c ≡ true) [
        | true ↦ λ observed found. let same : r.0 ≡ c = cc in sym (ap test same) ∙ observed
        | false ↦ λ observed found. rest found
      ] refl is

  -- so many rows the test takes
  number_taken : (t : Table Cell X) → length (taken test t) ≡ length (filter test (keys_of t))
  number_taken [] = refl
  number_taken (r ∷ rs) =
      let rest = number_taken rs in
      elim (test r.0)
      as (λ b. length (cond b (r ∷ taken test rs) (taken test rs)) ≡ length (cond b (r.0 ∷ filter test (keys_of rs)) (filter test (keys_of rs)))) [
        | true ↦ omega (arith, rest)
        | false ↦ rest
      ]

  number_split : (t : Table Cell X) → length (taken test t) + length (left test t) ≡ length t
  number_split t = length-filter_both (λ (row : Cell × X). test row.0) (λ row. not (test row.0)) (λ row. refl) t

  number_both : (p : X → Bool) (t : Table Cell X) → length (taken test (filter (λ row. p row.1) t)) ≡ length (filter (λ row. test row.0 && p row.1) t)
  number_both p [] = refl
  number_both p (r ∷ rs) =
      let rest = number_both p rs in
      elim (p r.1) as (λ b. length (taken test (cond b (r ∷ filter (λ row. p row.1) rs) (filter (λ row. p row.1) rs)))
      ≡ length (cond (test r.0 && b) (r ∷ filter (λ row. test row.0 && p row.1) rs) (filter (λ row. test row.0 && p row.1) rs))) [
        | true ↦ elim (test r.0) as (λ b. length (cond b (r ∷ taken test (filter (λ row. p row.1) rs)) (taken test (filter (λ row. p row.1) rs)))
            ≡ length (cond (b && true) (r ∷ filter (λ row. test row.0 && p row.1) rs) (filter (λ row. test row.0 && p row.1) rs))) [
              | true ↦ omega (arith, rest)
              | false ↦ rest
            ]
        | false ↦ elim (test r.0) as (λ b. length (taken test (filter (λ row. p row.1) rs))
            ≡ length (cond (b && false) (r ∷ filter (λ row. test row.0 && p row.1) rs) (filter (λ row. test row.0 && p row.1) rs))) [
              | true ↦ rest
              | false ↦ rest
            ]
      ]

-- one row less
removed_length : {X : Type 0} (test : Cell → Bool) (t : Table Cell X) → is_some (lookup test t) ≡ true → length (remove_entry test t) + 1 ≡ length t
removed_length test [] is = absurd (cc)
removed_length test (r ∷ rs) is =
    let rest = removed_length test rs in
    elim (test r.0) as (λ b. is_some (cond b (Some r.1) (lookup test rs)) ≡ true → length (cond b rs (r ∷ remove_entry test rs)) + 1 ≡ length (r ∷ rs)) [
      | true ↦ λ found. omega arith
      | false ↦ λ found. let more = rest found in omega (arith, more)
    ] is

without_length : {X : Type 0} (c : Cell) (t : Table Cell X) → IsStrictlySortedBy cell_cmp (keys_of t) → is_some (at cell_cmp t c) ≡ true
    → length (without cell_cmp t c) + 1 ≡ length t
unfolding at
without_length c t sorted is =
    subst (λ (u : Table Cell _). length u + 1 ≡ length t) (remove_is_without cell_cmp_total t c sorted) (removed_length (is_at (cell_cmp c)) t is)

-- ### Tables with a row at the same cells

-- the keys alone, as a table
abbrev marks_of : List Cell → Table Cell (Unit {0})
marks_of cells = map (λ c. (c, tt)) cells

abbrev mark_if : Bool → Option (Unit {0})
mark_if true = Some tt
mark_if false = None

keys_of_marks : (cells : List Cell) → keys_of (marks_of cells) ≡ cells
keys_of_marks [] = refl
keys_of_marks (c ∷ cs) = ap (λ more. c ∷ more) (keys_of_marks cs)

module _ {X : Type 0} where
  marked : (t : Table Cell X) (c : Cell) → lookup (is_at (cell_cmp c)) (marks_of (keys_of t)) ≡ mark_if (is_some (lookup (is_at (cell_cmp c)) t))
  marked [] c = refl
  marked (r ∷ rs) c =
      let rest = marked rs c in
      elim (is_eq (cell_cmp c r.0)) as (λ e. cond e (Some tt) (lookup (is_at (cell_cmp c)) (marks_of (keys_of rs)))
      ≡ mark_if (is_some (cond e (Some r.1) (lookup (is_at (cell_cmp c)) rs)))) [
        | true ↦ refl
        | false ↦ rest
      ]

  -- keys that rise still do without some rows
  above_some : (c : Cell) (p : X → Bool) (t : Table Cell X) → AllByRecursion (λ k. cell_cmp c k ≡ Less) (keys_of t)
      → AllByRecursion (λ k. cell_cmp c k ≡ Less) (keys_of (filter (λ row. p row.1) t))
  above_some c p [] h = h
  above_some c p (r ∷ rs) h =
      let rest = above_some c p rs h.1 in
      elim (p r.1) as (λ b. AllByRecursion (λ k. cell_cmp c k ≡ Less) (keys_of (cond b (r ∷ filter (λ row. p row.1) rs) (filter (λ row. p row.1) rs)))) [
        | true ↦ (h.0, rest)
        | false ↦ rest
      ]

  sorted_some : (p : X → Bool) (t : Table Cell X) → IsStrictlySortedBy cell_cmp (keys_of t) → IsStrictlySortedBy cell_cmp (keys_of (filter (λ row. p row.1) t))
  unfolding IsStrictlySortedBy
  sorted_some p [] h = h
  sorted_some p (r ∷ rs) h =
      let rest = sorted_some p rs h.1 in
      elim (p r.1) as (λ b. IsStrictlySortedBy cell_cmp (keys_of (cond b (r ∷ filter (λ row. p row.1) rs) (filter (λ row. p row.1) rs)))) [
        | true ↦ (above_some r.0 p rs h.0, rest)
        | false ↦ rest
      ]

  -- whether a value is there that the test takes
  abbrev has_value : (X → Bool) → Option X → Bool
  has_value p None = false
  has_value p (Some x) = p x

  none_above : (c : Cell) (t : Table Cell X) → AllByRecursion (λ k. cell_cmp c k ≡ Less) (keys_of t) → lookup (is_at (cell_cmp c)) t ≡ None
  none_above c [] h = refl
  none_above c (r ∷ rs) h = ap (λ o. cond (is_eq o) (Some r.1) (lookup (is_at (cell_cmp c)) rs)) h.0 ∙ none_above c rs h.1

  none_later : (c : Cell) (r : Cell × X) (rs : Table Cell X) → AllByRecursion (λ k. cell_cmp r.0 k ≡ Less) (keys_of rs) → is_eq (cell_cmp c r.0) ≡ true
      → lookup (is_at (cell_cmp c)) rs ≡ None
  none_later c r rs above tie =
      none_above c rs (subst (λ (k : Cell). AllByRecursion (λ y. cell_cmp k y ≡ Less) (keys_of rs)) (sym (cell_cmp_same c r.0 (tied _ tie))) above)

  marked_some : (p : X → Bool) (t : Table Cell X) (c : Cell) → IsStrictlySortedBy cell_cmp (keys_of t)
      → lookup (is_at (cell_cmp c)) (marks_of (keys_of (filter (λ row. p row.1) t))) ≡ mark_if (has_value p (lookup (is_at (cell_cmp c)) t))
  unfolding IsStrictlySortedBy
  marked_some p [] c sorted = refl
  marked_some p (r ∷ rs) c sorted =
      let rest = marked_some p rs c sorted.1 in
      let there : List Cell = keys_of (filter (λ row. p row.1) rs) in
      elim (is_eq (cell_cmp c r.0)) as (λ e. is_eq (cell_cmp c r.0) ≡ e → lookup (is_at (cell_cmp c))
      (marks_of (keys_of (filter (λ row. p row.1) (r ∷ rs)))) ≡ mark_if (has_value p (cond e (Some r.1) (lookup (is_at (cell_cmp c)) rs)))) [
        | true ↦ λ tie. elim (p r.1)
            as (λ b. lookup (is_at (cell_cmp c)) (marks_of (keys_of (cond b (r ∷ filter (λ row. p row.1) rs) (filter (λ row. p row.1) rs)))) ≡ mark_if b) [
              | true ↦ ap (λ e. cond e (Some tt) (lookup (is_at (cell_cmp c)) (marks_of there))) tie
              | false ↦ rest ∙ ap (λ found. mark_if (has_value p found)) (none_later c r rs sorted.0 tie)
            ]
        | false ↦ λ tie. elim (p r.1)
            as (λ b. lookup (is_at (cell_cmp c)) (marks_of (keys_of (cond b (r ∷ filter (λ row. p row.1) rs) (filter (λ row. p row.1) rs))))
            ≡ mark_if (has_value p (lookup (is_at (cell_cmp c)) rs))) [
              | true ↦ ap (λ e. cond e (Some tt) (lookup (is_at (cell_cmp c)) (marks_of there))) tie ∙ rest
              | false ↦ rest
            ]
      ] refl

-- rows that rise, as the test of them says
below_is : {X : Type 0} (c : Cell) (t : Table Cell X) → AllByRecursion (λ k. cell_cmp c k ≡ Less) (keys_of t) → T (rows.below_all cell_cmp c t)
below_is c [] h = tt
below_is c (r ∷ rs) h = let rest = below_is c rs h.1 in rw h.0 rest

sorted_is : {X : Type 0} (t : Table Cell X) → IsStrictlySortedBy cell_cmp (keys_of t) → T (rows.is_sorted cell_cmp t)
unfolding IsStrictlySortedBy
sorted_is [] h = tt
sorted_is (r ∷ rs) h = both_so (rows.below_all cell_cmp r.0 rs) (rows.is_sorted cell_cmp rs) (below_is r.0 rs h.0) (sorted_is rs h.1)
  where
    both_so : (a b : Bool) → T a → T b → T (a && b)
    both_so true b x y = y
    both_so false b x y = x

found_is : {X : Type 0} (c : Cell) (t : Table Cell X) → rows.find cell_cmp c t ≡ lookup (is_at (cell_cmp c)) t
found_is c [] = refl
found_is c (r ∷ rs) = ap (cond (is_eq (cell_cmp c r.0)) (Some r.1)) (found_is c rs)

-- two tables have the same cells where one has a row exactly where the other has one that the test takes
same_cells : {X Y : Type 0} (p : Y → Bool) (t : Table Cell X) (u : Table Cell Y) → IsStrictlySortedBy cell_cmp (keys_of t)
    → IsStrictlySortedBy cell_cmp (keys_of u)
    → ((c : Cell) → is_some (at cell_cmp t c) ≡ has_value p (at cell_cmp u c)) → keys_of t ≡ keys_of (filter (λ row. p row.1) u)
unfolding at
same_cells p t u sorted other same =
    let some : Table Cell _ = filter (λ row. p row.1) u in
    let equal =
    rows.same_entries cell_cmp cell_cmp_total cell_cmp_same (marks_of (keys_of t)) (marks_of (keys_of some))
    (sorted_is (marks_of (keys_of t)) (subst (IsStrictlySortedBy cell_cmp) (sym (keys_of_marks (keys_of t))) sorted))
    (sorted_is (marks_of (keys_of some)) (subst (IsStrictlySortedBy cell_cmp) (sym (keys_of_marks (keys_of some))) (sorted_some p u other)))
    (λ c. found_is c (marks_of (keys_of t)) ∙ marked t c ∙ ap mark_if (same c) ∙ sym (marked_some p u c other) ∙ sym (found_is c (marks_of (keys_of some)))) in
    sym (keys_of_marks (keys_of t)) ∙ ap keys_of equal ∙ keys_of_marks (keys_of some)

-- ### What is given back

-- each slot of the second table is out
pub apart_below : {D : Type 0} (side : PairMemory) (held : Holdings D) → HasTicketsAt side held → (slot : ℕ)
    → times slot (values_of side.apart) ≤ times slot held.tickets
apart_below side held h slot = let all = h.out slot in omega (arith, all)

abbrev has_slot_last : LastOp → Bool
has_slot_last last = has_slot last.progress

needs_is : (found : Option LastOp) → needs_apart found ≡ has_value has_slot_last found
needs_is None = refl
needs_is (Some last) = refl

module _ {D : Type 0} (test : Cell → Bool) where
  -- nothing was given back yet
  pub freed_none : (apart : Table Cell ℕ) (held : Holdings D) → find test (keys_of apart) ≡ None → AreFreed test apart apart held held
  freed_none apart held none = record { table = sym (all_left test apart none); store = refl; out = λ slot. refl; number = refl }

  module _ (apart : Table Cell ℕ) (held : Holdings D) (c : Cell) (below : (slot : ℕ) → times slot (values_of apart) ≤ times slot held.tickets)
      (sorted : IsStrictlySortedBy cell_cmp (keys_of apart)) (found : find test (keys_of apart) ≡ Some c) where
    freed_slot : (slot : ℕ) × (at cell_cmp apart c ≡ Some slot)
    freed_slot = slot_by (at cell_cmp apart c) (found_there test apart c found)

    pub freed_some : IsSome (at cell_cmp apart c)
    freed_some = let is = freed_slot.1 in grind (arith, is)

    pub freed_out : IsOutAt apart c held.tickets
    freed_out slot is = let one = counted_own c slot apart is in let all = below slot in counted_in slot held.tickets (omega (arith, one, all))

    -- a ticket is given back
    module _ (rest : Table Cell ℕ) (kept : Holdings D) (table : rest ≡ without cell_cmp apart c)
        (given : (slot : ℕ) → at cell_cmp apart c ≡ Some slot → kept ≡ record held { tickets = store.without held.tickets slot }) where
      one_less : (n : ℕ) → times n (values_of rest) + one_at n freed_slot.0 ≡ times n (values_of apart)
      one_less n = ap (λ (t : Table Cell ℕ). times n (values_of t) + one_at n freed_slot.0) table ∙ times_without n freed_slot.0 c apart sorted freed_slot.1

      tickets_are : kept.tickets ≡ store.without held.tickets freed_slot.0
      tickets_are = ap (λ (s : Holdings D). s.tickets) (given freed_slot.0 freed_slot.1)

      out : 1 ≤ times freed_slot.0 held.tickets
      out = contained freed_slot.0 held.tickets (freed_out freed_slot.0 freed_slot.1)

      one_back : (n : ℕ) → times n kept.tickets + one_at n freed_slot.0 ≡ times n held.tickets
      one_back n = ap (λ (ts : List ℕ). times n ts + one_at n freed_slot.0) tickets_are ∙ times_less n freed_slot.0 held.tickets out

      pub below_still : (slot : ℕ) → times slot (values_of rest) ≤ times slot kept.tickets
      below_still slot = let a = one_less slot in let b = one_back slot in let all = below slot in omega (arith, a, b, all)

      rows_less : length rest + 1 ≡ length apart
      rows_less = ap (λ (t : Table Cell ℕ). length t + 1) table ∙ without_length c apart sorted (found_there test apart c found)

      pub less_rows : length rest < length apart
      less_rows = let rows = rows_less in omega (arith, rows)

      -- and then the others
      pub freed_more : (last : Table Cell ℕ) (after : Holdings D) → AreFreed test rest last kept after → AreFreed test apart last held after
      freed_more last after freed = record {
        table = freed.table ∙ ap (left test) table ∙ left_but test c apart (found_taken test apart c found);
        store = freed.store ∙ ap (λ (s : Holdings D). record s { tickets = after.tickets }) (given freed_slot.0 freed_slot.1);
        out = λ slot. let a = one_less slot in let b = one_back slot in let all = freed.out slot in omega (arith, a, b, all);
        number =
            let rows = rows_less in
            let fewer : length kept.tickets + 1 ≡ length held.tickets = ap (λ (ts : List ℕ). length ts + 1) tickets_are
            ∙ length_less freed_slot.0 held.tickets out in
            let all = freed.number in
            omega (arith, rows, fewer, all);
      }

-- ### Both tables

module _ (state next : State) (entry : Command) (made : next ≡ commands.after state entry) where
  abbrev ending : Cell → Bool
  ending = cell_ends state next entry

  -- so the rule has it
  ends_is : ending ≡ ends_cell state entry
  ends_is = ap (λ (n : State). cell_ends state n entry) made

  module _ {D : Type 0} (old : PairMemory) (before after : Holdings D) (h : HasTicketsAt old before) (last : Table Cell LastOp) (apart : Table Cell ℕ)
      (sorted : IsStrictlySortedBy cell_cmp (keys_of old.apart)) (other : IsStrictlySortedBy cell_cmp (keys_of old.last))
      (freed : AreFreed ending old.apart apart before after) (dropped : last ≡ left ending old.last) where
    lost_is : length (taken ending old.apart) ≡ length (filter (loses_slot state entry) old.last)
    lost_is =
        number_taken ending old.apart
        ∙ ap (λ (cells : List Cell). length (filter ending cells))
        (same_cells has_slot_last old.apart old.last sorted other (λ c. h.kept c ∙ needs_is (at cell_cmp old.last c)))
        ∙ sym (number_taken ending (filter (λ row. has_slot_last row.1) old.last))
        ∙ number_both ending has_slot_last old.last
        ∙ ap (λ (test : Cell → Bool). length (filter (λ row. test row.0 && has_slot row.1.progress) old.last)) ends_is

    number_is : length after.tickets ≡ length before.tickets - length (filter (loses_slot state entry) old.last)
    number_is =
        let lost = lost_is in
        let all = freed.number in
        let rest : length apart ≡ length (left ending old.apart) = ap length freed.table in
        let split = number_split ending old.apart in
        omega (arith, lost, all, rest, split)

    out_is : (slot : ℕ) → times slot after.tickets ≡ times slot (values_of old.own) + times slot (values_of apart)
    out_is slot = let all = h.out slot in let now = freed.out slot in omega (arith, all, now)

    kept_is : (c : Cell) → is_some (at cell_cmp apart c) ≡ needs_apart (at cell_cmp last c)
    kept_is c =
        ap (λ (t : Table Cell ℕ). is_some (at cell_cmp t c)) freed.table
        ∙ ap is_some (at_left ending old.apart c)
        ∙ elim (ending c) as (λ b. is_some (cond (not b) (at cell_cmp old.apart c) None) ≡ needs_apart (cond (not b) (at cell_cmp old.last c) None)) [
          | true ↦ refl
          | false ↦ h.kept c
        ]
        ∙ sym (ap needs_apart (at_left ending old.last c))
        ∙ sym (ap (λ (t : Table Cell LastOp). needs_apart (at cell_cmp t c)) dropped)

    store_is : store_of after ≡ record (store_of before) { tickets = length before.tickets - length (filter (loses_slot state entry) old.last) }
    store_is = ap (λ (s : Holdings D). store_of s) freed.store ∙ ap (with_tickets before) number_is

    pub crossed_is : (copies : Copies) → copies ≡ copies_left state next entry old.copies
        → (filled : Table LinkId Key) → filled ≡ filter (λ row. is_some (link_named next row.0)) old.filled
        → IsCrossed state entry old (record old { last = last; apart = apart; copies = copies; filled = filled }) before after
    crossed_is copies ended filled live = record {
      own =
          let last_is : last ≡ left (ends_cell state entry) old.last = dropped ∙ ap (λ (test : Cell → Bool). left test old.last) ends_is in
          let copies_is : copies ≡ copies_crossed state entry old.copies = ended ∙ ap (λ (n : State). copies_left state n entry old.copies) made in
          let filled_is = live ∙ ap (λ (n : State). filter (λ row. is_some (link_named n row.0)) old.filled) made in
          λ i. record { pairs = record (pairs_of old) { last = last_is i }; copies = copies_is i; filled = filled_is i; store = store_is i };
      keeps = record { out = out_is; owned = h.owned; kept = kept_is };
      store = freed.store;
    }

-- The first mark of a retired cell, found by the least map that has one, the least block there, and the first kind of mark.
use Rattle.std.proofs.Common.{◌≡◌, inl, inr, ℕ, ◌≤◌, ◌<◌, ◌==◌, ◌&&◌, ◌||◌, Bool, true, false, not, nat_lt, nat_le, List, [], ◌∷◌, filter}
use Rattle.std.proofs.Common.{Option, Some, None, option_map, option_and_then, refl, sym, ap, ◌∙◌, arith}
use Rattle.std.proofs.lemmas.Bool.{cases_Bool}
use Rattle.std.proofs.lemmas.Bool.Decides.{nat_tests}
use Rattle.std.proofs.lemmas.List.Kept.{IsStrictlySortedBy-filter}
use Rattle.std.proofs.lemmas.Map.Keys.{sorted_head}
use Rattle.std.specs.Prelude.{if◌then◌else◌}
use Rattle.std.specs.List.{AllByRecursion}
use Rattle.std.specs.List.Sorted.{IsStrictlySortedBy}
use Rattle.std.specs.declared.cmp.Ordering.TheVariants.{Less}
use Rattle.std.specs.Ordering.{nat_cmp, ordering_then}
use Rattle.petal_base.specs.declared.cell.Cell.{Cell}
use Rattle.busy_marks.specs.declared.marks.Mark.{Mark}
use Rattle.busy_marks.specs.declared.marks.MarkKind.{MarkKind}
use Rattle.busy_marks.specs.declared.marks.MarkKind.TheVariants.{Busy, Stale}
use Rattle.busy_marks.specs.Marks.{above, has_mark, kind_rank, lesser, mark_cmp, next_marked, next_marked_map, same_kind, same_mark}
use Rattle.busy_marks.proofs.Orders.{before}
use Rattle.petal_command.proofs.Equal.{both_left, both_right, number_self}
use Rattle.petal_msg.specs.declared.retired.Retired.{Retired}
use Rattle.petal_msg.specs.declared.retired.Retired.TheVariants as retired
use Rattle.spec_rules.specs.State.{State, live}
use Rattle.spec_rules.specs.Sweeping.{retired_mark}
use Rattle.redistribute.specs.Swept.{retired_marks, first_kind, first_marked}
use Rattle.redistribute.proofs.Marked.{fewer, hit_least, hits, least, left, low, Past, walk_hit, walk_none, walk_on}

abbrev pub block_of : Mark → ℕ
block_of m = m.cell.block

abbrev pub map_of : Mark → ℕ
map_of m = m.cell.map

-- the mark is on the map
abbrev on : ℕ → Mark → Bool
on map m = m.cell.map == map

-- every mark passes
abbrev any : Mark → Bool
any m = true

block_least : (map : ℕ) (after : Option ℕ) (ms : List Mark) → next_marked map after ms ≡ least block_of (on map) after ms
block_least map after [] = refl
block_least map after (m ∷ ms) =
    ap (λ (o : Option ℕ). if m.cell.map == map && above after m.cell.block then lesser (Some m.cell.block) o else o) (block_least map after ms)

map_least : (after : Option ℕ) (ms : List Mark) → next_marked_map after ms ≡ least map_of any after ms
map_least after [] = refl
map_least after (m ∷ ms) = ap (λ (o : Option ℕ). if above after m.cell.map then lesser (Some m.cell.map) o else o) (map_least after ms)

-- after the next block fewer marks are left, and so after the next map
pub fewer_blocks : (map : ℕ) (after : Option ℕ) (ms : List Mark) (block : ℕ) → next_marked map after ms ≡ Some block
    → left block_of (Some block) ms < left block_of after ms
fewer_blocks map after ms block is = fewer block_of (on map) after block ms (sym (block_least map after ms) ∙ is)

pub fewer_maps : (after : Option ℕ) (ms : List Mark) (map : ℕ) → next_marked_map after ms ≡ Some map → left map_of (Some map) ms < left map_of after ms
fewer_maps after ms map is = fewer map_of any after map ms (sym (map_least after ms) ∙ is)

-- the first cell, by its map and its block
pub first_on : (ms : List Mark) (map block : ℕ) → next_marked_map None ms ≡ Some map → next_marked map None ms ≡ Some block
    → first_marked ms ≡ Some (record { map = map; block = block })
first_on ms map block on_map on_block =
    ap (option_and_then (λ (n : ℕ). option_map (λ (b : ℕ). record { map = n; block = b }) (next_marked n None ms))) on_map
    ∙ ap (option_map (λ (b : ℕ). record { map = map; block = b })) on_block

pub none_on : (ms : List Mark) → next_marked_map None ms ≡ None → first_marked ms ≡ None
none_on ms none = ap (option_and_then (λ (n : ℕ). option_map (λ (b : ℕ). record { map = n; block = b }) (next_marked n None ms))) none

-- a mark of another block, and one of another map, count for nothing
later : (a b : Bool) {is : Bool} → b ≡ is → ((a && false) || b) ≡ is
later true b same = same
later false b same = same

later_on : (a c b : Bool) {is : Bool} → b ≡ is → (((a && false) && c) || b) ≡ is
later_on true c b same = same
later_on false c b same = same

module _ (alive : Cell → Bool) where
  abbrev gone : Mark → Bool
  gone m = not (alive m.cell)

  abbrev pub dying : List Mark → List Mark
  dying ms = filter (λ m. not (alive m.cell)) ms

  -- the mark is on the map, and of a retired cell
  abbrev retired_on : ℕ → Mark → Bool
  retired_on map m = gone m && m.cell.map == map

  retired_block_least : (map : ℕ) (after : Option ℕ) (ms : List Mark) → next_marked map after (dying ms) ≡ least block_of (retired_on map) after ms
  retired_block_least map after [] = refl
  retired_block_least map after (m ∷ ms) = elim (cases_Bool (alive m.cell)) [
    | inl lives ↦ rw lives (retired_block_least map after ms)
    | inr dies ↦
        rw dies (ap (λ (o : Option ℕ). if m.cell.map == map && above after m.cell.block then lesser (Some m.cell.block) o else o)
        (retired_block_least map after ms))
  ]

  retired_map_least : (after : Option ℕ) (ms : List Mark) → next_marked_map after (dying ms) ≡ least map_of gone after ms
  retired_map_least after [] = refl
  retired_map_least after (m ∷ ms) = elim (cases_Bool (alive m.cell)) [
    | inl lives ↦ rw lives (retired_map_least after ms)
    | inr dies ↦ rw dies (ap (λ (o : Option ℕ). if above after m.cell.map then lesser (Some m.cell.map) o else o) (retired_map_least after ms))
  ]

  -- ### From block to block

  narrow_on : (map : ℕ) (m : Mark) → retired_on map m ≡ true → on map m ≡ true
  narrow_on map m is = both_right (gone m) (m.cell.map == map) is

  same_cell : (c : Cell) (map block : ℕ) → (c.map == map) ≡ true → (c.block == block) ≡ true → c ≡ record { map = map; block = block }
  same_cell c map block e f =
      let own : c.map ≡ map = grind (arith, nat_tests, e) in
      let here : c.block ≡ block = grind (arith, nat_tests, f) in
      λ i. record { map = own i; block = here i }

  -- the marks of one cell are all of a retired cell, or none is
  hit_retired : (map block : ℕ) (ms : List Mark) → alive (record { map = map; block = block }) ≡ false → hits block_of (on map) block ms ≡ true
      → hits block_of (retired_on map) block ms ≡ true
  hit_retired map block [] dies hit = hit
  hit_retired map block (m ∷ ms) dies hit = elim (cases_Bool (m.cell.map == map)) [
    | inl own ↦ elim (cases_Bool (m.cell.block == block)) [
      | inl here ↦
          let dies_too : alive m.cell ≡ false = ap alive (same_cell m.cell map block own here) ∙ dies in
          rw (dies_too, own, here) refl
      | inr there ↦
          rw there (later (gone m && m.cell.map == map) (hits block_of (retired_on map) block ms) (hit_retired map block ms dies (rw (own, there) at hit)))
    ]
    | inr other ↦
        rw other (later_on (gone m) (m.cell.block == block) (hits block_of (retired_on map) block ms) (hit_retired map block ms dies (rw other at hit)))
  ]

  miss_retired : (map block : ℕ) (ms : List Mark) → alive (record { map = map; block = block }) ≡ true → hits block_of (retired_on map) block ms ≡ false
  miss_retired map block [] lives = refl
  miss_retired map block (m ∷ ms) lives = elim (cases_Bool (m.cell.map == map)) [
    | inl own ↦ elim (cases_Bool (m.cell.block == block)) [
      | inl here ↦
          let stays : alive m.cell ≡ true = ap alive (same_cell m.cell map block own here) ∙ lives in
          rw stays (miss_retired map block ms lives)
      | inr there ↦ rw there (later (gone m && m.cell.map == map) (hits block_of (retired_on map) block ms) (miss_retired map block ms lives))
    ]
    | inr other ↦ rw other (later_on (gone m) (m.cell.block == block) (hits block_of (retired_on map) block ms) (miss_retired map block ms lives))
  ]

  pub block_none : (map : ℕ) (after : Option ℕ) (ms : List Mark) → next_marked map after ms ≡ None → next_marked map after (dying ms) ≡ None
  block_none map after ms is =
      retired_block_least map after ms ∙ walk_none block_of (retired_on map) (on map) (narrow_on map) after ms (sym (block_least map after ms) ∙ is)

  pub block_hit : (map : ℕ) (after : Option ℕ) (ms : List Mark) (block : ℕ) → next_marked map after ms ≡ Some block
      → alive (record { map = map; block = block }) ≡ false
      → next_marked map after (dying ms) ≡ Some block
  block_hit map after ms block is dies =
      let next = sym (block_least map after ms) ∙ is in
      let hit = hit_retired map block ms dies (hit_least block_of (on map) after block ms next) in
      retired_block_least map after ms ∙ walk_hit block_of (retired_on map) (on map) (narrow_on map) after block ms next hit

  pub block_on : (map : ℕ) (after : Option ℕ) (ms : List Mark) (block : ℕ) → next_marked map after ms ≡ Some block
      → alive (record { map = map; block = block }) ≡ true
      → next_marked map (Some block) (dying ms) ≡ next_marked map after (dying ms)
  block_on map after ms block is lives =
      let next = sym (block_least map after ms) ∙ is in
      retired_block_least map (Some block) ms
      ∙ walk_on block_of (retired_on map) (on map) (narrow_on map) after block ms next (miss_retired map block ms lives)
      ∙ sym (retired_block_least map after ms)

  -- a map of which each cell is alive has none
  pub none_retired : (map : ℕ) (after : Option ℕ) (ms : List Mark) → ((block : ℕ) → alive (record { map = map; block = block }) ≡ true)
      → next_marked map after (dying ms) ≡ None
  none_retired map after [] lives = refl
  none_retired map after (m ∷ ms) lives = elim (cases_Bool (alive m.cell)) [
    | inl stays ↦ rw stays (none_retired map after ms lives)
    | inr dies ↦ elim (cases_Bool (m.cell.map == map)) [
      | inl own ↦
          let e : m.cell.map ≡ map = grind (arith, nat_tests, own) in
          let stays : alive m.cell ≡ true = ap (λ (n : ℕ). alive (record { map = n; block = m.cell.block })) e ∙ lives m.cell.block in
          absurd (let no_cell : true ≡ false = sym stays ∙ dies in cc)
      | inr other ↦ rw (dies, other) (none_retired map after ms lives)
    ]
  ]

  -- ### From map to map

  hit_map : (map block : ℕ) (ms : List Mark) → hits block_of (retired_on map) block ms ≡ true → hits map_of gone map ms ≡ true
  hit_map map block [] hit = hit
  hit_map map block (m ∷ ms) hit = elim (cases_Bool (gone m && m.cell.map == map)) [
    | inl here ↦ rw here refl
    | inr there ↦ rw there (hit_map map block ms (rw there at hit))
  ]

  miss_map : (map : ℕ) (ms : List Mark) → least block_of (retired_on map) None ms ≡ None → hits map_of gone map ms ≡ false
  miss_map map [] is = refl
  miss_map map (m ∷ ms) is = elim (cases_Bool (gone m && m.cell.map == map)) [
    | inl here ↦ absurd (some_least m.cell.block (least block_of (retired_on map) None ms) (rw here at is))
    | inr there ↦ rw there (miss_map map ms (rw there at is))
  ]
    where
      some_least : (k : ℕ) (o : Option ℕ) → lesser (Some k) o ≡ None → ⊥
      some_least k None is = cc
      some_least k (Some n) is = elim (cases_Bool (nat_lt n k)) [
        | inl less ↦ (let e : Some n ≡ None = rw less at is in cc)
        | inr less ↦ (let e : Some k ≡ None = rw less at is in cc)
      ]

  pub map_none : (after : Option ℕ) (ms : List Mark) → next_marked_map after ms ≡ None → next_marked_map after (dying ms) ≡ None
  map_none after ms is = retired_map_least after ms ∙ walk_none map_of gone any (λ m has. refl) after ms (sym (map_least after ms) ∙ is)

  pub map_hit : (after : Option ℕ) (ms : List Mark) (map block : ℕ) → next_marked_map after ms ≡ Some map → next_marked map None (dying ms) ≡ Some block
      → next_marked_map after (dying ms) ≡ Some map
  map_hit after ms map block is found =
      let hit = hit_map map block ms (hit_least block_of (retired_on map) None block ms (sym (retired_block_least map None ms) ∙ found)) in
      retired_map_least after ms ∙ walk_hit map_of gone any (λ m has. refl) after map ms (sym (map_least after ms) ∙ is) hit

  pub map_on : (after : Option ℕ) (ms : List Mark) (map : ℕ) → next_marked_map after ms ≡ Some map → next_marked map None (dying ms) ≡ None
      → next_marked_map (Some map) (dying ms) ≡ next_marked_map after (dying ms)
  map_on after ms map is none =
      let miss = miss_map map ms (sym (retired_block_least map None ms) ∙ none) in
      retired_map_least (Some map) ms
      ∙ walk_on map_of gone any (λ m has. refl) after map ms (sym (map_least after ms) ∙ is) miss
      ∙ sym (retired_map_least after ms)

-- ### The first of marks in order

-- each of these marks comes after the first one
abbrev Following : Mark → List Mark → Type 0
Following m ms = AllByRecursion (λ k. mark_cmp m k ≡ Less) ms

le_of : (a b : ℕ) → nat_le a b ≡ true → a ≤ b
le_of a b is = grind (arith, nat_tests, is)

past_map : (m : Mark) (ms : List Mark) → Following m ms → Past map_of any None m.cell.map ms
past_map m [] following = tt
past_map m (k ∷ ms) following = ((λ _. le_of m.cell.map k.cell.map (before m k following.0).0), past_map m ms following.1)

past_block : (m : Mark) (ms : List Mark) → Following m ms → Past block_of (on m.cell.map) None m.cell.block ms
past_block m [] following = tt
past_block m (k ∷ ms) following =
    ((λ is. le_of m.cell.block k.cell.block ((before m k following.0).1 (both_left (k.cell.map == m.cell.map) true is))), past_block m ms following.1)

-- the first mark is on the least map that has one
first_map : (m : Mark) (ms : List Mark) → Following m ms → next_marked_map None (m ∷ ms) ≡ Some m.cell.map
first_map m ms following = map_least None (m ∷ ms) ∙ low map_of any None m.cell.map ms (past_map m ms following)

-- and on the least block of that map
first_block : (m : Mark) (ms : List Mark) → Following m ms → next_marked m.cell.map None (m ∷ ms) ≡ Some m.cell.block
first_block m ms following =
    rw (number_self m.cell.map)
    (ap (λ (o : Option ℕ). lesser (Some m.cell.block) o) (block_least m.cell.map None ms)
    ∙ low block_of (on m.cell.map) None m.cell.block ms (past_block m ms following))

first_cell : (m : Mark) (ms : List Mark) → Following m ms → first_marked (m ∷ ms) ≡ Some m.cell
first_cell m ms following = first_on (m ∷ ms) m.cell.map m.cell.block (first_map m ms following) (first_block m ms following)

abbrev busy_at : Cell → Mark
busy_at cell = record { kind = Busy; cell = cell }

not_busy : (c d : Cell) (j k : MarkKind)
    → ordering_then (ordering_then (nat_cmp c.map d.map) (nat_cmp c.block d.block)) (nat_cmp (kind_rank j) (kind_rank k)) ≡ Less
    → (same_kind k Busy && d.map == c.map && d.block == c.block) ≡ false
not_busy c d Busy Busy less = grind (arith, nat_tests, less)
not_busy c d Stale Busy less = grind (arith, nat_tests, less)
not_busy c d j Stale less = refl

none_busy : (m : Mark) (ms : List Mark) → Following m ms → has_mark (busy_at m.cell) ms ≡ false
none_busy m [] following = refl
none_busy m (k ∷ ms) following = rw (not_busy m.cell k.cell m.kind k.kind following.0) (none_busy m ms following.1)

-- and is the first of its cell
kind_is : (m : Mark) (ms : List Mark) → Following m ms → first_kind (m ∷ ms) m.cell ≡ m.kind
kind_is m ms following = kind_by m.kind (m.cell.map == m.cell.map) (m.cell.block == m.cell.block) (has_mark (busy_at m.cell) ms) (number_self m.cell.map)
    (number_self m.cell.block) (none_busy m ms following)
  where
    kind_by : (kind : MarkKind) (a b c : Bool) → a ≡ true → b ≡ true → c ≡ false → (if (same_kind kind Busy && a && b) || c then Busy else Stale) ≡ kind
    kind_by Busy a b c e f g = rw (e, f) refl
    kind_by Stale a b c e f g = rw g refl

module _ (alive : Cell → Bool) where
  retired_here : (m : Mark) (cell : Cell) → same_mark m (busy_at cell) ≡ true → alive cell ≡ false → alive m.cell ≡ false
  retired_here m cell is dies =
      let front = both_left (same_kind m.kind Busy && m.cell.map == cell.map) (m.cell.block == cell.block) is in
      let own = both_right (same_kind m.kind Busy) (m.cell.map == cell.map) front in
      let here = both_right (same_kind m.kind Busy && m.cell.map == cell.map) (m.cell.block == cell.block) is in
      ap alive (same_cell alive m.cell cell.map cell.block own here) ∙ dies

  -- of a retired cell the marks of retired cells are all marks
  busy_dying : (cell : Cell) (ms : List Mark) → alive cell ≡ false → has_mark (busy_at cell) (dying alive ms) ≡ has_mark (busy_at cell) ms
  busy_dying cell [] dies = refl
  busy_dying cell (m ∷ ms) dies = elim (cases_Bool (same_mark m (busy_at cell))) [
    | inl same ↦ rw (retired_here m cell same dies, same) refl
    | inr other ↦ elim (cases_Bool (alive m.cell)) [
      | inl lives ↦ rw (lives, other) (busy_dying cell ms dies)
      | inr lost ↦ rw (lost, other) (busy_dying cell ms dies)
    ]
  ]

  each_retired : (ms : List Mark) → AllByRecursion (λ m. alive m.cell ≡ false) (dying alive ms)
  each_retired [] = tt
  each_retired (m ∷ ms) = elim (cases_Bool (alive m.cell)) [
    | inl lives ↦ rw lives (each_retired ms)
    | inr dies ↦ rw dies (dies, each_retired ms)
  ]

module _ (state : State) where
  abbrev top_of : List Mark → Option Retired
  top_of [] = None
  top_of (m ∷ ms) = Some (retired.Mark m.kind m.cell)

  top_dying : (ms : List Mark) → retired_mark state ms ≡ top_of (retired_marks state ms)
  top_dying [] = refl
  top_dying (m ∷ ms) = elim (cases_Bool (live state m.cell)) [
    | inl lives ↦ rw lives (top_dying ms)
    | inr dies ↦ rw dies refl
  ]

  -- what is found of all marks, where these are those of retired cells
  abbrev pub found_of : List Mark → Option Cell → Option Retired
  found_of ms found = option_map (λ (cell : Cell). retired.Mark (first_kind ms cell) cell) found

  found_top : (ms ds : List Mark) → retired_marks state ms ≡ ds → IsStrictlySortedBy mark_cmp ds → AllByRecursion (λ m. live state m.cell ≡ false) ds
      → found_of ms (first_marked ds) ≡ top_of ds
  found_top ms [] is sorted each = refl
  found_top ms (d ∷ ds) is sorted each =
      let following : Following d ds = sorted_head mark_cmp d ds sorted in
      let busy : has_mark (busy_at d.cell) ms ≡ has_mark (busy_at d.cell) (d ∷ ds) =
      sym (busy_dying (live state) d.cell ms each.0) ∙ ap (has_mark (busy_at d.cell)) is in
      let kind : first_kind ms d.cell ≡ d.kind = ap (λ (b : Bool). if b then Busy else Stale) busy ∙ kind_is d ds following in
      ap (found_of ms) (first_cell d ds following) ∙ ap (λ (k : MarkKind). Some (retired.Mark k d.cell)) kind

  -- where marks are in order, the first one of a retired cell is found by its map, its block and its kind
  pub found : (ms : List Mark) → IsStrictlySortedBy mark_cmp ms → found_of ms (first_marked (retired_marks state ms)) ≡ retired_mark state ms
  found ms sorted =
      found_top ms (retired_marks state ms) refl (IsStrictlySortedBy-filter mark_cmp (λ (m : Mark). not (live state m.cell)) ms sorted)
      (each_retired (live state) ms)
      ∙ sym (top_dying ms)

-- Who leads a link, and how far a cell is, by the definitions alone.
use Rattle.law_steps.proofs.Imports.{if◌then◌else◌, ◌<◌, ◌==◌, ◌≡◌, ◌≤◌, Bool, Both, Cell, DiskRow, Fenced, LinkRow, LinkState, Lost, New, None, Old, Only}
use Rattle.law_steps.proofs.Imports.{Option, RegionState, Some, State, ap, arith, by_test, cell_link, false, in_both, is_alone, is_alone_on, is_lead, is_some}
use Rattle.law_steps.proofs.Imports.{is_the, is_up, leads_link, live, live_new, live_old, live_under, move_region, new_stage, not, old_stage, option_and_then}
use Rattle.law_steps.proofs.Imports.{option_map, option_map_or, owner, refl, region_of, row_in_both, row_lead, second, stage_at, stage_by, state_lead, true}
use Rattle.law_steps.proofs.Imports.{true_false, tuple_of, was_true, ℕ}
use Rattle.spec_rules.specs.State.{leaving}

-- ### The lead

-- who takes a cell's writes leads its link, and the cell is live
pub lead_links : (state : State) (n : ℕ) (cell : Cell) → is_lead state n cell ≡ true → (live state cell ≡ true) × (leads_link state n cell ≡ true)
lead_links state n cell =
    by_test (λ (o : Option ℕ). is_the o n ≡ true → (live state cell ≡ true) × (leads_link state n cell ≡ true)) (not (live state cell)) None _
    (λ retired e. true_false e refl)
    (λ on. by_test (λ (o : Option ℕ). is_the o n ≡ true → (live state cell ≡ true) × (leads_link state n cell ≡ true)) (leaving state cell) None _
    (λ goes e. true_false e refl) (λ stays e. (was_true (live state cell) on, e)))

alone_by : (state : State) (n primary : ℕ) (row : LinkRow) (s : LinkState) → is_the (state_lead state primary s) n ≡ true → is_some (row_in_both row s) ≡ false
    → is_alone n s ≡ true
alone_by state n primary row Both e f = true_false refl f
alone_by state n primary row (Only holder whole) e f =
    by_test (λ (o : Option ℕ). is_the o n ≡ true → (holder == n) ≡ true) (is_up state holder) (Some holder) None (λ up g. g) (λ down g. true_false g refl) e
alone_by state n primary row Lost e f = true_false e refl

-- who leads a link that is not in Both holds it alone
pub link_alone : (state : State) (n : ℕ) (cell : Cell) → leads_link state n cell ≡ true → in_both state cell ≡ false → is_alone_on state n cell ≡ true
link_alone state n cell = by (cell_link state cell)
  where
    by : (o : Option LinkRow) → is_the (option_and_then (row_lead state) o) n ≡ true → is_some (option_and_then (λ row. row_in_both row row.state) o) ≡ false
        → option_map_or (λ row. is_alone n row.state) o false ≡ true
    by None e f = true_false e refl
    by (Some row) e f = alone_by state n row.primary row row.state e f

-- the link that a server leads
pub led_by_link : (state : State) (n : ℕ) (cell : Cell) → leads_link state n cell ≡ true → (row : LinkRow) × (cell_link state cell ≡ Some row)
led_by_link state n cell = by (cell_link state cell) refl
  where
    by : (o : Option LinkRow) → cell_link state cell ≡ o → is_the (option_and_then (row_lead state) o) n ≡ true
        → (row : LinkRow) × (cell_link state cell ≡ Some row)
    by None is e = true_false e refl
    by (Some row) is e = (row, is)

-- a cell that is not live has no second server
pub retired_second : (state : State) (cell : Cell) → live state cell ≡ false → second state cell ≡ None
retired_second state cell off =
    ap (λ b. option_map (λ (row : LinkRow). row.secondary)
    (if b then option_and_then (λ (row : LinkRow). row_in_both row row.state) (cell_link state cell) else None)) off

-- ### Stages

live_region : (b : Bool) (r : RegionState) → (if b then live_new r else live_old r) ≡ true
    → (1 ≤ (if b then new_stage r else old_stage r)) × ((if b then new_stage r else old_stage r) < 4)
live_region true Old e = true_false e refl
live_region true Fenced e = (omega arith, omega arith)
live_region true New e = (omega arith, omega arith)
live_region false Old e = (omega arith, omega arith)
live_region false Fenced e = (omega arith, omega arith)
live_region false New e = true_false e refl

region_live : (b : Bool) (r : RegionState) → 1 ≤ (if b then new_stage r else old_stage r) → (if b then new_stage r else old_stage r) < 4
    → (if b then live_new r else live_old r) ≡ true
region_live true Old h l = absurd (omega arith)
region_live true Fenced h l = refl
region_live true New h l = refl
region_live false Old h l = refl
region_live false Fenced h l = refl
region_live false New h l = absurd (omega arith)

-- a cell is live in the stages 1 to 3
pub live_stage : (state : State) (cell : Cell) → live state cell ≡ true → (1 ≤ stage_at state cell) × (stage_at state cell < 4)
live_stage state cell = by (owner state cell.map)
  where
    by : (o : Option DiskRow) → option_map_or (live_under cell.map (region_of cell.block)) o false ≡ true
        → (1 ≤ stage_by state cell o) × (stage_by state cell o < 4)
    by None e = true_false e refl
    by (Some row) e = live_region (row.map == cell.map) (move_region (region_of cell.block) row.moving) e

pub stage_live : (state : State) (cell : Cell) → 1 ≤ stage_at state cell → stage_at state cell < 4 → live state cell ≡ true
stage_live state cell = by (owner state cell.map)
  where
    by : (o : Option DiskRow) → 1 ≤ stage_by state cell o → stage_by state cell o < 4
        → option_map_or (live_under cell.map (region_of cell.block)) o false ≡ true
    by None h l = by_test (λ k. 1 ≤ k → k < 4 → false ≡ true) (is_some (tuple_of state.maps cell.map)) 4 0
        (λ made one two. absurd (omega arith)) (λ none one two. absurd (omega arith)) h l
    by (Some row) h l = region_live (row.map == cell.map) (move_region (region_of cell.block) row.moving) h l

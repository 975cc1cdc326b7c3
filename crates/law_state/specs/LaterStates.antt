-- When a state is one that more plain entries left: what the earlier one says of a name, the later one says too; and of a cell what
-- its link's servers are that have stayed In.
use Rattle.law_state.specs.Imports.{Both, Cell, DiskView, LinkRow, Only, State, cell_link, find, has_server, is_in, is_up, leads_link, serves, snapshot}
use Rattle.std.specs.Prelude.{◌<◌, ◌≡◌, ◌≤◌, ◌⊎◌, Bool, List, Some, false, true, ℕ}
use Rattle.law_state.specs.Ages.{age_of}
use Rattle.law_state.specs.Homes.{IsRetired, epoch_at, era_at, stage_at}
use Rattle.law_state.specs.LinkRows.{GoesOn}

-- the later row of a cell's link
pub record HasLater (earlier later : State) (cell : Cell) (row : LinkRow) : Type 0 where
  pub now : LinkRow
  pub is : cell_link later cell ≡ Some now
  pub goes_on : GoesOn earlier later row now
  pub open goes_on use *

-- a disk as it is found later: on the same map or a later one, and at the same epoch or a later one
pub record HasLaterView (later : State) (name : List ℕ) (disk : DiskView) : Type 0 where
  pub now : DiskView
  pub is : find later name ≡ Some now
  pub disk_is : now.disk ≡ disk.disk
  pub map_is : disk.map ≤ now.map
  pub onward : disk.epoch ≤ now.epoch

-- a link stays between its two servers until the cell is retired; who served it, and has been In all the time, serves it still; one that is Lost
-- stays so; an incarnation that was Out stays Out; a disk is found as before, or at a later epoch; a snapshot stays at its epoch; no epoch and no
-- era falls; and each cell only goes forward
pub record IsBelow (earlier later : State) : Type 0 where
  pub rows : (cell : Cell) (row : LinkRow) → cell_link earlier cell ≡ Some row → HasLater earlier later cell row ⊎ IsRetired later cell
  pub ages : (n : ℕ) → age_of earlier n ≤ age_of later n
  pub finds : (name : List ℕ) (disk : DiskView) → find earlier name ≡ Some disk → HasLaterView later name disk
  pub snaps : (disk : ℕ) (name : List ℕ) (epoch : ℕ) → snapshot earlier disk name ≡ Some epoch → snapshot later disk name ≡ Some epoch
  pub epochs : (cell : Cell) → epoch_at earlier cell ≤ epoch_at later cell
  pub eras : (cell : Cell) → era_at earlier cell ≤ era_at later cell
  pub stages : (cell : Cell) → stage_at earlier cell ≤ stage_at later cell
  pub died : (cell : Cell) → IsRetired earlier cell → IsRetired later cell

-- the server holds the cell's link alone
pub record HoldsAlone (state : State) (n : ℕ) (cell : Cell) : Type 0 where
  pub row : LinkRow
  pub is : cell_link state cell ≡ Some row
  pub whole : Bool
  pub alone : row.state ≡ Only n whole

-- the server is the secondary of the cell's link, which is in Both, whether or not the cell is live
pub record IsSecondary (state : State) (n : ℕ) (cell : Cell) : Type 0 where
  pub row : LinkRow
  pub is : cell_link state cell ≡ Some row
  pub both : row.state ≡ Both
  pub second : row.secondary ≡ n

-- the server is one of the two of the cell's link, and serves it, whether or not the cell is live
pub record IsServing (state : State) (n : ℕ) (cell : Cell) : Type 0 where
  pub row : LinkRow
  pub is : cell_link state cell ≡ Some row
  pub one_of : has_server n row ≡ true
  pub so : serves n row row.state ≡ true

-- the server held the cell's link alone, and is its secondary now that the link is in Both again
pub record HasComeSecond (earlier later : State) (n : ℕ) (cell : Cell) : Type 0 where
  pub alone : HoldsAlone earlier n cell
  pub second : IsSecondary later n cell

-- the server that held the cell's link alone was Out, and has joined since
pub record HasJoinedAlone (earlier later : State) (cell : Cell) : Type 0 where
  pub holder : ℕ
  pub alone : HoldsAlone earlier holder cell
  pub out : is_up earlier holder ≡ false
  pub joined : age_of earlier holder < age_of later holder

-- what a server that is still In as the same incarnation was to a cell's link, it is later, until the cell is retired: its lead, or the secondary of a
-- link that is in Both again; its secondary, or now it holds the link alone; and one that serves it. A link that is led later was led before,
-- where it was known, or its holder has joined since
pub record KeepsRoles (earlier later : State) : Type 0 where
  pub leads : (n inc : ℕ) (cell : Cell) → is_in earlier n inc ≡ true → is_in later n inc ≡ true → leads_link earlier n cell ≡ true
      → (leads_link later n cell ≡ true) ⊎ HasComeSecond earlier later n cell ⊎ IsRetired later cell
  pub seconds : (n inc : ℕ) (cell : Cell) → is_in earlier n inc ≡ true → is_in later n inc ≡ true → IsSecondary earlier n cell
      → IsSecondary later n cell ⊎ HoldsAlone later n cell ⊎ IsRetired later cell
  pub reads : (n inc : ℕ) (cell : Cell) → is_in earlier n inc ≡ true → is_in later n inc ≡ true → IsServing earlier n cell
      → IsServing later n cell ⊎ IsRetired later cell
  pub led : (cell : Cell) (row : LinkRow) (n : ℕ) → cell_link earlier cell ≡ Some row → leads_link later n cell ≡ true
      → ((m : ℕ) × (leads_link earlier m cell ≡ true)) ⊎ HasJoinedAlone earlier later cell

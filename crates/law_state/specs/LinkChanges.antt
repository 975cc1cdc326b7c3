-- What an entry does to a link: it stays as it is, one of its servers leaves or joins, or it is in Both again.
use Rattle.law_state.specs.Imports.{Both, Caught, Cell, Command, IsPrefix, Join, Leave, LinkRow, LinkState, Only, State, after, cell_link, has_server, inc_of}
use Rattle.law_state.specs.Imports.{is_up_as, may_join, other_of, places_from, row_blanked, row_left, start, state_after}
use Rattle.std.specs.Prelude.{[], ◌++◌, ◌+◌, ◌∷◌, ◌≡◌, ◌≢◌, Bool, List, None, Option, Some, false, slice_get, true, ℕ}

-- the cell has the same row, and its two servers are In, with the same incarnations, or Out, as before
pub record StaysSo (cell : Cell) (row : LinkRow) (earlier later : State) : Type 0 where
  pub same : cell_link later cell ≡ Some row
  pub primary : inc_of later row.primary ≡ inc_of earlier row.primary
  pub secondary : inc_of later row.secondary ≡ inc_of earlier row.secondary

-- the server is In with this incarnation now, or Out, and each other one is as before
pub record IsReseated (earlier later : State) (server : ℕ) (now : Option ℕ) : Type 0 where
  pub here : inc_of later server ≡ now
  pub beside : (n : ℕ) → n ≢ server → inc_of later n ≡ inc_of earlier n

-- the entry is the Leave of a server of the link that was In
pub record IsLeftBy (state : State) (entry : Command) (row : LinkRow) : Type 0 where
  pub server : ℕ
  pub inc : ℕ
  pub is : entry ≡ Leave server inc
  pub up : is_up_as state server inc ≡ true
  pub one_of : has_server server row ≡ true

-- the entry is the Join of a server of the link that was Out, with its blocks or with an empty store
pub record IsJoinedBy (state : State) (entry : Command) (row : LinkRow) : Type 0 where
  pub server : ℕ
  pub inc : ℕ
  pub blank : Bool
  pub is : entry ≡ Join server inc blank
  pub may : may_join (slice_get state.view.members server) inc ≡ true
  pub one_of : has_server server row ≡ true

-- the row after that Join
abbrev pub row_joined : (server : ℕ) (blank : Bool) → LinkRow → LinkRow
row_joined server true row = row_blanked server row
row_joined server false row = row

-- the entry is the Caught of the link, which one of its servers held alone; both are In, as the incarnations that it names
pub record IsCaughtBy (state : State) (entry : Command) (row : LinkRow) : Type 0 where
  pub holder : ℕ
  pub inc : ℕ
  pub other_inc : ℕ
  pub whole : Bool
  pub is : entry ≡ Caught row.map row.link holder inc (other_of holder row) other_inc
  pub alone : row.state ≡ Only holder whole
  pub holds : is_up_as state holder inc ≡ true
  pub joins : is_up_as state (other_of holder row) other_inc ≡ true

-- what an entry that touches a cell's link does to it: of its two servers one leaves; one joins, which finds the link held by one
-- alone, or Lost, and with its blocks leaves it so; or the link, which one held alone, is in Both again, and nobody else is In than before
pub data IsTouchedBy (cell : Cell) (row : LinkRow) (state : State) (entry : Command) : Type 0 where
  By_leave : (left : IsLeftBy state entry row) → cell_link (after state entry) cell ≡ Some (row_left left.server row)
      → IsReseated state (after state entry) left.server None → IsTouchedBy cell row state entry
  By_join : (joined : IsJoinedBy state entry row) → cell_link (after state entry) cell ≡ Some (row_joined joined.server joined.blank row)
      → row.state ≢ Both → IsReseated state (after state entry) joined.server (Some joined.inc) → IsTouchedBy cell row state entry
  By_caught : IsCaughtBy state entry row → StaysSo cell (record row { state = Both }) state (after state entry) → IsTouchedBy cell row state entry

-- after this prefix of the log stands a Caught that acts on the cell's link, and finds it as this row
pub record IsCaughtIn (servers : ℕ) (prefix whole : List Command) (cell : Cell) (row : LinkRow) : Type 0 where
  pub until : List Command
  pub entry : Command
  pub following : IsPrefix prefix until
  pub stands : IsPrefix (until ++ entry ∷ []) whole
  pub was : cell_link (state_after servers until) cell ≡ Some row
  pub acts : IsCaughtBy (state_after servers until) entry row

-- such a Caught put the cell's link in Both, as it is by the whole log: the link is one place on
pub record IsCaughtSince (servers : ℕ) (prefix whole : List Command) (cell : Cell) (now : LinkRow) : Type 0 where
  pub row : LinkRow
  pub found : IsCaughtIn servers prefix whole cell row
  pub since : StaysSo cell now (state_after servers found.until) (state_after servers whole)
  pub place : places_from (start servers) whole row ≡ places_from (start servers) found.until row + 1

-- ### A link that one server holds alone

-- the server holds it alone still, and has to copy all of it where it had to before
abbrev pub IsHeldStill : (holder : ℕ) (whole : Bool) → LinkState → Type 0
IsHeldStill holder whole now = (later : Bool) × (now ≡ Only holder later) × (whole ≡ true → later ≡ true)

-- after this prefix of the log a server joins with an empty store, which was Out
pub record IsLostIn (servers : ℕ) (prefix whole : List Command) (holder : ℕ) : Type 0 where
  pub until : List Command
  pub inc : ℕ
  pub following : IsPrefix prefix until
  pub stands : IsPrefix (until ++ Join holder inc true ∷ []) whole
  pub may : may_join (slice_get (state_after servers until).view.members holder) inc ≡ true

-- after this prefix stands a Caught that acts on the cell's link, which the server has held alone until then, and has had to copy all of
-- it then too where it had to before
pub record IsCaughtStill (servers : ℕ) (prefix whole : List Command) (cell : Cell) (row : LinkRow) (holder : ℕ) (fills : Bool) : Type 0 where
  pub later : Bool
  pub found : IsCaughtIn servers prefix whole cell (record row { state = Only holder later })
  pub kept : fills ≡ true → later ≡ true

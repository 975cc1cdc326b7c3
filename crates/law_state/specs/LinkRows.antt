-- Rows of links: between whom they are, who serves them, and what is left of a row later.
use Rattle.law_state.specs.Imports.{Both, LinkRow, Lost, Only, has_server, is_up, is_up_as, serves}
use Rattle.std.specs.Prelude.{◌≡◌, ◌⊎◌, Bool, false, true, ℕ}
use Rattle.spec_state.specs.State.{State}
use Rattle.law_state.specs.Ages.{age_of}

-- the link is between these two servers, in either order
abbrev pub IsBetween : LinkRow → (one other : ℕ) → Type 0
IsBetween row one other = ((row.primary ≡ one) × (row.secondary ≡ other)) ⊎ ((row.primary ≡ other) × (row.secondary ≡ one))

-- by who is In, and who is In with its first incarnation: both servers serve the link, and are In; or one of them alone, and the
-- other one has left, or was Out when the link was made; or neither, since the one that held it alone came back with nothing
pub data IsServedBy (up first : ℕ → Bool) (row : LinkRow) : Type 0 where
  ByBoth : row.state ≡ Both → up row.primary ≡ true → up row.secondary ≡ true → IsServedBy up first row
  ByOne : (holder other : ℕ) (whole : Bool) → row.state ≡ Only holder whole → IsBetween row holder other → first other ≡ false → IsServedBy up first row
  ByNone : (one other : ℕ) → row.state ≡ Lost → IsBetween row one other → first other ≡ false → IsServedBy up first row

abbrev pub IsServed : State → LinkRow → Type 0
IsServed state row = IsServedBy (is_up state) (λ n. is_up_as state n 1) row

-- the same link later, whoever serves it
pub record IsLater (row later : LinkRow) : Type 0 where
  pub map : later.map ≡ row.map
  pub link : later.link ≡ row.link
  pub primary : later.primary ≡ row.primary
  pub secondary : later.secondary ≡ row.secondary

-- a server of the link that serves it, and is In as the same incarnation at both states, serves it later too: with the other one or
-- alone
abbrev pub IsServedOn : (earlier later : State) → (row now : LinkRow) → Type 0
IsServedOn earlier later row now = (n inc : ℕ) → has_server n row ≡ true → serves n row row.state ≡ true → is_up_as earlier n inc ≡ true
    → is_up_as later n inc ≡ true → serves n now now.state ≡ true

-- a link that one server holds alone stays so while the holder is Out
abbrev pub IsHeldOn : (earlier later : State) → (row now : LinkRow) → Type 0
IsHeldOn earlier later row now = (n : ℕ) (whole : Bool) → row.state ≡ Only n whole → is_up earlier n ≡ false → age_of later n ≡ age_of earlier n
    → (later : Bool) × (now.state ≡ Only n later)

-- a link that is Lost stays so
abbrev pub IsLostOn : (row now : LinkRow) → Type 0
IsLostOn row now = row.state ≡ Lost → now.state ≡ Lost

-- all of this, of a row and the same link's later one
pub record GoesOn (earlier later : State) (row now : LinkRow) : Type 0 where
  pub so : IsLater row now
  pub on : IsServedOn earlier later row now
  pub held : IsHeldOn earlier later row now
  pub lost : IsLostOn row now

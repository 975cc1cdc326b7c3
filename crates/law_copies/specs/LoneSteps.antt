-- What a job of a server leaves of a cell whose link one server holds alone: at the holder, at the other server of the link, and at a
-- server that the link is not of.
use Rattle.law_copies.specs.Imports.{AreResting, Body, Cell, Chain, In, IsMarked, IsReady, IsRising, IsSteady, JobContext, JobResult, LastCopy, LinkRow}
use Rattle.law_copies.specs.Imports.{MarkKind, Only, PairState, Post, Store, Table, about, at, cell_cmp, cell_link, chain_in, copying_on, has_proposed}
use Rattle.law_copies.specs.Imports.{has_server, holder_of, id_of, is_between, is_flagged, is_marked, last_copy, last_on, live, pending_on, stage_at}
use Rattle.law_copies.specs.Imports.{subject_of}
use Rattle.std.specs.Prelude.{[], ◌<◌, ◌≡◌, ◌≢◌, ◌⊎◌, Bool, None, Option, Some, false, is_some, true, ℕ}
use Rattle.std.specs.Ordering.{nat_cmp}
use Rattle.law_copies.specs.CopyProgress.{AreAlike, AreCopying, IsLeft, IsOfLink, IsPage, IsTold, links_of}
use Rattle.law_copies.specs.Pair.{HaveMarks}
use Rattle.petal_msg.specs.declared.body.Body.TheVariants as body

-- a cell without entries has no chain
abbrev pub AreFilled : Table Cell Chain → Type 0
AreFilled chains = (cell : Cell) → at cell_cmp chains cell ≢ Some []

-- a server has nothing of the cell
pub record IsBare (own : PairState) (cell : Cell) : Type 0 where
  pub chain : chain_in own.store.chains cell ≡ []
  pub marks : (kind : MarkKind) → is_marked own.store kind cell ≡ false

-- what a server has before a job, by its own state
pub record IsFit (heard : Body → Type 0) (here : JobContext) (own : PairState) : Type 0 where
  pub steady : IsSteady here.state
  pub ready : IsReady here.state here.me (has_proposed here.state own) own.pairs.pending
  pub resting : AreResting here.state here.me own
  pub marks : HaveMarks here.state own.pairs.pending own.store
  pub rising : (q : Cell) → IsRising nat_cmp (chain_in own.store.chains q)
  pub filled : AreFilled own.store.chains
  -- of cells that are not live yet; and what is told of, or was copied here, is of live ones
  pub bare : (q : Cell) → stage_at here.state q ≡ 0 → IsBare own q
  pub lives : (said : Body) → heard said → is_between (subject_of said) ≡ true → (q : Cell) → (about said).cell ≡ Some q → live here.state q ≡ true
  pub copied : (q : Cell) (last : LastCopy) → last_copy own q ≡ Some last → live here.state q ≡ true
  -- a page tells of a block of its own link
  pub pages : (q : Cell) (link : ℕ) (after : Option ℕ) → heard (body.Hello q.map link after (Some q.block)) → IsOfLink here.state q link

-- ### At the holder

-- the server holds the cell's link alone, and what stands before the job, where the other server has been as this
pub record IsHolding (heard : Body → Type 0) (here : JobContext) (links : ℕ) (row : LinkRow) (cell : Cell) (own : PairState)
    (other : Option PairState) : Type 0 where
  pub fit : IsFit heard here own
  pub is : cell_link here.state cell ≡ Some row
  pub alive : stage_at here.state cell < 4
  pub links_are : links_of here.state cell.map ≡ links
  pub whole : Bool
  pub held : row.state ≡ Only here.me whole
  pub old : AreCopying links row cell (Some own) other
  pub told : (said : Body) → heard said → (about said).cell ≡ Some cell → IsTold row (Some own) other said
  pub met : (after block : Option ℕ) → heard (body.Hello row.map row.link after block) → is_some other ≡ true

-- what was known of letters of the cell is known later
abbrev pub StaysTold : LinkRow → (cell : Cell) → (holder other holder' other' : Option PairState) → Type 0
StaysTold row cell holder other holder' other' = (said : Body) → (about said).cell ≡ Some cell → IsTold row holder other said
    → IsTold row holder' other' said

-- the other server's store, as it is now, has the chain that the server had when it last was at the place
abbrev pub IsStill : Cell → Option PairState → Store → Type 0
IsStill cell visit now = (by : PairState) → visit ≡ Some by → chain_in by.store.chains cell ≡ chain_in now.chains cell

-- each page that was heard tells of the other server's store as it is now
abbrev pub PagesOf : (heard : Body → Type 0) → LinkRow → Cell → Store → Option PairState → Type 0
PagesOf heard row cell now visit = (after block : Option ℕ) → heard (body.Hello row.map row.link after block)
    → IsPage cell now visit after block

-- what a change keeps: a mark goes only by a copy, whose other server was there; what the holder has stays; and nothing is changed of the cell
-- once a ballot was started for the link's Caught
pub record HolderStep (heard : Body → Type 0) (links : ℕ) (row : LinkRow) (cell : Cell) (other : Option PairState) (own to : PairState) : Type 0 where
  pub copying : AreCopying links row cell (Some to) other
  pub told : StaysTold row cell (Some own) other (Some to) other
  pub marks : IsMarked own.store cell → IsMarked to.store cell ⊎ (is_some other ≡ true)
  pub stored : chain_in own.store.chains cell ≢ [] → chain_in to.store.chains cell ≢ []
  pub alike : (now : Store) → IsStill cell other now → PagesOf heard row cell now other → IsRising nat_cmp (chain_in now.chains cell)
      → AreAlike row cell own.store now (Some own) → AreAlike row cell to.store now (Some to)
  pub caught : is_flagged own (id_of row) ≡ true
      → (chain_in to.store.chains cell ≡ chain_in own.store.chains cell) × (IsMarked to.store cell → ⊥) × (is_flagged to (id_of row) ≡ true)

-- and what is known of what the job sends
pub record HolderKeeps (heard : Body → Type 0) (links : ℕ) (row : LinkRow) (cell : Cell) (own : PairState) (other : Option PairState)
    (done : JobResult) : Type 0 where
  pub step : HolderStep heard links row cell other own done.own
  pub open step use *
  pub says : (post : Post) → In post done.posts → (about post.body).cell ≡ Some cell → IsTold row (Some done.own) other post.body

-- what a ballot that is started keeps: stores stay as they are
pub record BallotKeeps (links : ℕ) (row : LinkRow) (cell : Cell) (own : PairState) (other : Option PairState) (to : PairState) : Type 0 where
  pub copying : AreCopying links row cell (Some to) other
  pub told : StaysTold row cell (Some own) other (Some to) other
  pub store : to.store ≡ own.store
  pub alike : (now : Store) → AreAlike row cell own.store now (Some own) → AreAlike row cell to.store now (Some to)
  pub flagged : is_flagged own (id_of row) ≡ true → is_flagged to (id_of row) ≡ true

-- ### At the other server

-- the server is the other one of the cell's link, and what stands before the job, where the holder has been as this
pub record IsFollowing (heard : Body → Type 0) (here : JobContext) (links : ℕ) (row : LinkRow) (cell : Cell) (holder : Option PairState)
    (own : PairState) : Type 0 where
  pub fit : IsFit heard here own
  pub is : cell_link here.state cell ≡ Some row
  pub alive : stage_at here.state cell < 4
  pub by : ℕ
  pub held : holder_of here.me row ≡ Some by
  pub old : AreCopying links row cell holder (Some own)
  pub told : (said : Body) → heard said → (about said).cell ≡ Some cell → IsTold row holder (Some own) said

-- the holder has been at the place, and had the block left to copy
pub record IsLeftBy (row : LinkRow) (holder : Option PairState) (cell : Cell) : Type 0 where
  pub by : PairState
  pub met : holder ≡ Some by
  pub left : IsLeft by row cell

-- what is kept of the cell: its chain changes only where the holder has the block left to copy
pub record StaysHere (links : ℕ) (row : LinkRow) (cell : Cell) (holder : Option PairState) (own new : PairState) : Type 0 where
  pub copying : AreCopying links row cell holder (Some new)
  pub told : StaysTold row cell holder (Some own) holder (Some new)
  pub marks : (kind : MarkKind) → is_marked new.store kind cell ≡ is_marked own.store kind cell
  pub changes : (chain_in new.store.chains cell ≡ chain_in own.store.chains cell) ⊎ IsLeftBy row holder cell

-- and what is known of what the job sends, of its pages and of chains
pub record OtherKeeps (links : ℕ) (row : LinkRow) (cell : Cell) (holder : Option PairState) (own : PairState) (done : JobResult) : Type 0 where
  pub here : StaysHere links row cell holder own done.own
  pub open here use *
  pub says : (post : Post) → In post done.posts → (about post.body).cell ≡ Some cell → IsTold row holder (Some done.own) post.body
  pub pages : (post : Post) → In post done.posts → (after block : Option ℕ) → post.body ≡ body.Hello row.map row.link after block
      → IsPage cell done.own.store (Some done.own) after block
  pub rising : IsRising nat_cmp (chain_in done.own.store.chains cell)

-- ### At a server that the link is not of

-- the cell has no link, or one that the server is not of
abbrev pub IsNotOf : JobContext → Cell → Type 0
IsNotOf here cell = (cell_link here.state cell ≡ None) ⊎
    ((row : LinkRow) × (cell_link here.state cell ≡ Some row) × (has_server here.me row ≡ false))

-- all that concerns the cell is as before, but for its marks
pub record KeepsRest (cell : Cell) (own to : PairState) : Type 0 where
  pub chain : chain_in to.store.chains cell ≡ chain_in own.store.chains cell
  pub pending : pending_on to cell ≡ pending_on own cell
  pub copying : copying_on to cell ≡ copying_on own cell
  pub last : last_copy to cell ≡ last_copy own cell
  pub followed : last_on to cell ≡ last_on own cell

-- and its marks
pub record KeepsCell (cell : Cell) (own to : PairState) : Type 0 where
  pub rest : KeepsRest cell own to
  pub marks : (kind : MarkKind) → is_marked to.store kind cell ≡ is_marked own.store kind cell

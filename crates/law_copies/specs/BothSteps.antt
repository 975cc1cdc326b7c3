-- What a step of one server of a link in Both leaves of a cell, whatever the other server has in memory of it.
use Rattle.law_copies.specs.Imports.{Cell, In, IsRising, PairState, Pending, Post, about, at, cell_cmp, chain_in, is_clients}
use Rattle.std.specs.Prelude.{◌+◌, ◌≡◌, ◌≤◌, List, None, Some, false}
use Rattle.std.specs.Ordering.{nat_cmp}
use Rattle.law_copies.specs.Pair.{IsRecalled, Keeps, Known, Pair, far, pair_of}

-- of each letter about the cell, which a server sends, something is known where the two copies stand so
abbrev pub SaysKnown : List Post → Cell → Pair → Type 0
SaysKnown posts cell pair = (post : Post) → In post posts → (about post.body).cell ≡ Some cell → Known pair post.body

-- of an entry that moves, which is pending at the first server, the second one has nothing until it has followed
abbrev pub IsLacking : Pair → Type 0
IsLacking pair = (op : Pending) → pair.pending ≡ Some op → is_clients op.kind ≡ false → far pair ≤ op.op + op.op
    → at nat_cmp pair.second op.key.epoch ≡ None

abbrev pub LacksFill : (first second : PairState) → Cell → Type 0
LacksFill first second cell = IsLacking (pair_of first second cell)

-- at the first server, where the second one has this
pub record LeadKeeps (own new : PairState) (posts : List Post) (second : PairState) (cell : Cell) : Type 0 where
  pub keeps : Keeps (pair_of own second cell) (pair_of new second cell)
  pub recalled : (op : Pending) → at cell_cmp new.pairs.pending cell ≡ Some op → IsRecalled op new.store cell
  pub lacks : LacksFill own second cell → LacksFill new second cell
  pub says : SaysKnown posts cell (pair_of new second cell)
  pub rising : IsRising nat_cmp (chain_in own.store.chains cell) → IsRising nat_cmp (chain_in new.store.chains cell)

-- at the second server, where the first one has this
pub record SecondKeeps (own new : PairState) (posts : List Post) (first : PairState) (cell : Cell) : Type 0 where
  pub keeps : Keeps (pair_of first own cell) (pair_of first new cell)
  pub lacks : LacksFill first own cell → LacksFill first new cell
  pub says : SaysKnown posts cell (pair_of first new cell)
  pub rising : IsRising nat_cmp (chain_in own.store.chains cell) → IsRising nat_cmp (chain_in new.store.chains cell)

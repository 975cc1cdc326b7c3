-- One entry more of the chosen log, and what is so of the world and of the log before it.
use Rattle.law_copies.proofs.Imports.{[], if◌then◌else◌, ◌++◌, ◌==◌, ◌∷◌, ◌≡◌, ◌⊎◌, Caught, Cell, Command, HasProperTuples, IsPrefix, List, None, Record}
use Rattle.law_copies.proofs.Imports.{Setting, State, Store, WasStarted, World, blank_joins_in, false, is_in, joins_blank, prefix_on, server_state, start}
use Rattle.law_copies.proofs.Imports.{state_after, true, world_after, ℕ}
use Rattle.law_copies.specs.GoodCopies.{Good}
use Rattle.law_copies.specs.Pair.{HaveMarks}
use Rattle.law_copies.specs.Visits.{Visits, with_stores}

-- every server has applied entries of this log alone, now and at each world on the way
pub record IsAfter (setting : Setting) (records : List Record) (top : List Command) (w : World) : Type 0 where
  pub now : (n : ℕ) → IsPrefix (w.servers n).log.applied top
  pub ever : (before later : List Record) → records ≡ before ++ later → (n : ℕ)
      → IsPrefix ((world_after setting (start setting) before).servers n).log.applied top

pub following_on : (setting : Setting) (records : List Record) (top more : List Command) (w : World) → IsPrefix top more → IsAfter setting records top w
    → IsAfter setting records more w
following_on setting records top more w is_prefix following = record {
  now = λ n. prefix_on _ top more (following.now n) is_prefix;
  ever = λ before later is n. prefix_on _ top more (following.ever before later is n) is_prefix;
}

-- what is kept of this prefix of the log, with these visits and places that count
pub record IsGrownTo (setting : Setting) (records : List Record) (w : World) (visits : Visits) (reached : Cell → ℕ) (log : List Command) : Type 0 where
  pub good : Good setting records log w
  pub visits_are : (n place : ℕ) (cell : Cell) → good.visits n place cell ≡ visits n place cell
  pub reached_is : (cell : Cell) → good.reached cell ≡ reached cell

-- ### One entry more

-- the server's store is empty once the entry counts: the server is not In as itself by its own entries, and has nothing pending
pub record IsRenewed (setting : Setting) (u : World) (n : ℕ) (store : Store) : Type 0 where
  pub chains : store.chains ≡ []
  pub marks : store.marks ≡ []
  pub out : is_in (server_state setting u n) n (u.servers n).life.inc ≡ false
  pub rested : ((u.servers n).life.running ≡ true) ⊎ (u.before_blank n ≡ None) → HaveMarks (server_state setting u n) (u.servers n).own.pairs.pending store

-- the stores that count once the entry does
pub record AreRecounted (setting : Setting) (u : World) (here : State) (entry : Command) (old new : ℕ → Store) : Type 0 where
  pub same : (n : ℕ) → joins_blank here entry n ≡ false → new n ≡ old n
  pub renewed : (n : ℕ) → joins_blank here entry n ≡ true → IsRenewed setting u n (new n)

-- the log gets this entry, whose stores count from then on; where it is a link's Caught its holder had started the ballot for it
pub record AtNext : Type 0 where
  pub setting : Setting
  pub records : List Record
  pub top : List Command
  pub entry : Command
  pub u : World
  pub old : ℕ → Store
  pub new : ℕ → Store
  pub good : Good setting records top (with_stores u old)
  pub following : IsAfter setting records top u
  pub all : HasProperTuples setting.servers (top ++ entry ∷ [])
  pub started : (of link holder inc other other_inc : ℕ) → entry ≡ Caught of link holder inc other other_inc
      → WasStarted setting records holder inc top (record { map = of; link = link })
  pub recounts : AreRecounted setting u (state_after setting.servers top) entry old new

-- the log and its state then, the world by the stores that count then, and all stores: a server that comes back with nothing has a store more
pub record Next : Type 0 where
  pub next : List Command
  pub here : State
  pub then_state : State
  pub v : World
  pub stores : ℕ → ℕ → Store

abbrev pub next_of : AtNext → Next
next_of it = record {
  next = it.top ++ it.entry ∷ [];
  here = state_after it.setting.servers it.top;
  then_state = state_after it.setting.servers (it.top ++ it.entry ∷ []);
  v = with_stores it.u it.new;
  stores = λ n joins. if joins == blank_joins_in it.setting (it.top ++ it.entry ∷ []) n then it.new n else it.good.stores n joins;
}

-- A job of a server that is In as itself, and what it keeps.
use Rattle.law_copies.proofs.Imports.{◌≡◌, ◌≤◌, Body, Both, Cell, Handled, In, IsRising, JobResult, LastCopy, LinkRow, Lost, None, Option, PairState, Post}
use Rattle.law_copies.proofs.Imports.{Server, Setting, Some, Store, World, about, cell_link, chain_in, chosen_log, false, holder_of, is_between, last_copy}
use Rattle.law_copies.proofs.Imports.{live, nat_cmp, own_place, server_state, stage_at, subject_of, true, ℕ}
use Rattle.law_copies.specs.BothSteps.{LeadKeeps, SecondKeeps}
use Rattle.law_copies.specs.CopyProgress.{IsOfLink, links_of}
use Rattle.law_copies.specs.GoodCopies.{IsUnheard}
use Rattle.law_copies.specs.Pair.{HaveMarks, Known, PairOk, pair_of}
use Rattle.law_copies.specs.LoneSteps.{AreFilled, HolderKeeps, IsFollowing, IsHolding, IsNotOf, KeepsCell, OtherKeeps}
use Rattle.law_copies.specs.Visits.{AliveIn, with_stores}
use Rattle.law_copies.proofs.CopiesGround.{Ground}
use Rattle.law_copies.proofs.AtSeat.{AtSeat, IsAtWork}
use Rattle.law_copies.proofs.AtStep.{AtStep, IsStep, at_step}
use Rattle.law_copies.proofs.ServedAtLaterPrefixes.{AllStarted}
use Rattle.petal_msg.specs.declared.body.Body.TheVariants as body

-- what a job, or a ballot that is started, keeps by itself
pub record IsKeeping (setting : Setting) (w : World) (k : ℕ) (done : JobResult) : Type 0 where
  pub lead : (cell : Cell) (row : LinkRow) (second : PairState) → cell_link (server_state setting w k) cell ≡ Some row
      → AliveIn (server_state setting w k) cell → row.state ≡ Both → row.primary ≡ k
      → PairOk (pair_of (w.servers k).own second cell)
      → ((said : Body) → Handled w k said → (about said).cell ≡ Some cell → Known (pair_of (w.servers k).own second cell) said)
      → LeadKeeps (w.servers k).own done.own done.posts second cell
  pub second : (cell : Cell) (row : LinkRow) (first : PairState) → cell_link (server_state setting w k) cell ≡ Some row
      → AliveIn (server_state setting w k) cell → row.state ≡ Both → row.secondary ≡ k
      → PairOk (pair_of first (w.servers k).own cell)
      → ((said : Body) → Handled w k said → (about said).cell ≡ Some cell → Known (pair_of first (w.servers k).own cell) said)
      → SecondKeeps (w.servers k).own done.own done.posts first cell
  pub holder : (cell : Cell) (row : LinkRow) (other : Option PairState)
      → IsHolding (Handled w k) (own_place setting w k) (links_of (server_state setting w k) cell.map) row cell (w.servers k).own other
      → HolderKeeps (Handled w k) (links_of (server_state setting w k) cell.map) row cell (w.servers k).own other done
  pub other : (cell : Cell) (row : LinkRow) (holder : Option PairState)
      → IsFollowing (Handled w k) (own_place setting w k) (links_of (server_state setting w k) cell.map) row cell holder (w.servers k).own
      → OtherKeeps (links_of (server_state setting w k) cell.map) row cell holder (w.servers k).own done
  pub unlinked : (cell : Cell) → cell_link (server_state setting w k) cell ≡ None → AliveIn (server_state setting w k) cell
      → KeepsCell cell (w.servers k).own done.own
  pub lost : (cell : Cell) (row : LinkRow) → cell_link (server_state setting w k) cell ≡ Some row → AliveIn (server_state setting w k) cell
      → row.state ≡ Lost → KeepsCell cell (w.servers k).own done.own
  pub silent : (cell : Cell) → IsNotOf (own_place setting w k) cell → (post : Post) → In post done.posts → (about post.body).cell ≡ Some cell
      → is_between (subject_of post.body) ≡ false
  pub lives : (post : Post) → In post done.posts → is_between (subject_of post.body) ≡ true → (cell : Cell) → (about post.body).cell ≡ Some cell
      → live (server_state setting w k) cell ≡ true
  pub copied : (cell : Cell) (last : LastCopy) → last_copy done.own cell ≡ Some last → live (server_state setting w k) cell ≡ true
  pub paged : (cell : Cell) (row : LinkRow) → cell_link (server_state setting w k) cell ≡ Some row → (post : Post) → In post done.posts
      → (after block : Option ℕ) → post.body ≡ body.Hello row.map row.link after block → (n : ℕ) × (holder_of k row ≡ Some n)
  pub pages : (post : Post) → In post done.posts → (map link block : ℕ) (after : Option ℕ) → post.body ≡ body.Hello map link after (Some block)
      → IsOfLink (server_state setting w k) (record { map = map; block = block }) link
  pub rising : (cell : Cell) → IsRising nat_cmp (chain_in done.own.store.chains cell)
  pub filled : AreFilled done.own.store.chains
  pub counts : (w.servers k).own.pairs.next ≤ done.own.pairs.next
  pub marks : HaveMarks (server_state setting w k) done.own.pairs.pending done.own.store
  pub unheard : (cell : Cell) → stage_at (server_state setting w k) cell ≡ 0 → IsUnheard (server_state setting w k) (w.servers k).own cell
      → IsUnheard (server_state setting w k) done.own cell

-- a job of a server that runs, and is In as itself: its step applies no entry, and leaves what the job does; by the stores that count
pub record IsJob (setting : Setting) (w : World) (stores : ℕ → Store) (v : World) (k : ℕ) (server : Server) (done : JobResult) : Type 0 where
  pub step : IsStep setting (chosen_log setting w) (with_stores w stores) v k server
  pub works : IsAtWork setting w stores k
  pub keeping : IsKeeping setting w k done
  pub own_is : server.own ≡ done.own
  pub applied : server.log.applied ≡ (w.servers k).log.applied
  pub inc : server.life.inc ≡ (w.servers k).life.inc

-- such a job
pub record AtJob : Type 0 where
  pub ground : Ground
  pub open ground use {setting, records, w, stores, good, firm, rests}
  pub v : World
  pub k : ℕ
  pub server : Server
  pub done : JobResult
  pub job : IsJob setting w stores v k server done
  pub started : AllStarted setting records w

abbrev pub at_job : (ground : Ground) {v : World} {k : ℕ} {server : Server} {done : JobResult} → IsJob ground.setting ground.w ground.stores v k server done
    → AllStarted ground.setting ground.records ground.w → AtJob
at_job ground {v} {k} {server} {done} job started = record { ground = ground; v = v; k = k; server = server; done = done; job = job; started = started }

-- the server before the job, and its step
abbrev pub seat_at : AtJob → AtSeat
seat_at it = record { ground = it.ground; k = it.k; works = it.job.works }

abbrev pub step_at : AtJob → AtStep
step_at it = at_step it.good it.job.step

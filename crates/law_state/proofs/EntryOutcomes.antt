-- What a command comes to in a settled state: it is one of a few changes, and a fact that does not speak of one has one clause for all others.
use Rattle.law_state.proofs.Imports.{◌&&◌, ◌+◌, ◌==◌, ◌∙◌, ◌≡◌, Bool, Caught, Command, DiskRow, Drained, Err, Join, Leave, List, MakeDisk, Moved, None, Ok}
use Rattle.law_state.proofs.Imports.{Option, Region, Result, Snap, Some, StartMove, State, Verdict, Whole, Witness, act, all_noted, both_true, by_test, false}
use Rattle.law_state.proofs.Imports.{is_head, is_new, is_some, is_taken, is_tuple, is_up_as, latest, links_of, may_join, named, none_some, not, not_true}
use Rattle.law_state.proofs.Imports.{refl, same_some, slice_get, snap_target, snapped, subst, sym, told, true, with_disk, with_fence, with_link, with_move, ℕ}
use Rattle.law_state.specs.Plain.{HasProperTuple, asker}
use Rattle.law_state.specs.Tables.{IsSettledState}
use Rattle.law_state.proofs.Caughts.{IsCatch, act_caught, caught_by}
use Rattle.law_state.proofs.MovesOfDisks.{IsNoting, act_moved, act_note, act_start, moved_state, noted_state}
use Rattle.law_state.proofs.SnapsQueueFences.{none_of}
use Rattle.law_state.proofs.Joins.{joined_by}
use Rattle.law_state.proofs.TestFacts.{was_true}
use Rattle.law_state.proofs.Leaves.{left_by}
use Rattle.global_tables.specs.View as view

-- why a client's new command is refused: its name is taken, its disk is not known, or it is on the move
pub data IsRefused (s : State) : Command → Verdict → Type 0 where
  Disk_exists : (client seq : ℕ) (name tuple : List ℕ) → is_some (named s.disks.rows name) ≡ true
      → IsRefused s (MakeDisk client seq name tuple) Verdict.Exists
  Snap_exists : (client seq : ℕ) (disk name : List ℕ) (row : DiskRow) → named s.disks.rows disk ≡ Some row → is_taken s name row ≡ true
      → IsRefused s (Snap client seq disk name) Verdict.Exists
  Snap_unknown : (client seq : ℕ) (disk name : List ℕ) → named s.disks.rows disk ≡ None → IsRefused s (Snap client seq disk name) Verdict.NoDisk
  Move_unknown : (client seq : ℕ) (disk tuple : List ℕ) → named s.disks.rows disk ≡ None → IsRefused s (StartMove client seq disk tuple) Verdict.NoDisk
  Is_moving : (client seq : ℕ) (disk tuple : List ℕ) (row : DiskRow) → named s.disks.rows disk ≡ Some row → is_some row.moving ≡ true
      → IsRefused s (StartMove client seq disk tuple) Verdict.Moving

pub data Outcome (servers : ℕ) (s : State) (p : IsSettledState servers s) : Command → State → Type 0 where
  -- it does not act; so a client's is not new
  Unchanged : (entry : Command) → ((client seq : ℕ) → asker entry ≡ Some (client, seq) → is_new seq (latest s client) ≡ false)
      → Outcome servers s p entry s
  -- a client is told of its command, and no table changes
  Tells : (entry : Command) (client seq : ℕ) (verdict : Verdict) → asker entry ≡ Some (client, seq) → is_new seq (latest s client) ≡ true
      → IsRefused s entry verdict → Outcome servers s p entry (told s client seq verdict)
  Joins : (server inc : ℕ) (blank : Bool) → may_join (slice_get s.view.members server) inc ≡ true
      → Outcome servers s p (Join server inc blank) (joined_by s server inc blank)
  Leaves : (server inc : ℕ) → is_up_as s server inc ≡ true → Outcome servers s p (Leave server inc) (left_by s server)
  Catches_up : (of link holder inc other other_inc : ℕ) → IsCatch s of link holder inc other other_inc
      → Outcome servers s p (Caught of link holder inc other other_inc) (caught_by s of link)
  Makes : (client seq : ℕ) (name tuple : List ℕ) → is_new seq (latest s client) ≡ true → named s.disks.rows name ≡ None
      → is_tuple servers tuple ≡ true → Outcome servers s p (MakeDisk client seq name tuple) (told (with_disk s name tuple) client seq Verdict.Ok)
  -- a fence for a snapshot
  Queues : (client seq : ℕ) (disk name : List ℕ) → is_new seq (latest s client) ≡ true → (row : DiskRow) → named s.disks.rows disk ≡ Some row
      → is_taken s name row ≡ false
      → Outcome servers s p (Snap client seq disk name) (told (with_fence s (Whole row.id name client seq)) client seq Verdict.Waiting)
  Begins : (client seq : ℕ) (disk tuple : List ℕ) → is_new seq (latest s client) ≡ true → (row : DiskRow) → named s.disks.rows disk ≡ Some row
      → row.moving ≡ None → is_tuple servers tuple ≡ true
      → Outcome servers s p (StartMove client seq disk tuple) (told (with_move s tuple row.id) client seq Verdict.Ok)
  Reports : (server inc fence : ℕ) → is_head s fence ≡ true → is_up_as s server inc ≡ true
      → Outcome servers s p (Drained server inc fence) (record s { view = view.drained s.view server })
  -- a link is noted; with the last one the next region waits, or the move is over
  Notes : (of region link : ℕ) (h : IsNoting s of region link) → all_noted (links_of s of) (with_link link h.move.noted) ≡ false
      → Outcome servers s p (Moved of region link) (noted_state servers s p of region link h)
  Moves_on : (of region link : ℕ) (h : IsNoting s of region link) → all_noted (links_of s of) (with_link link h.move.noted) ≡ true → (region == 15) ≡ false
      → Outcome servers s p (Moved of region link) (with_fence (noted_state servers s p of region link h) (Region h.row.id (region + 1)))
  Ends : (of region link : ℕ) (h : IsNoting s of region link) (every : all_noted (links_of s of) (with_link link h.move.noted) ≡ true)
      (last : (region == 15) ≡ true) → Outcome servers s p (Moved of region link) (moved_state servers s p of region link h every last)

-- a disk is made where its command is new, and its name is not taken
pub act_make : (P : State → Type 0) (s : State) (client seq : ℕ) (name tuple : List ℕ)
    → (is_new seq (latest s client) ≡ false → P s)
    → (is_new seq (latest s client) ≡ true → is_some (named s.disks.rows name) ≡ true → P (told s client seq Verdict.Exists))
    → (is_new seq (latest s client) ≡ true → named s.disks.rows name ≡ None → P (told (with_disk s name tuple) client seq Verdict.Ok))
    → P (act (MakeDisk client seq name tuple) s)
act_make P s client seq name tuple old taken made =
    by_test P (not (is_new seq (latest s client))) s _ (λ t. old (not_true (is_new seq (latest s client)) t))
    (λ isnt. let new = was_true (is_new seq (latest s client)) isnt in
    by_test P (is_some (named s.disks.rows name)) (told s client seq Verdict.Exists) (told (with_disk s name tuple) client seq Verdict.Ok)
    (λ there. taken new there) (λ none. made new (none_of (named s.disks.rows name) none)))

module _ (servers : ℕ) (s : State) (p : IsSettledState servers s) where
  -- a command of nobody, and one that is not new
  of_nobody : (entry : Command) → asker entry ≡ None → Outcome servers s p entry s
  of_nobody entry none = Unchanged entry (λ client seq is. none_some none is)

  not_new : (entry : Command) (client seq : ℕ) → asker entry ≡ Some (client, seq) → is_new seq (latest s client) ≡ false → Outcome servers s p entry s
  not_new entry client seq asks old =
      Unchanged entry (λ c q is. subst (λ (x : ℕ × ℕ). is_new x.1 (latest s x.0) ≡ false) (same_some (sym asks ∙ is)) old)

  snap_outcome : (client seq : ℕ) (disk name : List ℕ) → is_new seq (latest s client) ≡ true → (o : Option DiskRow) → named s.disks.rows disk ≡ o
      → Outcome servers s p (Snap client seq disk name) (snapped s client seq name (snap_target s name o))
  snap_outcome client seq disk name new None is = Tells (Snap client seq disk name) client seq Verdict.NoDisk refl new (Snap_unknown client seq disk name is)
  snap_outcome client seq disk name new (Some row) is =
      by_test (λ (target : Result ℕ Verdict). Outcome servers s p (Snap client seq disk name) (snapped s client seq name target)) (is_taken s name row)
      (Err Verdict.Exists) (Ok row.id)
      (λ has. Tells (Snap client seq disk name) client seq Verdict.Exists refl new (Snap_exists client seq disk name row is has))
      (λ free. Queues client seq disk name new row is free)

  pub outcome : (entry : Command) → HasProperTuple servers entry → Outcome servers s p entry (act entry s)
  outcome (Join server inc blank) proper = by_test (Outcome servers s p (Join server inc blank)) (may_join (slice_get s.view.members server) inc)
      (joined_by s server inc blank) s (λ may. Joins server inc blank may) (λ no. of_nobody (Join server inc blank) refl)
  outcome (Leave server inc) proper = by_test (Outcome servers s p (Leave server inc)) (is_up_as s server inc) (left_by s server) s
      (λ is. Leaves server inc is) (λ no. of_nobody (Leave server inc) refl)
  outcome (Caught of link holder inc other other_inc) proper =
      act_caught (Outcome servers s p (Caught of link holder inc other other_inc)) s of link holder inc other other_inc
      (Catches_up of link holder inc other other_inc) (of_nobody (Caught of link holder inc other other_inc) refl)
  outcome (MakeDisk client seq name tuple) proper =
      act_make (Outcome servers s p (MakeDisk client seq name tuple)) s client seq name tuple (not_new (MakeDisk client seq name tuple) client seq refl)
      (λ new there. Tells (MakeDisk client seq name tuple) client seq Verdict.Exists refl new (Disk_exists client seq name tuple there))
      (λ new none. Makes client seq name tuple new none proper)
  outcome (Snap client seq disk name) proper =
      by_test (Outcome servers s p (Snap client seq disk name)) (is_new seq (latest s client))
      (snapped s client seq name (snap_target s name (named s.disks.rows disk))) s
      (λ new. snap_outcome client seq disk name new (named s.disks.rows disk) refl) (not_new (Snap client seq disk name) client seq refl)
  outcome (StartMove client seq disk tuple) proper =
      act_start (Outcome servers s p (StartMove client seq disk tuple)) s client seq disk tuple (not_new (StartMove client seq disk tuple) client seq refl)
      (λ new none. Tells (StartMove client seq disk tuple) client seq Verdict.NoDisk refl new (Move_unknown client seq disk tuple none))
      (λ new row found busy. Tells (StartMove client seq disk tuple) client seq Verdict.Moving refl new (Is_moving client seq disk tuple row found busy))
      (λ new row found still. Begins client seq disk tuple new row found still proper)
  outcome (Drained server inc fence) proper =
      by_test (Outcome servers s p (Drained server inc fence)) (is_head s fence && is_up_as s server inc) (record s { view = view.drained s.view server }) s
      (λ e. let h = both_true (is_head s fence) (is_up_as s server inc) e in Reports server inc fence h.0 h.1)
      (λ no. of_nobody (Drained server inc fence) refl)
  outcome (Moved of region link) proper =
      act_moved (Outcome servers s p (Moved of region link)) servers s p of region link (of_nobody (Moved of region link) refl)
      (λ h. act_note servers s p of region link h (Outcome servers s p (Moved of region link))
      (Notes of region link h) (Moves_on of region link h) (Ends of region link h))
  outcome (Witness client seq turn) proper = of_nobody (Witness client seq turn) refl

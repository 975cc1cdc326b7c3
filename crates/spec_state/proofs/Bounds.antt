-- No number of the state passes the revision.
use Rattle.std.proofs.Common.{◌≡◌, ℕ, ◌+◌, ◌≤◌, ◌==◌, ◌++◌, zero, suc, Bool, true, false, cond, if◌then◌else◌, List, [], ◌∷◌, length, Option, Some}
use Rattle.std.proofs.Common.{None, Result, Ok, Err, refl, arith, subst, length-append, is_some}
use Rattle.std.proofs.lemmas.Bool.Decides.{nat_tests}
use Rattle.std.specs.Option.{option_map_or}
use Rattle.global_tables.specs.declared.disk.DiskRow.{DiskRow}
use Rattle.global_tables.specs.declared.disk.Latest.{Latest}
use Rattle.global_tables.specs.declared.disk.Verdict.TheVariants as Verdict
use Rattle.global_tables.specs.declared.disk.Verdict.{Verdict}
use Rattle.global_tables.specs.declared.fence.Fence.{Fence}
use Rattle.global_tables.specs.declared.fence.FenceKind.{FenceKind}
use Rattle.global_tables.specs.declared.fence.FenceKind.TheVariants.{Whole, Region}
use Rattle.global_tables.specs.Disk as disks
use Rattle.global_tables.specs.Disk.{change, disk_at, is_disk, row_frozen, row_moving, row_fenced, row_noted}
use Rattle.global_tables.specs.Link as links
use Rattle.global_tables.specs.View as view
use Rattle.petal_command.specs.declared.command.Command.{Command}
use Rattle.petal_command.specs.declared.command.Command.TheVariants.{Join, Leave, Caught, MakeDisk, Snap, StartMove, Drained, Moved, Witness}
use Rattle.spec_state.specs.State.{State, latest, told, links_of}
use Rattle.spec_state.specs.Fence.{confirmed, effect, let_through, settled}
use Rattle.spec_state.specs.Command.{act, after, caught, snap_target, snapped, move_target, move_begun, drained, note, moved_by, mover_in}
use Rattle.spec_state.specs.Command.{after_region, with_map, with_disk, with_fence, with_move, move_of}
use Rattle.spec_state.specs.Bound.{EpochsBelow, IsWithin}
use Rattle.spec_state.proofs.Passing.{length-following}

-- less room is left, or more was queued
epochs_weaker : (n m p q : ℕ) (rows : List DiskRow) → m + p ≤ n + q → EpochsBelow n p rows → EpochsBelow m q rows
epochs_weaker n m p q [] le all = tt
epochs_weaker n m p q (row ∷ rows) le all = (omega (arith, all.0), epochs_weaker n m p q rows le all.1)

epochs_push : (n q : ℕ) (rows : List DiskRow) (row : DiskRow) → EpochsBelow n q rows → row.epoch + n ≤ q → EpochsBelow n q (rows ++ row ∷ [])
epochs_push n q [] row all le = (le, tt)
epochs_push n q (first ∷ rows) row all le = (all.0, epochs_push n q rows row all.1 le)

-- a change that keeps each epoch
epochs_change : (n q disk : ℕ) (f : DiskRow → DiskRow) (rows : List DiskRow) → ((row : DiskRow) → (f row).epoch ≡ row.epoch) → EpochsBelow n q rows
    → EpochsBelow n q (change disk f rows)
epochs_change n q disk f [] same all = tt
epochs_change n q disk f (row ∷ rows) same all =
    elim (is_disk disk row) as (λ b. EpochsBelow n q (cond b (f row ∷ rows) (row ∷ change disk f rows))) [
      | true ↦ (omega (arith, same row, all.0), all.1)
      | false ↦ (all.0, epochs_change n q disk f rows same all.1)
    ]

-- a snapshot uses up the room of one fence
epochs_frozen : (n q disk : ℕ) (name : List ℕ) (rows : List DiskRow) → EpochsBelow (suc n) q rows → EpochsBelow n q (change disk (row_frozen name) rows)
epochs_frozen n q disk name [] all = tt
epochs_frozen n q disk name (row ∷ rows) all =
    elim (is_disk disk row) as (λ b. EpochsBelow n q (cond b (row_frozen name row ∷ rows) (row ∷ change disk (row_frozen name) rows))) [
      | true ↦ (omega (arith, all.0), epochs_weaker (suc n) n q q rows (omega arith) all.1)
      | false ↦ (omega (arith, all.0), epochs_frozen n q disk name rows all.1)
    ]

-- while a fence waits, no epoch is the greatest number
pub epoch_below : (n q disk : ℕ) (rows : List DiskRow) → EpochsBelow n q rows → (row : DiskRow) → disk_at rows disk ≡ Some row → row.epoch + n ≤ q
epoch_below n q disk [] all row is = cc
epoch_below n q disk (first ∷ rows) all row is =
    let rest : disk_at rows disk ≡ Some row → row.epoch + n ≤ q = epoch_below n q disk rows all.1 row in
    let head : first.epoch + n ≤ q = all.0 in
    grind (arith, nat_tests, rest)

length-awaiting : (servers : List ℕ) (queue : List Fence) → length (view.awaiting servers queue) ≡ length queue
length-awaiting servers [] = refl
length-awaiting servers (fence ∷ fences) = refl

length-reported : (server : ℕ) (queue : List Fence) → length (view.reported server queue) ≡ length queue
length-reported server [] = refl
length-reported server (fence ∷ fences) = refl

weaker : (r : ℕ) (s : State) → IsWithin r s → IsWithin (r + 1) s
weaker r s h = record { maps = omega (arith, h.maps); made = omega (arith, h.made); queued = omega (arith, h.queued); queue = h.queue; epochs = h.epochs }

-- a state of which only other parts differ
pick : (r : ℕ) (b : Bool) (s t : State) → IsWithin r s → IsWithin r t → IsWithin r (if b then s else t)
pick r b s t hs ht = elim b as (λ v. IsWithin r (cond v s t)) [ true ↦ hs | false ↦ ht ]

told_within : (r : ℕ) (s : State) (client seq : ℕ) (verdict : Verdict) → IsWithin r s → IsWithin r (told s client seq verdict)
told_within r s client seq verdict h = record { maps = h.maps; made = h.made; queued = h.queued; queue = h.queue; epochs = h.epochs }

-- the queue is as long as before
requeued : (r : ℕ) (s : State) (v : view.View) → length v.queue ≡ length s.view.queue → v.queued ≡ s.view.queued → IsWithin r s
    → IsWithin r (record s { view = v })
requeued r s v long count h = record {
  maps = h.maps;
  made = h.made;
  queued = omega (arith, count, h.queued);
  queue = omega (arith, count, long, h.queue);
  epochs = epochs_weaker (length s.view.queue) (length v.queue) s.view.queued v.queued s.disks.rows (omega (arith, count, long)) h.epochs;
}

relinked : (r : ℕ) (s : State) (l : List Rattle.global_tables.specs.declared.link.LinkRow.LinkRow) → IsWithin r s → IsWithin r (record s { links = l })
relinked r s l h = record { maps = h.maps; made = h.made; queued = h.queued; queue = h.queue; epochs = h.epochs }

-- a disk is changed that keeps its epoch
changed : (r : ℕ) (s : State) (disk : ℕ) (f : DiskRow → DiskRow) → ((row : DiskRow) → (f row).epoch ≡ row.epoch) → IsWithin r s
    → IsWithin r (record s { disks = record s.disks { rows = change disk f s.disks.rows } })
changed r s disk f same h = record {
  maps = h.maps;
  made = h.made;
  queued = h.queued;
  queue = h.queue;
  epochs = epochs_change (length s.view.queue) s.view.queued disk f s.disks.rows same h.epochs;
}

map_within : (r : ℕ) (s : State) (tuple : List ℕ) (disk : ℕ) → IsWithin r s → IsWithin (r + 1) (with_map s tuple disk)
map_within r s tuple disk h = record {
  maps = simp length-append (omega (arith, h.maps));
  made = omega (arith, h.made);
  queued = omega (arith, h.queued);
  queue = h.queue;
  epochs = h.epochs;
}

fence_within : (r : ℕ) (s : State) (kind : FenceKind) → s.view.queued ≤ r → IsWithin (r + 1) s → IsWithin (r + 1) (with_fence s kind)
fence_within r s kind few h = record {
  maps = h.maps;
  made = h.made;
  queued = omega (arith, few);
  queue = simp length-append (omega (arith, h.queue));
  epochs =
      simp length-append (epochs_weaker (length s.view.queue) (length s.view.queue + 1) s.view.queued (s.view.queued + 1) s.disks.rows (omega arith) h.epochs);
}

disk_within : (r : ℕ) (s : State) (name tuple : List ℕ) → IsWithin r s → IsWithin (r + 1) (with_disk s name tuple)
disk_within r s name tuple h =
    let m : IsWithin (r + 1) (with_map s tuple s.disks.made) = map_within r s tuple s.disks.made h in
    record {
      maps = m.maps;
      made = omega (arith, h.made);
      queued = m.queued;
      queue = h.queue;
      epochs = epochs_push (length s.view.queue) s.view.queued s.disks.rows _ h.epochs (omega (arith, h.queue));
    }

move_within : (r : ℕ) (s : State) (tuple : List ℕ) (disk : ℕ) → IsWithin r s → IsWithin (r + 1) (with_move s tuple disk)
move_within r s tuple disk h =
    fence_within r _ (Region disk 0) h.queued
    (changed (r + 1) (with_map s tuple disk) disk (row_moving (length s.maps)) (λ row. refl) (map_within r s tuple disk h))

snapped_within : (r : ℕ) (s : State) (client seq : ℕ) (name : List ℕ) (target : Result ℕ Verdict) → IsWithin r s
    → IsWithin (r + 1) (snapped s client seq name target)
snapped_within r s client seq name (Err verdict) h = told_within (r + 1) s client seq verdict (weaker r s h)
snapped_within r s client seq name (Ok disk) h =
    told_within (r + 1) _ client seq Verdict.Waiting (fence_within r s (Whole disk name client seq) h.queued (weaker r s h))

move_begun_within : (r : ℕ) (s : State) (client seq : ℕ) (tuple : List ℕ) (target : Result ℕ Verdict) → IsWithin r s
    → IsWithin (r + 1) (move_begun s client seq tuple target)
move_begun_within r s client seq tuple (Err verdict) h = told_within (r + 1) s client seq verdict (weaker r s h)
move_begun_within r s client seq tuple (Ok disk) h = told_within (r + 1) _ client seq Verdict.Ok (move_within r s tuple disk h)

after_region_within : (r : ℕ) (s : State) (of disk region : ℕ) → IsWithin r s → IsWithin (r + 1) (after_region s of disk region)
after_region_within r s of disk region h =
    pick (r + 1) (region == 15) (record s { links = links.dropped s.links of }) (with_fence s (Region disk (region + 1)))
    (relinked (r + 1) s _ (weaker r s h)) (fence_within r s (Region disk (region + 1)) h.queued (weaker r s h))

note_within : (r : ℕ) (s : State) (of disk region link : ℕ) → IsWithin r s → IsWithin (r + 1) (note s of disk region link)
note_within r s of disk region link h =
    let t : State = record s { disks = disks.noted s.disks disk region link (links_of s of) } in
    let ht : IsWithin r t = changed r s disk (row_noted region link (links_of s of)) (λ row. refl) h in
    pick (r + 1) (disks.completes link (links_of s of) (move_of s disk)) (after_region t of disk region) t
    (after_region_within r t of disk region ht) (weaker r t ht)

moved_by_within : (r : ℕ) (s : State) (of region link : ℕ) (disk : Option ℕ) → IsWithin r s → IsWithin (r + 1) (moved_by s of region link disk)
moved_by_within r s of region link None h = weaker r s h
moved_by_within r s of region link (Some disk) h = pick (r + 1) _ (note s of disk region link) s (note_within r s of disk region link h) (weaker r s h)

-- a command makes at most one map, one disk and one fence
pub act_within : (r : ℕ) (command : Command) (s : State) → IsWithin r s → IsWithin (r + 1) (act command s)
act_within r (Join server inc blank) s h =
    pick (r + 1) _ (record s { view = view.joined s.view server inc; links = links.joined s.links server blank }) s (relinked (r + 1)
    (record s { view = view.joined s.view server inc }) _ (requeued (r + 1) s (view.joined s.view server inc) refl refl (weaker r s h))) (weaker r s h)
act_within r (Leave server inc) s h =
    pick (r + 1) _ (record s { view = view.left s.view server; links = links.left s.links server }) s
    (relinked (r + 1) (record s { view = view.left s.view server })
    _ (requeued (r + 1) s (view.left s.view server) (length-awaiting _ s.view.queue) refl (weaker r s h))) (weaker r s h)
act_within r (Caught of link holder holder_inc other other_inc) s h =
    pick (r + 1) _ (record s { links = links.caught s.links of link }) s (relinked (r + 1) s _ (weaker r s h)) (weaker r s h)
act_within r (MakeDisk client seq name tuple) s h =
    pick (r + 1) _ s (if is_some (disks.named s.disks.rows name) then told s client seq Verdict.Exists else told (with_disk s name tuple) client seq Verdict.Ok)
    (weaker r s h)
    (pick (r + 1) _ (told s client seq Verdict.Exists) (told (with_disk s name tuple) client seq Verdict.Ok)
    (told_within (r + 1) s client seq Verdict.Exists (weaker r s h)) (told_within (r + 1) _ client seq Verdict.Ok (disk_within r s name tuple h)))
act_within r (Snap client seq disk name) s h =
    pick (r + 1) _ (snapped s client seq name (snap_target s name (disks.named s.disks.rows disk))) s (snapped_within r s client seq name _ h) (weaker r s h)
act_within r (StartMove client seq disk tuple) s h =
    pick (r + 1) _ (move_begun s client seq tuple (move_target (disks.named s.disks.rows disk))) s (move_begun_within r s client seq tuple _ h) (weaker r s h)
act_within r (Drained server inc fence) s h =
    pick (r + 1) _ (record s { view = view.drained s.view server }) s
    (requeued (r + 1) s (view.drained s.view server) (length-reported server s.view.queue) refl (weaker r s h)) (weaker r s h)
act_within r (Moved of region link) s h = moved_by_within r s of region link (mover_in s of region) h
act_within r (Witness client seq turn) s h = weaker r s h

confirmed_within : (r : ℕ) (s : State) (client seq : ℕ) (last : Option Latest) → IsWithin r s → IsWithin r (confirmed s client seq last)
confirmed_within r s client seq None h = h
confirmed_within r s client seq (Some last) h = pick r (last.seq == seq) (told s client seq Verdict.Ok) s (told_within r s client seq Verdict.Ok h) h

-- a fence that takes effect uses up its own room
pub passed_within : (r : ℕ) (s : State) (fence : Fence) → view.ready s.view.queue ≡ Some fence → IsWithin r s
    → IsWithin r (effect fence.kind (record s { view = view.passed s.view }))
passed_within r s fence is h = by_kind fence.kind
  where
    rest : List Fence
    rest = view.following (view.servers_in s.view.members) s.view.queue

    one_less : length s.view.queue ≡ suc (length rest)
    one_less = length-following (view.servers_in s.view.members) s.view.queue fence is

    room : EpochsBelow (suc (length rest)) s.view.queued s.disks.rows
    room = subst (λ n. EpochsBelow n s.view.queued s.disks.rows) one_less h.epochs

    less : IsWithin r (record s { view = view.passed s.view })
    less = record {
      maps = h.maps;
      made = h.made;
      queued = h.queued;
      queue = omega (arith, h.queue, one_less);
      epochs = epochs_weaker (suc (length rest)) (length rest) s.view.queued s.view.queued s.disks.rows (omega arith) room;
    }

    by_kind : (kind : FenceKind) → IsWithin r (effect kind (record s { view = view.passed s.view }))
    by_kind (Whole disk name client seq) =
        confirmed_within r (record s { view = view.passed s.view; disks = disks.frozen s.disks disk name }) client seq (latest s client) (record {
          maps = h.maps;
          made = h.made;
          queued = h.queued;
          queue = less.queue;
          epochs = epochs_frozen (length rest) s.view.queued disk name s.disks.rows room;
        })
    by_kind (Region disk region) = changed r (record s { view = view.passed s.view }) disk (row_fenced region) (λ row. refl) less

-- what is left once one fence has passed
abbrev one_passed : State → Fence → State
one_passed s fence = effect fence.kind (record s { view = view.passed s.view })

through_next : (r : ℕ) (s : State) (rest : State → State) → ((fence : Fence) → view.ready s.view.queue ≡ Some fence → IsWithin r (rest (one_passed s fence)))
    → IsWithin r s → (o : Option Fence) → view.ready s.view.queue ≡ o → IsWithin r (option_map_or (λ fence. rest (one_passed s fence)) o s)
through_next r s rest goes h None is = h
through_next r s rest goes h (Some fence) is = goes fence is

through : (r n : ℕ) (s : State) → IsWithin r s → IsWithin r (let_through n s)
through r zero s h = h
through r (suc n) s h =
    through_next r s (let_through n) (λ fence is. through r n (one_passed s fence) (passed_within r s fence is h)) h (view.ready s.view.queue) refl

-- no number passes the revision, after an entry as before it
pub after_within : (s : State) (command : Command) → IsWithin s.rev s → IsWithin (after s command).rev (after s command)
after_within s command h =
    let t : IsWithin (s.rev + 1) (settled (act command s)) =
    through (s.rev + 1) (length (act command s).view.queue) (act command s) (act_within s.rev command s h) in
    record { maps = t.maps; made = t.made; queued = t.queued; queue = t.queue; epochs = t.epochs }

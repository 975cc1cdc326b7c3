-- What applying entries keeps of a state: how many servers there are, and that the revision counts them.
use Rattle.std.proofs.Common.{◌≡◌, ℕ, ◌+◌, ◌++◌, ◌==◌, zero, suc, Bool, true, false, cond, if◌then◌else◌, List, [], ◌∷◌, length, fold, Option}
use Rattle.std.proofs.Common.{Some, None, Result, Ok, Err, refl, sym, ◌∙◌, ap, arith, not}
use Rattle.std.proofs.lemmas.List.{length-set}
use Rattle.std.proofs.lemmas.List.Sums.{fold-append}
use Rattle.std.specs.Option.{option_map_or}
use Rattle.std.specs.Prelude.{replicate, is_some}
use Rattle.global_tables.specs.declared.disk.Latest.{Latest}
use Rattle.global_tables.specs.declared.disk.Verdict.{Verdict}
use Rattle.global_tables.specs.declared.fence.FenceKind.{FenceKind}
use Rattle.global_tables.specs.declared.fence.FenceKind.TheVariants.{Whole, Region}
use Rattle.global_tables.specs.declared.fence.Member.TheVariants.{In}
use Rattle.global_tables.specs.Disk as disks
use Rattle.global_tables.specs.Link as links
use Rattle.global_tables.specs.View as view
use Rattle.petal_command.specs.declared.command.Command.{Command}
use Rattle.petal_command.specs.declared.command.Command.TheVariants.{Join, Leave, Caught, MakeDisk, Snap, StartMove, Drained, Moved, Witness}
use Rattle.spec_state.specs.State.{State, start, latest, told, links_of}
use Rattle.spec_state.specs.Fence.{confirmed, effect, let_through}
use Rattle.spec_state.specs.Command.{act, after, state_after, is_new, snap_target, snapped, move_target, move_begun, note, moved_by}
use Rattle.spec_state.specs.Command.{mover_in, after_region, with_disk, with_fence, move_of}
use Rattle.spec_rules.specs.State.{servers_of}

-- whichever of two states it is
pick : (n : ℕ) (b : Bool) (s t : State) → servers_of s ≡ n → servers_of t ≡ n → servers_of (if b then s else t) ≡ n
pick n b s t hs ht = elim b as (λ v. servers_of (cond v s t) ≡ n) [ true ↦ hs | false ↦ ht ]

confirmed_keeps : (s : State) (client seq : ℕ) (last : Option Latest) → servers_of (confirmed s client seq last) ≡ servers_of s
confirmed_keeps s client seq None = refl
confirmed_keeps s client seq (Some last) = pick (servers_of s) (last.seq == seq) (told s client seq Verdict.Ok) s refl refl

effect_keeps : (kind : FenceKind) (s : State) → servers_of (effect kind s) ≡ servers_of s
effect_keeps (Whole disk name client seq) s = confirmed_keeps (record s { disks = disks.frozen s.disks disk name }) client seq (latest s client)
effect_keeps (Region disk region) s = refl

let_through_keeps : (n : ℕ) (s : State) → servers_of (let_through n s) ≡ servers_of s
let_through_keeps zero s = refl
let_through_keeps (suc n) s =
    let passed : State = record s { view = view.passed s.view } in
    elim (view.ready s.view.queue) as (λ found. servers_of (option_map_or (λ fence. let_through n (effect fence.kind passed)) found s) ≡ servers_of s) [
      | None ↦ refl
      | Some fence ↦ let_through_keeps n (effect fence.kind passed) ∙ effect_keeps fence.kind passed
    ]

snapped_keeps : (s : State) (client seq : ℕ) (name : List ℕ) (target : Result ℕ Verdict) → servers_of (snapped s client seq name target) ≡ servers_of s
snapped_keeps s client seq name (Err verdict) = refl
snapped_keeps s client seq name (Ok disk) = refl

move_begun_keeps : (s : State) (client seq : ℕ) (tuple : List ℕ) (target : Result ℕ Verdict) → servers_of (move_begun s client seq tuple target) ≡ servers_of s
move_begun_keeps s client seq tuple (Err verdict) = refl
move_begun_keeps s client seq tuple (Ok disk) = refl

after_region_keeps : (s : State) (of disk region : ℕ) → servers_of (after_region s of disk region) ≡ servers_of s
after_region_keeps s of disk region =
    pick (servers_of s) (region == 15) (record s { links = links.dropped s.links of }) (with_fence s (Region disk (region + 1))) refl refl

note_keeps : (s : State) (of disk region link : ℕ) → servers_of (note s of disk region link) ≡ servers_of s
note_keeps s of disk region link =
    let t : State = record s { disks = disks.noted s.disks disk region link (links_of s of) } in
    pick (servers_of s) (disks.completes link (links_of s of) (move_of s disk)) (after_region t of disk region) t (after_region_keeps t of disk region) refl

moved_by_keeps : (s : State) (of region link : ℕ) (disk : Option ℕ) → servers_of (moved_by s of region link disk) ≡ servers_of s
moved_by_keeps s of region link None = refl
moved_by_keeps s of region link (Some disk) = pick (servers_of s) _ (note s of disk region link) s (note_keeps s of disk region link) refl

act_keeps : (command : Command) (s : State) → servers_of (act command s) ≡ servers_of s
act_keeps (Join server inc blank) s = pick (servers_of s) _ _ s (length-set s.view.members server (In inc)) refl
act_keeps (Leave server inc) s = pick (servers_of s) _ _ s (length-set s.view.members server _) refl
act_keeps (Caught of link holder holder_inc other other_inc) s = pick (servers_of s) _ _ s refl refl
act_keeps (MakeDisk client seq name tuple) s =
    pick (servers_of s) (not (is_new seq (latest s client))) s _ refl
    (pick (servers_of s) (is_some (disks.named s.disks.rows name)) (told s client seq Verdict.Exists) (told (with_disk s name tuple) client seq Verdict.Ok)
    refl refl)
act_keeps (Snap client seq disk name) s =
    pick (servers_of s) (is_new seq (latest s client)) _ s (snapped_keeps s client seq name (snap_target s name (disks.named s.disks.rows disk))) refl
act_keeps (StartMove client seq disk tuple) s =
    pick (servers_of s) (is_new seq (latest s client)) _ s (move_begun_keeps s client seq tuple (move_target (disks.named s.disks.rows disk))) refl
act_keeps (Drained server inc fence) s = pick (servers_of s) _ _ s refl refl
act_keeps (Moved of region link) s = moved_by_keeps s of region link (mover_in s of region)
act_keeps (Witness client seq turn) s = refl

-- an entry keeps the number of servers
pub after_keeps : (s : State) (command : Command) → servers_of (after s command) ≡ servers_of s
after_keeps s command = let_through_keeps (length (act command s).view.queue) (act command s) ∙ act_keeps command s

fold_keeps : (s : State) (entries : List Command) → servers_of (fold after s entries) ≡ servers_of s
fold_keeps s [] = refl
fold_keeps s (entry ∷ entries) = fold_keeps (after s entry) entries ∙ after_keeps s entry

length-replicate : {A : Type 0} (n : ℕ) (a : A) → length (replicate n a) ≡ n
length-replicate zero a = refl
length-replicate (suc n) a = ap suc (length-replicate n a)

-- the state of a log has the servers that there are
pub servers_after : (servers : ℕ) (log : List Command) → servers_of (state_after servers log) ≡ servers
servers_after servers log = fold_keeps (start servers) log ∙ length-replicate servers (In 1)

fold_counts : (s : State) (entries : List Command) → (fold after s entries).rev ≡ s.rev + length entries
fold_counts s [] = omega arith
fold_counts s (entry ∷ entries) = grind (arith, fold_counts (after s entry) entries)

-- and its length is the revision
pub rev_after : (servers : ℕ) (log : List Command) → (state_after servers log).rev ≡ length log
rev_after servers log = fold_counts (start servers) log ∙ omega arith

-- more entries on top of a log
pub state_append : (servers : ℕ) (log entries : List Command) → fold after (state_after servers log) entries ≡ state_after servers (log ++ entries)
state_append servers log entries = sym (fold-append after (start servers) log entries)

-- There is room for what an entry adds, and for each snapshot that a fence takes.
use Rattle.std.proofs.Common.{◌≡◌, ℕ, ◌+◌, ◌<◌, ◌≤◌, suc, length, Some, is_some, if◌then◌else◌, arith, subst, sym, ap, ◌∙◌}
use Rattle.global_tables.specs.declared.disk.DiskRow.{DiskRow}
use Rattle.global_tables.specs.declared.fence.Fence.{Fence}
use Rattle.global_tables.specs.Disk.{disk_at}
use Rattle.global_tables.specs.View.{View, ready, following, passed, taken, servers_in}
use Rattle.petal_command.specs.declared.command.Command.{Command}
use Rattle.spec_state.specs.State.{State}
use Rattle.spec_state.specs.Fence.{effect}
use Rattle.spec_state.specs.Command.{act}
use Rattle.spec_state.specs.Bound.{IsWithin}
use Rattle.spec_state.proofs.Passing.{length-following, view-effect}
use Rattle.spec_state.proofs.Bounds.{act_within, passed_within, epoch_below}
use Rattle.state_fold.specs.Room.{HasRoom}

pub act_room : (s : State) (command : Command) → IsWithin s.rev s → s.rev < 4294967295 → HasRoom (act command s)
act_room s command h room = record { most = s.rev + 1; fits = omega arith; within = act_within s.rev command s h }

pub passed_room : (s : State) (fence : Fence) → ready s.view.queue ≡ Some fence → HasRoom s → HasRoom (effect fence.kind (record s { view = passed s.view }))
passed_room s fence is h = record { most = h.most; fits = h.fits; within = passed_within h.most s fence is h.within }

-- before a fence takes effect no epoch is the greatest number
pub epochs_fit : (s : State) (fence : Fence) → ready s.view.queue ≡ Some fence → HasRoom s → (disk : ℕ) (row : DiskRow)
    → disk_at s.disks.rows disk ≡ Some row → row.epoch < 4294967295
epochs_fit s fence is h disk row at =
    let one : length s.view.queue ≡ suc (length (following (servers_in s.view.members) s.view.queue)) =
    length-following (servers_in s.view.members) s.view.queue fence is in
    let le : row.epoch + length s.view.queue ≤ s.view.queued = epoch_below (length s.view.queue) s.view.queued disk s.disks.rows h.within.epochs row at in
    omega (arith, h.within.queued, h.fits)

taken_some : (v : View) (fence : Fence) → ready v.queue ≡ Some fence → taken v ≡ passed v
taken_some v fence is = ap (λ o. if is_some o then passed v else v) is

-- after a fence that took effect there is room
pub room_after : (s t : State) (v : View) (fence : Fence) → ready s.view.queue ≡ Some fence → v ≡ taken s.view
    → t ≡ effect fence.kind (record s { view = v }) → HasRoom s → HasRoom t
room_after s t v fence is took did h =
    let e : t ≡ effect fence.kind (record s { view = passed s.view }) = did
    ∙ ap (λ (w : View). effect fence.kind (record s { view = w })) (took ∙ taken_some s.view fence is) in
    subst HasRoom (sym e) (passed_room s fence is h)

-- and one fence fewer
pub shorter_after : (s t : State) (v : View) (fence : Fence) → ready s.view.queue ≡ Some fence → v ≡ taken s.view
    → t ≡ effect fence.kind (record s { view = v }) → length t.view.queue < length s.view.queue
shorter_after s t v fence is took did =
    let e : t.view ≡ passed s.view = ap (λ (u : State). u.view) did ∙ view-effect fence.kind (record s { view = v }) ∙ took ∙ taken_some s.view fence is in
    let long : length t.view.queue ≡ length (following (servers_in s.view.members) s.view.queue) = ap (λ (w : View). length w.queue) e in
    omega (arith, long, length-following (servers_in s.view.members) s.view.queue fence is)

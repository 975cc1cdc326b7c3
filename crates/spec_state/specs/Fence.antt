-- What a fence does once nobody is waited for.
use Rattle.std.specs.Prelude.{ℕ, zero, suc, ◌==◌, if◌then◌else◌, Option, Some, None, length}
use Rattle.std.specs.Option.{option_map_or}
use Rattle.global_tables.specs.declared.disk.Latest.{Latest}
use Rattle.global_tables.specs.declared.disk.Verdict.TheVariants as Verdict
use Rattle.global_tables.specs.declared.fence.FenceKind.{FenceKind}
use Rattle.global_tables.specs.declared.fence.FenceKind.TheVariants.{Whole, Region}
use Rattle.global_tables.specs.Disk.{frozen, fenced}
use Rattle.global_tables.specs.View.{ready, passed}
use Rattle.spec_state.specs.State.{State, latest, told}

-- where the request is still the client's last one it is told `Ok`
abbrev pub confirmed : State → ℕ → ℕ → Option Latest → State
confirmed s client seq None = s
confirmed s client seq (Some last) = if last.seq == seq then told s client seq Verdict.Ok else s

-- a snapshot is taken and the epoch rises; a region is on its way
abbrev pub effect : FenceKind → State → State
effect (Whole disk name client seq) s = confirmed (record s { disks = frozen s.disks disk name }) client seq (latest s client)
effect (Region disk region) s = record s { disks = fenced s.disks disk region }

-- while the head waits for nobody it takes effect and leaves the queue, for at most so many fences
abbrev pub let_through : ℕ → State → State
let_through zero s = s
let_through (suc n) s = option_map_or (λ fence. let_through n (effect fence.kind (record s { view = passed s.view }))) (ready s.view.queue) s

-- every fence that waits for nobody has taken effect
abbrev pub settled : State → State
settled s = let_through (length s.view.queue) s

-- The view of running servers and the queue of fences.
use Rattle.std.specs.Prelude.{ℕ, ◌+◌, Bool, true, false, not, ◌==◌, if◌then◌else◌, List, [], ◌∷◌, ◌++◌, filter, length, slice_get}
use Rattle.std.specs.Prelude.{slice_set, Option, Some, None, is_some, replicate}
use Rattle.std.specs.Option.{option_map_or}
use Rattle.std.specs.List.{range_with_len}
use Rattle.global_tables.specs.declared.fence.Member.{Member}
use Rattle.global_tables.specs.declared.fence.Member.TheVariants.{In, Out}
use Rattle.global_tables.specs.declared.fence.FenceKind.{FenceKind}
use Rattle.global_tables.specs.declared.fence.Fence.{Fence}

-- each server, the fences that wait with the active one first, and how many were queued so far
pub record View : Type 0 where
  pub members : List Member
  pub queue : List Fence
  pub queued : ℕ

abbrev pub is_in : Member → Bool
is_in (In inc) = true
is_in (Out inc) = false

-- a server's last incarnation
abbrev pub last_inc : Member → ℕ
last_inc (In inc) = inc
last_inc (Out inc) = inc

-- the incarnation with which a server is In
abbrev pub inc_in : Member → Option ℕ
inc_in (In inc) = Some inc
inc_in (Out inc) = None

-- the server is one of the view's, and In
abbrev pub stands_in : List Member → ℕ → Bool
stands_in members server = option_map_or is_in (slice_get members server) false

-- the servers that are In, in rising order
abbrev pub servers_in : List Member → List ℕ
servers_in members = filter (stands_in members) (range_with_len 0 (length members))

-- at the start all servers are In with incarnation 1
abbrev pub new_view : ℕ → View
new_view servers = record { members = replicate servers (In 1); queue = []; queued = 0 }

-- the first fence of the queue waits for these servers
abbrev pub awaiting : List ℕ → List Fence → List Fence
awaiting servers [] = []
awaiting servers (fence ∷ fences) = record fence { waiting = servers } ∷ fences

-- a server is In
abbrev pub joined : View → ℕ → ℕ → View
joined view server inc = record view { members = slice_set view.members server (In inc) }

-- these members, for whom the head waits again
abbrev pub renewed : View → List Member → View
renewed view members = record view { members = members; queue = awaiting (servers_in members) view.queue }

abbrev pub out_of : Option Member → ℕ
out_of None = 0
out_of (Some member) = last_inc member

-- a server is Out, and the head waits again for every server that is In: a report made before a leave may not count, since
-- letters of the server that left can still reach one that has not applied the leave
abbrev pub left : View → ℕ → View
left view server = renewed view (slice_set view.members server (Out (out_of (slice_get view.members server))))

-- the waiting set of a fence that is queued after these
abbrev pub first_waiting : List Member → List Fence → List ℕ
first_waiting members [] = servers_in members
first_waiting members (fence ∷ fences) = []

-- one fence more
abbrev pub queued : View → FenceKind → View
queued view kind = record view {
  queue = view.queue ++ record { number = view.queued + 1; kind = kind; waiting = first_waiting view.members view.queue } ∷ [];
  queued = view.queued + 1;
}

abbrev pub reported : ℕ → List Fence → List Fence
reported server [] = []
reported server (fence ∷ fences) = record fence { waiting = filter (λ other. not (other == server)) fence.waiting } ∷ fences

-- a server has nothing pending in the scope of the head
abbrev pub drained : View → ℕ → View
drained view server = record view { queue = reported server view.queue }

-- the active fence
abbrev pub head : List Fence → Option Fence
head [] = None
head (fence ∷ fences) = Some fence

-- the active fence, where it waits for nobody
abbrev pub ready : List Fence → Option Fence
ready [] = None
ready (fence ∷ fences) = if length fence.waiting == 0 then Some fence else None

-- what is after the head, the first of which then waits for these servers
abbrev pub following : List ℕ → List Fence → List Fence
following servers [] = []
following servers (fence ∷ fences) = awaiting servers fences

-- the head leaves the queue, and the next fence waits for the servers that are In
abbrev pub passed : View → View
passed view = record view { queue = following (servers_in view.members) view.queue }

-- the head is taken, where it waits for nobody
abbrev pub taken : View → View
taken view = if is_some (ready view.queue) then passed view else view

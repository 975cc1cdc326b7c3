use Rattle.std.proofs.Common.{◌≡◌, ◌≤◌, ◌+◌, ◌++◌, length}
use Rattle.std.specs.VecDeque.{deque_len, deque_capacity}
use Rattle.server_jobs.proofs.queue.add_all.Given as goal

-- what is added and what is left, and there is room for what is left
abbrev pub invariant-loop-job : goal.invariant-loop-job
invariant-loop-job l =
    (l.jobs.items ++ l.job-iterator.rest.items ≡ l.fn.jobs.items ++ l.fn.more.items)
    × (deque_len l.jobs + length l.job-iterator.rest.items ≤ deque_capacity l.jobs)

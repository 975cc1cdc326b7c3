-- So far the lines before this one wait.
use Rattle.std.proofs.Common.{[], take}
use Rattle.server_host.specs.Waiting.{Await}
use Rattle.server_host.proofs.waiting.Waiting.start.Given as goal

abbrev pub invariant-loop-line : goal.invariant-loop-line
invariant-loop-line l = Await (take l.line-index l.lines) [] l.waiting

use Rattle.std.proofs.Common.{◌≡◌, ◌≤◌}
use Rattle.spec_paxos.specs.Quorum.{count_below}
use Rattle.spec_paxos.specs.Proposer.{is_in}
use Rattle.paxos_core.proofs.proposer.has_majority.Given as goal

abbrev pub invariant-loop-s : goal.invariant-loop-s
invariant-loop-s l = record {
  counted : l.count ≡ count_below l.s (is_in l.heard);
  few : l.count ≤ l.s;
}

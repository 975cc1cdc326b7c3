use Rattle.std.proofs.Common.{◌≡◌}
use Rattle.byte_streams.specs.Streams.{AreKnown, known}
use Rattle.byte_streams.proofs.standard.StdSinkSink.flush.Given as goal

abbrev pub invariant-loop : goal.invariant-loop
invariant-loop g l =
    let taken = g.W.Write.contents in
    record {
      faults : l.self.faults.times ≡ l.fn.self.faults.times;
      same : AreKnown taken → known (taken l.self.writer) ≡ known (taken l.fn.self.writer);
    }

use Rattle.std.proofs.Common.{◌≡◌, length}
use Rattle.byte_streams.specs.Streams.{AreKnown, known}
use Rattle.byte_streams.proofs.standard.StdSourceSource.read.Given as goal

abbrev pub invariant-loop : goal.invariant-loop
invariant-loop g l =
    let left = g.R.Read.remaining in
    record {
      faults : l.self.faults.times ≡ l.fn.self.faults.times;
      size : length l.self.scratch ≡ length l.fn.self.scratch;
      buffer : l.into ≡ l.fn.into;
      same : AreKnown left → known (left l.self.reader) ≡ known (left l.fn.self.reader);
    }

use Rattle.std.proofs.Common.{◌≡◌, ℕ, List, take}
use Rattle.block_journal.specs.Records.{contents}
use Rattle.state_store.specs.Device.{bodies_of, AreSpelled}
use Rattle.spec_paxos.specs.Kept.{row_of, inc_of}
use Rattle.state_store.specs.Rows.{row_at}
use Rattle.spec_paxos.specs.declared.record.StateRecord.{StateRecord}
use Rattle.state_store.proofs.register.read_records.Given as goal

abbrev pub invariant-loop-index : goal.invariant-loop-index
invariant-loop-index l = record {
  found : bodies_of l.history.items ≡ take l.index (contents l.bodies);
  spelled : AreSpelled l.history.items;
  same : (records : List StateRecord) → AreSpelled records → contents l.bodies ≡ bodies_of records → l.history.items ≡ take l.index records;
  rows : (place : ℕ) → row_at l.places place ≡ row_of l.history.items place;
  inc : l.inc ≡ inc_of l.history.items;
}

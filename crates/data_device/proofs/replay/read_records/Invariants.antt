use Rattle.std.proofs.Common.{◌≡◌, List, take}
use Rattle.block_journal.specs.Records.{contents}
use Rattle.data_device.specs.declared.record.StoreRecord.{StoreRecord}
use Rattle.data_device.specs.Device.{bodies_of, AreSpelled}
use Rattle.data_device.specs.Reading.{IsRead}
use Rattle.data_device.proofs.replay.read_records.Given as goal

abbrev pub invariant-loop-index : goal.invariant-loop-index
invariant-loop-index l = record {
  read : IsRead l.fn.said.slots l.fn.said.fresh (take l.index (contents l.bodies)) l.replay;
  same : (records : List StoreRecord) → AreSpelled records → contents l.bodies ≡ bodies_of records → l.replay.history.items ≡ take l.index records;
}

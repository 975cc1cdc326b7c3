use Rattle.std.proofs.Common.{length, refl, ap, arith}
use Rattle.data_device.specs.Turned.{Turned}
use Rattle.server_store.proofs.Steps.{list_short}
use Rattle.server_store.proofs.commit.to_list.Goals as goal

pub new-requires : goal.new-requires
new-requires c =
    let list : Turned = record {
      entries = c.map.result.now.entries;
      marks = c.args.marks.now.marks;
      rows = c.args.rows.now.rows;
      settled = c.is_settled.result;
    } in
    let short = list_short c.args.ledger.now.slots list list refl (omega (arith, c.count-slots.ensures.enough, ap length c.map.ensures)) c.requires.few
    c.requires.within in
    omega (arith, short)

pub returns-clause-short : goal.returns-clause-short
returns-clause-short c =
    list_short c.args.ledger.now.slots _ _ c.new.ensures (omega (arith, c.count-slots.ensures.enough, ap length c.map.ensures)) c.requires.few c.requires.within

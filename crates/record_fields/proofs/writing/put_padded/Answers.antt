use Rattle.std.proofs.Common.{◌≡◌, ◌+◌, ◌-◌, length, take, arith}
use Rattle.record_fields.proofs.Padded.{padded_parts}
use Rattle.record_fields.proofs.writing.put_padded.Goals as goal

pub returns : goal.returns
returns c =
    let len = length c.args.bytes.now in
    let end : c.args.at + 1 + len + (c.args.room - len) ≡ c.args.at + 1 + c.args.room = omega arith in
    cc (padded_parts (take c.args.at c.args.out.now) c.args.bytes.now c.args.room)

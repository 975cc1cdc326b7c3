use Rattle.std.proofs.Common.{◌≡◌, ◌+◌, ◌-◌, length, arith}
use Rattle.record_fields.proofs.Padded.{padded-length, padded-items}
use Rattle.record_fields.proofs.reading.padded_at.Goals as goal

pub returns : goal.returns
returns c xs rest fits is =
    let len = padded-length c.args.room xs rest c.args.bytes.now c.args.at is in
    let same : c.args.at + 1 + c.min-len.result - (c.args.at + 1) ≡ length xs = omega (arith, len) in
    rw same (padded-items c.args.room xs rest c.args.bytes.now c.args.at is)

use Rattle.std.proofs.Common.{◌≤◌, ◌/◌, length, take, arith, length-take}
use Rattle.petal_disk.proofs.Struck.{torn_more, follows_more}
use Rattle.petal_disk.proofs.planned.PlannedDisk.write_at.Goals as goal

pub returns-then-stops-clause-torn : goal.returns-then-stops-clause-torn
returns-then-stops-clause-torn g c observable =
    let n = length c.args.bytes.now in
    let le : length (take (n / 2) c.args.bytes.now) ≤ n = omega (arith, length-take (n / 2) c.args.bytes.now) in
    torn_more c.args.at _ n _ _ le (c.write_at-then-stops.ensures.torn observable)

pub returns-then-stops-clause-crash : goal.returns-then-stops-clause-crash
returns-then-stops-clause-crash g c =
    let n = length c.args.bytes.now in
    let le : length (take (n / 2) c.args.bytes.now) ≤ n = omega (arith, length-take (n / 2) c.args.bytes.now) in
    follows_more c.args.at _ n _ _ le c.write_at-then-stops.ensures.crash

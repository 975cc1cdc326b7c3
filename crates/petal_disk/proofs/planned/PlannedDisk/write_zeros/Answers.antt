use Rattle.std.proofs.Common.{◌≤◌, ◌/◌, arith}
use Rattle.petal_disk.proofs.Struck.{torn_more, follows_more}
use Rattle.petal_disk.proofs.planned.PlannedDisk.write_zeros.Goals as goal

pub returns-then-stops-clause-torn : goal.returns-then-stops-clause-torn
returns-then-stops-clause-torn g c observable =
    let le : c.args.n / 2 ≤ c.args.n = omega arith in
    torn_more c.args.at _ c.args.n _ _ le (c.write_zeros-then-stops.ensures.torn observable)

pub returns-then-stops-clause-crash : goal.returns-then-stops-clause-crash
returns-then-stops-clause-crash g c =
    let le : c.args.n / 2 ≤ c.args.n = omega arith in
    follows_more c.args.at _ c.args.n _ _ le c.write_zeros-then-stops.ensures.crash

use Rattle.std.proofs.Common.{arith, take, drop, length-drop}
use Rattle.std.proofs.lemmas.List.{length-take-le}
use Rattle.petal_base.proofs.Bytes.{compared}
use Rattle.petal_base.proofs.block.is_same_part.Goals as goal

pub returns : goal.returns
returns c = compared (take 64 (drop c.args.at c.args.one.now)) (take 64 (drop c.args.at c.args.other.now))
    (length-take-le 64 (drop c.args.at c.args.one.now) (omega (arith, c.requires.one, length-drop c.args.at c.args.one.now)))
    (length-take-le 64 (drop c.args.at c.args.other.now) (omega (arith, c.requires.other, length-drop c.args.at c.args.other.now)))

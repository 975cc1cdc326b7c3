use Rattle.std.proofs.Common.{◌≡◌, ◌<◌, ◌≤◌, ◌^◌, take, true, length}
use Rattle.std.specs.List.{list_all}
use Rattle.std.specs.Char.{is_ascii_digit}
use Rattle.petal_script.specs.Number.{value}
use Rattle.petal_script.proofs.number.number.Given as goal

abbrev pub invariant-loop-digit : goal.invariant-loop-digit
invariant-loop-digit l = (l.value ≡ value (take l.digit-index l.word)) × (list_all is_ascii_digit (take l.digit-index l.word) ≡ true)
    × (l.value < 10 ^ l.digit-index) × (length l.word ≤ 20)

use Rattle.std.proofs.Common.{◌≡◌, ◌++◌, Some, sym, ◌∙◌, append_assoc}
use Rattle.petal_command.specs.Spelling.{name_field}
use Rattle.petal_command.proofs.Spelled.{name-short, name_of-name, second_field, some_pair}
use Rattle.petal_command.proofs.reading.two_names.Goals as goal

pub returns-in_err-name : goal.returns-in_err-name
returns-in_err-name c disk name rest d n is =
    let there = c.padded_at-2.ensures name rest (name-short name n) (second_field disk (name_field name) rest c.args.bytes.now d is) in
    let made : c.read-2.result ≡ Some name = c.read-2.ensures ∙ name_of-name _ name there n in
    absurd (cc (made, c.in_err-name.was))

pub returns : goal.returns
returns c disk name rest d n is =
    let first = c.padded_at.ensures disk (name_field name ++ rest) (name-short disk d) (is ∙ append_assoc (name_field disk) (name_field name) rest) in
    let there = c.padded_at-2.ensures name rest (name-short name n) (second_field disk (name_field name) rest c.args.bytes.now d is) in
    let named : c.read.result ≡ Some disk = c.read.ensures ∙ name_of-name _ disk first d in
    let made : c.read-2.result ≡ Some name = c.read-2.ensures ∙ name_of-name _ name there n in
    some_pair _ _ _ _ (sym c.in_ok-disk.was ∙ named) (sym c.in_ok-name.was ∙ made)

use Rattle.std.proofs.Common.{◌≡◌, ◌++◌, Some, sym, ◌∙◌, append_assoc}
use Rattle.petal_command.specs.Spelling.{name_field, tuple_field}
use Rattle.petal_command.proofs.Spelled.{name-short, tuple-short, name_of-name, tuple_of-tuple, second_field, some_pair}
use Rattle.petal_command.proofs.reading.name_and_tuple.Goals as goal

pub returns-in_err-tuple : goal.returns-in_err-tuple
returns-in_err-tuple c name tuple rest n t is =
    let there = c.padded_at-2.ensures tuple rest (tuple-short tuple t) (second_field name (tuple_field tuple) rest c.args.bytes.now n is) in
    let made : c.new.result ≡ Some tuple = c.new.ensures ∙ tuple_of-tuple _ tuple there t in
    absurd (cc (made, c.in_err-tuple.was))

pub returns : goal.returns
returns c name tuple rest n t is =
    let first = c.padded_at.ensures name (tuple_field tuple ++ rest) (name-short name n) (is ∙ append_assoc (name_field name) (tuple_field tuple) rest) in
    let there = c.padded_at-2.ensures tuple rest (tuple-short tuple t) (second_field name (tuple_field tuple) rest c.args.bytes.now n is) in
    let named : c.read.result ≡ Some name = c.read.ensures ∙ name_of-name _ name first n in
    let made : c.new.result ≡ Some tuple = c.new.ensures ∙ tuple_of-tuple _ tuple there t in
    some_pair _ _ _ _ (sym c.in_ok-name.was ∙ named) (sym c.in_ok-tuple.was ∙ made)

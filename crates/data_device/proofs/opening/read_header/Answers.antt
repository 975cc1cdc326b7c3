use Rattle.std.proofs.Common.{Option, Some, None, ◌∙◌, arith}
use Rattle.std.specs.Option.{IfNone}
use Rattle.std.proofs.lemmas.Option.{IfSome_then}
use Rattle.data_device.proofs.opening.read_header.Goals as goal

none_then : {X : Type 0} (o : Option X) {P Q : Type 0} → IfNone o P → (P → Q) → IfNone o Q
none_then None holds serves = serves holds
none_then (Some x) holds serves = tt

pub returns-clause-only : goal.returns-clause-only
returns-clause-only g c slots fresh =
    IfSome_then c.fitting.result (c.fitting.ensures.only slots fresh) (λ said only observed few head. only few (c.in_ok-read_front.ensures.bytes observed ∙ head))

pub returns-clause-blank : goal.returns-clause-blank
returns-clause-blank g c = none_then c.fitting.result c.fitting.ensures.none (λ none observed slots fresh few head.
    let here = none slots fresh few (c.in_ok-read_front.ensures.bytes observed ∙ head) in
    omega (arith, here, c.len-size.ensures))

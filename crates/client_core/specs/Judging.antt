-- What became of the open request, after an entry of a letter.
use Rattle.std.specs.Prelude.{Some, None}
use Rattle.spec_rules.specs.State.{State}
use Rattle.spec_rules.specs.Clients.{Client, Asked, Learning}
use Rattle.client_core.specs.declared.judging.Fate.{Fate}
use Rattle.client_core.specs.declared.judging.Fate.TheVariants.{Waits, Answered}

-- the open request, as its fate has it
abbrev pub fated : State → Client → Asked → Fate → Learning
fated state client asked (Waits witnesses) =
    record { state = state; client = record client { asked = Some (record asked { witnesses = witnesses }) }; answer = None }
fated state client asked (Answered given) = record { state = state; client = record client { asked = None }; answer = Some (asked.line, given) }

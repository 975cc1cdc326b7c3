use Rattle.std.proofs.Common.{◌≡◌, Option, Some, None, IfSome, is_some, true, sym, ◌∙◌}
use Rattle.copy_transfer.proofs.copy.has_next.Goals as goal

if_there : {X : Type 0} (P : Type 0) (found : Option X) → IfSome found (λ _. P) → is_some found ≡ true → P
if_there P None holds there = absurd (cc)
if_there P (Some x) holds there = holds

pub returns-clause-within : goal.returns-clause-within
returns-clause-within g c = λ there. if_there _ c.nth.result c.nth.ensures.within (sym c.is_some.ensures ∙ there)

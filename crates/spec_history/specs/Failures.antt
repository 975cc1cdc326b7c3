-- Why devices fail: each failure of a server's devices uses up a plan that was armed before.
use Rattle.std.specs.Prelude.{◌≡◌, ◌==◌, ℕ, Bool, true, false, List, [], ◌∷◌}
use Rattle.petal_msg.specs.declared.letter.Actor.{Actor}
use Rattle.petal_msg.specs.declared.letter.Actor.TheVariants as actor
use Rattle.spec_rules.specs.Plans.{Armed, Uses, unarmed}
use Rattle.spec_rules.specs.declared.step.Step.{Step}
use Rattle.spec_history.specs.declared.record.Record.{Record}

abbrev pub UsesWhere : (own : Bool) → Step → (armed left : Armed) → Type 0
UsesWhere true what armed left = Uses what armed left
UsesWhere false what armed left = left ≡ armed

-- what a step makes of the plans of one server: nothing, where it is another actor's
abbrev pub UsesAt : ℕ → Actor → Step → (armed left : Armed) → Type 0
UsesAt n (actor.Server m) what armed left = UsesWhere (m == n) what armed left
UsesAt n (actor.Client c) what armed left = left ≡ armed

-- what the records can make of the server's plans
abbrev pub ComeTo : ℕ → Armed → List Record → Armed → Type 0
ComeTo n armed [] left = left ≡ armed
ComeTo n armed (own ∷ later) left = (mid : Armed) × UsesAt n own.actor own.step armed mid × ComeTo n mid later left

-- from devices without a plan on, each failure of a server's devices uses up a plan
abbrev pub FailByPlans : List Record → Type 0
FailByPlans records = (n : ℕ) → (left : Armed) × ComeTo n unarmed records left

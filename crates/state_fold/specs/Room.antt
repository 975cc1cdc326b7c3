-- Numbers of a state that can be counted on.
use Rattle.std.specs.Prelude.{ℕ, ◌<◌, ◌^◌}
use Rattle.spec_state.specs.State.{State}
use Rattle.spec_state.specs.Bound.{IsWithin}

-- no number of the state is above the greatest one of 32 bits
pub record HasRoom (s : State) : Type 0 where
  pub most : ℕ
  pub fits : most < 2 ^ 32
  pub within : IsWithin most s

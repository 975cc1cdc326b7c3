-- Which write of a client a put is for.
use Rattle.std.specs.Prelude.{ℕ}

-- the link of its block, the client, and the number of its request
pub record Named : Type 0 where
  pub link : ℕ
  pub client : ℕ
  pub seq : ℕ

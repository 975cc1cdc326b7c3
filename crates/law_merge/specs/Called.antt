-- What becomes of a line that was called.
use Rattle.law_merge.specs.Imports.{Asked, Client, IsAnswered, World}
use Rattle.std.specs.Prelude.{◌≡◌, ℕ, Some, ◌⊎◌}

-- the client has the line of this number open
pub record HasOpen (client : Client) (number : ℕ) : Type 0 where
  pub asked : Asked
  pub is : client.asked ≡ Some asked
  pub line_is : asked.line ≡ number

-- it has it open, or the line was answered
abbrev pub IsOpenOrAnswered : World → (c number : ℕ) → Type 0
IsOpenOrAnswered w c number = HasOpen (w.clients c) number ⊎ IsAnswered w.answers number

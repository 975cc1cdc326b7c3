-- A file of which only the bytes up to the last that was written take memory.
use Rattle.std.specs.Prelude.{◌≡◌, ℕ, List, ◌++◌, ◌-◌, ◌≤◌, length, replicate}
use Rattle.std.proofs.Common.{arith, length-append, ◌∙◌}
use Rattle.std.proofs.lemmas.List.{length-replicate}
use Rattle.petal_disk.specs.Mixes.{synced, LeftOf, length-Mixes}

-- these bytes, and zeros after them up to so many
abbrev pub padded : List ℕ → ℕ → List ℕ
padded bytes n = bytes ++ replicate (n - length bytes) 0

pub length-padded : (bytes : List ℕ) (n : ℕ) → length bytes ≤ n → length (padded bytes n) ≡ n
length-padded bytes n l = omega (arith, length-append bytes (replicate (n - length bytes) 0), length-replicate {A = ℕ} (n - length bytes) 0)

-- what a crash leaves is as long
pub length-left : (bytes : List ℕ) (low : ℕ) (before : List ℕ) (n : ℕ) (c : List ℕ) → length bytes ≤ n → LeftOf (padded bytes n) low before c → length c ≡ n
length-left bytes low before n c l left = length-Mixes (padded bytes n) (synced (padded bytes n) low before) c left ∙ length-padded bytes n l

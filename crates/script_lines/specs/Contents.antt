-- The contents of a block as they are printed.
use Rattle.std.specs.Prelude.{◌≢◌, ℕ, ◌+◌, ◌<◌, ◌==◌, nat_le, List, [], ◌∷◌, ◌++◌, length, codes, decimal, replicate, if◌then◌else◌}
use Rattle.std.specs.List.{flat_map}
use Rattle.sha2.specs.Sha256.{sha256}
use Rattle.hex.specs.Hex.{encode_lower}
use Rattle.script_lines.specs.declared.run.Run.{Run}

-- one byte more before the runs: it lengthens the first or begins one
abbrev pub onto_run : ℕ → List Run → List Run
onto_run b [] = record { count = 1; byte = b } ∷ []
onto_run b (r ∷ rs) =
    if r.byte == b then record { count = r.count + 1; byte = b } ∷ rs
    else record { count = 1; byte = b } ∷ r ∷ rs

-- the longest runs of equal bytes, in order
unfoldable pub runs : List ℕ → List Run
runs [] = []
runs (b ∷ bs) = onto_run b (runs bs)

-- ` <count>x<byte>`
abbrev pub run_text : Run → List ℕ
run_text r = codes " " ++ decimal r.count ++ codes "x" ++ decimal r.byte

-- ` sha256 ` and the digest
abbrev pub digest_text : List ℕ → List ℕ
digest_text bytes = codes " sha256 " ++ encode_lower (sha256 bytes)

-- up to 8 runs, or else the digest
unfoldable pub contents_text : List ℕ → List ℕ
contents_text bytes = if nat_le (length (runs bytes)) 8 then flat_map run_text (runs bytes) else digest_text bytes

-- what a run stands for
abbrev pub run_bytes : Run → List ℕ
run_bytes r = replicate r.count r.byte

-- no run is empty, and neighbours have different bytes
abbrev pub AreLongest : List Run → Type 0
AreLongest [] = Unit {0}
AreLongest (r ∷ []) = 0 < r.count
AreLongest (r ∷ next ∷ more) = (0 < r.count) × (r.byte ≢ next.byte) × AreLongest (next ∷ more)

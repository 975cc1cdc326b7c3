-- A write within the range that has been written since the last sync.
use Rattle.std.proofs.Common.{◌≡◌, ℕ, ◌+◌, ◌≤◌, List, length, sym, ◌∙◌, subst}
use Rattle.petal_disk.specs.Disk.{written, Torn}
use Rattle.petal_disk.specs.Mixes.{Mixes, synced, LeftOf}
use Rattle.petal_disk.proofs.Mixed.{written_follows}
use Rattle.petal_disk.proofs.Synced.{synced_torn}
use Rattle.petal_disk.proofs.Tearing.{torn_written}

-- count bytes, written over a file once the range from low' on has them
pub record Writes (at count low low' : ℕ) (bytes file file' before before' : List ℕ) : Type 0 where
  pub many : length bytes ≡ count
  pub fits : at + count ≤ length file
  pub is : file' ≡ written file at bytes
  pub same : synced file low' before' ≡ synced file low before
  pub above : low' ≤ at
  pub below : at + count ≤ low' + length before'

module _ {at count low low' : ℕ} {bytes file file' before before' : List ℕ} (it : Writes at count low low' bytes file file' before before') where
  open it use {many, fits, is, same, above, below}

  all_fit : at + length bytes ≤ length file
  all_fit = subst (λ (k : ℕ). at + k ≤ length file) (sym many) fits

  pub torn_file : Torn at count file file'
  torn_file = subst (λ (k : ℕ). Torn at k file file') many (subst (Torn at (length bytes) file) (sym is) (torn_written file at bytes all_fit))

  pub left_of_file : (c : List ℕ) → LeftOf file' low' before' c → (d : List ℕ) × LeftOf file low before d × Torn at count d c
  left_of_file c m =
      let stays : synced file' low' before' ≡ synced file low before = synced_torn at count low' before' file file' above below torn_file ∙ same in
      subst (λ (k : ℕ). (d : List ℕ) × LeftOf file low before d × Torn at k d c) many
      (written_follows at bytes file (synced file low before) file' c all_fit is (subst (λ (l : List ℕ). Mixes file' l c) stays m))

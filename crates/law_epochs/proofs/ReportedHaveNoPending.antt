-- What a server has pending once it has reported to a fence: no client's write on a cell of which the fence held the writes.
use Rattle.law_epochs.proofs.Imports.{◌++◌, ◌≡◌, AreSteps, AskingAlong, At, Cell, Command, IsPrefix, IsSound, List, Pending, Record, Rests, Script, Setting}
use Rattle.law_epochs.proofs.Imports.{Some, always_firm, asking_along, at, cell_cmp, false, has_held_write, held, held_write, is_clients, is_writes_held}
use Rattle.law_epochs.proofs.Imports.{rests_after, setting_of, start, start_rests, state_after, true, true_false, ℕ}

module _ (script : Script) (sound : IsSound script) where
  abbrev setting : Setting
  setting = setting_of script

  abbrev Applied : List Record → ℕ → List Command
  Applied records n = ((At script records).servers n).log.applied

  pub resting : (records : List Record) → AreSteps script records → Rests setting (At script records)
  resting records legal = rests_after setting (start setting) records (always_firm script records sound legal) (start_rests script) legal

  pub asking : (records : List Record) → AreSteps script records → AskingAlong setting records (At script records)
  asking records legal = asking_along script sound records legal

  -- a server's entries only grow
  pub grows : (records : List Record) → AreSteps script records → (before later : List Record) → records ≡ before ++ later → (n : ℕ)
      → IsPrefix (Applied before n) (Applied records n)
  grows records legal before later is n = ((asking records legal).since before later is n).grows

  -- a write that is pending where these entries hold its cell: the server had no such one when it had reported
  pub not_held : (records : List Record) → (n : ℕ) (cell : Cell) (op : Pending) (until : List Command)
      → at cell_cmp ((At script records).servers n).own.pairs.pending cell ≡ Some op → is_clients op.kind ≡ true
      → has_held_write (state_after script.servers until) ((At script records).servers n).own ≡ false
      → is_writes_held (held (state_after script.servers until) cell) ≡ true → ⊥
  not_held records n cell op until is clients drained holds =
      true_false (held_write (state_after script.servers until) ((At script records).servers n).own cell op is clients holds) drained

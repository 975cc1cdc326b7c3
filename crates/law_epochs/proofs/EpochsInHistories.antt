-- The laws, over every legal history of a sound script.
use Rattle.law_epochs.proofs.Imports.{◌≡◌, ◌≤◌, AreSteps, At, Both, Cell, Command, IsLinked, IsPrefix, IsSound, LinkRow, List, Pairs, Pending, Record, Script}
use Rattle.law_epochs.proofs.Imports.{Some, WasThere, at, cell_cmp, chosen_log, is_clients, is_in, length, place_by, refl, server_state, setting_of}
use Rattle.law_epochs.proofs.Imports.{state_after, true, ℕ}
use Rattle.law_epochs.specs.EntryEpochs.{HaveEarlyEntries}
use Rattle.law_epochs.specs.InTime.{IsTimely}
use Rattle.law_epochs.proofs.PendingIsInTime.{present, present_now}
use Rattle.law_epochs.proofs.SecondsPutInTime.{timely_now}
use Rattle.law_epochs.proofs.EntriesNeverEarly.{early_entries}
use Rattle.law_epochs.proofs.PendingAtPlacesInTime.{timely_known}

pub pending_timely : (script : Script) (records : List Record) → IsSound script → AreSteps script records → (n inc : ℕ) (cell : Cell) (op : Pending)
    (opened prefix : List Command) → at cell_cmp ((At script records).servers n).own.pairs.pending cell ≡ Some op → is_clients op.kind ≡ true
    → IsPrefix opened prefix → IsPrefix prefix (chosen_log (setting_of script) (At script records)) → length opened ≡ op.rev
    → is_in (state_after script.servers opened) n inc ≡ true → is_in (state_after script.servers prefix) n inc ≡ true
    → IsTimely script.servers prefix cell op
pending_timely script records sound legal = present script sound records legal

pub place_timely : (script : Script) (records : List Record) → IsSound script → AreSteps script records → (n place : ℕ) (cell : Cell) (pairs : Pairs)
    (op : Pending) (prefix : List Command) (row : LinkRow) → WasThere (setting_of script) records n place cell pairs
    → at cell_cmp pairs.pending cell ≡ Some op → is_clients op.kind ≡ true → IsPrefix prefix (chosen_log (setting_of script) (At script records))
    → IsLinked (setting_of script) prefix cell row → place_by (setting_of script) prefix row ≡ place → op.rev ≤ length prefix
    → IsTimely script.servers prefix cell op
place_timely script records sound legal n place cell pairs op prefix row was is clients lies linked =
    timely_known (record { script = script; sound = sound; records = records; legal = legal })
    (record { n = n; place = place; cell = cell; pairs = pairs; op = op; was = was; is = is; clients = clients }) prefix prefix row lies linked lies

pub second_timely : (script : Script) (records : List Record) → IsSound script → AreSteps script records → (n m : ℕ) (cell : Cell) (pairs : Pairs)
    (op : Pending) (row : LinkRow) → ((At script records).servers m).life.running ≡ true
    → is_in (server_state (setting_of script) (At script records) m) m ((At script records).servers m).life.inc ≡ true
    → IsLinked (setting_of script) ((At script records).servers m).log.applied cell row → row.state ≡ Both → row.primary ≡ n → row.secondary ≡ m
    → WasThere (setting_of script) records n (place_by (setting_of script) ((At script records).servers m).log.applied row) cell pairs
    → at cell_cmp pairs.pending cell ≡ Some op → is_clients op.kind ≡ true → (prefix : List Command) (now : LinkRow)
    → IsPrefix prefix (chosen_log (setting_of script) (At script records)) → IsLinked (setting_of script) prefix cell now
    → place_by (setting_of script) prefix now ≡ place_by (setting_of script) ((At script records).servers m).log.applied row → op.rev ≤ length prefix
    → IsTimely script.servers (chosen_log (setting_of script) (At script records)) cell op
second_timely script records sound legal n m cell pairs op row runs seat linked both first second was is clients prefix now lies linked_now at_place le =
    timely_now (record { script = script; sound = sound; records = records; legal = legal }) m (record {
      had = record { n = n; place = _; cell = cell; pairs = pairs; op = op; was = was; is = is; clients = clients };
      row = row;
      runs = runs;
      seat = seat;
      linked = linked;
      both = both;
      at_own = refl;
      prefix = prefix;
      now = now;
      lies = lies;
      linked_now = linked_now;
      at_place = at_place;
      le = le;
    })

pub early_after : (script : Script) (records : List Record) → IsSound script → AreSteps script records
    → HaveEarlyEntries script.servers (At script records)
early_after script records sound legal = early_entries script records sound legal

pub running_timely : (script : Script) (records : List Record) → IsSound script → AreSteps script records → (n : ℕ) (cell : Cell) (op : Pending)
    → ((At script records).servers n).life.running ≡ true → at cell_cmp ((At script records).servers n).own.pairs.pending cell ≡ Some op
    → is_clients op.kind ≡ true → IsTimely script.servers (chosen_log (setting_of script) (At script records)) cell op
running_timely script records sound legal = present_now script sound records legal

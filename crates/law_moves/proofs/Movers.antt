-- A server that is to move a link, by its own entries: each cell of the link and the region is leaving, the server serves it, and has what was
-- frozen of it; and of what it knows to be there it was told.
use Rattle.law_moves.proofs.Imports.{◌∙◌, ◌≡◌, Cell, Command, HasProperTuples, IsPrefix, IsServing, List, PairState, Run, Some, State, ap, cell_link}
use Rattle.law_moves.proofs.Imports.{chain_in, chosen_log, end_of, history_is_firm, id_of, is_the_one, key_at, leaves_with, log_steady, on_row}
use Rattle.law_moves.proofs.Imports.{option_and_then, prefix_itself, prefix_plain, region_left, row_lead, server_state, stage_at, stage_facts, sym, target, ℕ}
use Rattle.law_moves.specs.Fills.{IsOnWay, WasFilled}
use Rattle.law_moves.specs.LeftToMove.{IsKept, IsKnown, IsOurs}
use Rattle.law_moves.proofs.AllKeptOfMoves.{Known}
use Rattle.law_moves.proofs.MovedsHadNothingLeft.{mover_leads}
use Rattle.law_moves.proofs.ServersOfLinks.{link_lead_serves}
use Rattle.law_moves.proofs.MoveScenes.{IsMover}

module _ (it : Run) (known : Known it.script it.records) (y : ℕ) (mover : IsMover (end_of it).setting (end_of it).w y) where
  open it use {script, sound, records, legal}
  open end_of it use {setting, w}
  open mover use {runs, seat, row, there, region, moves}

  abbrev log : List Command
  log = (w.servers y).log.applied

  abbrev here : State
  here = server_state setting w y

  abbrev own : PairState
  own = (w.servers y).own

  lies : IsPrefix log (chosen_log setting w)
  lies = (history_is_firm script records sound legal).servers y

  plain : HasProperTuples script.servers log
  plain = prefix_plain script.servers log (chosen_log setting w) (history_is_firm script records sound legal).plain lies

  module _ (old : Cell) (ours : IsOurs here row region old) where
    linked : cell_link here old ≡ Some row
    linked = (on_row here (id_of row) row there old ours.on).0

    pub three : stage_at here old ≡ 3
    three =
        (stage_facts script.servers log plain old).leaves
        (leaves_with here (key_at old 0) row.map region (on_row here (id_of row) row there old ours.on).1 ours.of
        (region_left here y row region moves))

    serving : IsServing here y old
    serving =
        link_lead_serves here (log_steady script.servers log plain) old y
        (ap (option_and_then (row_lead here)) linked ∙ is_the_one (row_lead here row) y (mover_leads here y region row moves))

    -- what it has of the cell is what was frozen
    pub had : w.frozen old ≡ Some (chain_in own.store.chains old)
    had = known.still.own y log old runs (prefix_itself log) lies seat three serving

    pub way : (new : Cell) → target here old ≡ Some new → IsOnWay script.servers log old new row
    way new to = record { stage = three; to = to; linked = linked }

    -- of what it knows to be there a letter says so
    pub known_told : (new : Cell) → target here old ≡ Some new → (epoch : ℕ) → IsKnown row region own (key_at old epoch) → IsKept own old epoch
        → WasFilled w (key_at new epoch)
    known_told new to epoch k kept =
        known.filled.told y log old new row k.until runs lies (way new to) k.is (chain_in own.store.chains old) epoch had kept
        (record { region = ours.of ∙ sym k.of; so = k.so })

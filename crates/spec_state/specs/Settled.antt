-- Whether everything that was under way has come to an end.
use Rattle.std.specs.Prelude.{ℕ, Bool, true, false, not, ◌==◌, ◌&&◌, ◌||◌, List, [], ◌∷◌, length, Option, Some, None, is_none}
use Rattle.std.specs.List.{list_any, list_all, range_with_len}
use Rattle.global_tables.specs.declared.fence.Member.{Member}
use Rattle.global_tables.specs.declared.fence.Member.TheVariants.{In, Out}
use Rattle.global_tables.specs.declared.link.LinkRow.{LinkRow}
use Rattle.global_tables.specs.declared.link.LinkState.{LinkState}
use Rattle.global_tables.specs.declared.link.LinkState.TheVariants.{Both, Only, Lost}
use Rattle.global_tables.specs.declared.disk.Move.{Move}
use Rattle.spec_state.specs.State.{State, is_up, links_of}
use Rattle.spec_state.specs.CellState.{link_lead}

-- a running server is In with its incarnation, a stopped one is Out
abbrev pub agrees : Member → Option ℕ → Bool
agrees (In inc) (Some running) = inc == running
agrees (In inc) None = false
agrees (Out inc) (Some running) = false
agrees (Out inc) None = true

-- the view is that of the servers as they run
abbrev pub all_agree : List Member → List (Option ℕ) → Bool
all_agree [] [] = true
all_agree [] (incarnation ∷ running) = false
all_agree (member ∷ members) [] = false
all_agree (member ∷ members) (incarnation ∷ running) = agrees member incarnation && all_agree members running

abbrev pub is_only : LinkState → Bool
is_only Both = false
is_only (Only holder whole) = true
is_only Lost = false

-- nothing is left to catch up: a server is Out, or both are up to date, or neither is
abbrev pub link_settled : State → LinkRow → Bool
link_settled s row = not (is_up s row.primary && is_up s row.secondary && is_only row.state)

-- some link of the map has no lead
abbrev pub lacks_lead : State → ℕ → Bool
lacks_lead s of = list_any (λ link. is_none (link_lead s of link)) (range_with_len 0 (links_of s of))

-- a move is over, or one of its links, old or new, has no lead
abbrev pub move_settled : State → ℕ → Option Move → Bool
move_settled s of None = true
move_settled s of (Some move) = lacks_lead s of || lacks_lead s move.old_map

abbrev pub is_settled : State → List (Option ℕ) → Bool
is_settled s running =
    all_agree s.view.members running
    && (length s.view.queue == 0)
    && list_all (link_settled s) s.links
    && list_all (λ row. move_settled s row.map row.moving) s.disks.rows

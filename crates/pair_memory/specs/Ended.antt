-- What ends with an entry of the log, and what it leaves of copies.
use Rattle.std.specs.Prelude.{◌&&◌, ◌||◌, Bool, not, filter, is_none}
use Rattle.petal_base.specs.declared.cell.Cell.{Cell}
use Rattle.petal_command.specs.declared.command.Command.{Command}
use Rattle.petal_msg.specs.declared.copying.LinkId.{LinkId}
use Rattle.spec_rules.specs.Crossing.{touches_cell, touches_link}
use Rattle.spec_rules.specs.Server.{Copies}
use Rattle.spec_rules.specs.State.{State, link_named, live}

-- of the rule's words, with the state that the entry makes by its side: what is kept of the cell for others ends
abbrev pub cell_ends : State → (next : State) → Command → Cell → Bool
cell_ends state next entry cell = touches_cell state entry cell || (live state cell && not (live next cell))

-- what is kept of the link ends
abbrev pub link_ends : State → (next : State) → Command → LinkId → Bool
link_ends state next entry id = touches_link state entry id || is_none (link_named next id)

-- nothing is left of the copies there
abbrev pub copies_left : State → (next : State) → Command → Copies → Copies
copies_left state next entry copies = record copies {
  progress = filter (λ row. not (link_ends state next entry row.0)) copies.progress;
  pending = filter (λ row. not (cell_ends state next entry row.0)) copies.pending;
  last = filter (λ row. not (cell_ends state next entry row.0)) copies.last;
}

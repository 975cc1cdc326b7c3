use Rattle.state_store.specs.Rows.{row_at}
use Rattle.state_store.proofs.register.noted_at.Goals as goal

pub note-requires-clause-here : goal.note-requires-clause-here
note-requires-clause-here c = c.requires (row_at c.make_room.new.self)

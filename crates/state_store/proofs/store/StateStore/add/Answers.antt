use Rattle.state_store.specs.Rows.{row_at}
use Rattle.state_store.proofs.store.StateStore.add.Goals as goal

pub note-requires-clause-here : goal.note-requires-clause-here
note-requires-clause-here g c = c.requires.here (row_at c.make_room.new.self)

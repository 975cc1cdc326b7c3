-- What rounds leave as it was: the script, and the records that stood.
use Rattle.std.specs.Prelude.{◌≡◌, List}
use Rattle.spec_history.specs.declared.record.Record.{Record}
use Rattle.spec_history.specs.Order.{IsRecordPrefix}
use Rattle.petal_world.specs.Play.{Play}

-- each prefix of the records stays one
abbrev pub GoesOn : (old new : List Record) → Type 0
GoesOn old new = (prefix : List Record) → IsRecordPrefix prefix old → IsRecordPrefix prefix new

-- the script is the same, the records go on, and no step was free where none was before
abbrev pub WentOn : (old new : Play) → Type 0
WentOn old new = (new.script ≡ old.script) × GoesOn old.records new.records × (new.free ≡ old.free)

-- The drills compute.
use Rattle.std.proofs.Common.{refl}
use Rattle.std.specs.Fmt.{digits}
use Rattle.petal_drill.specs.Drill.{starts, stops, asks, turn, drill_after, drill_text}
use Rattle.petal_drill.specs.Summary.{counts_line}
use Rattle.test_script.proofs.computed.short_drills.Goals as goal

pub returns : goal.returns
unfolding digits starts stops asks turn drill_after drill_text counts_line
returns c = record { none = refl; two = refl; line = refl }

-- What a line has done so far at a server, by that server's own records.
use Rattle.law_merge.specs.Imports.{Blank, Blanked, Boot, Booted, Deed, Glance, Record, Step, Stop, Stopped}
use Rattle.std.specs.Prelude.{◌==◌, List, [], ◌∷◌, Option, Some, None, if◌then◌else◌}

-- the last step that the line gave it, until the line's glance
abbrev pub hand_by : Step → Option Deed → Option Deed
hand_by Stop hand = Some Stopped
hand_by Blank hand = Some Blanked
hand_by (Boot end) hand = Some Booted
hand_by (Glance line round) hand = if round == 0 then None else hand
hand_by _ hand = hand

abbrev pub hand_along : Option Deed → List Record → Option Deed
hand_along hand [] = hand
hand_along hand (own ∷ later) = hand_along (hand_by own.step hand) later

-- Runs in which a server that has returned is brought up to date.
use Rattle.std.specs.Prelude.{ℕ, List, [], ◌∷◌, ◌++◌}
use Rattle.spec_rules.specs.World.{World}
use Rattle.spec_history.specs.Examples.{passes, server_ticks}
use Rattle.spec_history.specs.Play.{Move, Calls, Hands, Works, plays}
use Rattle.test_history.specs.Boots as boots
use Rattle.test_history.specs.Returned.{mending, returned, back, early}

-- the world after these moves, from that in which the secondary has returned
abbrev pub returned_after : List Move → World
returned_after moves = plays mending returned moves

-- the same, from that in which the primary has returned
abbrev pub back_after : List Move → World
back_after moves = plays mending back moves

-- and from that in which the primary runs again before its Leave
abbrev pub early_after : List Move → World
early_after moves = plays mending early moves

-- ### A block that was written alone is copied

-- a tick of server 0 asks server 1 for its marks; it has none
abbrev pub page_moves : List Move
page_moves = server_ticks 0 ∷ passes 1 1 ++ passes 2 0

-- a copy begins, and server 1 has no entry to drop
abbrev pub trim_moves : List Move
trim_moves = page_moves ++ Works 0 ∷ passes 3 1 ++ passes 4 0

-- server 1 puts the entry, and server 0 takes the mark away
abbrev pub sync_moves : List Move
sync_moves = trim_moves ++ passes 5 1 ++ passes 6 0

-- the copy is closed, and nothing is left
abbrev pub copied_moves : List Move
copied_moves = sync_moves ++ Works 0 ∷ Works 0 ∷ []

-- at a tick server 0 starts a ballot for the Caught. Then the client's write comes
abbrev pub held_moves : List Move
held_moves = copied_moves ++ server_ticks 0 ∷ Works 0 ∷ Calls 0 2 ∷ passes 11 0

-- servers 0 and 1 promise and accept, and hear and apply what is chosen
abbrev pub caught_moves : List Move
caught_moves = held_moves ++ passes 10 0 ++ passes 9 1 ++ passes 13 0 ++ passes 14 0 ++ passes 17 0 ++ passes 16 1 ++ passes 18 0 ++ passes 19 0
    ++ passes 22 0 ++ Works 0 ∷ passes 21 1 ++ Works 1 ∷ []

-- ### A put of the returning primary is dropped

-- server 1 asks for a page, which has block 0
abbrev pub marked_moves : List Move
marked_moves = server_ticks 1 ∷ passes 1 0 ++ passes 2 1

-- and for the next one, which has none; it begins a copy, and server 0 drops its entry
abbrev pub dropped_moves : List Move
dropped_moves = marked_moves ++ Works 1 ∷ passes 3 0 ++ passes 4 1 ++ Works 1 ∷ passes 5 0

-- which it says in a job of its own; server 1 has no entry to send
abbrev pub level_moves : List Move
level_moves = dropped_moves ++ Works 0 ∷ passes 6 1 ++ Works 1 ∷ Works 1 ∷ []

-- the Caught is chosen, and both apply it
abbrev pub both_moves : List Move
both_moves = level_moves ++ boots.ballot_moves 7

-- server 0 takes the mark away that its earlier life left
abbrev pub tidied_moves : List Move
tidied_moves = both_moves ++ Works 0 ∷ Works 0 ∷ []

-- ### The primary runs again before its Leave

-- the client's write comes to it
abbrev pub written_moves : List Move
written_moves = Calls 0 2 ∷ passes 0 0

-- a ballot of server 0, with server 1, whose first letter is letter k
abbrev pub ballot_of_0 : ℕ → List Move
ballot_of_0 k = boots.ballot_of 0 1 1 0 k

-- its Leave is chosen, and then its Join
abbrev pub gone_moves : List Move
gone_moves = written_moves ++ ballot_of_0 1

abbrev pub in_moves : List Move
in_moves = gone_moves ++ ballot_of_0 15

-- server 1 asks for the marks of server 0
abbrev pub asked_moves : List Move
asked_moves = in_moves ++ Works 1 ∷ passes 29 0 ++ passes 30 1

-- ### An entry that comes late

-- the first copy of block 0 sends its entry twice, and ends with the first one; letter 7 is on its way
abbrev pub twice_moves : List Move
twice_moves = trim_moves ++ server_ticks 0 ∷ passes 5 1 ++ passes 8 0 ++ Works 0 ∷ Works 0 ∷ []

-- the client writes the block again
abbrev pub rewritten_moves : List Move
rewritten_moves = twice_moves ++ Calls 0 2 ∷ passes 9 0 ++ Works 0 ∷ Works 0 ∷ Hands 10 ∷ []

-- a second copy begins, and server 1 has trimmed for it
abbrev pub again_moves : List Move
again_moves = rewritten_moves ++ server_ticks 0 ∷ Works 0 ∷ passes 12 1

-- then letter 7 comes, with the entry of the first copy
abbrev pub late_moves : List Move
late_moves = again_moves ++ passes 7 1

-- the second copy sends its entry
abbrev pub second_moves : List Move
second_moves = late_moves ++ passes 13 0 ++ passes 14 1

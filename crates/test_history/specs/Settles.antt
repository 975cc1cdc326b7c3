-- Runs in which the operator waits until all is settled.
use Rattle.std.specs.Prelude.{ℕ, List, [], ◌∷◌, ◌++◌}
use Rattle.petal_base.specs.Block.{fill_block}
use Rattle.spec_rules.specs.Store.{Store, empty_store}
use Rattle.spec_rules.specs.World.{Setting, World}
use Rattle.spec_history.specs.Examples.{cell_at, crowd_disk, one_entry, passes, server_ticks}
use Rattle.spec_history.specs.Play.{Calls, Hands, Works}
use Rattle.test_history.specs.Acts.{Act, Moves, Looks, world_after}
use Rattle.test_history.specs.Returned.{mending, mending_with, returned, returned_log, server_with, stale_0, three, world_with}

-- each server has one slot, and the one of server 1 is in use for block 1
abbrev pub narrow : Setting
narrow = mending_with 1

abbrev pub one_slot : (block version x : ℕ) → Store
one_slot block version x = record (empty_store 1) { chains = (cell_at block, one_entry version (fill_block x)) ∷ [] }

abbrev pub marked_slot : Store
marked_slot =
    let store : Store = one_slot 0 2 8 in
    record store { marks = stale_0 ∷ [] }

abbrev pub filled : World
filled = world_with narrow returned_log
    (three (server_with returned_log 1 marked_slot) (server_with returned_log 2 (one_slot 1 1 5)) (server_with returned_log 1 (empty_store 1)))

-- the copy of block 0 finds no slot at server 1
abbrev pub full_acts : List Act
full_acts = Moves (server_ticks 0 ∷ passes 1 1 ++ passes 2 0 ++ Works 0 ∷ passes 3 1 ++ passes 4 0 ++ passes 5 1 ++ passes 6 0) ∷ []

-- the operator calls its line
abbrev pub settle_acts : List Act
settle_acts = full_acts ++ Moves (Calls 8 3 ∷ []) ∷ []

-- server 0 is glanced at
abbrev pub told_acts : List Act
told_acts = settle_acts ++ Looks 0 3 1 ∷ Moves (Hands 7 ∷ []) ∷ []

abbrev pub filled_after : List Act → World
filled_after acts = world_after narrow filled acts

-- ### Rounds

-- the operator calls its line, and each server is glanced at
abbrev pub round_acts : List Act
round_acts =
    Moves (Calls 8 3 ∷ []) ∷ Looks 0 3 1 ∷ Moves (Hands 0 ∷ []) ∷ Looks 1 3 1 ∷ Moves (Hands 1 ∷ []) ∷ Looks 2 3 1 ∷ Moves (Hands 2 ∷ []) ∷ []

-- a link is still held alone, though both of its servers are In
abbrev pub waiting_after : List Act → World
waiting_after acts = world_after mending returned acts

-- all servers are In and all links in Both
abbrev pub calm : World
calm = world_with mending (crowd_disk ∷ []) (λ n. server_with (crowd_disk ∷ []) 1 (empty_store 4))

abbrev pub calm_after : List Act → World
calm_after acts = world_after mending calm acts

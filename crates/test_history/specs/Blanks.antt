-- Runs in which a server comes back with an empty store.
use Rattle.std.specs.Prelude.{ℕ, List, [], ◌∷◌, ◌++◌, true, false}
use Rattle.petal_command.specs.declared.command.Command.{Command}
use Rattle.petal_command.specs.declared.command.Command.TheVariants.{Join}
use Rattle.script_lines.specs.declared.request.Request.TheVariants as request
use Rattle.spec_rules.specs.Jobs.{here_of, wanted_by}
use Rattle.spec_rules.specs.Server.{Server}
use Rattle.spec_rules.specs.Store.{Stored, chain_in, empty_store}
use Rattle.spec_rules.specs.World.{Setting, World, kept, server_state}
use Rattle.spec_rules.specs.declared.step.WorkEnd.TheVariants.{Done}
use Rattle.spec_history.specs.Examples.{cell_at, client_ticks, crowd_disk, line_of, makes, passes, run_of, server_ticks, writes}
use Rattle.spec_history.specs.Play.{Move, Calls, Hands, Works}
use Rattle.test_history.specs.Acts.{Act, Moves, Stops, Blanks, Boots, Shows, world_after}
use Rattle.test_history.specs.Boots as boots
use Rattle.test_history.specs.Returned.{leave_of_0, server_with, store_of, three, world_with}
use Rattle.test_history.specs.Stops.{leave_of_1}

-- a disk over three servers; client 0 writes block 0, client 1 block 2, and the operator blanks server 1
abbrev pub blanking : Setting
blanking = run_of 3 4 (makes 1 (0 ∷ 1 ∷ 2 ∷ []) ∷ writes 2 0 0 9 ∷ writes 3 1 2 6 ∷ line_of 4 8 (request.Blank 1) ∷ [])

-- both servers of block 0 have it
abbrev pub twofold : World
twofold = world_with blanking (crowd_disk ∷ [])
    (three (server_with (crowd_disk ∷ []) 1 (store_of 1 7 [])) (server_with (crowd_disk ∷ []) 1 (store_of 1 7 []))
    (server_with (crowd_disk ∷ []) 1 (empty_store 4)))

abbrev pub twofold_after : List Act → World
twofold_after acts = world_after blanking twofold acts

-- ### The operator's line

-- the operator has called its line
abbrev pub asked_acts : List Act
asked_acts = Moves (Calls 8 4 ∷ []) ∷ []

-- server 1 stops
abbrev pub stopped_acts : List Act
stopped_acts = asked_acts ++ Stops 1 ∷ []

-- it is blanked
abbrev pub blanked_acts : List Act
blanked_acts = stopped_acts ++ Blanks 1 ∷ []

-- it boots, and the operator has its answer
abbrev pub awake_acts : List Act
awake_acts = blanked_acts ++ Boots 1 Done ∷ Shows 1 4 ∷ Moves (Hands 4 ∷ []) ∷ []

-- the chain of block 0 in the store of server 1 that counts
abbrev pub kept_chain : World → List (ℕ × Stored)
kept_chain w = chain_in (kept blanking w 1).chains (cell_at 0)

-- ### It joins, and is filled

abbrev pub blank_join_of_1 : Command
blank_join_of_1 = Join 1 2 true

-- what a server wants chosen
abbrev pub wants_at : World → (server : ℕ) → List Command
wants_at w n = wanted_by (here_of (server_state blanking w n) n (w.servers n)) (w.servers n)

-- its Leave is chosen, and then its Join
abbrev pub left_acts : List Act
left_acts = awake_acts ++ Moves (boots.ballot_moves 5) ∷ []

abbrev pub joined_acts : List Act
joined_acts = left_acts ++ Moves (boots.ballot_moves 19) ∷ []

-- server 0 asks for its marks, and copies block 0, which is marked nowhere
abbrev pub filled_acts : List Act
filled_acts =
    joined_acts
    ++ Moves (Works 0 ∷ passes 33 1 ++ passes 34 0 ++ Works 0 ∷ passes 35 1 ++ passes 36 0 ++ passes 37 1 ++ passes 38 0 ++ Works 0 ∷ []) ∷ []

-- ### A holder comes back with nothing

-- server 1 has stopped, and then server 0, which held link 0 alone, and which came back with nothing
abbrev pub lost_log : List Command
lost_log = crowd_disk ∷ leave_of_1 ∷ leave_of_0 ∷ Join 0 2 true ∷ []

abbrev pub gone_server : Server
gone_server =
    let server : Server = server_with lost_log 1 (store_of 1 7 []) in
    record server { life = record server.life { running = false } }

abbrev pub lost : World
lost = world_with blanking lost_log (three (server_with lost_log 2 (empty_store 4)) gone_server (server_with lost_log 1 (empty_store 4)))

-- client 0 writes block 0. Its Witness is chosen by servers 0 and 2, and its third tick asks server 0, which tells it
abbrev pub refused_moves : List Move
refused_moves =
    Calls 0 2 ∷ passes 0 0 ++ server_ticks 0 ∷ Works 0 ∷ passes 4 0 ++ passes 2 2 ++ passes 5 0 ++ passes 6 0
    ++ passes 9 0 ++ passes 7 2 ++ passes 10 0 ++ passes 11 0 ++ passes 14 0
    ++ Works 0 ∷ client_ticks 0 ∷ client_ticks 0 ∷ client_ticks 0 ∷ passes 20 0 ++ Hands 21 ∷ []

-- client 1 writes block 2, whose link server 2 holds
abbrev pub other_moves : List Move
other_moves = Calls 1 3 ∷ passes 22 2 ++ Works 2 ∷ Works 2 ∷ Hands 23 ∷ []

abbrev pub lost_after : List Move → World
lost_after moves = world_after blanking lost (Moves moves ∷ [])

-- Runs of three servers, of which one stops and boots.
use Rattle.std.specs.Prelude.{ℕ, ◌+◌, List, [], ◌∷◌, ◌++◌, false}
use Rattle.petal_command.specs.declared.command.Command.{Command}
use Rattle.petal_command.specs.declared.command.Command.TheVariants.{Join}
use Rattle.script_lines.specs.declared.request.Line.{Line}
use Rattle.script_lines.specs.declared.request.Request.TheVariants as request
use Rattle.spec_rules.specs.Jobs.{here_of, wanted_by}
use Rattle.spec_rules.specs.World.{Setting, World, server_state}
use Rattle.spec_rules.specs.declared.step.WorkEnd.{WorkEnd}
use Rattle.spec_rules.specs.declared.step.WorkEnd.TheVariants.{Done}
use Rattle.spec_history.specs.Examples.{line_of, makes, passes, run_of, server_ticks}
use Rattle.spec_history.specs.Play.{Move, Calls, Hands, Works}
use Rattle.test_history.specs.Acts.{Act, Moves, Stops, Boots, Shows, world_after}
use Rattle.test_history.specs.Stops.{ready_for, stops_line}

-- the operator's line that starts a server
abbrev pub starts_line : (number server : ℕ) → Line
starts_line number server = line_of number 8 (request.Start server)

-- a disk over three servers; the operator stops server 1 and starts it twice
abbrev pub comeback : Setting
comeback = run_of 3 4 (makes 1 (0 ∷ 1 ∷ 2 ∷ []) ∷ stops_line 2 1 ∷ starts_line 3 1 ∷ starts_line 4 1 ∷ [])

-- the world after these acts, from the one in which the disk was made
abbrev pub comeback_after : List Act → World
comeback_after acts = world_after comeback (ready_for comeback) acts

-- server 1 stops, and the operator calls the line that starts it
abbrev pub start_acts : List Act
start_acts = Moves (Calls 8 2 ∷ []) ∷ Stops 1 ∷ Shows 1 2 ∷ Moves (Hands 2 ∷ Calls 8 3 ∷ []) ∷ []

-- server 1 boots, or fails to
abbrev pub boot_acts : WorkEnd → List Act
boot_acts end = start_acts ++ Boots 1 end ∷ []

-- it was glanced at, and the operator has its answer, which comes after so many letters
abbrev pub seen_acts : WorkEnd → ℕ → List Act
seen_acts end letters = boot_acts end ++ Shows 1 3 ∷ Moves (Hands letters ∷ []) ∷ []

-- it runs, and the two others were told that its first incarnation stopped
abbrev pub awake_acts : List Act
awake_acts = seen_acts Done 5

-- the operator has called the line that starts it once more
abbrev pub asked_again_acts : List Act
asked_again_acts = awake_acts ++ Moves (Calls 8 4 ∷ []) ∷ []

abbrev pub seen_again_acts : List Act
seen_again_acts = asked_again_acts ++ Shows 1 4 ∷ Moves (Hands 6 ∷ []) ∷ []

-- ### The server is In again

abbrev pub join_of_1 : Command
join_of_1 = Join 1 2 false

-- what server 1 wants chosen
abbrev pub wants_of_1 : World → List Command
wants_of_1 w = wanted_by (here_of (server_state comeback w 1) 1 (w.servers 1)) (w.servers 1)

-- a tick of this server of three asks another one what follows, which is letter k, and it starts a ballot. It and the other server promise
-- and accept, and both hear and apply what is chosen. Of the letters that it sends to all, its own and that to the other one are so many after
-- the first
abbrev pub ballot_of : (server other its_own to_other k : ℕ) → List Move
ballot_of server other its_own to_other k =
    server_ticks server ∷ Works server
    ∷ passes (k + (2 + its_own)) server ++ passes (k + (2 + to_other)) other
    ++ passes (k + 4) server ++ passes (k + 5) server
    ++ passes (k + (7 + its_own)) server ++ passes (k + (7 + to_other)) other
    ++ passes (k + 9) server ++ passes (k + 10) server
    ++ passes (k + (12 + its_own)) server ++ Works server ∷ passes (k + (12 + to_other)) other ++ Works other ∷ []

-- that of server 1, with server 0
abbrev pub ballot_moves : ℕ → List Move
ballot_moves k = ballot_of 1 0 0 1 k

-- the Leave of its first incarnation is chosen, and then its Join
abbrev pub left_acts : List Act
left_acts = awake_acts ++ Moves (ballot_moves 6) ∷ []

abbrev pub joined_acts : List Act
joined_acts = left_acts ++ Moves (ballot_moves 20) ∷ []

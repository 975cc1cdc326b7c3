-- A run of two servers.
use Rattle.std.proofs.Common.{[], None}
use Rattle.test_seats.proofs.steps.a_letter_is_answered_and_ticks_are_passed_on.Given as goal

abbrev pub ghosts-answers_and_ticks : goal.ghosts-answers_and_ticks
ghosts-answers_and_ticks g a = record { script = record { servers = 2; slots = 8; lose = None; twice = None; phases = 1; lines = [] } }

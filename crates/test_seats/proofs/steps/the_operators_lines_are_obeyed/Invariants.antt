-- A run of two servers.
use Rattle.std.proofs.Common.{[], None}
use Rattle.test_seats.proofs.steps.the_operators_lines_are_obeyed.Given as goal

abbrev pub ghosts-obeys_lines : goal.ghosts-obeys_lines
ghosts-obeys_lines g a = record { script = record { servers = 2; slots = 8; lose = None; twice = None; phases = 1; lines = [] } }

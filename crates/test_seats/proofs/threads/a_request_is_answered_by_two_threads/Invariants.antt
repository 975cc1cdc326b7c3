-- A run of two servers.
use Rattle.std.proofs.Common.{[], None}
use Rattle.test_seats.proofs.threads.a_request_is_answered_by_two_threads.Given as goal

abbrev pub ghosts-answers_in_threads : goal.ghosts-answers_in_threads
ghosts-answers_in_threads g a = record { script = record { servers = 2; slots = 8; lose = None; twice = None; phases = 1; lines = [] } }

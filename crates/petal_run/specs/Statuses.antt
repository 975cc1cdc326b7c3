-- The status with which a call of the program ends.
use Rattle.std.specs.Prelude.{ℕ}

-- the run ended, and all answers were written
abbrev pub status_ended : ℕ
status_ended = 0

-- the words are no form
abbrev pub status_no_form : ℕ
status_no_form = 1

-- a line of the script is refused
abbrev pub status_refused : ℕ
status_refused = 2

-- the run was given up
abbrev pub status_gave_up : ℕ
status_gave_up = 3

abbrev pub status_source_failed : ℕ
status_source_failed = 4

abbrev pub status_sink_failed : ℕ
status_sink_failed = 5

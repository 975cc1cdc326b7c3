-- Letter by letter.
use Rattle.law_answers.proofs.LooksAreEvents.{events_of_looks}
use Rattle.law_answers.proofs.looks.the_looks_are_those_of_the_events.Goals as goal

pub returns : goal.returns
returns c = events_of_looks

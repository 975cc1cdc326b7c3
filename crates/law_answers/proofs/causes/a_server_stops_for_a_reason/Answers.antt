-- Of the step after which the server runs no more, its rule says why.
use Rattle.law_answers.proofs.Stops.{stops_for_a_reason}
use Rattle.law_answers.proofs.causes.a_server_stops_for_a_reason.Goals as goal

pub returns : goal.returns
returns c script records sound legal n low rests = stops_for_a_reason script records sound legal n low rests

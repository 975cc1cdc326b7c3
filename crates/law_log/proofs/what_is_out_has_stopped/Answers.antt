-- What is chosen for a server that is Out is its Leave.
use Rattle.law_log.proofs.LogInHistories.{chosen_leaves, first_incs, kept_incs, out_has_stopped, told_stops, who_is_in_has_begun, who_runs_is_in}
use Rattle.law_log.proofs.LogInHistories.{who_runs_is_one}
use Rattle.law_log.proofs.FirstIncarnationsStay.{unbooted}
use Rattle.law_log.proofs.what_is_out_has_stopped.Goals as goal

pub returns-clause-stopped : goal.returns-clause-stopped
returns-clause-stopped c script records n inc prefix sound legal is_prefix was out = out_has_stopped script records sound legal n inc prefix is_prefix was out

pub returns-clause-runs : goal.returns-clause-runs
returns-clause-runs c script records n prefix sound legal runs is_prefix was = who_runs_is_in script records sound legal n prefix runs is_prefix was

pub returns-clause-one : goal.returns-clause-one
returns-clause-one c script records n sound legal runs = who_runs_is_one script records sound legal n runs

pub returns-clause-begun : goal.returns-clause-begun
returns-clause-begun c script records n inc sound legal is = who_is_in_has_begun script records sound legal n inc is

pub returns-clause-leaves : goal.returns-clause-leaves
returns-clause-leaves c script records server inc sound legal i = chosen_leaves script records sound legal server inc i

pub returns-clause-downs : goal.returns-clause-downs
returns-clause-downs c script records letter server inc sound legal i is = told_stops script records sound legal letter server inc i is

pub returns-clause-first : goal.returns-clause-first
returns-clause-first c script records n sound legal = first_incs script records sound legal n

pub returns-clause-unbooted : goal.returns-clause-unbooted
returns-clause-unbooted c script records n none = unbooted script records none n

pub returns-clause-kept : goal.returns-clause-kept
returns-clause-kept c script records n sound legal = kept_incs script records sound legal n

use Rattle.law_script.proofs.ByteRuns.{flat_map-runs, runs_are_longest}
use Rattle.law_script.proofs.runs_are_the_block.Goals as goal

pub returns-clause-whole : goal.returns-clause-whole
returns-clause-whole c = flat_map-runs

pub returns-clause-longest : goal.returns-clause-longest
returns-clause-longest c = runs_are_longest

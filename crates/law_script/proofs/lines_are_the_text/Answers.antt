use Rattle.law_script.proofs.Imports.{concat-pieces}
use Rattle.law_script.proofs.FirstRefusedLine.{pieces_are, number_at}
use Rattle.law_script.proofs.lines_are_the_text.Goals as goal

pub returns-clause-whole : goal.returns-clause-whole
returns-clause-whole c = concat-pieces

pub returns-clause-each : goal.returns-clause-each
returns-clause-each c = pieces_are

pub returns-clause-numbers : goal.returns-clause-numbers
returns-clause-numbers c = number_at

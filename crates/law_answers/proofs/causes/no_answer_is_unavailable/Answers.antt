-- An answer has its cause, every server still is In where none is stopped and none stops by itself, and then no cause is that servers
-- are unavailable.
use Rattle.law_answers.proofs.Imports.{run_of}
use Rattle.law_answers.proofs.AnswersAreCaused.{never_unavailable_after}
use Rattle.law_answers.proofs.Stops.{all_in}
use Rattle.law_answers.proofs.causes.no_answer_is_unavailable.Goals as goal

pub returns : goal.returns
returns c script records sound legal lines itself number told =
    never_unavailable_after (run_of script sound records legal) (all_in script records sound legal lines itself) number told

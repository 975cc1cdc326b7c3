-- A letter that shows a server comes of the glance of its line, nothing else answers such a line, and no line is glanced at twice.
use Rattle.law_answers.proofs.GlancedOnce.{has_glance}
use Rattle.law_answers.proofs.causes.a_line_at_a_server_is_answered_by_its_glance.Goals as goal

pub returns : goal.returns
returns c script records sound rise legal line server given there named told =
    has_glance script sound rise records legal line server given there named told

use Rattle.law_printed.proofs.OneText.{lists_joined, phase_joined, text_joined}
use Rattle.law_printed.proofs.a_phase_is_printed_after_those_before.Goals as goal

pub returns-clause-answers : goal.returns-clause-answers
returns-clause-answers c script phases before since after rise phases_rise alone parts played =
    phase_joined script rise phases_rise phases before since after alone parts played

pub returns-clause-text : goal.returns-clause-text
returns-clause-text c script phases before since after rise phases_rise alone parts played =
    text_joined before since after (phase_joined script rise phases_rise phases before since after alone parts played)

pub returns-clause-lists : goal.returns-clause-lists
returns-clause-lists c = lists_joined

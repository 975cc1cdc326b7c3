use Rattle.law_printed.proofs.ClientsAnswer.{all_phases_answered, phases_answered}
use Rattle.law_printed.proofs.OneText.{history_phases, history_whole}
use Rattle.law_printed.proofs.played_phases_are_answered.Goals as goal

pub returns-clause-phases : goal.returns-clause-phases
returns-clause-phases c script phases records rise alone played = phases_answered script records alone rise phases played

pub returns-clause-all : goal.returns-clause-all
returns-clause-all c script phases records rise alone played all = all_phases_answered script records alone rise phases played all

pub returns-clause-history : goal.returns-clause-history
returns-clause-history c = history_phases

pub returns-clause-whole : goal.returns-clause-whole
returns-clause-whole c = history_whole

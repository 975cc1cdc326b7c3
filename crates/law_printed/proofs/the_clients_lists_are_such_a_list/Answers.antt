use Rattle.law_printed.proofs.ListsOfClients.{lists_alone, lists_parts, lists_played}
use Rattle.law_printed.proofs.the_clients_lists_are_such_a_list.Goals as goal

pub returns-clause-alone : goal.returns-clause-alone
returns-clause-alone c = lists_alone

pub returns-clause-played : goal.returns-clause-played
returns-clause-played c = lists_played

pub returns-clause-parts : goal.returns-clause-parts
returns-clause-parts c = lists_parts

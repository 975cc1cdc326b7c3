use Rattle.law_printed.specs.Clients.{all_records}
use Rattle.law_printed.proofs.OneText.{history_answers, lists_answers, text_same}
use Rattle.law_printed.proofs.printed_is_the_history.Goals as goal

pub returns-clause-answers : goal.returns-clause-answers
returns-clause-answers c = history_answers

pub returns-clause-text : goal.returns-clause-text
returns-clause-text c script others own history rise none alone moved =
    text_same history own (history_answers script others own history rise none alone moved)

pub returns-clause-lists : goal.returns-clause-lists
returns-clause-lists c script servers clients history rise alone own moved =
    let answers = lists_answers script servers clients history rise alone own moved in
    (answers, text_same history (all_records clients) answers)

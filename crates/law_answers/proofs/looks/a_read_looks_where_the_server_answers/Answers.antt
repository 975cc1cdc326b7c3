-- The run computes.
use Rattle.law_answers.proofs.Imports.{applies, at, does, goes_on, handles, heard, hears_log, learns, log_does, next_retired, nobody, number, on_ask, on_news}
use Rattle.law_answers.proofs.Imports.{on_pair_full, on_pax, on_propose, on_read, on_replicate, on_replicated, on_reserve, on_reserved, on_write, put, put_at}
use Rattle.law_answers.proofs.Imports.{refl, refusal, starts, step, ticked, without}
use Rattle.law_answers.proofs.looks.a_read_looks_where_the_server_answers.Goals as goal

pub returns : goal.returns
unfolding number nobody at put without put_at on_propose on_pax starts learns on_news applies on_ask goes_on on_write on_reserve on_reserved on_pair_full
    on_replicate on_replicated on_read handles hears_log does log_does heard ticked refusal next_retired step
returns c = refl

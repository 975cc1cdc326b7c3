use Rattle.std.proofs.Common.{[], ◌∷◌, rules}
use Rattle.spec_rules.specs.declared.job.Job.TheVariants as job
use Rattle.server_log.proofs.FollowUps.{then_more}
use Rattle.server_log.proofs.news.learn_one.Goals as goal

pub returns : goal.returns
returns g c =
    let learnt = c.in_ok-done.ensures.done in
    record {
      done = record {
        log = learnt.done.log;
        letters = learnt.done.letters;
        jobs = rw c.in_ok-letter.ensures
            (then_more c.in_ok-done.done.apply _ (job.Letter c.args.letter.now ∷ []) (rw c.in_ok-done.ensures.alone at learnt.done.jobs));
      };
      voter = learnt.voter;
      holds = search rules;
      moments = search rules;
      kept = tt;
      same = λ no. absurd (cc);
      only = tt;
      full = λ no. absurd (cc);
      spent = λ no. absurd (cc);
      later = learnt.later;
      failed = λ no. absurd (cc);
      run = learnt.run;
    }

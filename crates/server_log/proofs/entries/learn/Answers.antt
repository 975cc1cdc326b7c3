use Rattle.std.proofs.Common.{refl, ap, rules}
use Rattle.spec_paxos.proofs.Committed.{commits_is}
use Rattle.spec_paxos.specs.Kept.{committed, known_at}
use Rattle.spec_paxos.specs.declared.record.StateRecord.TheVariants as kind
use Rattle.spec_rules.specs.Entries.{learns}
use Rattle.server_log.specs.Part.{log_of}
use Rattle.server_log.proofs.FollowUps.{learnt_jobs}
use Rattle.server_log.proofs.Said.{one_over, refused_done}
use Rattle.server_log.proofs.entries.learn.Goals as goal

pub returns-in-Ok-clause-done : goal.returns-in-Ok-clause-done
unfolding learns
returns-in-Ok-clause-done g c =
    let old = c.args.state.now in
    let new = c.choose.new.self in
    record {
      done = record {
        log = ap (log_of c.args.log.now) (commits_is old.records new.records (kind.Chosen c.args.place c.args.command.now) c.in-Ok.ensures.ok);
        letters = search rules;
        jobs = rw c.is_next-apply.ensures (learnt_jobs (known_at old.records c.args.place) _);
      };
      voter = refl;
      holds = search rules;
      moments = c.in-Ok.ensures.any_moment;
      kept = tt;
      same = λ no. absurd (cc);
      only = tt;
      full = λ no. absurd (cc);
      spent = λ no. absurd (cc);
      later = search rules;
      failed = λ no. absurd (cc);
      run = search rules;
    }

pub returns-in-Err-clause-done : goal.returns-in-Err-clause-done
unfolding learns
returns-in-Err-clause-done g c =
    let entry = kind.Chosen c.args.place c.args.command.now in
    let refused = c.in-Err.ensures in
    refused_done g.D.Disk c.args.log.now c.args.state.now c.choose.new.self (committed c.args.state.now.records entry) c.in-Err.error _ refl
    (one_over c.args.state.now.records entry)
    _ refl refused.full refused.memory refused.failed refused.err refused.only refused.any_moment refused.later refused.run

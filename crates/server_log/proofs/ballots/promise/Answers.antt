use Rattle.std.proofs.Common.{arith, refl, if◌then◌else◌}
use Rattle.std.proofs.lemmas.Grind.{common_steps}
use Rattle.spec_paxos.specs.Acceptor.{is_open}
use Rattle.spec_paxos.specs.Kept.{committed}
use Rattle.spec_paxos.specs.declared.record.StateRecord.TheVariants as kind
use Rattle.spec_rules.specs.Log.{acceptor}
use Rattle.server_log.specs.Part.{log_of}
use Rattle.server_log.proofs.Said.{left_as, open_over, open_records, refused_done}
use Rattle.server_log.proofs.ballots.promise.Goals as goal

pub returns-in-Ok : goal.returns-in-Ok
returns-in-Ok g c =
    let old = c.args.state.now in
    let new = c.on_prepare.new.store in
    let log = log_of c.args.log.now old.records in
    let entry = kind.Promise c.args.place c.args.ballot in
    let open_now = is_open (acceptor log c.args.place) c.args.ballot in
    record {
      done = grind (arith, common_steps);
      voter = refl;
      holds = c.in-Ok.ensures.holds;
      moments = λ observed holds.
          left_as g.D.Disk old.disk new.disk old.records (if open_now then committed old.records entry else old.records) _ (open_records log open_now entry)
          (c.in-Ok.ensures.any_moment observed holds);
      kept = tt;
      same = λ no. absurd (cc);
      only = tt;
      full = λ no. absurd (cc);
      spent = λ no. absurd (cc);
      later = c.in-Ok.ensures.later;
      failed = λ no. absurd (cc);
      run = c.in-Ok.ensures.run;
    }

pub returns-in-Err : goal.returns-in-Err
returns-in-Err g c =
    let records = c.args.state.now.records in
    let log = log_of c.args.log.now records in
    let entry = kind.Promise c.args.place c.args.ballot in
    let open_now = is_open (acceptor log c.args.place) c.args.ballot in
    let refused = c.in-Err.ensures in
    refused_done g.D.Disk c.args.log.now c.args.state.now c.on_prepare.new.store (if open_now then committed records entry else records) c.in-Err.error _
    (open_records log open_now entry) (λ needs. open_over records open_now entry needs.unopposed needs.changes)
    _ refl refused.full refused.memory refused.failed refused.err refused.only refused.any_moment refused.later refused.run

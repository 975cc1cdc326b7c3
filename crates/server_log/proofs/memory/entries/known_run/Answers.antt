use Rattle.std.proofs.Common.{◌+◌, ◌-◌, ◌∷◌, [], List, length, length-append, sym, ap, ◌∙◌, arith}
use Rattle.petal_command.specs.declared.command.Command.{Command}
use Rattle.spec_paxos.specs.declared.record.StateRecord.{StateRecord}
use Rattle.spec_paxos.specs.Kept.{known_at}
use Rattle.server_log.proofs.Runs.{run_ends, run_next}
use Rattle.server_log.proofs.memory.entries.known_run.Goals as goal

pub returns-in_default-clause-run : goal.returns-in_default-clause-run
returns-in_default-clause-run g c = λ log same.
    let place = c.args.rev + 1 + c.loop-told.told in
    run_ends log c.loop-told.run _ place (c.args.most - c.loop-told.told)
    (ap (λ (rs : List StateRecord). known_at rs place) same ∙ sym c.chosen.ensures.chosen ∙ c.in_default.is) (c.loop-told.invariant.run log same)

pub loop-told-preserved : goal.loop-told-preserved
loop-told-preserved g c =
    let place = c.args.rev + 1 + c.loop-told.told in
    let more = c.in_ok-push.ensures.ok in
    record {
      run = λ log same.
          run_next log c.loop-told.run c.push.new.self _ c.in-Some.command place (c.args.rev + 1 + (c.loop-told.told + 1)) c.args.most c.loop-told.told
          (omega arith) (ap (λ (rs : List StateRecord). known_at rs place) same ∙ sym c.chosen.ensures.chosen ∙ c.in-Some.is) more (omega arith)
          (c.loop-told.invariant.run log same);
      few = omega (arith, c.loop-told.invariant.few, ap (λ (run : List Command). length run) more, length-append c.loop-told.run (c.in-Some.command ∷ []));
    }

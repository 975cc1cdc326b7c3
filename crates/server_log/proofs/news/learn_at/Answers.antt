use Rattle.std.proofs.Common.{refl, arith}
use Rattle.spec_paxos.specs.declared.record.StateRecord.TheVariants.{Chosen}
use Rattle.spec_rules.specs.Entries.{learns}
use Rattle.server_log.proofs.news.learn_at.Goals as goal

pub returns-then-place-clause-done : goal.returns-then-place-clause-done
unfolding learns
returns-then-place-clause-done g c =
    c.exhausted.ensures.done (Chosen c.args.place c.args.command.now) _ (λ body. absurd (let small = body.0 in omega (arith, small))) refl

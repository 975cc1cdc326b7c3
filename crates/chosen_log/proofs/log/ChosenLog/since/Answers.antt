use Rattle.std.proofs.Common.{◌≡◌, ◌+◌, ◌-◌, List, length, take, drop, arith, ◌∙◌, ap, sym, subst, ℕ}
use Rattle.petal_command.specs.declared.command.Command.{Command}
use Rattle.chosen_log.specs.Log.{learnt}
use Rattle.chosen_log.proofs.Runs.{same_run, rest_of}
use Rattle.chosen_log.proofs.log.ChosenLog.since.Goals as goal

pub returns : goal.returns
returns c run longest =
    let mine : c.self.inside.run.items ≡ run = same_run (λ k. learnt c.args.self.now (k + 1)) c.self.inside.run.items run
    (λ k le. c.self.invariant k le ∙ ap (λ (rows : List (ℕ × Command)). learnt rows (k + 1)) c.self.view_is) longest in
    let same : c.deref.result.now ≡ run = c.deref.ensures.value ∙ mine in
    let len : c.len.result ≡ length run = (let n = ap length mine in omega arith) in
    subst (λ (xs : List Command). take (length xs - c.min-rev.result) (drop c.min-rev.result xs) ≡ drop c.args.rev run) (sym same)
    (rest_of run c.min-rev.result c.args.rev (λ le. omega arith) (λ le. omega arith))

use Rattle.std.proofs.Common.{ℕ, Option, ap, ◌∙◌}
use Rattle.spec_rules.specs.Server.{letters_of, post_to, sender}
use Rattle.spec_rules.specs.State.{second}
use Rattle.pair_memory.specs.JobResult.{only}
use Rattle.write_pair.proofs.Moves.{waits_is}
use Rattle.write_pair.proofs.lead.stages.wait.Goals as goal

pub returns : goal.returns
returns g c =
    let here = c.args.here.now in
    let said = c.in_ok-letters.ensures ∙ ap (λ (s : Option ℕ). letters_of (sender here) 0 (post_to s c.args.body)) c.second.ensures in
    rw (← c.side.view_is)
    (waits_is here _ c.args.store.now c.args.op.now (rw (← c.side.view_is) at c.requires.tickets)
    (rw (← c.side.view_is) at c.requires.moved) c.set_stage.new.self
    (post_to (second here.state c.args.op.now.cell) c.args.body) c.only.result c.set_stage.ensures.table (c.only.ensures ∙ ap only said))

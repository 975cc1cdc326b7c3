use Rattle.std.proofs.Common.{ap, ◌∙◌, arith}
use Rattle.pair_memory.specs.Copies.{restored}
use Rattle.pair_memory.proofs.Restored.{progress_there, restored_is}
use Rattle.spec_rules.specs.Server.{Copies}
use Rattle.spec_rules.specs.State.{link_cmp}
use Rattle.petal_table.specs.Table.{at}
use Rattle.server_jobs.proofs.ballots.start_for.Goals as goal

pub restore_progress-requires : goal.restore_progress-requires
restore_progress-requires g c =
    let link = c.in-Some.link in
    let there = ap (λ (it : Copies). at link_cmp it.progress link) c.in_ok-set_progress.ensures.ok ∙ progress_there c.args.copies.now link _ in
    grind (arith, there)

pub returns-in-Err-clause-same : goal.returns-in-Err-clause-same
returns-in-Err-clause-same g c =
    let link = c.in-Some.link in
    let before = c.found_progress-before in
    c.restore_progress.ensures ∙ ap (λ (it : Copies). restored it link before.result) c.in_ok-set_progress.ensures.ok
    ∙ restored_is c.args.copies.now link _ before.result before.ensures.sorted before.ensures.value

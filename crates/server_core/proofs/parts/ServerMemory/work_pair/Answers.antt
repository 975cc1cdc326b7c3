use Rattle.std.proofs.Common.{refl}
use Rattle.server_core.specs.ServerView.{ServerView}
use Rattle.server_core.specs.Work.{IsStoreWork}
use Rattle.server_core.proofs.Pairing.{pair_refused, pair_work}
use Rattle.server_core.proofs.Steps.{of_error}
use Rattle.server_core.proofs.Works.{first_is}
use Rattle.server_core.proofs.parts.ServerMemory.work_pair.Goals as goal

pub returns : goal.returns
returns g c =
    let it = c.self.inside in
    let old : ServerView = record { running = it.running; log = it.log; side = it.side; queue = it.queue.items } in
    let new : ServerView = record { running = it.running; log = it.log; side = c.does.new.side; queue = c.go_on.new.jobs.items } in
    let job = c.in-Some.job.now in
    let asked = rw (← c.self.view_is) at c.requires.first in
    let first = first_is it.queue.items job _ asked c.in-Some.ensures.lookup in
    let done = rw (c.new-here.ensures, c.number.ensures, c.inc.ensures, c.state.ensures) at c.in_ok-done.ensures in
    rw (← c.self.view_is)
    (pair_work g.D.Disk c.args.state.now.records old new c.args.store.now c.does.new.store job first
    (rw first at asked) c.in_ok-done.done c.after-letters.result done refl refl
    c.go_on.ensures c.after-letters.ensures)

pub returns-in_err-done : goal.returns-in_err-done
returns-in_err-done g c =
    let it = c.self.inside in
    let old : ServerView = record { running = it.running; log = it.log; side = it.side; queue = it.queue.items } in
    let new : ServerView = record { running = it.running; log = it.log; side = c.does.new.side; queue = it.queue.items } in
    let job = c.in-Some.job.now in
    let asked = rw (← c.self.view_is) at c.requires.first in
    let first = first_is it.queue.items job _ asked c.in-Some.ensures.lookup in
    let done = rw (c.new-here.ensures, c.number.ensures, c.inc.ensures, c.state.ensures) at c.in_err-done.ensures in
    rw (← c.self.view_is)
    (of_error (λ result. IsStoreWork g.D.Disk c.args.state.now.records old new c.args.store.now c.does.new.store result) c.in_err-done.field-0.0
    c.from_residual.result c.from_residual.ensures
    (pair_refused g.D.Disk c.args.state.now.records old new c.args.store.now c.does.new.store job first (rw first at asked) c.in_err-done.field-0.0 done
    refl refl refl))

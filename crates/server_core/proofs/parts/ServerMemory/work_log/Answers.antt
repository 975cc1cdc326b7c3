use Rattle.std.proofs.Common.{refl}
use Rattle.kept_chains.specs.Kept.{store_of}
use Rattle.server_core.specs.ServerView.{ServerView}
use Rattle.server_core.proofs.Refused.{log_moments, refused_work}
use Rattle.server_core.proofs.Rooms.{few_records}
use Rattle.server_core.proofs.Works.{first_is, log_worked}
use Rattle.server_core.proofs.parts.ServerMemory.work_log.Goals as goal

pub returns-in-Ok : goal.returns-in-Ok
returns-in-Ok g c =
    let store = store_of c.args.store.now in
    let it = c.self.inside in
    let old : ServerView = record { running = it.running; log = it.log; side = it.side; queue = it.queue.items } in
    let new : ServerView = record { running = it.running; log = c.does_log.new.log; side = c.does_log.new.side; queue = c.enter.new.jobs.items } in
    let job = c.in-Some.job.now in
    let asked = rw (← c.self.view_is) at c.requires.first in
    let first = first_is it.queue.items job _ asked (rw c.make_room.ensures.same at c.in-Some.ensures.lookup) in
    let is = rw first at asked in
    let done = c.in-Ok.ensures.done in
    let left = c.in-Ok.ensures.left in
    record {
      work = λ observed holds few. rw (← c.self.view_is)
          (log_worked old new store c.args.state.now.records c.does_log.new.state.records job c.in-Ok.done first is done.done left refl done.voter
          (rw c.make_room.ensures.same at c.enter.ensures.jobs) few (few_records g.E.Disk c.does_log.new.state (done.holds observed holds)));
      life = rw (← c.self.view_is) (refl, done.voter);
      side = rw (← c.self.view_is) left.1;
      holds = done.holds;
      moments = rw (← c.self.view_is) (log_moments g.E.Disk store old c.args.state.now c.does_log.new.state job first is done);
      same = λ no. absurd (cc);
      spent = λ no. absurd (cc);
      kept = tt;
      full = λ no. absurd (cc);
      cause = record { later = done.later; failed = λ no. absurd (cc) };
      run = done.run;
    }

pub returns-in-Err : goal.returns-in-Err
returns-in-Err g c =
    let store = store_of c.args.store.now in
    let it = c.self.inside in
    let old : ServerView = record { running = it.running; log = it.log; side = it.side; queue = it.queue.items } in
    let new : ServerView = record { running = it.running; log = c.does_log.new.log; side = c.does_log.new.side; queue = c.make_room.new.jobs.items } in
    let job = c.in-Some.job.now in
    let asked = rw (← c.self.view_is) at c.requires.first in
    let first = first_is it.queue.items job _ asked (rw c.make_room.ensures.same at c.in-Some.ensures.lookup) in
    let refused = refused_work g.E.Disk store old new c.args.state.now c.does_log.new.state job first
    (rw first at asked) refl c.in-Err.ensures.same c.make_room.ensures.same in
    rw (← c.self.view_is) (rw c.of_state.ensures (refused c.in-Err.error c.in-Err.ensures.done))

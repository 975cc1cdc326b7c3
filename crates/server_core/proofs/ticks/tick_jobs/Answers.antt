use Rattle.kept_chains.specs.Kept.{store_of}
use Rattle.server_core.proofs.Ticking.{tick_queued}
use Rattle.server_core.proofs.ticks.tick_jobs.Goals as goal

pub returns : goal.returns
returns g c = λ records.
    tick_queued c.args.parts.now (store_of c.args.store.now) records c.in_ok-queued.queued.items c.in_ok-links.links.items c.append.new.self.items
    c.in_ok-queued.ensures c.in_ok-links.ensures c.in_ok-append.ensures.items

use Rattle.std.proofs.Common.{rules}
use Rattle.spec_rules.specs.Jobs.{handles}
use Rattle.pair_memory.specs.PairMemory.{own_of}
use Rattle.server_jobs.proofs.Ends.{said_as}
use Rattle.server_jobs.proofs.letters.copies.Goals as goal

pub returns-in-HelloAsk : goal.returns-in-HelloAsk
unfolding handles
returns-in-HelloAsk g c =
    let law = g.met.D.Disk g.world.𝓛 g.world.𝓜 g.world.𝓡 ((λ s x. x), (λ x. x), (λ x. x), λ x. x) in
    said_as g.D.Disk law.stays law.only_now c.args.here.now _ _ _ _ c.on_hello_ask.result _
    (handles c.args.here.now (own_of c.args.side.now c.args.store.now) c.args.body.now) c.on_hello_ask.ensures (search rules)

pub returns-in-SyncFull : goal.returns-in-SyncFull
unfolding handles
returns-in-SyncFull g c =
    let law = g.met.D.Disk g.world.𝓛 g.world.𝓜 g.world.𝓡 ((λ s x. x), (λ x. x), (λ x. x), λ x. x) in
    said_as g.D.Disk law.stays law.only_now c.args.here.now _ _ _ _ c.on_sync_full.result _
    (handles c.args.here.now (own_of c.args.side.now c.args.store.now) c.args.body.now) c.on_sync_full.ensures (search rules)

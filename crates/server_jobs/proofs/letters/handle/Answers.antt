use Rattle.std.proofs.Common.{rules}
use Rattle.spec_rules.specs.Jobs.{handles}
use Rattle.pair_memory.specs.PairMemory.{own_of}
use Rattle.server_jobs.proofs.Ends.{said_as}
use Rattle.server_jobs.proofs.letters.handle.Goals as goal

pub returns-in-FillFull : goal.returns-in-FillFull
unfolding handles
returns-in-FillFull g c =
    let law = g.met.D.Disk g.world.𝓛 g.world.𝓜 g.world.𝓡 ((λ s x. x), (λ x. x), (λ x. x), λ x. x) in
    said_as g.D.Disk law.stays law.only_now c.args.here.now _ _ _ _ c.on_fill_full.result _
    (handles c.args.here.now (own_of c.args.side.now c.args.store.now) c.args.letter.now.body) c.on_fill_full.ensures (search rules)

pub returns-in-Data : goal.returns-in-Data
unfolding handles
returns-in-Data g c =
    let law = g.met.D.Disk g.world.𝓛 g.world.𝓜 g.world.𝓡 ((λ s x. x), (λ x. x), (λ x. x), λ x. x) in
    said_as g.D.Disk law.stays law.only_now c.args.here.now _ _ _ _ c.silent.result _
    (handles c.args.here.now (own_of c.args.side.now c.args.store.now) c.args.letter.now.body) c.silent.ensures (search rules)

pub returns-in-Down : goal.returns-in-Down
unfolding handles
returns-in-Down g c =
    let law = g.met.D.Disk g.world.𝓛 g.world.𝓜 g.world.𝓡 ((λ s x. x), (λ x. x), (λ x. x), λ x. x) in
    said_as g.D.Disk law.stays law.only_now c.args.here.now _ _ _ _ c.silent-in-Down.result _
    (handles c.args.here.now (own_of c.args.side.now c.args.store.now) c.args.letter.now.body) c.silent-in-Down.ensures (search rules)

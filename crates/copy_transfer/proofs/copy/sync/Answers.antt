use Rattle.std.proofs.Common.{◌∙◌, Err, ap, refl}
use Rattle.std.specs.Prelude.{option_map, slice_get}
use Rattle.spec_rules.specs.Copies.{sends_entry}
use Rattle.spec_rules.specs.Progress.{with_copying}
use Rattle.spec_rules.specs.Store.{chain_in}
use Rattle.server_store.specs.Holdings.{Holdings}
use Rattle.kept_chains.specs.Kept.{chains_of}
use Rattle.kept_chains.specs.Walking.{row_of}
use Rattle.pair_memory.specs.declared.error.WorkError.TheVariants.{NoMemory}
use Rattle.pair_memory.specs.JobResult.{held}
use Rattle.pair_memory.specs.PairMemory.{own_of}
use Rattle.pair_memory.proofs.Reading.{after_read}
use Rattle.pair_memory.proofs.Said.{all_same}
use Rattle.copy_transfer.proofs.Refused.{failed_as}
use Rattle.copy_transfer.proofs.copy.sync.Goals as goal

pub returns-in-Ok : goal.returns-in-Ok
returns-in-Ok g c =
    let law = g.met.D.Disk g.world.𝓛 g.world.𝓜 g.world.𝓡 ((λ s x. x), (λ x. x), (λ x. x), λ x. x) in
    let here = c.args.here.now in
    let side = c.args.side.now in
    let old = c.args.store.now in
    let new = c.read_nth.new.store in
    let read = c.read_nth.ensures in
    let moved = with_copying (own_of side old) c.args.cell c.args.copy in
    let rule = sends_entry here moved c.args.cell c.args.copy (slice_get (chain_in (chains_of old.entries) c.args.cell) c.args.copy.index) in
    after_read g.D.Disk law.only_now here side c.send_entry.new.side old new read.same read.device read.holds read.run c.send_entry.result _ rule
    read.cause.later
    (λ observed.
    ap (λ (s : Holdings _).
    sends_entry here (with_copying (own_of side s) c.args.cell c.args.copy) c.args.cell c.args.copy (option_map row_of c.in-Ok.found)) read.same
    ∙ ap (sends_entry here moved c.args.cell c.args.copy) (c.in-Ok.ensures.entry observed))
    c.send_entry.ensures

pub returns-in-Err-Failed : goal.returns-in-Err-Failed
returns-in-Err-Failed g c =
    let law = g.met.D.Disk g.world.𝓛 g.world.𝓜 g.world.𝓡 ((λ s x. x), (λ x. x), (λ x. x), λ x. x) in
    let here = c.args.here.now in
    let side = c.args.side.now in
    let old = c.args.store.now in
    let new = c.read_nth.new.store in
    let read = c.read_nth.ensures in
    let moved = with_copying (own_of side old) c.args.cell c.args.copy in
    let rule = sends_entry here moved c.args.cell c.args.copy (slice_get (chain_in (chains_of old.entries) c.args.cell) c.args.copy.index) in
    failed_as g.D.Disk here (held side old) (held side new) rule
    (after_read g.D.Disk law.only_now here side side old new read.same read.device read.holds read.run (Err NoMemory) rule rule read.cause.later (λ _. refl)
    (all_same here side side new new rule refl refl))
    (read.cause.failed (c.in-Err-Failed.is ∙ ap Err c.in-Err-Failed.field-0-is))

pub returns-in-Err-NoMemory : goal.returns-in-Err-NoMemory
returns-in-Err-NoMemory g c =
    let law = g.met.D.Disk g.world.𝓛 g.world.𝓜 g.world.𝓡 ((λ s x. x), (λ x. x), (λ x. x), λ x. x) in
    let here = c.args.here.now in
    let side = c.args.side.now in
    let old = c.args.store.now in
    let new = c.read_nth.new.store in
    let read = c.read_nth.ensures in
    let moved = with_copying (own_of side old) c.args.cell c.args.copy in
    let rule = sends_entry here moved c.args.cell c.args.copy (slice_get (chain_in (chains_of old.entries) c.args.cell) c.args.copy.index) in
    after_read g.D.Disk law.only_now here side side old new read.same read.device read.holds read.run (Err NoMemory) rule rule read.cause.later (λ _. refl)
    (all_same here side side new new rule refl refl)

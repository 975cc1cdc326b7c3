use Rattle.std.proofs.Common.{◌∙◌, Err, nat_lt, refl, sym, ap}
use Rattle.spec_rules.specs.Copies.{has_room}
use Rattle.spec_rules.specs.Store.{free_of, marked_by}
use Rattle.kept_chains.specs.Kept.{store_of}
use Rattle.kept_chains.proofs.Kept.{stored_again}
use Rattle.server_store.specs.Holdings.{Holdings}
use Rattle.pair_memory.specs.JobResult.{held}
use Rattle.pair_memory.specs.PairMemory.{own_of}
use Rattle.pair_memory.specs.declared.error.WorkError.TheVariants.{NoMemory}
use Rattle.pair_memory.proofs.Said.{all_same}
use Rattle.pair_memory.proofs.Reading.{after_read, read_first}
use Rattle.copy_transfer.specs.Entries.{counted, entry_of, put_as}
use Rattle.copy_transfer.proofs.Entries.{counted_is, marked_as, needs_slot}
use Rattle.copy_transfer.proofs.Refused.{failed_as}
use Rattle.copy_transfer.proofs.sync.take_entry.Goals as goal

pub returns-in-Ok-true : goal.returns-in-Ok-true
returns-in-Ok-true g c =
    let here = c.args.here.now in
    let side = c.args.side.now in
    let old = c.args.store.now in
    let new = c.has_stored.new.store in
    let read = c.has_stored.ensures in
    let entry = entry_of c.args.entry.now in
    let law = g.met.D.Disk g.world.𝓛 g.world.𝓜 g.world.𝓡 ((λ s x. x), (λ x. x), (λ x. x), λ x. x) in
    after_read g.D.Disk law.only_now here side c.count_entry.new.side old new read.same read.device read.holds read.run c.count_entry.result _ _
    read.cause.later
    (λ observed.
    let there = sym (c.in-Ok-true.ensures.stored observed) ∙ c.in-Ok-true.field-0-test in
    ap (λ (s : Holdings _). counted (own_of side s) entry c.args.next c.args.holder) read.same
    ∙ counted_is (own_of side old) entry c.args.next c.args.holder there (stored_again old entry.key entry.stored there))
    c.count_entry.ensures

pub returns-in-Ok-false : goal.returns-in-Ok-false
returns-in-Ok-false g c =
    let here = c.args.here.now in
    let side = c.args.side.now in
    let old = c.args.store.now in
    let new = c.has_stored.new.store in
    let read = c.has_stored.ensures in
    let entry = entry_of c.args.entry.now in
    let law = g.met.D.Disk g.world.𝓛 g.world.𝓜 g.world.𝓡 ((λ s x. x), (λ x. x), (λ x. x), λ x. x) in
    read_first g.D.Disk law.only_now here side c.put_entry.new.side old new read.same read.device read.holds read.run law.goes_on c.put_entry.new.store
    c.put_entry.result _ _ read.cause.later
    (λ observed.
    let none = sym (c.in-Ok-false.ensures.stored observed) ∙ c.in-Ok-false.field-0-test in
    ap (λ (s : Holdings _). put_as (own_of side s) entry c.args.next c.args.holder (nat_lt 0 (free_of (store_of s)))) read.same
    ∙ needs_slot (own_of side old) entry c.args.next c.args.holder none)
    (marked_as (own_of side new) entry c.args.next c.args.holder _ ∙ ap (λ (s : Holdings _). marked_by (store_of s)) read.same)
    c.put_entry.ensures

pub returns-in-Err-Failed : goal.returns-in-Err-Failed
returns-in-Err-Failed g c =
    let here = c.args.here.now in
    let side = c.args.side.now in
    let old = c.args.store.now in
    let new = c.has_stored.new.store in
    let read = c.has_stored.ensures in
    let law = g.met.D.Disk g.world.𝓛 g.world.𝓜 g.world.𝓡 ((λ s x. x), (λ x. x), (λ x. x), λ x. x) in
    let entry = entry_of c.args.entry.now in
    let rule = put_as (own_of side old) entry c.args.next c.args.holder (has_room (store_of old) entry) in
    failed_as g.D.Disk here (held side old) (held side new) rule
    (after_read g.D.Disk law.only_now here side side old new read.same read.device read.holds read.run (Err NoMemory) rule rule read.cause.later (λ _. refl)
    (all_same here side side new new rule refl refl)) (read.cause.failed (c.in-Err-Failed.is ∙ ap Err c.in-Err-Failed.field-0-is))

pub returns : goal.returns
returns g c =
    let here = c.args.here.now in
    let side = c.args.side.now in
    let old = c.args.store.now in
    let new = c.has_stored.new.store in
    let read = c.has_stored.ensures in
    let law = g.met.D.Disk g.world.𝓛 g.world.𝓜 g.world.𝓡 ((λ s x. x), (λ x. x), (λ x. x), λ x. x) in
    let entry = entry_of c.args.entry.now in
    let rule = put_as (own_of side old) entry c.args.next c.args.holder (has_room (store_of old) entry) in
    after_read g.D.Disk law.only_now here side side old new read.same read.device read.holds read.run (Err NoMemory) rule rule read.cause.later (λ _. refl)
    (all_same here side side new new rule refl refl)

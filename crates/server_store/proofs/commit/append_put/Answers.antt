use Rattle.std.proofs.Common.{◌≡◌, ◌∙◌, ◌+◌, ◌≤◌, [], ◌∷◌, inl, length, subst, sym, ap, arith}
use Rattle.petal_disk.specs.Disk.{Torn, Follows, LeavesOnly, LeftByWrite, written}
use Rattle.petal_disk.proofs.Moments.{weaker, joined}
use Rattle.data_device.specs.declared.record.StoreRecord.{StoreRecord}
use Rattle.data_device.specs.declared.record.StoreRecord.TheVariants as kind
use Rattle.data_device.specs.Kept.{kept_of}
use Rattle.server_store.specs.Shown.{ShowsEither}
use Rattle.data_device.specs.Slots.{slot_start, slot_bytes}
use Rattle.server_store.proofs.Commits.{held-following, slot-following, keeps_after, keeps-still, shows-still, committed}
use Rattle.server_store.proofs.Commits.{shows-put, ShowsChange, on_ok}
use Rattle.server_store.proofs.Contents.{held-apart, slot-written}
use Rattle.server_store.proofs.commit.append_put.Goals as goal
use Rattle.petal_base.specs.Block.{block_bytes}

pub returns-in_err-write-clause-contents : goal.returns-in_err-write-clause-contents
returns-in_err-write-clause-contents g c observed es free =
    let slot = c.args.entry.now.slot in
    let torn : Torn (slot_start slot) block_bytes (g.D.Disk.seen c.args.disk.now) (g.D.Disk.seen c.write.new.disk) =
    rw c.requires.base at c.write.ensures.torn observed in
    held-apart es slot _ _ free torn

pub returns-in_err-write-clause-either : goal.returns-in_err-write-clause-either
returns-in_err-write-clause-either g c observed picture h fit =
    let log = c.args.log.now in
    let free = fit.0.0.1 in
    let slot = c.args.entry.now.slot in
    let torn : Torn (slot_start slot) block_bytes (g.D.Disk.seen c.args.disk.now) (g.D.Disk.seen c.write.new.disk) =
    rw c.requires.base at c.write.ensures.torn observed in
    inl (shows-still (length c.args.slots.now.used) log picture slot _ _ free torn h.logs.now h.shown)

pub returns-in_err-write-clause-any_moment : goal.returns-in_err-write-clause-any_moment
returns-in_err-write-clause-any_moment g c observed picture h fit =
    let log = c.args.log.now in
    let free = fit.0.0.1 in
    let slot = c.args.entry.now.slot in
    let moments : LeavesOnly g.D.Disk.moment g.D.Disk.left_since c.args.disk.now c.write.new.disk
    (LeftByWrite (slot_start slot) block_bytes (g.D.Disk.may_leave c.args.disk.now)) = rw c.requires.base at c.write.ensures.any_moment in
    weaker g.D.Disk.moment g.D.Disk.left_since _ _ _ _ moments
    (λ x l. inl (shows-still (length c.args.slots.now.used) log picture slot l.0 x free l.2 (h.logs.left l.0 l.1) (h.left l.0 l.1)))

pub returns-clause-contents : goal.returns-clause-contents
returns-clause-contents g c observed es free =
    let slot = c.args.entry.now.slot in
    let torn : Torn (slot_start slot) block_bytes (g.D.Disk.seen c.args.disk.now) (g.D.Disk.seen c.write.new.disk) =
    rw c.requires.base at c.write.ensures.torn observed in
    held-following es _ _ (c.append_all.ensures.outside observed) ∙ held-apart es slot _ _ free torn

pub returns-clause-content : goal.returns-clause-content
returns-clause-content g c =
    let laws = g.met.D.Disk g.world.𝓛 g.world.𝓜 g.world.𝓡 ((λ s x. x), (λ x. x), (λ x. x), λ x. x) in
    let slot = c.args.entry.now.slot in
    let x = g.D.Disk.seen c.args.disk.now in
    let y = g.D.Disk.seen c.write.new.disk in
    let block = c.args.block.now in
    on_ok c.append_all.result _ _ _ (λ records after observed.
    let fits : slot_start slot + block_bytes ≤ length x = omega (arith, laws.whole c.args.disk.now observed, c.requires.slot, c.requires.room) in
    let now : y ≡ written x (slot_start slot) block = rw c.requires.base at c.in_ok-write.ensures.written observed in
    slot-following slot _ _ (c.append_all.ensures.outside observed) ∙ ap (λ f. slot_bytes f slot) now ∙ slot-written slot x block c.write.ensures.block fits)
    c.append_all.ensures.ok c.append_all.ensures.ok

pub returns-clause-keeps : goal.returns-clause-keeps
returns-clause-keeps g c observed picture h fit =
    let laws = g.met.D.Disk g.world.𝓛 g.world.𝓜 g.world.𝓡 ((λ s x. x), (λ x. x), (λ x. x), λ x. x) in
    let n = length c.args.slots.now.used in
    let log = c.args.log.now in
    let e = c.args.entry.now in
    let slot = e.slot in
    let r : StoreRecord = kind.Put e.key e.version slot c.args.origin.now in
    let free = fit.0.0.1 in
    let x = g.D.Disk.seen c.args.disk.now in
    let y = g.D.Disk.seen c.write.new.disk in
    let block = c.args.block.now in
    let kept = kept_of log.fresh log.records in
    let torn : Torn (slot_start slot) block_bytes x y = rw c.requires.base at c.write.ensures.torn observed in
    let follows : Follows (Torn (slot_start slot) block_bytes) (g.D.Disk.may_leave c.args.disk.now) (g.D.Disk.may_leave c.write.new.disk) =
    rw c.requires.base at c.write.ensures.crash in
    let still = keeps-still n log picture slot x y _ _ free torn follows h in
    let within : slot_start slot + block_bytes ≤ length x = omega (arith, laws.whole c.args.disk.now observed, c.requires.slot, c.requires.room) in
    let now : y ≡ written x (slot_start slot) block = rw c.requires.base at c.in_ok-write.ensures.written observed in
    let content : slot_bytes y slot ≡ block = ap (λ f. slot_bytes f slot) now ∙ slot-written slot x block c.write.ensures.block within in
    let change = shows-put y kept e c.args.origin.now block content in
    let only = c.in_ok-write.ensures.durable observed in
    on_ok c.append_all.result _ _ _
    (λ records after. keeps_after n log picture (r ∷ []) block c.append_all.new.self y _ _ _ still change
    (λ d i. subst (λ f. ShowsChange f kept (r ∷ []) block) (sym (only d i)) change) (c.append_all.ensures.outside observed)
    (c.append_all.ensures.crash observed n still.logs fit) c.append_all.ensures.fresh records after)
    c.append_all.ensures.ok (c.append_all.ensures.logs observed n still.logs fit)

pub returns-clause-either : goal.returns-clause-either
returns-clause-either g c observed picture h fit =
    let laws = g.met.D.Disk g.world.𝓛 g.world.𝓜 g.world.𝓡 ((λ s x. x), (λ x. x), (λ x. x), λ x. x) in
    let n = length c.args.slots.now.used in
    let log = c.args.log.now in
    let e = c.args.entry.now in
    let slot = e.slot in
    let r : StoreRecord = kind.Put e.key e.version slot c.args.origin.now in
    let free = fit.0.0.1 in
    let x = g.D.Disk.seen c.args.disk.now in
    let y = g.D.Disk.seen c.write.new.disk in
    let block = c.args.block.now in
    let kept = kept_of log.fresh log.records in
    let torn : Torn (slot_start slot) block_bytes x y = rw c.requires.base at c.write.ensures.torn observed in
    let follows : Follows (Torn (slot_start slot) block_bytes) (g.D.Disk.may_leave c.args.disk.now) (g.D.Disk.may_leave c.write.new.disk) =
    rw c.requires.base at c.write.ensures.crash in
    let still = keeps-still n log picture slot x y _ _ free torn follows h in
    let within : slot_start slot + block_bytes ≤ length x = omega (arith, laws.whole c.args.disk.now observed, c.requires.slot, c.requires.room) in
    let now : y ≡ written x (slot_start slot) block = rw c.requires.base at c.in_ok-write.ensures.written observed in
    let content : slot_bytes y slot ≡ block = ap (λ f. slot_bytes f slot) now ∙ slot-written slot x block c.write.ensures.block within in
    committed n log picture (r ∷ []) block y _ still.shown (c.append_all.ensures.outside observed) (shows-put y kept e c.args.origin.now block content)
    (c.append_all.ensures.either observed n still.logs fit)

pub returns-clause-any_moment : goal.returns-clause-any_moment
returns-clause-any_moment g c observed picture h fit =
    let laws = g.met.D.Disk g.world.𝓛 g.world.𝓜 g.world.𝓡 ((λ s x. x), (λ x. x), (λ x. x), λ x. x) in
    let n = length c.args.slots.now.used in
    let log = c.args.log.now in
    let e = c.args.entry.now in
    let slot = e.slot in
    let r : StoreRecord = kind.Put e.key e.version slot c.args.origin.now in
    let free = fit.0.0.1 in
    let x = g.D.Disk.seen c.args.disk.now in
    let y = g.D.Disk.seen c.write.new.disk in
    let block = c.args.block.now in
    let kept = kept_of log.fresh log.records in
    let torn : Torn (slot_start slot) block_bytes x y = rw c.requires.base at c.write.ensures.torn observed in
    let follows : Follows (Torn (slot_start slot) block_bytes) (g.D.Disk.may_leave c.args.disk.now) (g.D.Disk.may_leave c.write.new.disk) =
    rw c.requires.base at c.write.ensures.crash in
    let still = keeps-still n log picture slot x y _ _ free torn follows h in
    let within : slot_start slot + block_bytes ≤ length x = omega (arith, laws.whole c.args.disk.now observed, c.requires.slot, c.requires.room) in
    let now : y ≡ written x (slot_start slot) block = rw c.requires.base at c.in_ok-write.ensures.written observed in
    let content : slot_bytes y slot ≡ block = ap (λ f. slot_bytes f slot) now ∙ slot-written slot x block c.write.ensures.block within in
    let change = shows-put y kept e c.args.origin.now block content in
    let only = c.in_ok-write.ensures.durable observed in
    let moments : LeavesOnly g.D.Disk.moment g.D.Disk.left_since c.args.disk.now c.write.new.disk
    (LeftByWrite (slot_start slot) block_bytes (g.D.Disk.may_leave c.args.disk.now)) = rw c.requires.base at c.write.ensures.any_moment in
    let first = weaker g.D.Disk.moment g.D.Disk.left_since _ _ _ (λ f. ShowsEither f n log picture (r ∷ []) block) moments
    (λ f l. inl (shows-still n log picture slot l.0 f free l.2 (h.logs.left l.0 l.1) (h.left l.0 l.1))) in
    joined g.D.Disk.moment g.D.Disk.left_since _ _ _ _ _ first (c.append_all.ensures.any_moment observed n still.logs fit)
    (λ f l. committed n log picture (r ∷ []) block l.from f (still.left l.from l.from_left) l.outside
    (subst (λ d. ShowsChange d kept (r ∷ []) block) (sym (only l.from l.from_left)) change) l.list)

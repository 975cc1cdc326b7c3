use Rattle.std.proofs.Common.{◌≡◌, ◌≢◌, ◌∙◌, ◌<◌, ◌+◌, ◌==◌, ◌&&◌, ℕ, List, true, not, [], ◌∷◌, length, Err, Ok, refl, sym, ap, subst, arith}
use Rattle.std.specs.List.{All, Contains}
use Rattle.std.specs.List.Sorted.{IsStrictlySortedBy}
use Rattle.client_rows.specs.Rows.{row_cmp}
use Rattle.client_rows.specs.declared.row.Row.{Row}
use Rattle.petal_base.specs.Limits.{marks_limit}
use Rattle.physical_map.specs.declared.entry.Entry.{Entry}
use Rattle.physical_map.specs.Entries.{key_of}
use Rattle.physical_map.specs.Keys.{placed, IsInOrder}
use Rattle.data_device.specs.Kept.{Kept, AllFit, kept_after, kept_of}
use Rattle.data_device.specs.Tickets.{without}
use Rattle.data_device.specs.declared.error.StoreError.TheVariants.{MarksFull}
use Rattle.data_device.specs.declared.record.StoreRecord.{StoreRecord}
use Rattle.data_device.specs.declared.record.StoreRecord.TheVariants as records
use Rattle.data_device.proofs.Ledgers.{length-without, of-all, times-contains}
use Rattle.data_device.proofs.Ordered.{in_order}
use Rattle.server_store.specs.Holdings.{adds_to}
use Rattle.server_store.proofs.Changes.{listed_still, put_shown}
use Rattle.server_store.proofs.Contents.{is_listed, listed-held}
use Rattle.server_store.proofs.Needed.{put_changes_listed, put_fits, room_for_row}
use Rattle.server_store.proofs.Steps.{done, failed, full_fine, idle, kept_anew, kept_as, view_of}
use Rattle.server_store.proofs.store.Store.put.Goals as goal

pub returns-then-not-has_room_for-clause-committed : goal.returns-then-not-has_room_for-clause-committed
returns-then-not-has_room_for-clause-committed g c =
    let laws = g.met.D.Disk g.world.𝓛 g.world.𝓜 g.world.𝓡 ((λ s x. x), (λ x. x), (λ x. x), λ x. x) in
    let own = c.self.inside in
    rw (c.give_back.ensures, ← c.self.view_is)
    (idle g.D.Disk own.ledger own.marks.marks own.rows.rows own.fresh own.log own.disk c.self.invariant.kept (Err MarksFull)
    (without own.ledger.tickets c.args.ticket) _ _ (laws.only_now own.disk) (laws.stays own.disk) full_fine)

pub put_row-requires : goal.put_row-requires
put_row-requires g c =
    let own = c.self.inside in
    let has : Contains own.ledger.tickets c.args.ticket = rw (← c.self.view_is) at c.requires in
    omega (arith, c.self.invariant.room, has.1)

pub returns-in-Ok-clause-put : goal.returns-in-Ok-clause-put
returns-in-Ok-clause-put g c =
    let es = c.self.inside.ledger.entries in
    let e : Entry = record { key = c.args.key; slot = c.args.ticket; version = c.args.version } in
    rw (c.settle.ensures, ← c.self.view_is) (listed-held (g.D.Disk.seen c.commit_put.new.disk) (placed key_of es e)
    ∙ ap (λ (l : List Entry). placed key_of l e) (is_listed (g.D.Disk.seen c.self.inside.disk) es))

pub returns-in-Ok-clause-content : goal.returns-in-Ok-clause-content
returns-in-Ok-clause-content g c observed =
    let own = c.self.inside in
    let es = own.ledger.entries in
    let slot = c.args.ticket in
    let e : Entry = record { key = c.args.key; slot = slot; version = c.args.version } in
    let has : Contains own.ledger.tickets slot = rw (← c.self.view_is) at c.requires in
    let apart = of-all (λ (s : ℕ). All (λ (x : Entry). x.slot ≢ s) es) own.ledger.tickets slot c.slots.ensures.apart has in
    let contents = rw c.slot.ensures at c.commit_put.ensures.contents observed es in
    let content = rw c.slot.ensures at c.in-Ok.ensures.content observed in
    rw (c.settle.ensures, ← c.self.view_is)
    (put_shown (g.D.Disk.seen own.disk) (g.D.Disk.seen c.commit_put.new.disk) es e c.args.block.now (contents apart) content)

pub returns-in-Err-clause-listed : goal.returns-in-Err-clause-listed
returns-in-Err-clause-listed g c = rw (c.give_back-in-Err.ensures, ← c.self.view_is) (listed_still _ _ c.self.inside.ledger.entries)

pub returns-in-Ok-clause-committed : goal.returns-in-Ok-clause-committed
returns-in-Ok-clause-committed g c =
    let own = c.self.inside in
    let es = own.ledger.entries in
    let slot = c.args.ticket in
    let e : Entry = record { key = c.args.key; slot = slot; version = c.args.version } in
    let has : Contains own.ledger.tickets slot = rw (← c.self.view_is) at c.requires in
    let apart = of-all (λ (s : ℕ). All (λ (x : Entry). x.slot ≢ s) es) own.ledger.tickets slot c.slots.ensures.apart has in
    let lt : slot < own.ledger.slots = of-all (λ (s : ℕ). s < own.ledger.slots) own.ledger.tickets slot c.slots.ensures.tickets has in
    let sorted : IsStrictlySortedBy row_cmp own.rows.rows =
    subst (λ (k : Kept). IsStrictlySortedBy row_cmp k.rows) c.self.invariant.kept (in_order own.log.fresh own.log.records).rows in
    let open_ : not ((length own.marks.marks + length own.rows.rows == marks_limit) && adds_to own.rows.rows c.args.key.map c.args.origin) ≡ true =
    rw (← c.self.view_is) at (sym c.has_room_for.ensures ∙ c.if-not-has_room_for.false) in
    let fits = put_fits own.ledger.slots (kept_as own.ledger own.marks.marks own.rows.rows own.fresh) c.args.key c.args.version slot c.args.origin
    sorted c.self.invariant.within
    (room_for_row (length own.marks.marks + length own.rows.rows) (adds_to own.rows.rows c.args.key.map c.args.origin) c.self.invariant.within open_)
    lt apart in
    let r : StoreRecord = records.Put c.args.key c.args.version slot c.args.origin in
    let fit : AllFit own.ledger.slots (kept_of own.log.fresh own.log.records) (r ∷ []) =
    subst (λ (k : Kept). AllFit own.ledger.slots k (r ∷ [])) (sym c.self.invariant.kept) fits in
    let order : IsInOrder key_of es = subst (λ (k : Kept). IsInOrder key_of k.entries) c.self.invariant.kept
    (in_order own.log.fresh own.log.records).entries in
    let other = put_changes_listed (g.D.Disk.seen own.disk) own.ledger own.marks.marks own.rows.rows own.fresh c.args.key c.args.version slot c.args.origin
    order apart in
    rw (c.settle.ensures, ← c.self.view_is) (done g.D.Disk own.ledger own.marks.marks own.rows.rows own.fresh own.log own.disk c.self.invariant.kept
    (r ∷ []) c.args.block.now c.commit_put.new.log c.commit_put.new.disk other c.commit_put.ensures.fresh
    (λ observed h. (rw (c.slot.ensures, c.slots.ensures.count) at c.commit_put.ensures.either observed) _ h fit)
    (λ observed h. (rw (c.slot.ensures, c.slots.ensures.count) at c.commit_put.ensures.any_moment observed) _ h fit) c.commit_put.ensures.run
    tt (record own.ledger { entries = placed key_of es e; tickets = without own.ledger.tickets slot }) own.marks.marks c.put_row.new.rows.rows own.fresh
    c.in-Ok.ensures.cause refl
    (λ observed. let contents = rw c.slot.ensures at c.commit_put.ensures.contents observed es in
    let content = rw c.slot.ensures at c.in-Ok.ensures.content observed in
    rw (c.put_row.ensures.rows, put_shown (g.D.Disk.seen own.disk) (g.D.Disk.seen c.commit_put.new.disk) es e c.args.block.now (contents apart) content) refl)
    (λ observed h. (rw (c.slot.ensures, c.slots.ensures.count) at c.in-Ok.ensures.keeps observed) _ h fit))

pub returns-in-Err-clause-committed : goal.returns-in-Err-clause-committed
returns-in-Err-clause-committed g c =
    let own = c.self.inside in
    let es = own.ledger.entries in
    let slot = c.args.ticket in
    let e : Entry = record { key = c.args.key; slot = slot; version = c.args.version } in
    let has : Contains own.ledger.tickets slot = rw (← c.self.view_is) at c.requires in
    let apart = of-all (λ (s : ℕ). All (λ (x : Entry). x.slot ≢ s) es) own.ledger.tickets slot c.slots.ensures.apart has in
    let lt : slot < own.ledger.slots = of-all (λ (s : ℕ). s < own.ledger.slots) own.ledger.tickets slot c.slots.ensures.tickets has in
    let sorted : IsStrictlySortedBy row_cmp own.rows.rows =
    subst (λ (k : Kept). IsStrictlySortedBy row_cmp k.rows) c.self.invariant.kept (in_order own.log.fresh own.log.records).rows in
    let open_ : not ((length own.marks.marks + length own.rows.rows == marks_limit) && adds_to own.rows.rows c.args.key.map c.args.origin) ≡ true =
    rw (← c.self.view_is) at (sym c.has_room_for.ensures ∙ c.if-not-has_room_for.false) in
    let fits = put_fits own.ledger.slots (kept_as own.ledger own.marks.marks own.rows.rows own.fresh) c.args.key c.args.version slot c.args.origin
    sorted c.self.invariant.within
    (room_for_row (length own.marks.marks + length own.rows.rows) (adds_to own.rows.rows c.args.key.map c.args.origin) c.self.invariant.within open_)
    lt apart in
    let r : StoreRecord = records.Put c.args.key c.args.version slot c.args.origin in
    let fit : AllFit own.ledger.slots (kept_of own.log.fresh own.log.records) (r ∷ []) =
    subst (λ (k : Kept). AllFit own.ledger.slots k (r ∷ [])) (sym c.self.invariant.kept) fits in
    let order : IsInOrder key_of es = subst (λ (k : Kept). IsInOrder key_of k.entries) c.self.invariant.kept
    (in_order own.log.fresh own.log.records).entries in
    let other = put_changes_listed (g.D.Disk.seen own.disk) own.ledger own.marks.marks own.rows.rows own.fresh c.args.key c.args.version slot c.args.origin
    order apart in
    rw (c.give_back-in-Err.ensures, ← c.self.view_is) (failed g.D.Disk own.ledger own.marks.marks own.rows.rows own.fresh own.log own.disk c.self.invariant.kept
    (r ∷ []) c.args.block.now c.commit_put.new.log c.commit_put.new.disk other c.commit_put.ensures.fresh
    (λ observed h. (rw (c.slot.ensures, c.slots.ensures.count) at c.commit_put.ensures.either observed) _ h fit)
    (λ observed h. (rw (c.slot.ensures, c.slots.ensures.count) at c.commit_put.ensures.any_moment observed) _ h fit) c.commit_put.ensures.run
    c.in-Err.error (without own.ledger.tickets slot) c.in-Err.ensures.cause)

pub invariant_of-self-in-Ok : goal.invariant_of-self-in-Ok
invariant_of-self-in-Ok g c =
    let own = c.self.inside in
    let es = own.ledger.entries in
    let slot = c.args.ticket in
    let e : Entry = record { key = c.args.key; slot = slot; version = c.args.version } in
    let has : Contains own.ledger.tickets slot = rw (← c.self.view_is) at c.requires in
    let apart = of-all (λ (s : ℕ). All (λ (x : Entry). x.slot ≢ s) es) own.ledger.tickets slot c.slots.ensures.apart has in
    let lt : slot < own.ledger.slots = of-all (λ (s : ℕ). s < own.ledger.slots) own.ledger.tickets slot c.slots.ensures.tickets has in
    let sorted : IsStrictlySortedBy row_cmp own.rows.rows =
    subst (λ (k : Kept). IsStrictlySortedBy row_cmp k.rows) c.self.invariant.kept (in_order own.log.fresh own.log.records).rows in
    let open_ : not ((length own.marks.marks + length own.rows.rows == marks_limit) && adds_to own.rows.rows c.args.key.map c.args.origin) ≡ true =
    rw (← c.self.view_is) at (sym c.has_room_for.ensures ∙ c.if-not-has_room_for.false) in
    let fits = put_fits own.ledger.slots (kept_as own.ledger own.marks.marks own.rows.rows own.fresh) c.args.key c.args.version slot c.args.origin
    sorted c.self.invariant.within
    (room_for_row (length own.marks.marks + length own.rows.rows) (adds_to own.rows.rows c.args.key.map c.args.origin) c.self.invariant.within open_)
    lt apart in
    let out = length-without slot own.ledger.tickets (times-contains own.ledger.tickets slot has) in
    let ok = rw c.slot.ensures at c.in-Ok.ensures.ok in
    rw c.settle.ensures
    (kept_anew own.ledger (record own.ledger { entries = placed key_of es e; tickets = without own.ledger.tickets slot }) own.marks own.marks
    own.rows c.put_row.new.rows own.fresh own.fresh own.log c.commit_put.new.log own.buffer _ _ _ c.self.invariant refl
    (ok ∙ ap (λ (k : Kept). kept_after k (records.Put c.args.key c.args.version slot c.args.origin)) c.self.invariant.kept
    ∙ ap (λ (rs : List Row). record { entries = placed key_of es e; marks = own.marks.marks; rows = rs; fresh = own.fresh }) (sym c.put_row.ensures.rows))
    (rw c.put_row.ensures.rows fits.0.1) (omega (arith, c.self.invariant.room, out, c.put_row.ensures.spare)) c.commit_put.ensures.size refl)

pub invariant_of-self-in-Err : goal.invariant_of-self-in-Err
invariant_of-self-in-Err g c =
    let own = c.self.inside in
    let es = own.ledger.entries in
    let slot = c.args.ticket in
    let e : Entry = record { key = c.args.key; slot = slot; version = c.args.version } in
    let has : Contains own.ledger.tickets slot = rw (← c.self.view_is) at c.requires in
    let apart = of-all (λ (s : ℕ). All (λ (x : Entry). x.slot ≢ s) es) own.ledger.tickets slot c.slots.ensures.apart has in
    let out = length-without slot own.ledger.tickets (times-contains own.ledger.tickets slot has) in
    rw c.give_back-in-Err.ensures (kept_anew own.ledger (record own.ledger { tickets = without own.ledger.tickets slot }) own.marks own.marks own.rows own.rows
    own.fresh own.fresh own.log c.commit_put.new.log own.buffer _ _ _ c.self.invariant refl (c.in-Err.ensures.err ∙ c.self.invariant.kept)
    c.self.invariant.within (omega (arith, c.self.invariant.room, out)) c.commit_put.ensures.size refl)

pub invariant_of-self : goal.invariant_of-self
invariant_of-self g c =
    let own = c.self.inside in
    let has : Contains own.ledger.tickets c.args.ticket = rw (← c.self.view_is) at c.requires in
    let out = length-without c.args.ticket own.ledger.tickets (times-contains own.ledger.tickets c.args.ticket has) in
    rw c.give_back.ensures
    (kept_anew own.ledger (record own.ledger { tickets = without own.ledger.tickets c.args.ticket }) own.marks own.marks own.rows own.rows
    own.fresh own.fresh own.log own.log own.buffer own.buffer _ _ c.self.invariant refl c.self.invariant.kept
    c.self.invariant.within (omega (arith, c.self.invariant.room, out)) refl refl)

use Rattle.std.proofs.Common.{List, ℕ}
use Rattle.petal_disk.specs.Mixes.{LeftOf}
use Rattle.petal_disk.specs.Padded.{padded}
use Rattle.petal_disk.proofs.Padding.{within_padded}
use Rattle.petal_disk.proofs.Synced.{left_now}
use Rattle.petal_disk.specs.declared.memory_disk.MemDisk.{MemDisk}
use denote.Exit.{yes}
use denote.Param.Send.{arg_send, param_send}
use Rattle.disk_moments.proofs.remembering.Remembering.TheSendSync.{the_send}
use Rattle.disk_moments.proofs.Pasts.{was_left, on_ok}
use Rattle.disk_moments.proofs.journal_use.append_body.Goals as goal

pub returns-clause-past : goal.returns-clause-past
returns-clause-past c bodies stored =
    let old = c.args.disk.now in
    let new = c.append.new.disk in
    on_ok c.append.result _ _
    (λ appended. was_left (λ (d : MemDisk) (f : List ℕ). LeftOf (padded d.now.items d.len) d.low d.before.items f) old.past.items new.past.items
    old.disk new.disk 8 c.args.journal.now c.append.new.self _ _ bodies c.args.body.now c.append.ensures.place.0 c.append.ensures.place.1
    (left_now _ old.disk.low old.disk.before.items (within_padded old.disk.now.items old.disk.len _ old.disk.within old.disk.range_within))
    c.append.ensures.run stored
    (appended tt bodies stored))
    c.append.ensures.appended

pub append-requires-send-D : goal.append-requires-send-D
append-requires-send-D c κs = param_send 1 _ (arg_send _ yes _ the_send)

use Rattle.std.proofs.Common.{List, ℕ, Result, IfOk, sym, subst, rules}
use Rattle.std.proofs.lemmas.Result.{IfOk-weaker}
use Rattle.petal_disk.specs.Disk.{Only}
use Rattle.petal_disk.proofs.Keeping.{keeps_on}
use Rattle.state_store.specs.Device.{StandsFor}
use Rattle.state_store.proofs.device.read_device.Goals as goal

if_ok_then : {X Y : Type 0} {P Q : X → Type 0} (r : Result X Y) → IfOk r P → ((x : X) → P x → Q x) → IfOk r Q
if_ok_then r holds serves = IfOk-weaker r _ _ serves holds

pub returns-clause-holds : goal.returns-clause-holds
returns-clause-holds g c records =
    let d = g.D.Disk in
    let only : d.observable → Only (d.seen c.has_header.new.disk) (d.may_leave c.has_header.new.disk) = search rules in
    if_ok_then c.read_journal.result (c.read_journal.ensures.holds records) (λ o holds observed stands.
    holds observed (only observed) (subst (λ (file : List ℕ). StandsFor file records) (sym c.has_header.ensures.device.same_seen) stands))

pub returns-clause-device : goal.returns-clause-device
returns-clause-device g c =
    let d = g.D.Disk in
    keeps_on d.size d.seen d.may_leave d.moment d.left_since _ _ _ c.has_header.ensures.device c.read_journal.ensures.device

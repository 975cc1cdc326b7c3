-- Both stores are those that the devices show, and tell how the job ended.
use Rattle.std.proofs.Common.{◌==◌, ◌∙◌}
use Rattle.memory_server.proofs.Recovering.{Opens, alike, ended, once_found, records_are, records_hold, store_holds, store_is, told_as}
use Rattle.memory_server.proofs.recovery.reopen.Goals as goal

pub returns-in-Ok-clause-ends : goal.returns-in-Ok-clause-ends
returns-in-Ok-clause-ends g c was recorded will observed kept stored states counted once =
    let found = c.in_ok-same.ensures in
    let store = c.reopen_store.new.store in
    let opens : Opens g.D.Disk store = λ slots fresh records picture shows. found.same slots fresh records picture observed shows in
    let left = found.left observed in
    let state = c.reopen_state.new.state in
    let again = c.in-Ok.ensures in
    let records = records_are g.D.Disk state recorded will.records (λ records shows. again.same records observed shows) (states _ (again.left observed)) in
    let holds = records_hold g.D.Disk state recorded will.records (λ records shows. again.holds records observed shows) (states _ (again.left observed)) in
    ended _ _ _ will _ state.records c.end_by.result c.in_ok-same.same (c.records.result == c.args.before) c.end_by.ensures
    (told_as _ _ _ _ found.observed kept) (alike c.records.result c.args.before _ _ (c.records.ensures ∙ holds.count) counted)
    (once_found g.D.Disk c.args.store.now.disk store was recorded will opens found.no_tickets left once)
    (store_is g.D.Disk store was will.store opens found.no_tickets (stored _ left))
    records

pub returns-in-Ok-clause-holds : goal.returns-in-Ok-clause-holds
returns-in-Ok-clause-holds g c was will observed stored =
    let found = c.in_ok-same.ensures in
    store_holds g.D.Disk c.reopen_store.new.store was will.store (λ slots fresh records picture shows. found.same slots fresh records picture observed shows)
    (stored _ (found.left observed))

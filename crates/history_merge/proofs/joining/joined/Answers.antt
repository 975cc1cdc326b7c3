-- The actors' own records that are joined are a legal history.
use Rattle.history_merge.proofs.OneMore.{all_taken}
use Rattle.history_merge.proofs.joining.joined.Goals as goal

pub returns-clause-joined : goal.returns-clause-joined
returns-clause-joined c = λ yes own.
    all_taken c.args.script.now c.args.records.now c.loop-place.place c.loop-place.front c.loop-place-test.false c.loop-place.invariant own

pub returns-clause-legal : goal.returns-clause-legal
returns-clause-legal c = λ yes own.
    c.one_run_is_legal.ensures c.args.script.now c.args.records.now
    (record { servers = own.servers; clients = own.clients; planned = own.planned; joined = returns-clause-joined c yes own })

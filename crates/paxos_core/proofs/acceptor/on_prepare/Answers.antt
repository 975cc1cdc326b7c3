use Rattle.std.proofs.Common.{◌≡◌, true, false, refl, sym, ◌∙◌}
use Rattle.spec_paxos.proofs.Committed.{commits_is}
use Rattle.spec_paxos.specs.declared.record.StateRecord.TheVariants as kind
use Rattle.spec_paxos.specs.Acceptor.{is_open}
use Rattle.spec_paxos.specs.Kept.{acceptor_of}
use Rattle.paxos_core.proofs.Kept.{closed, opened, same_rows, when_open, when_shut, promised_rows}
use Rattle.paxos_core.proofs.acceptor.on_prepare.Goals as goal

pub returns-in-Some-clause-kept : goal.returns-in-Some-clause-kept
returns-in-Some-clause-kept g c p =
    let shut : is_open (acceptor_of c.args.store.now.records c.args.place) c.args.ballot ≡ false =
    closed _ _ c.in-Some.promised (sym c.higher.ensures ∙ c.in-Some.is) in
    rw shut (same_rows c.args.store.now.records c.args.place p)

pub returns-clause-kept : goal.returns-clause-kept
returns-clause-kept g c p =
    let free : is_open (acceptor_of c.args.store.now.records c.args.place) c.args.ballot ≡ true =
    opened (acceptor_of c.args.store.now.records c.args.place) c.args.ballot (sym c.higher.ensures ∙ c.in_default.is) in
    rw free (promised_rows c.args.store.now.records c.promise.new.self.records c.args.place c.args.ballot c.in_ok-promise.ensures.ok free p)

pub returns-in-Some-clause-records : goal.returns-in-Some-clause-records
returns-in-Some-clause-records g c =
    let shut : is_open (acceptor_of c.args.store.now.records c.args.place) c.args.ballot ≡ false =
    closed _ _ c.in-Some.promised (sym c.higher.ensures ∙ c.in-Some.is) in
    when_shut _ _ _ _ shut refl

pub returns-clause-records : goal.returns-clause-records
returns-clause-records g c =
    let free : is_open (acceptor_of c.args.store.now.records c.args.place) c.args.ballot ≡ true =
    opened (acceptor_of c.args.store.now.records c.args.place) c.args.ballot (sym c.higher.ensures ∙ c.in_default.is) in
    when_open _ _ _ _ free (commits_is c.args.store.now.records c.promise.new.self.records (kind.Promise c.args.place c.args.ballot) c.in_ok-promise.ensures.ok)

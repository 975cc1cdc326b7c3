-- What the record leaves is the front after it.
use Rattle.std.proofs.Common.{sym, subst}
use Rattle.std.specs.Prelude.{take}
use Rattle.history_merge.specs.Fronts.{IsAdmitted, IsSoFar}
use Rattle.history_merge.proofs.Firsts.{at_place}
use Rattle.history_merge.proofs.OneMore.{goes_on, has_order}
use Rattle.history_merge.proofs.joining.takes.Goals as goal

pub follow-requires : goal.follow-requires
follow-requires c =
    let own = c.index-records-place.result in
    let at = at_place c.args.records.now c.args.place own c.requires c.index-records-place.is in
    has_order own.actor c.args.front.now c.args.servers own (c.admits.ensures c.if-not-admits.false own at).turn

pub returns : goal.returns
returns c = λ yes script ordered is so_far.
    let own = c.index-records-place.result in
    let at = at_place c.args.records.now c.args.place own c.requires c.index-records-place.is in
    let admitted : IsAdmitted c.args.front.now script.servers (take c.args.place c.args.records.now) own =
    subst (λ n. IsAdmitted c.args.front.now n (take c.args.place c.args.records.now) own) (sym is) (c.admits.ensures c.if-not-admits.false own at) in
    subst (IsSoFar script c.args.records.now _) (sym c.follow.ensures)
    (goes_on script c.args.records.now c.args.place own c.args.front.now ordered at admitted so_far)

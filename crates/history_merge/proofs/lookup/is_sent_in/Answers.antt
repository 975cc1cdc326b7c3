-- The letter that was found stands in a record before the place.
use Rattle.std.proofs.Common.{◌≡◌, Some, ◌<◌, rules}
use Rattle.std.specs.Prelude.{slice_get}
use Rattle.history_merge.proofs.Senders.{sent_in}
use Rattle.history_merge.proofs.lookup.is_sent_in.Goals as goal

pub returns-in-Some : goal.returns-in-Some
returns-in-Some c = λ is.
    let less : c.place_of-place.result < c.args.first = search rules in
    let at : slice_get c.args.records.now c.place_of-place.result ≡ Some c.in-Some.own.now = search rules in
    let there : slice_get c.in-Some.own.now.sent c.args.letter.now.nth ≡ Some c.args.letter.now = search rules in
    sent_in c.args.records.now c.args.first c.place_of-place.result c.in-Some.own.now c.args.letter.now less at there

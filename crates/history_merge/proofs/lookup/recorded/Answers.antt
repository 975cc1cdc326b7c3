-- The record at the sender's place is the sender's, or there is none.
use Rattle.std.proofs.Common.{◌≡◌, Some, None, true, false, sym, ◌∙◌, rules}
use Rattle.std.specs.Prelude.{slice_get}
use Rattle.history_merge.specs.Recorded.{is_sender}
use Rattle.history_merge.proofs.Senders.{found, missing, other}
use Rattle.history_merge.proofs.lookup.recorded.Goals as goal

pub returns-in_default : goal.returns-in_default
returns-in_default c =
    let none : slice_get c.args.records.now c.place_of.result ≡ None = search rules in
    sym (missing c.args.records.now c.args.letter.now c.requires c.place_of.result (c.place_of.ensures c.requires) none)

pub returns-then-not-is_eq : goal.returns-then-not-is_eq
returns-then-not-is_eq c =
    let at : slice_get c.args.records.now c.place_of.result ≡ Some c.in-Some.own.now = search rules in
    let so : is_sender c.args.letter.now c.in-Some.own.now ≡ false = search rules in
    sym (other c.args.records.now c.args.letter.now c.requires c.place_of.result (c.place_of.ensures c.requires) c.in-Some.own.now at so)

pub returns : goal.returns
returns c =
    let at : slice_get c.args.records.now c.place_of.result ≡ Some c.in-Some.own.now = search rules in
    let so : is_sender c.args.letter.now c.in-Some.own.now ≡ true = search rules in
    c.letter_in.ensures ∙ found c.args.records.now c.args.letter.now c.requires c.place_of.result (c.place_of.ensures c.requires) c.in-Some.own.now at so

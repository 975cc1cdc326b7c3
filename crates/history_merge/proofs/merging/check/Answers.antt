-- The letter that comes in the record is the one that was looked up.
use Rattle.std.proofs.Common.{◌≡◌, ◌≢◌, Some, ◌∙◌, rules}
use Rattle.std.specs.Prelude.{option_copied}
use Rattle.spec_rules.specs.World.{letter_in}
use Rattle.history_merge.specs.Recorded.{recorded_as}
use Rattle.history_merge.specs.declared.error.MergeError.TheVariants as error
use Rattle.history_merge.proofs.Mismatching.{as_sent, otherwise}
use Rattle.history_merge.proofs.merging.check.Goals as goal

pub returns-then-is_it-clause-ok : goal.returns-then-is_it-clause-ok
returns-then-is_it-clause-ok c =
    let comes : letter_in c.args.own.now.step ≡ Some c.in-Some.letter.now = search rules in
    let has : recorded_as c.args.records.now c.in-Some.letter.now ≡ option_copied c.recorded-sent.result = search rules in
    let is : option_copied c.recorded-sent.result ≡ Some c.in-Some.letter.now = search rules in
    as_sent c.args.records.now c.args.own.now c.in-Some.letter.now comes (has ∙ is)

pub returns-clause-mismatch : goal.returns-clause-mismatch
returns-clause-mismatch c one other is =
    let comes : letter_in c.args.own.now.step ≡ Some c.in-Some.letter.now = search rules in
    let has : recorded_as c.args.records.now c.in-Some.letter.now ≡ option_copied c.recorded-sent.result = search rules in
    let differs : option_copied c.recorded-sent.result ≢ Some c.in-Some.letter.now = search rules in
    let told = c.mismatch.ensures one other (let e : c.mismatch.result ≡ error.Mismatch one other = cc in e) in
    otherwise c.args.records.now c.args.own.now c.in-Some.letter.now one (option_copied c.recorded-sent.result) other comes has differs told.0 told.1

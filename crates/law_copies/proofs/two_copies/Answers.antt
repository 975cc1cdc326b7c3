-- The copies at the front that is the whole chosen log.
use Rattle.law_copies.proofs.TwoCopyRules.{copies_after}
use Rattle.law_copies.proofs.two_copies.Goals as goal

pub returns : goal.returns
returns c script records sound legal = copies_after script records sound legal

-- The copies at the front that is the whole chosen log.
use Rattle.law_copies.proofs.TwoCopyRules.{covered_after}
use Rattle.law_copies.proofs.an_unequal_block_is_marked.Goals as goal

pub returns : goal.returns
returns c script records sound legal = covered_after script records sound legal

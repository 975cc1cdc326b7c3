-- By induction on what the whole has more.
use Rattle.law_state.proofs.CaughtsMadeBoth.{log_alone, log_both, log_both_place, log_lost}
use Rattle.law_state.proofs.a_link_is_in_both_again_by_its_caught.Goals as goal

-- the first entry that puts the link in Both after another row is its Caught
pub returns-clause-caught : goal.returns-clause-caught
returns-clause-caught c = log_both

-- what first touches it is the Caught of its holder, or the Join by which the holder has an empty store
pub returns-clause-alone : goal.returns-clause-alone
returns-clause-alone c = log_alone

-- an entry that touches it takes one of its two servers Out, or finds the link held alone
pub returns-clause-both : goal.returns-clause-both
returns-clause-both c = log_both_place

-- an entry that touches a link leaves one that is Lost as it is
pub returns-clause-lost : goal.returns-clause-lost
returns-clause-lost c = log_lost

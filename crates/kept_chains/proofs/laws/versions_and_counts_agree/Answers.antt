use Rattle.server_store.specs.Holdings.{key_held}
use Rattle.kept_chains.specs.Kept.{stored_of}
use Rattle.kept_chains.proofs.InOrder.{count_is}
use Rattle.kept_chains.proofs.Kept.{version_is, top_of_is}
use Rattle.kept_chains.proofs.laws.versions_and_counts_agree.Goals as goal

pub returns-clause-cell : goal.returns-clause-cell
returns-clause-cell c entries cell order = version_is entries cell order

pub returns-clause-all : goal.returns-clause-all
returns-clause-all c entries order = top_of_is entries order

pub returns-clause-count : goal.returns-clause-count
returns-clause-count c entries order = count_is key_held stored_of entries order

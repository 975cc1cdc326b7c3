use Rattle.kept_chains.proofs.Kept.{placed_is}
use Rattle.kept_chains.proofs.laws.a_put_is_an_entry_more.Goals as goal

pub returns : goal.returns
returns c entries held = placed_is entries held

use Rattle.kept_chains.proofs.Kept.{content_is}
use Rattle.kept_chains.proofs.laws.a_read_finds_the_chains_entry.Goals as goal

pub returns : goal.returns
returns c entries key order = content_is entries key order

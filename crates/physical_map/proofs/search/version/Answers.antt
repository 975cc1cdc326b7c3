use Rattle.std.proofs.Common.{◌∙◌, ap}
use Rattle.physical_map.specs.Entries.{top_of}
use Rattle.physical_map.proofs.Searches.{top-chain}
use Rattle.physical_map.proofs.search.version.Goals as goal

pub returns : goal.returns
returns c = c.top.ensures ∙ ap top_of c.chain.ensures ∙ top-chain c.args.cell.now c.args.entries.now

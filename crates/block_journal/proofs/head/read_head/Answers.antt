use Rattle.block_journal.proofs.Heads.{generation_read}
use Rattle.block_journal.proofs.head.read_head.Goals as goal

pub returns-clause-generation : goal.returns-clause-generation
returns-clause-generation g c observed =
    generation_read c.generation_of.result c.args.at _ c.read.new.into (c.in_ok-read.ensures.bytes observed) c.generation_of.ensures.found
    c.generation_of.ensures.only

use Rattle.std.proofs.Common.{sym, ◌∙◌, arith}
use Rattle.link_blocks.proofs.Others.{other_numbered}
use Rattle.link_blocks.proofs.caught.caught_of.Goals as goal

pub new-requires : goal.new-requires
new-requires g c =
    (omega arith, other_numbered c.args.here.now.state c.args.here.now.me c.args.row.now c.in-Some.other c.requires (sym c.other_in.ensures ∙ c.in-Some.is))

use Rattle.std.proofs.Common.{rules}
use Rattle.global_tables.specs.declared.link.LinkState.TheVariants.{Both}
use Rattle.link_blocks.proofs.caught.caught_links.Goals as goal

pub caught_of-found-requires : goal.caught_of-found-requires
caught_of-found-requires g c =
    let numbered =
    c.links-row-items.ensures.numbered c.loop-row.row-index (record { map = 0; link = 0; primary = 0; secondary = 0; state = Both }) c.loop-row-test.true in
    search rules

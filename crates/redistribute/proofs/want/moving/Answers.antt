use Rattle.std.proofs.Common.{rules}
use Rattle.global_tables.specs.declared.link.LinkState.TheVariants.{Both}
use Rattle.redistribute.proofs.want.moving.Goals as goal

pub moved_of-found-requires : goal.moved_of-found-requires
moved_of-found-requires g c =
    let numbered =
    c.links-row-items.ensures.numbered c.loop-row.row-index (record { map = 0; link = 0; primary = 0; secondary = 0; state = Both }) c.loop-row-test.true in
    search rules

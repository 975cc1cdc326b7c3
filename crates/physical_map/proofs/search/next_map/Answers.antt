use Rattle.std.proofs.Common.{sym}
use Rattle.physical_map.specs.declared.entry.Entry.{Entry}
use Rattle.physical_map.proofs.Nexts.{next-map_at, next-map_none}
use Rattle.physical_map.proofs.search.next_map.Goals as goal

abbrev first : Entry
first = record { key = record { map = 0; block = 0; epoch = 0 }; slot = 0; version = 0 }

pub returns-then-at-entries : goal.returns-then-at-entries
returns-then-at-entries c =
    sym (next-map_at c.args.after c.args.entries.now first c.rank_of_map-at.result c.requires c.rank_of_map-at.ensures.rank c.if-at-entries.true)

pub returns-else-at-entries : goal.returns-else-at-entries
returns-else-at-entries c =
    sym (next-map_none c.args.after c.args.entries.now c.rank_of_map-at.result c.requires c.rank_of_map-at.ensures.rank c.if-at-entries.false)

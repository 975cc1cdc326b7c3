-- The numbers in the row of a link.
use Rattle.std.specs.Prelude.{◌<◌}
use Rattle.global_tables.specs.declared.link.LinkRow.{LinkRow}

-- a command can name the link and its two servers
abbrev pub IsNumbered : LinkRow → Type 0
IsNumbered row = (row.link < 8) × (row.primary < 8) × (row.secondary < 8)

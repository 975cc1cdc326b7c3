-- What a copy leaves that ends.
use Rattle.std.specs.Prelude.{ℕ, if◌then◌else◌, Option, None, Some, unwrap_or}
use Rattle.busy_marks.specs.Marks.{above}
use Rattle.global_tables.specs.declared.link.LinkRow.{LinkRow}
use Rattle.petal_table.specs.Table.{at}
use Rattle.petal_msg.specs.declared.copying.Progress.{Progress}
use Rattle.spec_rules.specs.Progress.{no_progress}
use Rattle.spec_rules.specs.Server.{Copies}
use Rattle.spec_rules.specs.State.{id_of, link_cmp}
use Rattle.pair_memory.specs.Copies.{with_progress}

-- the greatest block that was copied of the link, with this one
abbrev pub copied_in : Option LinkRow → Copies → ℕ → Copies
copied_in None copies block = copies
copied_in (Some row) copies block =
    let before : Progress = unwrap_or (at link_cmp copies.progress (id_of row)) no_progress in
    if above before.copied block then with_progress copies (id_of row) (record before { copied = Some block }) else copies

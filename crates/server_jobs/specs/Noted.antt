-- That a ballot was started for a link's Caught, as it is noted of the link.
use Rattle.std.specs.Prelude.{true, unwrap_or, Option, None, Some}
use Rattle.global_tables.specs.declared.link.LinkRow.{LinkRow}
use Rattle.pair_memory.specs.Copies.{with_progress}
use Rattle.petal_command.specs.declared.command.Command.{Command}
use Rattle.petal_command.specs.declared.command.Command.TheVariants.{Caught}
use Rattle.petal_msg.specs.declared.copying.LinkId.{LinkId}
use Rattle.petal_msg.specs.declared.copying.Progress.{Progress}
use Rattle.spec_rules.specs.Progress.{no_progress}
use Rattle.spec_rules.specs.Server.{Copies}
use Rattle.spec_rules.specs.State.{State, link_cmp, link_named}
use Rattle.petal_table.specs.Table.{at}

-- the link whose Caught it is
abbrev pub row_caught : State → Command → Option LinkRow
row_caught state (Caught of link holder holder_inc other other_inc) = link_named state (record { map = of; link = link })
row_caught state _ = None

abbrev pub found_caught : State → Option Command → Option LinkRow
found_caught state None = None
found_caught state (Some command) = row_caught state command

abbrev pub noted : Copies → Option LinkId → Copies
noted copies None = copies
noted copies (Some id) =
    let before : Progress = unwrap_or (at link_cmp copies.progress id) no_progress in
    with_progress copies id (record before { caught = true })

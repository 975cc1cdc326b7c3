-- The names that this crate takes from others, in one place.
pub use Rattle.global_tables.specs.Disk.{disk_at, named, snapshot_named}
pub use Rattle.global_tables.specs.Link.{has_server, link_at, other_of, row_blanked, row_left}
pub use Rattle.global_tables.specs.Map.{disk_of, tuple_of}
pub use Rattle.global_tables.specs.Region.{region_of}
pub use Rattle.global_tables.specs.View.{head, last_inc}
pub use Rattle.global_tables.specs.declared.disk.DiskRow.{DiskRow}
pub use Rattle.global_tables.specs.declared.disk.Move.{Move}
pub use Rattle.global_tables.specs.declared.disk.RegionState.{RegionState}
pub use Rattle.global_tables.specs.declared.disk.RegionState.TheVariants.{Fenced, New, Old}
pub use Rattle.global_tables.specs.declared.disk.Snapshot.{Snapshot}
pub use Rattle.global_tables.specs.declared.fence.Fence.{Fence}
pub use Rattle.global_tables.specs.declared.fence.FenceKind.TheVariants.{Region, Whole}
pub use Rattle.global_tables.specs.declared.fence.Member.{Member}
pub use Rattle.global_tables.specs.declared.link.LinkRow.{LinkRow}
pub use Rattle.global_tables.specs.declared.link.LinkState.{LinkState}
pub use Rattle.global_tables.specs.declared.link.LinkState.TheVariants.{Both, Lost, Only}
pub use Rattle.global_tables.specs.declared.map.MapRow.{MapRow}
pub use Rattle.petal_base.specs.Tuple.{is_tuple}
pub use Rattle.petal_base.specs.declared.cell.Cell.{Cell}
pub use Rattle.petal_command.specs.declared.command.Command.{Command}
pub use Rattle.petal_command.specs.declared.command.Command.TheVariants.{Caught, Drained, Join, Leave, MakeDisk, Moved, Snap, StartMove}
pub use Rattle.petal_msg.specs.declared.copying.LinkId.{LinkId}
pub use Rattle.petal_msg.specs.declared.copying.Progress.{Progress}
unfoldable pub use Rattle.petal_table.specs.Table.{at}
pub use Rattle.spec_history.specs.Claims.{IsPrefix}
pub use Rattle.spec_history.specs.declared.record.Record.{Record}
pub use Rattle.spec_rules.specs.Blanked.{blank_joins_from}
pub use Rattle.spec_rules.specs.Draining.{awaits}
unfoldable pub use Rattle.spec_rules.specs.Lists.{In}
pub use Rattle.spec_rules.specs.Server.{PairState, Server}
pub use Rattle.spec_rules.specs.State.{State, find, held, is_in, is_lead, leads_link, link_cmp, servers_of, snapshot}
pub use Rattle.spec_rules.specs.World.{Setting, World, chosen_log, chosen_state}
pub use Rattle.spec_rules.specs.Writes.{is_writes_held}
pub use Rattle.spec_state.specs.CellState.{cell_asked, cell_link, coming, has_map, leaving, live, move_region, owner, serves, source, target}
pub use Rattle.spec_state.specs.Command.{after, may_join, state_after}
pub use Rattle.spec_state.specs.Place.{places_from}
pub use Rattle.spec_state.specs.State.{inc_of, is_up, is_up_as, leaves, start}
pub use Rattle.spec_state.specs.declared.answer.DiskView.{DiskView}
pub use Rattle.spec_state.specs.declared.answer.Hold.{Hold}

-- The names that this crate takes from others, in one place.
pub use Rattle.law_state.specs.Imports.{Both, Caught, Cell, Command, DiskRow, DiskView, Drained, Fence, Fenced, Hold, IsPrefix, Join, Leave, LinkRow}
pub use Rattle.law_state.specs.Imports.{LinkState, Lost, MakeDisk, MapRow, Member, Move, Moved, New, Old, Only, Record, Region, RegionState, Snap, Snapshot}
pub use Rattle.law_state.specs.Imports.{StartMove, State, Whole, after, awaits, blank_joins_from, cell_asked, cell_link, coming, disk_at, disk_of, has_map}
pub use Rattle.law_state.specs.Imports.{has_server, head, held, inc_of, is_lead, is_tuple, is_up, is_up_as, is_writes_held, last_inc, leads_link, leaves}
pub use Rattle.law_state.specs.Imports.{leaving, link_at, live, may_join, move_region, named, other_of, owner, places_from, region_of, row_left, serves}
pub use Rattle.law_state.specs.Imports.{snapshot, snapshot_named, source, start, state_after, target, tuple_of}
unfoldable pub use Rattle.law_state.specs.Imports.{In}
pub use Rattle.std.proofs.Common.{[], ◌&&◌, ◌*◌, ◌++◌, ◌+◌, ◌<◌, ◌==◌, ◌∙◌, ◌∷◌, ◌≡◌, ◌≢◌, ◌≤◌, ◌⊎◌, Bool, Err, List, None, Ok, Option, Result, Some, ap}
pub use Rattle.std.proofs.Common.{append_assoc, arith, cond, false, inl, inr, is_some, length, length-append, not, refl, subst, suc, sym, true, zero, ℕ}
pub use Rattle.std.proofs.Math.Nat.{mod-eq_of_lt, mod_self}
pub use Rattle.std.proofs.lemmas.Bool.Decides.{Decides-eqb, nat_tests}
pub use Rattle.std.proofs.lemmas.Grind.{fold-append}
pub use Rattle.std.proofs.lemmas.List.{append-nil, length-replicate, length-set, map-id}
pub use Rattle.std.proofs.lemmas.Map.Views.{any-filter_same}
pub use Rattle.std.proofs.lemmas.Option.{slice_get-map, slice_get_past, slice_get_within}
pub use Rattle.std.specs.Cmp.Lexicographic.{pointwise}
pub use Rattle.std.specs.List.{list_all, list_any, range_with_len}
pub use Rattle.std.specs.Option.{option_map_or}
pub use Rattle.std.specs.Prelude.{if◌then◌else◌, ◌%◌, ◌||◌, drop, filter, find, fold, map, nat_eq, nat_le, nat_lt, option_and_then, option_map, replicate}
pub use Rattle.std.specs.Prelude.{slice_get, slice_index, slice_set, unwrap_or}
pub use Rattle.global_tables.specs.Disk.{all_noted, change, completes, fenced, frozen, has_link, is_disk, move_done, move_fenced, noted, option_moved}
pub use Rattle.global_tables.specs.Disk.{row_fenced, row_frozen, row_moving, row_noted, same_name, with_link}
pub use Rattle.global_tables.specs.Link.{blanked_state, dropped, is_link, left_state, new_row, new_rows, new_state, row_between, row_caught}
pub use Rattle.global_tables.specs.Link.{is_up as stands_up}
pub use Rattle.global_tables.specs.Map.{added}
pub use Rattle.global_tables.specs.Region.{link_of}
pub use Rattle.global_tables.specs.View.{View, awaiting, first_waiting, following, inc_in, is_in, out_of, passed, queued, ready, reported, servers_in}
pub use Rattle.global_tables.specs.View.{stands_in}
pub use Rattle.global_tables.specs.declared.disk.Latest.{Latest}
pub use Rattle.global_tables.specs.declared.disk.Verdict.{Verdict}
pub use Rattle.global_tables.specs.declared.fence.FenceKind.{FenceKind}
pub use Rattle.petal_base.specs.Tuple.{distinct}
pub use Rattle.petal_command.specs.declared.command.Command.TheVariants.{Witness}
pub use Rattle.spec_rules.proofs.ListLemmas.{in-append, in_former, in_later}
pub use Rattle.spec_rules.proofs.Tests.{both_true, by_bool, by_test, is_the_one, is_the_so, nat_lists_same, none_some, not_true, number_itself, same_numbers}
pub use Rattle.spec_rules.proofs.Tests.{same_or_apart, same_some, some_or_none, true_false}
pub use Rattle.spec_rules.specs.Blanked.{joins_blank}
pub use Rattle.spec_rules.specs.Reads.{is_all_held}
pub use Rattle.spec_rules.specs.State.{authority, both, first, in_both, is_alone_on, is_the, lead, primary, readable, row_authority, row_in_both, second}
pub use Rattle.spec_rules.specs.State.{secondary}
pub use Rattle.spec_state.proofs.Passing.{length-following, settled_none, settled_one, view-effect}
pub use Rattle.spec_state.specs.CellState.{comes_under, holds, is_fenced, noted as is_noted, is_of, live_new, live_old, live_under, map_asked, noted_in}
pub use Rattle.spec_state.specs.CellState.{region_at, row_lead, source_in, state_lead, view_of}
pub use Rattle.spec_state.specs.Command.{act, after_region, is_alone, is_head, is_new, is_taken, may_catch, move_begun, move_of, move_target, moved_by, note}
pub use Rattle.spec_state.specs.Command.{snap_target, snapped, takes, with_disk, with_fence, with_move}
pub use Rattle.spec_state.specs.Fence.{confirmed, effect, let_through, settled}
pub use Rattle.spec_state.specs.Place.{touches}
pub use Rattle.spec_state.specs.State.{latest, links_of, mover, told, ups}
pub use Rattle.spec_state.specs.declared.answer.Hold.TheVariants.{All, No, Writes}

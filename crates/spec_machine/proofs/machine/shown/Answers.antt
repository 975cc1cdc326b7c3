-- The snapshot stands at its place.
use Rattle.std.proofs.Common.{List, sym, ap, ◌∙◌, Some, get_or}
use Rattle.std.specs.Prelude.{position}
use Rattle.std.specs.Option.{option_map}
use Rattle.spec_machine.specs.declared.state.PlainSnapshot.{PlainSnapshot}
use Rattle.spec_machine.specs.Machine.{is_snap_named, blocks_of}
use Rattle.spec_machine.proofs.Places.{found, not_found}
use Rattle.spec_machine.proofs.machine.shown.Goals as goal

pub returns-in-None : goal.returns-in-None
returns-in-None c =
    sym (ap (blocks_of c.args.disk.now) c.in-Some.is
    ∙ ap (option_map (λ (s : PlainSnapshot). s.blocks)) (not_found (is_snap_named c.in-Some.snap) c.args.disk.now.snaps
    (sym c.in-None.is ∙ c.snap_place.ensures ∙ ap (position (is_snap_named c.in-Some.snap)) c.as_slice.ensures)))

pub returns-in-Some-snap_place : goal.returns-in-Some-snap_place
returns-in-Some-snap_place c =
    ap (λ (l : List PlainSnapshot). Some (get_or l c.in-Some-snap_place.at c.index-as_slice-at.result).blocks) c.as_slice-in-Some-snap_place.ensures
    ∙ sym (ap (blocks_of c.args.disk.now) c.in-Some.is
    ∙ ap (option_map (λ (s : PlainSnapshot). s.blocks)) (found (is_snap_named c.in-Some.snap) c.args.disk.now.snaps c.in-Some-snap_place.at
    c.index-as_slice-at.result (sym c.in-Some-snap_place.is ∙ c.snap_place.ensures ∙ ap (position (is_snap_named c.in-Some.snap)) c.as_slice.ensures)))

-- The place tells whether there is one.
use Rattle.std.proofs.Common.{rules, sym, ap, ◌∙◌}
use Rattle.std.specs.Prelude.{position}
use Rattle.spec_machine.specs.Machine.{is_snap_named}
use Rattle.spec_machine.proofs.Places.{not_found, not_none}
use Rattle.spec_machine.proofs.machine.freeze_disk.Goals as goal

pub returns-in-Some-clause-not_allowed : goal.returns-in-Some-clause-not_allowed
returns-in-Some-clause-not_allowed c _ none = not_none (is_snap_named c.args.snap) c.args.disk.now.snaps _ (sym c.in-Some.is ∙ c.snap_place.ensures
    ∙ ap (position (is_snap_named c.args.snap)) c.as_slice.ensures) none

pub returns-in_ok-push-in-None-clause-ok : goal.returns-in_ok-push-in-None-clause-ok
returns-in_ok-push-in-None-clause-ok c = (
  not_found (is_snap_named c.args.snap) c.args.disk.now.snaps
      (sym c.in-None.is ∙ c.snap_place.ensures ∙ ap (position (is_snap_named c.args.snap)) c.as_slice.ensures),
  search rules,
)

-- The place tells whether there is one.
use Rattle.std.proofs.Common.{rules, sym, ap, ◌∙◌}
use Rattle.std.specs.Prelude.{position}
use Rattle.spec_machine.specs.Machine.{is_named}
use Rattle.spec_machine.proofs.Places.{not_found, not_none}
use Rattle.spec_machine.proofs.machine.make.Goals as goal

pub returns-in-Some-clause-not_allowed : goal.returns-in-Some-clause-not_allowed
returns-in-Some-clause-not_allowed c _ none = not_none (is_named c.args.name) c.args.disks.now.items _ (sym c.in-Some.is ∙ c.place_of.ensures
    ∙ ap (position (is_named c.args.name)) c.deref.ensures.value) none

pub returns-in_ok-push-in-None-clause-ok : goal.returns-in_ok-push-in-None-clause-ok
returns-in_ok-push-in-None-clause-ok c = (
  not_found (is_named c.args.name) c.args.disks.now.items
      (sym c.in-None.is ∙ c.place_of.ensures ∙ ap (position (is_named c.args.name)) c.deref.ensures.value),
  search rules,
)

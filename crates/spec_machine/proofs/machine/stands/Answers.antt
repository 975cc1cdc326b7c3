-- The disk of the write's name decides.
use Rattle.std.proofs.Common.{nat_eq, sym, ap, ◌∙◌}
use Rattle.std.specs.Cmp.Lexicographic.{pointwise}
use Rattle.spec_machine.specs.Machine.{has_content, is_named}
use Rattle.spec_machine.proofs.Places.{found, not_found}
use Rattle.spec_machine.proofs.machine.stands.Goals as goal

pub returns-in_default : goal.returns-in_default
returns-in_default c =
    sym (ap (has_content c.args.write.now) (not_found (is_named c.args.write.now.disk) c.args.disks.now (sym c.in_default.is ∙ c.place_of.ensures)))

pub returns : goal.returns
returns c =
    c.eq.ensures ∙ ap (λ x. pointwise nat_eq x c.args.write.now.bytes) c.content.ensures
    ∙ sym (ap (has_content c.args.write.now)
    (found (is_named c.args.write.now.disk) c.args.disks.now c.in-Some.place c.index-disks-place.result (sym c.in-Some.is ∙ c.place_of.ensures)))

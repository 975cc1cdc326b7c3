-- The open line starts the server, as its first step, or has blanked it.
use Rattle.std.proofs.Common.{◌≡◌, ◌<◌, None, Some, inl, inr, sym, ap, subst, ◌∙◌}
use Rattle.spec_rules.proofs.Tests.{none_some}
use Rattle.spec_rules.specs.World.{Blanked, Control, greatest_u32}
use Rattle.server_host.specs.Desks.{Equipped}
use Rattle.petal_world.specs.Actors.{Actors}
use Rattle.petal_world.proofs.Lines.{booted_by, inc_as, may_boot_by, runs_as}
use Rattle.petal_world.proofs.actors.Actors.may_boot.Goals as goal

pub returns-then-has : goal.returns-then-has
returns-then-has g c = λ setting w h is.
    let rests = runs_as setting w c.args.server c.args.desk.now.desk c.is_running.result is
    (c.is_running.ensures ∙ ap (λ (d : Equipped). d.desk.site.server.life.running) c.desk.view_is) ∙ c.if-is_running.false in
    let inc = inc_as setting w c.args.server c.args.desk.now.desk c.inc.result is
    (c.inc.ensures ∙ ap (λ (d : Equipped). d.desk.site.server.life.inc) c.desk.view_is) in
    let raises : (w.servers c.args.server).life.inc < greatest_u32 = subst (λ k. k < greatest_u32) (sym inc) c.if-inc-ge4294967295.false in
    let blanked : w.control.hand ≡ Some (c.args.server, Blanked) =
    sym (ap (λ (k : Actors). k.control.hand) c.self.view_is ∙ ap (λ (k : Control). k.hand) h.control) ∙ c.has.ensures.0 c.if-has.true in (
      (λ t. may_boot_by w c.args.server rests raises (inr ((c.is_given.ensures setting w h).0 t, blanked))),
      (λ may. elim (booted_by w c.args.server may) [
        | inl (starts, empty) ↦ none_some empty blanked
        | inr (blanks, after) ↦ (c.is_given.ensures setting w h).1 blanks
      ]),
    )

pub returns : goal.returns
returns g c = λ setting w h is.
    let rests = runs_as setting w c.args.server c.args.desk.now.desk c.is_running.result is
    (c.is_running.ensures ∙ ap (λ (d : Equipped). d.desk.site.server.life.running) c.desk.view_is) ∙ c.if-is_running.false in
    let inc = inc_as setting w c.args.server c.args.desk.now.desk c.inc.result is
    (c.inc.ensures ∙ ap (λ (d : Equipped). d.desk.site.server.life.inc) c.desk.view_is) in
    let raises : (w.servers c.args.server).life.inc < greatest_u32 = subst (λ k. k < greatest_u32) (sym inc) c.if-inc-ge4294967295.false in
    let empty : w.control.hand ≡ None =
    sym (ap (λ (k : Actors). k.control.hand) c.self.view_is ∙ ap (λ (k : Control). k.hand) h.control) ∙ c.is_empty.ensures.0 c.if-not-is_empty.false in (
      (λ t. may_boot_by w c.args.server rests raises (inl ((c.is_given-2.ensures setting w h).0 t, empty))),
      (λ may. elim (booted_by w c.args.server may) [
        | inl (starts, none) ↦ (c.is_given-2.ensures setting w h).1 starts
        | inr (blanks, after) ↦ none_some empty after
      ]),
    )

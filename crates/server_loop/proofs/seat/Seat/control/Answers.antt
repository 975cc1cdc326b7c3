-- The letters are those of the records that the line gave.
use Rattle.std.proofs.Common.{◌∙◌, ap, length, subst}
use Rattle.spec_rules.specs.World.{setting_of}
use Rattle.petal_world.specs.Errands.{steps_left}
use Rattle.server_loop.specs.Obeying.{HasGivenAll}
use Rattle.server_loop.specs.Seat.{Kept}
use Rattle.server_loop.proofs.Obedience.{if_ok_weaker, obeyed_then}
use Rattle.server_loop.proofs.seat.Seat.control.Goals as goal

pub returns-clause-ok : goal.returns-clause-ok
returns-clause-ok g c =
    let setting = setting_of g.J.Run.script in
    let line = c.args.line.now in
    let given = subst (λ (k : Kept). HasGivenAll setting line c.args.stamp (steps_left c.of.result) k c.obey.new.self) c.self.view_is c.in_ok-obey.ensures.ok in
    if_ok_weaker c.letters_from.result
    (λ letters told.
    obeyed_then setting line c.args.stamp _ _ c.requires _ c.of.ensures given _ (c.len-from.ensures ∙ ap (λ (k : Kept). length k.records) c.self.view_is)
    letters told.0 _ told.1)
    c.letters_from.ensures.ok

-- A server may take a step where nothing hinders it.
use Rattle.std.proofs.Common.{◌<◌, ◌≤◌, sym, ap, ◌∙◌, subst}
use Rattle.std.specs.Prelude.{slice_get}
use Rattle.spec_rules.specs.World.{greatest_u64}
use Rattle.petal_world.specs.Actors.{Actors}
use Rattle.server_host.specs.Desks.{Equipped, is_spent_server}
use Rattle.petal_world.proofs.Allowed.{hindered, no_server, server_exact, server_spent, server_late, desk_is}
use Rattle.petal_world.proofs.actors.Actors.may_server.Goals as goal

pub returns-in_default : goal.returns-in_default
returns-in_default g c = λ setting w h.
    let at = ap (λ (k : Actors). slice_get k.desks c.args.server) (sym c.self.view_is) ∙ sym c.in_default.ensures in
    hindered (no_server setting w c.args.self.now c.args.server c.args.step.now h at)

pub returns-then-desk-ge-LAST : goal.returns-then-desk-ge-LAST
returns-then-desk-ge-LAST g c = λ setting w h.
    let at = ap (λ (k : Actors). slice_get k.desks c.args.server) (sym c.self.view_is) ∙ sym c.in-Some.ensures in
    let late = subst (λ (d : Equipped). greatest_u64 ≤ d.desk.clock) c.desk.view_is c.if-desk-ge-LAST.true in
    hindered (server_late setting w c.args.self.now c.args.server c.args.step.now c.in-Some.desk.now h at late)

pub returns-then-is_spent : goal.returns-then-is_spent
returns-then-is_spent g c = λ setting w h.
    let at = ap (λ (k : Actors). slice_get k.desks c.args.server) (sym c.self.view_is) ∙ sym c.in-Some.ensures in
    let spent = ap (λ (d : Equipped). is_spent_server d.desk.site.server) (sym c.desk.view_is) ∙ sym c.is_spent.ensures ∙ c.if-is_spent.true in
    hindered (server_spent setting w c.args.self.now c.args.server c.args.step.now c.in-Some.desk.now h at spent)

pub returns : goal.returns
returns g c = λ setting w h.
    let at = ap (λ (k : Actors). slice_get k.desks c.args.server) (sym c.self.view_is) ∙ sym c.in-Some.ensures in
    let is = desk_is setting w c.args.self.now c.args.server c.args.step.now c.in-Some.desk.now h at in
    let clock = subst (λ (d : Equipped). d.desk.clock < greatest_u64) c.desk.view_is c.if-desk-ge-LAST.false in
    let receives = subst (λ s. s < greatest_u64) c.received.ensures c.if-received-ge-LAST.false in
    let goes_on = ap (λ (d : Equipped). is_spent_server d.desk.site.server) (sym c.desk.view_is) ∙ sym c.is_spent.ensures ∙ c.if-is_spent.false in
    server_exact setting w c.args.self.now c.args.server c.args.step.now c.in-Some.desk.now h
    at c.may_serve.result clock receives goes_on (c.may_serve.ensures setting w h is)

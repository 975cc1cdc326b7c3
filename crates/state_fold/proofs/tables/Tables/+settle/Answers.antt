use Rattle.std.proofs.Common.{◌≡◌, ◌<◌, Some, arith, ap, length, subst, sym, ◌∙◌}
use Rattle.global_tables.specs.View.{ready}
use Rattle.spec_state.specs.State.{State}
use Rattle.state_fold.specs.Room.{HasRoom}
use Rattle.state_fold.proofs.Rooms.{epochs_fit, room_after, shorter_after}
use Rattle.state_fold.proofs.tables.Tables.+settle.Goals as goal

pub effect-requires : goal.effect-requires
effect-requires t c =
    let s : State = record {
      rev = c.self.inside.rev;
      maps = c.self.inside.maps;
      disks = c.self.inside.disks;
      links = c.self.inside.links;
      view = c.self.inside.view;
      verdicts = c.self.inside.verdicts;
    } in
    let is : ready c.self.inside.view.queue ≡ Some c.in-Some.fence = sym c.in_ok-take.ensures.fence ∙ c.in-Some.is in
    epochs_fit s c.in-Some.fence is (subst HasRoom (sym c.self.view_is) c.requires)

pub settle-requires : goal.settle-requires
settle-requires t c =
    let s : State = record {
      rev = c.self.inside.rev;
      maps = c.self.inside.maps;
      disks = c.self.inside.disks;
      links = c.self.inside.links;
      view = c.self.inside.view;
      verdicts = c.self.inside.verdicts;
    } in
    let is : ready c.self.inside.view.queue ≡ Some c.in-Some.fence = sym c.in_ok-take.ensures.fence ∙ c.in-Some.is in
    let fewer : length c.effect.new.self.view.queue < length c.self.inside.view.queue =
    shorter_after s c.effect.new.self c.take.new.self c.in-Some.fence is c.in_ok-take.ensures.ok c.in_ok-effect-in-Some.ensures in
    let long : length c.self.inside.view.queue ≡ length c.args.self.now.view.queue = ap (λ (u : State). length u.view.queue) c.self.view_is in (
      omega (arith, fewer, long),
      room_after s c.effect.new.self c.take.new.self c.in-Some.fence is c.in_ok-take.ensures.ok c.in_ok-effect-in-Some.ensures
          (subst HasRoom (sym c.self.view_is) c.requires),
    )

use Rattle.std.proofs.Common.{◌≡◌, ap, subst, sym, ◌∙◌}
use Rattle.spec_state.specs.Command.{act}
use Rattle.state_fold.specs.Room.{HasRoom}
use Rattle.state_fold.proofs.Rooms.{act_room}
use Rattle.state_fold.proofs.tables.Tables.next.Goals as goal

pub settle-requires : goal.settle-requires
settle-requires c =
    let acted : c.act.new.self ≡ act c.args.command.now c.args.self.now = c.in_ok-act.ensures ∙ ap (act c.args.command.now) c.in_ok-next.ensures in
    subst HasRoom (sym acted) (act_room c.args.self.now c.args.command.now c.requires.within c.requires.room)

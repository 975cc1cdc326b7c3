-- Two letters that `==` finds equal are one.
use Rattle.std.proofs.Common.{◌==◌, ◌&&◌, Bool, List, Option}
use Rattle.std.specs.Cmp.Lexicographic.{pointwise}
use Rattle.std.specs.Option.{option_eq}
use Rattle.petal_base.specs.declared.cell.Cell.{Cell}
use Rattle.petal_base.specs.declared.cell.Key.{Key}
use Rattle.petal_base.specs.Origins.{Named}
use Rattle.petal_base.specs.contracts.origin.OriginPartialEq.TheImpl as origins
use Rattle.petal_command.specs.declared.command.Command.{Command}
use Rattle.petal_command.specs.contracts.command.CommandPartialEq.TheImpl as commands
use Rattle.petal_command.proofs.Alike.{command_by, command_tells, pax_by}
use Rattle.petal_command.proofs.Equal.{both_left, both_right, number_is}
use Rattle.petal_command.proofs.Telling.{Tells, TellsAll, enum_tells, tells_list, tells_option, telling}
use Rattle.petal_msg.specs.contracts.body.Body as a_body
use Rattle.petal_msg.specs.contracts.body.BodyPartialEq.TheImpl as bodies

origin_tells : TellsAll origins.ghosts.eq
origin_tells = record {
  same = λ x y e.
      let link = number_is x.link y.link (both_left (x.link == y.link) (x.client == y.client && x.seq == y.seq) e) in
      let more = both_right (x.link == y.link) (x.client == y.client && x.seq == y.seq) e in
      let client = number_is x.client y.client (both_left (x.client == y.client) (x.seq == y.seq) more) in
      let seq = number_is x.seq y.seq (both_right (x.client == y.client) (x.seq == y.seq) more) in
      λ i. record { link = link i; client = client i; seq = seq i };
}

module _ {K : Type 0} where
  cell_by : {E F : K → K → Bool} {part : K → Cell} → Tells E (λ x. (part x).map) → Tells F (λ x. (part x).block)
      → Tells (λ x y. E x y && F x y) part
  cell_by {E = E} {F} t u = record {
    same = λ x y e.
        let map = t.same x y (both_left (E x y) (F x y) e) in
        let block = u.same x y (both_right (E x y) (F x y) e) in λ i. record { map = map i; block = block i };
  }

  key_by : {E F G : K → K → Bool} {part : K → Key} → Tells E (λ x. (part x).map) → Tells F (λ x. (part x).block) → Tells G (λ x. (part x).epoch)
      → Tells (λ x y. E x y && (F x y && G x y)) part
  key_by {E = E} {F} {G} t u v = record {
    same = λ x y e.
        let rest = both_right (E x y) (F x y && G x y) e in
        let map = t.same x y (both_left (E x y) (F x y && G x y) e) in
        let block = u.same x y (both_left (F x y) (G x y) rest) in
        let epoch = v.same x y (both_right (F x y) (G x y) rest) in λ i. record { map = map i; block = block i; epoch = epoch i };
  }

  commands_by : (part : K → List Command) → Tells (λ x y. pointwise commands.ghosts.eq (part x) (part y)) part
  commands_by part = tells_list command_tells part

  origins_by : (part : K → Option Named) → Tells (λ x y. option_eq origins.ghosts.eq (part x) (part y)) part
  origins_by part = tells_option origin_tells part

pub body_tells : TellsAll bodies.ghosts.eq
body_tells = enum_tells a_body.enum _ (search (cell_by, key_by, command_by, commands_by, origins_by, pax_by, telling))

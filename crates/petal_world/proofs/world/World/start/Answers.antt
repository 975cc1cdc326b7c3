-- What is kept at the start is that of the world without steps.
use Rattle.std.proofs.Common.{false, List, [], sym, subst}
use Rattle.script_lines.specs.declared.request.Line.{Line}
use Rattle.spec_history.specs.declared.record.Record.{Record}
use Rattle.petal_world.specs.Play.{IsKept}
use Rattle.petal_world.specs.Actors.{Actors}
use Rattle.server_host.specs.Waiting.{Await}
use Rattle.petal_world.proofs.Starting.{start_kept}
use Rattle.petal_world.proofs.world.World.start.Goals as goal

pub invariant_of-result : goal.invariant_of-result
invariant_of-result g c =
    let actors : Actors = record {
      seats = c.in_ok-start.field-0;
      desks = c.in_ok-start-2.field-0;
      sent = c.new.result;
      waiting = c.in_ok-start-3.field-0;
      control = c.new-2.result;
    } in
    let waiting = subst (λ (lines : List Line). Await lines [] c.in_ok-start-3.field-0) c.as_slice.ensures c.in_ok-start-3.ensures in
    subst
    (λ (rs : List Record). IsKept (record { script = c.args.script; records = rs; phase = 0; floor = 0; over = false; free = false }) actors c.none.result)
    (sym c.new-4.ensures)
    (start_kept g.H.Host.seen g.H.Host.armed c.args.hosts c.args.script actors c.none.result c.requires.ordered c.requires.hosts c.requires.unarmed
    c.in_ok-start.ensures c.in_ok-start-2.ensures c.new.ensures waiting c.new-2.ensures c.none.ensures)

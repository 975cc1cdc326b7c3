-- No ticket is out, and both devices were made to show their stores.
use Rattle.std.proofs.Common.{ap}
use Rattle.petal_disk.specs.declared.planned.Planned.{Planned}
use Rattle.server_store.specs.Holdings.{Holdings}
use Rattle.server_core.specs.ServerView.{ServerView}
use Rattle.pair_memory.proofs.Blank.{blank}
use Rattle.memory_server.proofs.server.DeskServer.start.Goals as goal

pub invariant_of-result : goal.invariant_of-result
invariant_of-result g c =
    let made = c.requires.formatted in
    record {
      fit = record {
        tickets = λ _ _. blank c.in_ok-core.core.side c.args.store (ap (λ (core : ServerView). core.side) c.in_ok-core.ensures)
            (ap (λ (store : Holdings (Planned _)). store.tickets) made.empty);
        rests = λ no. absurd (cc);
        room = tt;
      };
      shown = λ observed. record { store = λ _ _. made.shown observed; state = λ _. made.state_shown observed };
    }

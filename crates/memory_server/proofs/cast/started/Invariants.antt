use Rattle.std.proofs.Common.{◌≡◌, map}
use Rattle.std.specs.Prelude.{All}
use Rattle.std.specs.List.{range_with_len}
use Rattle.server_store.specs.Slots.{slot_start}
use Rattle.memory_server.specs.Armed.{armed_of}
use Rattle.memory_server.specs.Server.{site_of}
use Rattle.spec_rules.specs.Plans.{unarmed}
use Rattle.memory_server.specs.Members.{first_site}
use Rattle.memory_server.proofs.cast.started.Given as goal

abbrev pub invariant-loop-me : goal.invariant-loop-me
invariant-loop-me l = (map site_of l.members ≡ map (first_site l.servers l.slots) (range_with_len 0 l.me))
    × All (λ server. server.store.disk.disk.len ≡ slot_start l.slots) l.members × All (λ server. armed_of server ≡ unarmed) l.members

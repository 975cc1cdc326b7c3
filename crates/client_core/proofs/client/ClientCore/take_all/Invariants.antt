use Rattle.std.proofs.Common.{◌≡◌, drop}
use Rattle.spec_rules.specs.State.{servers_of}
use Rattle.spec_rules.specs.Clients.{takes_all}
use Rattle.client_core.specs.Learning.{learnt}
use Rattle.client_core.proofs.client.ClientCore.take_all.Given as goal

-- what is known so far, with the entries that are left, is what all entries tell
abbrev pub invariant-loop-entry : goal.invariant-loop-entry
invariant-loop-entry l =
    (l.self.servers ≡ servers_of l.learning.state)
    × (takes_all l.self.me (learnt l.self.client l.self.client.asked l.learning) (drop l.entry-index l.entries)
    ≡ takes_all l.self.me (learnt l.self.client l.self.client.asked l.initial.learning) l.entries)

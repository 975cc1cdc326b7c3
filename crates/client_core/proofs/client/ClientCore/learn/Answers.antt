-- The entries of a letter leave the state that the applied entries make.
use Rattle.std.proofs.Common.{sym, ap, ◌∙◌}
use Rattle.spec_rules.specs.State.{servers_of}
use Rattle.spec_rules.proofs.Applied.{servers_after}
use Rattle.client_core.proofs.Learnt.{news_fits}
use Rattle.client_core.proofs.client.ClientCore.learn.Goals as goal

pub take_all-requires : goal.take_all-requires
take_all-requires c = sym (ap servers_of c.in_ok-learning.ensures.state ∙ servers_after c.args.self.now.servers c.args.self.now.client.applied)

pub come_out-requires-clause-state : goal.come_out-requires-clause-state
come_out-requires-clause-state c =
    news_fits c.args.self.now c.in_ok-learning.learning c.take_all.new.learning c.next_entries-entries.result.now
    c.in_ok-take_all.ensures.taken c.in_ok-learning.ensures.learnt

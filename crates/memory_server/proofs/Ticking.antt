-- A server that ticks.
use Rattle.std.proofs.Common.{◌≡◌, List}
use Rattle.kept_chains.specs.Kept.{store_of}
use Rattle.memory_server.specs.Server.{whole_after, whole_of}
use Rattle.petal_msg.specs.declared.letter.Letter.{Letter}
use Rattle.spec_rules.specs.Jobs.{ticks}
use Rattle.spec_rules.specs.declared.step.Step.TheVariants.{Tick}
use Rattle.server_core.specs.ServerView.{ServerView, acted, here_in, server_of}
use Rattle.server_store.specs.Holdings.{Holdings}
use Rattle.state_store.specs.Device.{Keeping}

-- the core's tick is that of the server, whose store is as it was
pub tick_site : {D : Type 0} (old new : ServerView) (before after : Holdings D) (state : Keeping D) (letters : List Letter)
    → acted new (store_of after) state.records letters ≡ ticks (here_in old) (server_of old (store_of before) state.records)
    → new.log.voter ≡ old.log.voter
    → whole_of (record { core = new; store = after; state = state }) ≡ whole_after (whole_of (record { core = old; store = before; state = state })) Tick
tick_site old new before after state letters is voter = λ i. record {
  me = (voter i).me;
  servers = (voter i).servers;
  server = (is i).server;
}

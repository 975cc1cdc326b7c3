-- A server that stops.
use Rattle.std.proofs.Common.{◌≡◌, false, List, [], refl}
use Rattle.spec_rules.proofs.Applied.{servers_after}
use Rattle.petal_msg.specs.declared.letter.Letter.{Letter}
use Rattle.spec_paxos.specs.declared.record.StateRecord.{StateRecord}
use Rattle.spec_rules.specs.Jobs.{stops}
use Rattle.spec_rules.specs.Store.{Store}
use Rattle.server_core.specs.ServerView.{ServerView, acted, here_in, server_of}
use Rattle.server_core.specs.Farewell.{farewell_of}

-- with the letters that were made before it is as the rule says
pub stopped_with : (core : ServerView) (store : Store) (records : List StateRecord) (letters : List Letter) → letters ≡ farewell_of core.log.voter
    → acted (record core { running = false; queue = [] }) store records letters ≡ stops (here_in core) (server_of core store records)
stopped_with core store records letters is = rw (is, servers_after core.log.voter.servers core.log.applied) refl

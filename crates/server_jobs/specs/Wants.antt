-- Where the jobs of a server are done, its own part, and what it wants chosen.
use Rattle.std.specs.Prelude.{List}
use Rattle.server_log.specs.Part.{Part, state_of, wants_of}
use Rattle.pair_memory.specs.PairMemory.{PairMemory, pairs_of}
use Rattle.petal_command.specs.declared.command.Command.{Command}
use Rattle.spec_rules.specs.Jobs.{own_wants}
use Rattle.spec_rules.specs.Server.{JobContext, PairState}
use Rattle.spec_rules.specs.Store.{Store}

-- where the jobs of a server with this part of the log are done
abbrev pub here_by : Part → JobContext
here_by part = record { state = state_of part; me = part.voter.me; inc = part.voter.inc }

-- its own part in the pairs, with this store
abbrev pub own_in : PairMemory → Store → PairState
own_in side store = record { pairs = pairs_of side; copies = side.copies; filled = side.filled; store = store }

-- what it wants chosen; no record on its state device counts
abbrev pub wants_in : Part → PairMemory → Store → List Command
wants_in part side store = wants_of part (own_wants (here_by part) (own_in side store))

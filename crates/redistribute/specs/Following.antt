-- What a server leaves and sends once the new map is known to have a key.
use Rattle.std.specs.Prelude.{List, [], false, Some}
use Rattle.global_tables.specs.declared.link.LinkRow.{LinkRow}
use Rattle.petal_base.specs.declared.cell.Key.{Key}
use Rattle.spec_rules.specs.Fills.{region_to_move, sends_key, with_filled}
use Rattle.spec_rules.specs.Progress.{with_full}
use Rattle.spec_rules.specs.Server.{JobResult, JobContext, PairState, Post}
use Rattle.redistribute.specs.Next.{left_after}

-- it remembers the key, and that its last entry found a slot
abbrev pub following : PairState → LinkRow → Key → PairState
following own row key = with_full (with_filled own row key) false

-- the entry after the key goes out
abbrev pub posts_after : JobContext → PairState → LinkRow → Key → List Post
posts_after here own row key =
    sends_key here.state own (left_after here.state row (region_to_move here.state here.me row) (Some key) own.store.chains)

abbrev pub filled_with : PairState → LinkRow → Key → List Post → JobResult
filled_with own row key posts = record { own = following own row key; posts = posts; jobs = [] }

-- The run computes.
use Rattle.std.proofs.Common.{refl}
use Rattle.petal_table.specs.Table.{at, put, without}
use Rattle.spec_rules.specs.Lists.{put_at}
use Rattle.spec_rules.specs.Copies.{next_copy, copies_on, repairs, on_hello_ask, on_hello, on_trim, trims_on, on_trimmed, on_sync, on_synced, on_sync_full}
use Rattle.spec_rules.specs.Writes.{goes_on, on_write}
use Rattle.spec_rules.specs.Jobs.{handles, hears_log, does, log_does}
use Rattle.spec_rules.specs.Clients.{heard, refusal}
use Rattle.spec_rules.specs.Sweeping.{next_retired}
use Rattle.spec_rules.specs.World.{step}
use Rattle.test_history.proofs.copies.a_late_entry_is_dropped.Goals as goal

pub returns : goal.returns
unfolding at put without put_at next_copy copies_on repairs on_hello_ask on_hello on_trim trims_on on_trimmed on_sync on_synced on_sync_full goes_on on_write
    handles hears_log does log_does heard refusal next_retired step
returns c = record {
  written = refl;
  marked = refl;
  second = refl;
  dropped = refl;
  waits = refl;
  silent = refl;
  put = refl;
}

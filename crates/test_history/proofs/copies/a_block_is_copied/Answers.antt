-- The run computes.
use Rattle.std.proofs.Common.{refl}
use Rattle.petal_table.specs.Table.{at, put, without}
use Rattle.spec_rules.specs.Lists.{put_at}
use Rattle.spec_rules.specs.Copies.{next_copy, copies_on, repairs, on_hello_ask, on_hello, on_trim, trims_on, on_trimmed, on_sync, on_synced, on_sync_full}
use Rattle.spec_rules.specs.Jobs.{handles, hears_log, does, log_does}
use Rattle.spec_rules.specs.Clients.{heard, refusal}
use Rattle.spec_rules.specs.Sweeping.{next_retired}
use Rattle.spec_rules.specs.World.{step}
use Rattle.test_history.proofs.copies.a_block_is_copied.Goals as goal

pub returns : goal.returns
unfolding at put without put_at next_copy copies_on repairs on_hello_ask on_hello on_trim trims_on on_trimmed on_sync on_synced on_sync_full handles
    hears_log does log_does heard refusal next_retired step
returns c = record {
  paged = refl;
  trimmed = refl;
  put = refl;
  unmarked = refl;
  closed = refl;
  copied = refl;
  wants = refl;
  alone = refl;
}

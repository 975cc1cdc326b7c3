-- The run computes.
use Rattle.std.proofs.Common.{inr, refl, arith}
use Rattle.petal_table.specs.Table.{at, put, without}
use Rattle.spec_rules.specs.Lists.{put_at}
use Rattle.spec_rules.specs.Copies.{next_copy, copies_on, repairs, on_hello_ask, on_hello, on_trim, trims_on, on_trimmed, on_sync, on_synced, on_sync_full}
use Rattle.spec_rules.specs.Jobs.{handles, hears_log, does, log_does}
use Rattle.spec_rules.specs.Clients.{heard, refusal}
use Rattle.spec_rules.specs.Sweeping.{next_retired}
use Rattle.script_lines.specs.declared.request.Request.TheVariants as request
use Rattle.spec_rules.specs.World.{step}
use Rattle.spec_history.specs.Examples.{line_of}
use Rattle.test_history.proofs.Lines.{few, none_of_three, none_yet}
use Rattle.test_history.proofs.settles.a_copy_finds_no_slot.Goals as goal

pub returns : goal.returns
unfolding at put without put_at next_copy copies_on repairs on_hello_ask on_hello on_trim trims_on on_trimmed on_sync on_synced on_sync_full handles
    hears_log does log_does heard refusal next_retired step
returns c = record {
  chain = refl;
  marked = refl;
  closed = refl;
  full = refl;
  glance = record {
    may = (
      none_of_three,
      inr (record { place = 0; own = line_of 3 8 request.Settle; is = refl; called = omega arith; line_is = refl; request_is = refl; counts = omega arith }),
    );
    clock = few _ refl;
    receives = none_yet;
    goes_on = refl;
  };
  answered = refl;
}

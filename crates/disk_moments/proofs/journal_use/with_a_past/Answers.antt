use Rattle.std.proofs.Common.{[], length}
use Rattle.disk_moments.proofs.journal_use.with_a_past.Goals as goal

pub returns : goal.returns
returns c = (length c.begin.new.disk.past.items, (rw c.in_ok-journal.ensures.region at c.in_ok-append_body.ensures.past) [] c.in_ok-journal.ensures.stored)

-- A script that was played was read to its end.
use Rattle.std.proofs.Common.{◌≡◌, ℕ, List, [], Ok, Err}
use Rattle.spec_history.specs.declared.record.Record.{Record}
use Rattle.petal_run.specs.Asked.{Asked, Refuse, Play, Drill}
use Rattle.petal_run.specs.Said.{Done}

pub read-whole : (asked : Asked) (status : ℕ) (history : List Record) (left old new : List ℕ)
    → (status ≡ 0 → left ≡ []) → Done asked status history [] old new → Done asked status history left old new
read-whole (Refuse of bytes) status history left old new whole done = done
read-whole (Play script) status history left old new whole done = (done.0, whole done.0, done.2, done.3)
read-whole (Drill seed count (Ok script)) status history left old new whole done = done
read-whole (Drill seed count (Err refusal)) status history left old new whole done = done

-- The job that follows an entry that was applied up.
use Rattle.std.proofs.Common.{◌≡◌, Bool, true, false, [], None, refl}
use Rattle.spec_rules.specs.Entries.{applies_then}
use Rattle.server_log.specs.Said.{apply_first}

pub later_jobs : (is : Bool) → apply_first is [] ≡ applies_then None is
later_jobs true = refl
later_jobs false = refl

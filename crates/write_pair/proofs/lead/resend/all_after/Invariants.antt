-- The letters so far and those of the operations that are left are all letters.
use Rattle.std.proofs.Common.{◌≡◌, ◌++◌, length}
use Rattle.std.specs.List.{flat_map}
use Rattle.spec_rules.specs.Server.{PairState, letters_of, sender}
use Rattle.spec_rules.specs.Jobs.{sent_again}
use Rattle.write_pair.proofs.lead.resend.all_after.Given as goal

abbrev pub invariant-loop-op : goal.invariant-loop-op
invariant-loop-op l = (own : PairState)
    → l.letters ++ letters_of (sender l.here) (length l.letters) (flat_map (λ row. sent_again l.here own row.1) l.op-iterator)
    ≡ l.initial.letters ++ letters_of (sender l.here) (length l.initial.letters) (flat_map (λ row. sent_again l.here own row.1) l.locks)

-- By induction on the history: what is put is of a pending operation, or of a letter of the server's own revision.
use Rattle.law_epochs.proofs.EpochsInHistories.{early_after}
use Rattle.law_epochs.proofs.entries_are_of_known_epochs.Goals as goal

pub returns : goal.returns
returns c = early_after

use Rattle.law_merge.proofs.Imports.{setting_of, start}
use Rattle.law_merge.proofs.RecordedLetters.{sent_by}
use Rattle.law_merge.proofs.a_recorded_letter_was_sent.Goals as goal

pub returns : goal.returns
returns c script records own letter steps there i = sent_by (setting_of script) (start (setting_of script)) records steps own there letter i

use Rattle.law_merge.proofs.Imports.{no_errand, setting_of, start}
use Rattle.law_merge.proofs.RecordsGrow.{joined_more}
use Rattle.law_merge.proofs.joined_records_grow.Goals as goal

pub returns : goal.returns
returns c script prefix own joined next = joined_more (setting_of script) (start (setting_of script)) no_errand prefix own joined next

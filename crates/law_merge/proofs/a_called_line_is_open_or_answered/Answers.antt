use Rattle.law_merge.proofs.Imports.{setting_of, start}
use Rattle.law_merge.proofs.CalledLines.{called_kept, place_kept}
use Rattle.law_merge.proofs.a_called_line_is_open_or_answered.Goals as goal

pub returns-clause-recorded : goal.returns-clause-recorded
returns-clause-recorded c script records own caller number steps there who what =
    called_kept (setting_of script) (start (setting_of script)) records steps own there caller number who what

pub returns-clause-counted : goal.returns-clause-counted
returns-clause-counted c script records caller place line steps is called = place_kept (setting_of script) records steps caller place line is called

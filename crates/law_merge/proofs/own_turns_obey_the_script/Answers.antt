use Rattle.law_merge.proofs.Imports.{no_errand, setting_of, start}
use Rattle.law_merge.specs.OwnLines.{duty_of, lines_at}
use Rattle.law_merge.proofs.OwnTurnsObey.{obey_by_turns, tied_first}
use Rattle.law_merge.proofs.own_turns_obey_the_script.Goals as goal

pub returns : goal.returns
returns c script records keep turns =
    obey_by_turns (setting_of script) (start (setting_of script)) no_errand (λ n. duty_of (lines_at n script.lines)) records
    (tied_first (λ n. lines_at n script.lines)) keep turns

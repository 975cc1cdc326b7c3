use Rattle.law_merge.proofs.Imports.{None, no_errand, setting_of, start}
use Rattle.law_merge.specs.OwnLines.{duty_of, lines_at}
use Rattle.law_merge.proofs.HandsAgree.{held_along, in_hand_first}
use Rattle.law_merge.proofs.a_servers_own_hand_is_the_operators.Goals as goal

pub returns : goal.returns
returns c script records n deed turns e =
    held_along (setting_of script) (start (setting_of script)) no_errand (λ k. duty_of (lines_at k script.lines)) records (λ k. None)
    (in_hand_first None (λ k. lines_at k script.lines)) turns n deed e

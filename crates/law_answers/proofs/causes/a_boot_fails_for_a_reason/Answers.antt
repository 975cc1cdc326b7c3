-- What a glance shows comes right after the boot that its line gave.
use Rattle.law_answers.proofs.Glances.{fails_for_a_reason}
use Rattle.law_answers.proofs.causes.a_boot_fails_for_a_reason.Goals as goal

pub returns : goal.returns
returns c script records sound rise legal number told = fails_for_a_reason script records sound rise legal number told

-- By induction on the list.
use Rattle.law_merge.proofs.Imports.{no_errand, setting_of, start, unarmed}
use Rattle.law_merge.proofs.OwnPlans.{come_apart}
use Rattle.law_merge.proofs.OwnStepsFollow.{obey_from, steps_from}
use Rattle.law_merge.proofs.one_run_is_legal.Goals as goal

pub returns : goal.returns
returns c script records run = record {
  steps = steps_from (setting_of script) (start (setting_of script)) no_errand records (record { servers = run.servers; clients = run.clients }) run.joined;
  obey = obey_from (setting_of script) (start (setting_of script)) no_errand records run.joined;
  planned = λ n. let own = run.planned n in (own.0, come_apart n unarmed own.0 records own.1);
}

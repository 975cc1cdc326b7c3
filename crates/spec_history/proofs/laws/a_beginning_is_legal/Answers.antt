-- By induction on the beginning.
use Rattle.spec_rules.specs.Plans.{unarmed}
use Rattle.spec_rules.specs.World.{start, setting_of}
use Rattle.spec_history.specs.Controls.{no_errand}
use Rattle.spec_history.proofs.Onwards.{come_begin, obey_begin, steps_begin}
use Rattle.spec_history.proofs.laws.a_beginning_is_legal.Goals as goal

pub returns : goal.returns
returns c = record {
  steps = λ script prefix suffix h. steps_begin (setting_of script) (start (setting_of script)) prefix suffix h;
  legal = λ script prefix suffix h. record {
    steps = steps_begin (setting_of script) (start (setting_of script)) prefix suffix h.steps;
    obey = obey_begin (setting_of script) (start (setting_of script)) no_errand prefix suffix h.obey;
    planned = λ n. come_begin n unarmed (h.planned n).0 prefix suffix (h.planned n).1;
  };
}

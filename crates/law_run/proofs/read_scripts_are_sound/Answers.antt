-- By induction on its lines.
use Rattle.law_run.proofs.ReadScripts.{read_sound}
use Rattle.law_run.proofs.HistoriesAreRuns.{law}
use Rattle.law_run.proofs.read_scripts_are_sound.Goals as goal

pub returns : goal.returns
returns c = record {
  sound = read_sound;
  law = λ text script records read legal. law script records (read_sound text script read) legal;
}

use Rattle.std.proofs.Common.{◌≡◌, take, string_bytes}
use Rattle.std.specs.List.{flat_map}
use Rattle.script_lines.specs.Contents.{run_text}
use Rattle.petal_script.proofs.contents.runs_text.Given as goal

abbrev pub invariant-loop-run : goal.invariant-loop-run
invariant-loop-run l = string_bytes l.text ≡ flat_map run_text (take l.run-index l.runs)

-- Of which scripts the laws speak: those whose lines have numbers of their own and name proper tuples.
use Rattle.std.specs.Prelude.{◌≡◌, ◌≤◌, ℕ, true, List}
use Rattle.petal_base.specs.Tuple.{is_tuple}
use Rattle.script_lines.specs.declared.request.Line.{Line}
use Rattle.script_lines.specs.declared.request.Request.TheVariants.{Disk, Move}
use Rattle.script_lines.specs.declared.script.Script.{Script}
use Rattle.spec_rules.specs.Lists.{In}

-- two lines of one number are one line, each disk is made, and moves, over a tuple of the script's servers, and ballots tell so many
-- servers apart
pub record IsSound (script : Script) : Type 0 where
  pub numbered : (one other : Line) → In one script.lines → In other script.lines → one.number ≡ other.number → one ≡ other
  pub spread : (line : Line) (name tuple : List ℕ) → In line script.lines → line.request ≡ Disk name tuple → is_tuple script.servers tuple ≡ true
  pub moved : (line : Line) (name tuple : List ℕ) → In line script.lines → line.request ≡ Move name tuple → is_tuple script.servers tuple ≡ true
  pub told_apart : script.servers ≤ 256

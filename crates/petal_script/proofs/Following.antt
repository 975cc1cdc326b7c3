-- One line more of a text is read.
use Rattle.std.proofs.Common.{◌≡◌, ℕ, ◌+◌, ◌-◌, ◌≤◌, List, [], ◌∷◌, length, refl, ap, ◌∙◌, arith, Option, None, Ok, Err}
use Rattle.petal_script.specs.Text.{pieces, without_end}
use Rattle.script_lines.specs.declared.script.Script.{Script}
use Rattle.petal_script.specs.Script.{TextLine, lines_after, script_from, script_of, line_verdict, goes_on, ended, longest_script}
use Rattle.petal_script.specs.declared.cause.Cause.{Cause}

-- what is still to be read after n lines of a text of so many bytes
abbrev pub left : ℕ → ℕ → List ℕ → List TextLine
left n total rest = lines_after n (total - length rest) (pieces rest)

abbrev pub line_there : ℕ → ℕ → List ℕ → List ℕ → TextLine
line_there n total piece after = record { number = n + 1; text = without_end piece; reach = total - length after }

pub next_line : (n total : ℕ) (rest piece after : List ℕ) (draft : Option Script) → pieces rest ≡ piece ∷ pieces after
    → length piece + length after ≡ length rest → length rest ≤ total
    → script_from (left n total rest) draft ≡ goes_on (script_from (left (n + 1) total after)) (n + 1) (line_verdict draft (line_there n total piece after))
unfolding lines_after script_from
next_line n total rest piece after draft is parts room =
    let reach : total - length rest + length piece ≡ total - length after = omega arith in
    rw (is, reach) refl

pub taken : (n total : ℕ) (rest piece after : List ℕ) (draft later : Option Script) → pieces rest ≡ piece ∷ pieces after
    → length piece + length after ≡ length rest → length rest ≤ total → line_verdict draft (line_there n total piece after) ≡ Ok later
    → script_from (left n total rest) draft ≡ script_from (left (n + 1) total after) later
taken n total rest piece after draft later is parts room verdict = next_line n total rest piece after draft is parts room
    ∙ ap (goes_on (script_from (left (n + 1) total after)) (n + 1)) verdict

pub refused : (n total : ℕ) (rest piece after : List ℕ) (draft : Option Script) (cause : Cause) → pieces rest ≡ piece ∷ pieces after
    → length piece + length after ≡ length rest → length rest ≤ total → line_verdict draft (line_there n total piece after) ≡ Err cause
    → script_from (left n total rest) draft ≡ Err (record { line = n + 1; cause = cause })
refused n total rest piece after draft cause is parts room verdict = next_line n total rest piece after draft is parts room
    ∙ ap (goes_on (script_from (left (n + 1) total after)) (n + 1)) verdict

pub at_end : (n total : ℕ) (rest : List ℕ) (draft : Option Script) → length rest ≡ 0 → script_from (left n total rest) draft ≡ ended draft
unfolding lines_after script_from
at_end n total [] draft none = refl
at_end n total (b ∷ bs) draft none = absurd (omega arith)

-- what is known at the head of the loop
pub record IsReading (bytes rest : List ℕ) (number : ℕ) (draft : Option Script) : Type 0 where
  pub same : script_of bytes ≡ script_from (left number (length bytes) rest) draft
  pub room : length rest ≤ length bytes
  pub few : number + length rest ≤ length bytes
  pub reach : length bytes - length rest ≤ longest_script

pub begins : (bytes : List ℕ) → IsReading bytes bytes 0 None
unfolding script_of
begins bytes =
    record { same = (let e : length bytes - length bytes ≡ 0 = omega arith in rw e refl); room = omega arith; few = omega arith; reach = omega arith }

-- A text that is a script is short.
use Rattle.std.proofs.Common.{◌≡◌, ◌≤◌, ℕ, ◌+◌, List, [], ◌∷◌, length, Option, None, Result, Ok, Err, refl, ap, arith, length-append}
use Rattle.std.proofs.lemmas.Bool.Decides.{nat_tests}
use Rattle.std.specs.List.{concat}
use Rattle.petal_script.specs.Text.{pieces, without_end}
use Rattle.petal_script.specs.declared.cause.Cause.{Cause}
use Rattle.script_lines.specs.declared.script.Script.{Script}
use Rattle.petal_script.specs.Script.{TextLine, Refusal, script_of, script_from, lines_after, line_verdict, goes_on, longest_script}

verdict-short : (before : Option Script) (line : TextLine) (after : Option Script) → line_verdict before line ≡ Ok after → line.reach ≤ longest_script
unfolding line_verdict
verdict-short before line after is = grind (arith, nat_tests)

taken : (rest : Option Script → Result Script Refusal) (number : ℕ) (before : Option Script) (line : TextLine) (s : Script)
    (v : Result (Option Script) Cause) → line_verdict before line ≡ v → goes_on rest number v ≡ Ok s
    → (line.reach ≤ longest_script) × ((after : Option Script) × (rest after ≡ Ok s))
taken rest number before line s (Ok after) is goes = (verdict-short before line after is, (after, goes))
taken rest number before line s (Err cause) is goes = cc

-- a line that is taken does not reach past the limit
short-line : (rest : Option Script → Result Script Refusal) (number : ℕ) (before : Option Script) (line : TextLine) (s : Script)
    → goes_on rest number (line_verdict before line) ≡ Ok s → (line.reach ≤ longest_script) × ((after : Option Script) × (rest after ≡ Ok s))
short-line rest number before line s is =
    let verdict = line_verdict before line in
    let cases : (v : Result (Option Script) Cause) → line_verdict before line ≡ v → goes_on rest number v ≡ Ok s
    → (line.reach ≤ longest_script) × ((after : Option Script) × (rest after ≡ Ok s)) = taken rest number before line s in
    cases verdict refl is

short-from : (ps : List (List ℕ)) (number reach : ℕ) (before : Option Script) (s : Script) → reach ≤ longest_script
    → script_from (lines_after number reach ps) before ≡ Ok s → reach + length (concat ps) ≤ longest_script
unfolding script_from lines_after
short-from [] number reach before s short is = omega arith
short-from (p ∷ ps) number reach before s short is =
    let line : TextLine = record { number = number + 1; text = without_end p; reach = reach + length p } in
    let on = short-line (script_from (lines_after (number + 1) (reach + length p) ps)) (number + 1) before line s is in
    let more = short-from ps (number + 1) (reach + length p) on.1.0 s on.0 on.1.1 in
    omega (arith, length-append p (concat ps), more)

-- a script has at most 1,048,576 bytes, since its lines with their ends are the text
pub script-short : (text : List ℕ) (s : Script) → concat (pieces text) ≡ text → script_of text ≡ Ok s → length text ≤ longest_script
unfolding script_of
script-short text s whole is =
    let short = short-from (pieces text) 0 0 None s (omega arith) is in
    let same : length (concat (pieces text)) ≡ length text = ap length whole in
    omega arith

-- What the functions that may want memory return.
use Rattle.std.specs.Prelude.{◌≡◌, Result, Ok, Err}
use Rattle.petal_script.specs.declared.cause.Cause.{Cause}
use Rattle.petal_script.specs.declared.error.ScriptError.{ScriptError}
use Rattle.petal_script.specs.declared.error.ScriptError.TheVariants as errors
use Rattle.petal_script.specs.declared.error.LineError.{LineError}
use Rattle.petal_script.specs.declared.error.LineError.TheVariants as faults
use Rattle.script_lines.specs.declared.script.Script.{Script}
use Rattle.petal_script.specs.Script.{Refusal}

-- What a function returned is what the rule gives, unless memory ran out.
abbrev pub Fails : {Y : Type 0} → LineError → Result Y Cause → Type 0
Fails faults.NoMemory rule = Unit {0}
Fails (faults.Bad cause) rule = rule ≡ Err cause

abbrev pub Tells : {Y : Type 0} → Result Y LineError → Result Y Cause → Type 0
Tells (Ok x) rule = rule ≡ Ok x
Tells (Err e) rule = Fails e rule

-- The same of one that changes a script.
abbrev pub AddsTo : {X Y : Type 0} → Result X LineError → Y → Result Y Cause → Type 0
AddsTo (Ok x) after rule = rule ≡ Ok after
AddsTo (Err e) after rule = Fails e rule

abbrev pub Refuses : ScriptError → Result Script Refusal → Type 0
Refuses errors.NoMemory rule = Unit {0}
Refuses (errors.Refused line cause) rule = rule ≡ Err (record { line = line; cause = cause })

abbrev pub Reads : Result Script ScriptError → Result Script Refusal → Type 0
Reads (Ok s) rule = rule ≡ Ok s
Reads (Err e) rule = Refuses e rule

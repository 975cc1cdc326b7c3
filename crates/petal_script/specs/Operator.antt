-- What the operator's line asks for, by the words after `op`. The order of the steps is the order of the causes.
use Rattle.std.specs.Prelude.{ℕ, not, ◌==◌, List, length, if◌then◌else◌, codes, Result, Ok, Err}
use Rattle.petal_script.specs.Words.{Word, ◌>>=◌, is_word, front_word, no_word, one_word, two_words, four_words}
use Rattle.petal_script.specs.Fields.{a_server, a_call, a_device, a_kind}
use Rattle.petal_script.specs.declared.cause.Cause.{Cause}
use Rattle.petal_script.specs.declared.cause.Cause.TheVariants.{BadLine}
use Rattle.script_lines.specs.declared.request.Request.{Request}
use Rattle.script_lines.specs.declared.request.Request.TheVariants.{Stop, StopAt, Fault, Start, Blank, Settle}

-- S at K
unfoldable pub stop_at : ℕ → Word → Word × Word → Result Request Cause
stop_at servers s calls =
    if not (is_word calls.0 (codes "at")) then Err BadLine
    else (a_server servers s >>= (λ server. a_call calls.1 >>= (λ at. Ok (StopAt server at))))

-- stop S, stop S at K
unfoldable pub stop_of : ℕ → List Word → Result Request Cause
stop_of servers words = do
  s ← front_word words
  if length s.1 == 0 then (a_server servers s.0 >>= (λ server. Ok (Stop server)))
      else (two_words s.1 >>= stop_at servers s.0)

-- fault S data KIND K, fault S state KIND K
unfoldable pub fault_of : ℕ → List Word → Result Request Cause
fault_of servers words = do
  parts ← four_words words
  which ← a_device parts.1
  kind ← a_kind parts.2
  server ← a_server servers parts.0
  at ← a_call parts.3
  Ok (Fault server which kind at)

-- start S, blank S
unfoldable pub boot_of : ℕ → (ℕ → Request) → List Word → Result Request Cause
boot_of servers request words = do
  s ← one_word words
  server ← a_server servers s
  Ok (request server)

abbrev pub operation_by : ℕ → Word → List Word → Result Request Cause
operation_by servers verb words =
    if is_word verb (codes "stop") then stop_of servers words
    else if is_word verb (codes "start") then boot_of servers Start words
    else if is_word verb (codes "blank") then boot_of servers Blank words
    else if is_word verb (codes "fault") then fault_of servers words
    else if is_word verb (codes "settle") then no_word words >>= (λ none. Ok Settle)
    else Err BadLine

-- the request of the operator
unfoldable pub operator_request : ℕ → List Word → Result Request Cause
operator_request servers words = front_word words >>= (λ verb. operation_by servers verb.0 verb.1)

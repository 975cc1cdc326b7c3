-- The script that a text is, or the first of its lines that is refused.
use Rattle.std.specs.Prelude.{ℕ, ◌+◌, ◌-◌, ◌/◌, Bool, false, not, ◌||◌, ◌&&◌, ◌==◌, nat_lt, nat_le, List, [], ◌∷◌, ◌++◌, length, slice_index}
use Rattle.std.specs.Prelude.{if◌then◌else◌, codes, Option, Some, None, is_some, Result, Ok, Err}
use Rattle.std.specs.List.{list_all, count_by, fold, range_with_len}
use Rattle.std.specs.Char.{is_ascii}
use Rattle.script_lines.specs.Requests.{is_disk, is_snap, is_move, is_boot}
use Rattle.petal_script.specs.Text.{pieces, without_end, words_of}
use Rattle.petal_script.specs.Words.{Word, is_word, ◌>>=◌, front_word, no_word, two_words, three_words}
use Rattle.petal_script.specs.Fields.{in_limits}
use Rattle.petal_script.specs.Client.{client_request}
use Rattle.petal_script.specs.Operator.{operator_request}
use Rattle.petal_script.specs.declared.cause.Cause.{Cause}
use Rattle.petal_script.specs.declared.cause.Cause.TheVariants.{NotAscii, TooLong, NoServersLine, BadLine, TooMany, NoMajority}
use Rattle.script_lines.specs.declared.request.Request.{Request}
use Rattle.script_lines.specs.declared.request.Request.TheVariants.{Stop, StopAt, Fault, Start, Blank}
use Rattle.script_lines.specs.declared.request.Line.{Line}
use Rattle.script_lines.specs.declared.script.Script.{Script}

-- ### How many

abbrev pub count : (Request → Bool) → List Line → ℕ
count test lines = count_by (λ line. test line.request) lines

unfoldable pub too_many : List Line → Bool
too_many lines = nat_lt 1024 (length lines) || nat_lt 16 (count is_disk lines) || nat_lt 64 (count is_snap lines) || nat_lt 8 (count is_move lines)
    || nat_lt 64 (count is_boot lines)

-- ### A majority

-- A server is possibly down from a stop or a fault to its start or blank.
abbrev pub down_after : ℕ → Bool → Request → Bool
down_after s down (Stop server) = down || server == s
down_after s down (StopAt server at) = down || server == s
down_after s down (Fault server which kind at) = down || server == s
down_after s down (Start server) = down && not (server == s)
down_after s down (Blank server) = down && not (server == s)
down_after s down _ = down

abbrev pub is_down : List Line → ℕ → Bool
is_down lines s = fold (λ down line. down_after s down line.request) false lines

unfoldable pub no_majority : ℕ → List Line → Bool
no_majority servers lines = nat_lt (count_by (λ s. not (is_down lines s)) (range_with_len 0 servers)) (servers / 2 + 1)

-- ### Lines that count

-- N slots K
unfoldable pub servers_line : List Word → Result Script Cause
servers_line words = do
  parts ← three_words words
  if not (is_word parts.1 (codes "slots")) then Err BadLine else (do
    servers ← in_limits 2 8 parts.0
    slots ← in_limits 1 1024 parts.2
    Ok (record { servers = servers; slots = slots; lose = None; twice = None; phases = 1; lines = [] }))

-- lose K, twice K, each once and before the first request
unfoldable pub net_line : Script → List Word → Result Script Cause
net_line s words = do
  parts ← two_words words
  if not (length s.lines == 0) then Err BadLine
      else if is_word parts.0 (codes "lose") && not (is_some s.lose) then (in_limits 2 1000000 parts.1 >>= (λ k. Ok (record s { lose = Some k })))
      else if is_word parts.0 (codes "twice") && not (is_some s.twice) then (in_limits 2 1000000 parts.1 >>= (λ k. Ok (record s { twice = Some k })))
      else Err BadLine

unfoldable pub adds : Script → ℕ → ℕ → Request → Result Script Cause
adds s number client request =
    let lines = s.lines ++ record { number = number; phase = s.phases - 1; client = client; request = request } ∷ [] in
    if too_many lines then Err TooMany
    else if no_majority s.servers lines then Err NoMajority
    else Ok (record s { lines = lines })

-- `a` to `h`
abbrev pub is_client : Word → Bool
is_client word = length word == 1 && nat_le 97 (slice_index word 0) && nat_le (slice_index word 0) 104

-- the number of a client
abbrev pub client_of : Word → Result ℕ Cause
client_of word = if is_client word then Ok (slice_index word 0 - 97) else Err BadLine

abbrev pub line_by : Script → ℕ → Word → List Word → Result Script Cause
line_by s number first words =
    if is_word first (codes "servers") then Err BadLine
    else if is_word first (codes "net") then net_line s words
    else if is_word first (codes "wait") then no_word words >>= (λ none. Ok (record s { phases = s.phases + 1 }))
    else if is_word first (codes "op") then operator_request s.servers words >>= adds s number 8
    else client_of first >>= (λ client. client_request s.servers words >>= adds s number client)

-- After the servers line, and the first line that counts.
unfoldable pub later_line : Script → ℕ → List Word → Result Script Cause
later_line s number words = front_word words >>= (λ first. line_by s number first.0 first.1)

unfoldable pub first_line : List Word → Result Script Cause
first_line [] = Err NoServersLine
first_line (first ∷ words) = if is_word first (codes "servers") then servers_line words else Err NoServersLine

abbrev pub counted : Option Script → ℕ → List Word → Result Script Cause
counted None number words = first_line words
counted (Some s) number words = later_line s number words

-- ### The lines of a text

-- the bytes of the longest script, the ends of its lines counted
abbrev pub longest_script : ℕ
longest_script = 1048576

-- the bytes of the longest line, its end not counted
abbrev pub longest_line : ℕ
longest_line = 256

pub record TextLine : Type 0 where
  pub number : ℕ
  pub text : List ℕ
  -- the bytes of the script up to the end of the line
  pub reach : ℕ

-- a line that begins with `#`
abbrev pub is_comment : List ℕ → Bool
is_comment text = slice_index text 0 == 35

-- a comment, or a line without words
abbrev pub is_skipped : List ℕ → Bool
is_skipped text = is_comment text || length (words_of text) == 0

-- The script after a line, or why the line is refused. There is none before the servers line.
unfoldable pub line_verdict : Option Script → TextLine → Result (Option Script) Cause
line_verdict before line =
    if not (list_all is_ascii line.text) then Err NotAscii
    else if nat_lt longest_line (length line.text) || nat_lt longest_script line.reach then Err TooLong
    else if is_skipped line.text then Ok before
    else counted before line.number (words_of line.text) >>= (λ s. Ok (Some s))

unfoldable pub lines_after : ℕ → ℕ → List (List ℕ) → List TextLine
lines_after number reach [] = []
lines_after number reach (piece ∷ more) =
    record { number = number + 1; text = without_end piece; reach = reach + length piece } ∷ lines_after (number + 1) (reach + length piece) more

abbrev pub text_lines : List ℕ → List TextLine
text_lines text = lines_after 0 0 (pieces text)

pub record Refusal : Type 0 where
  pub line : ℕ
  pub cause : Cause

abbrev pub ended : Option Script → Result Script Refusal
ended None = Err (record { line = 1; cause = NoServersLine })
ended (Some s) = Ok s

abbrev pub goes_on : (Option Script → Result Script Refusal) → ℕ → Result (Option Script) Cause → Result Script Refusal
goes_on rest number (Ok after) = rest after
goes_on rest number (Err cause) = Err (record { line = number; cause = cause })

-- The lines one by one, up to the first that is refused.
unfoldable pub script_from : List TextLine → Option Script → Result Script Refusal
script_from [] before = ended before
script_from (line ∷ lines) before = goes_on (script_from lines) line.number (line_verdict before line)

unfoldable pub script_of : List ℕ → Result Script Refusal
script_of text = script_from (text_lines text) None

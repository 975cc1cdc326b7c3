-- The nine faults of a line, each said for itself by the line's form and the words in their places.
use Rattle.std.specs.Prelude.{ℕ, ◌+◌, ◌-◌, Bool, true, false, not, ◌||◌, ◌&&◌, ◌==◌, nat_eq, nat_lt, nat_le, List, [], ◌∷◌, ◌++◌, length, take, drop}
use Rattle.std.specs.Prelude.{if◌then◌else◌, codes, slice_index, Option, Some, None, is_none, is_some, Result, Ok, Err, map}
use Rattle.std.specs.List.{list_all, list_any, position}
use Rattle.std.specs.Char.{is_ascii}
use Rattle.petal_base.specs.Name.{is_name}
use Rattle.petal_base.specs.Tuple.{is_tuple}
use Rattle.petal_script.specs.Text.{words_of}
use Rattle.petal_script.specs.Number.{is_number, value}
use Rattle.petal_script.specs.Words.{Word, is_word}
use Rattle.petal_script.specs.Fields.{numbers_of}
use Rattle.petal_script.specs.Client.{client_request}
use Rattle.petal_script.specs.Operator.{operator_request}
use Rattle.petal_script.specs.Script.{TextLine, is_skipped, is_client, too_many, no_majority, longest_script, longest_line}
use Rattle.script_lines.specs.declared.script.Script.{Script}
use Rattle.script_lines.specs.declared.request.Line.{Line}
use Rattle.script_lines.specs.declared.request.Request.{Request}
use Rattle.petal_script.specs.declared.cause.Cause.{Cause}
use Rattle.petal_script.specs.declared.cause.Cause.TheVariants.{NotAscii, TooLong, NoServersLine, BadLine, BadName, BadNumber, BadTuple, TooMany, NoMajority}

-- ### The forms of lines

-- a word in a number's place, and the limits there
pub record NumberPosition : Type 0 where
  pub word : Word
  pub least : ℕ
  pub most : ℕ

-- the words of a line in their places; what stands after `on`, if it does
pub record Positions : Type 0 where
  pub names : List Word
  pub numbers : List NumberPosition
  pub tuple : Option (List Word)

abbrev pub place : ℕ → ℕ → Word → NumberPosition
place least most word = record { word = word; least = least; most = most }

abbrev pub numbers_only : List NumberPosition → Option Positions
numbers_only numbers = Some (record { names = []; numbers = numbers; tuple = None })

abbrev pub server_place : ℕ → Word → NumberPosition
server_place servers word = place 0 (servers - 1) word

-- servers N slots K
abbrev pub servers_positions : List Word → Option Positions
servers_positions (n ∷ slots ∷ k ∷ []) =
    if is_word slots (codes "slots") then numbers_only (place 2 8 n ∷ place 1 1024 k ∷ []) else None
servers_positions _ = None

-- net lose K, net twice K: each once, before the first request
abbrev pub net_positions : Script → List Word → Option Positions
net_positions s (what ∷ k ∷ []) =
    if length s.lines == 0
    && ((is_word what (codes "lose") && not (is_some s.lose)) || (is_word what (codes "twice") && not (is_some s.twice)))
    then numbers_only (place 2 1000000 k ∷ []) else None
net_positions s _ = None

-- wait, op settle
abbrev pub bare_positions : List Word → Option Positions
bare_positions [] = numbers_only []
bare_positions _ = None

-- disk V on S S .., move V on S S ..
abbrev pub spread_positions : List Word → Option Positions
spread_positions (disk ∷ on ∷ server ∷ servers) =
    if is_word on (codes "on") then Some (record { names = disk ∷ []; numbers = []; tuple = Some (server ∷ servers) }) else None
spread_positions _ = None

-- how many bytes a pattern takes
abbrev pub pattern_length : Word → ℕ
pattern_length kind =
    if is_word kind (codes "fill") then 1
    else if is_word kind (codes "ramp") then 1
    else if is_word kind (codes "halves") then 2
    else 0

-- write V B fill X, write V B ramp X, write V B halves X Y
abbrev pub write_positions : List Word → Option Positions
write_positions (disk ∷ block ∷ kind ∷ byte ∷ bytes) =
    if length (byte ∷ bytes) == pattern_length kind
    then Some (record { names = disk ∷ []; numbers = place 0 281474976710655 block ∷ map (place 0 255) (byte ∷ bytes); tuple = None })
    else None
write_positions _ = None

-- V or V@T, parted at the first `@`
abbrev pub version_names : Word → Option ℕ → List Word
version_names word None = word ∷ []
version_names word (Some at) = take at word ∷ drop (at + 1) word ∷ []

-- read V B, read V@T B
abbrev pub read_positions : List Word → Option Positions
read_positions (disk ∷ block ∷ []) =
    Some (record { names = version_names disk (position (nat_eq 64) disk); numbers = place 0 281474976710655 block ∷ []; tuple = None })
read_positions _ = None

-- snap V T
abbrev pub snap_positions : List Word → Option Positions
snap_positions (disk ∷ snap ∷ []) = Some (record { names = disk ∷ snap ∷ []; numbers = []; tuple = None })
snap_positions _ = None

-- after a client
abbrev pub client_positions : List Word → Option Positions
client_positions [] = None
client_positions (verb ∷ words) =
    if is_word verb (codes "disk") then spread_positions words
    else if is_word verb (codes "write") then write_positions words
    else if is_word verb (codes "read") then read_positions words
    else if is_word verb (codes "snap") then snap_positions words
    else if is_word verb (codes "move") then spread_positions words
    else None

-- op stop S, op stop S at K
abbrev pub stop_positions : ℕ → List Word → Option Positions
stop_positions servers (s ∷ []) = numbers_only (server_place servers s ∷ [])
stop_positions servers (s ∷ at ∷ k ∷ []) =
    if is_word at (codes "at") then numbers_only (server_place servers s ∷ place 1 1000000 k ∷ []) else None
stop_positions servers _ = None

-- op start S, op blank S
abbrev pub boot_positions : ℕ → List Word → Option Positions
boot_positions servers (s ∷ []) = numbers_only (server_place servers s ∷ [])
boot_positions servers _ = None

abbrev pub is_device : Word → Bool
is_device word = is_word word (codes "data") || is_word word (codes "state")

abbrev pub is_kind : Word → Bool
is_kind word = is_word word (codes "read") || is_word word (codes "write") || is_word word (codes "sync")

-- op fault S data KIND K, op fault S state KIND K
abbrev pub fault_positions : ℕ → List Word → Option Positions
fault_positions servers (s ∷ device ∷ kind ∷ k ∷ []) =
    if is_device device && is_kind kind then numbers_only (server_place servers s ∷ place 1 1000000 k ∷ []) else None
fault_positions servers _ = None

-- after `op`
abbrev pub operator_positions : ℕ → List Word → Option Positions
operator_positions servers [] = None
operator_positions servers (verb ∷ words) =
    if is_word verb (codes "stop") then stop_positions servers words
    else if is_word verb (codes "start") then boot_positions servers words
    else if is_word verb (codes "blank") then boot_positions servers words
    else if is_word verb (codes "fault") then fault_positions servers words
    else if is_word verb (codes "settle") then bare_positions words
    else None

-- a line that counts; None where it has no form or may not stand there
abbrev pub line_positions : Option Script → List Word → Option Positions
line_positions before [] = None
line_positions None (first ∷ words) = servers_positions words
line_positions (Some s) (first ∷ words) =
    if is_word first (codes "servers") then None
    else if is_word first (codes "net") then net_positions s words
    else if is_word first (codes "wait") then bare_positions words
    else if is_word first (codes "op") then operator_positions s.servers words
    else if is_client first then client_positions words
    else None

-- ### Faults of words in their places

-- the place holds a number within its limits
abbrev pub is_good : NumberPosition → Bool
is_good p = is_number p.word && (nat_le p.least (value p.word) && nat_le (value p.word) p.most)

abbrev pub bad_name : Option Positions → Bool
bad_name None = false
bad_name (Some p) = list_any (λ word. not (is_name word)) p.names

-- one of the words after `on` is no number
abbrev pub unreadable : Option (List Word) → Bool
unreadable None = false
unreadable (Some words) = is_none (numbers_of words)

abbrev pub bad_number : Option Positions → Bool
bad_number None = false
bad_number (Some p) = unreadable p.tuple || list_any (λ n. not (is_good n)) p.numbers

-- all are numbers, and no tuple
abbrev pub is_unfit : ℕ → Option (List ℕ) → Bool
is_unfit servers None = false
is_unfit servers (Some ids) = not (is_tuple servers ids)

abbrev pub unfit_words : ℕ → Option (List Word) → Bool
unfit_words servers None = false
unfit_words servers (Some words) = is_unfit servers (numbers_of words)

abbrev pub bad_tuple : ℕ → Option Positions → Bool
bad_tuple servers None = false
bad_tuple servers (Some p) = unfit_words servers p.tuple

-- ### Faults of a line in its script

-- a line that isn't skipped
abbrev pub counts : TextLine → Bool
counts line = not (is_skipped line.text)

-- the first line that counts, and it doesn't begin with `servers`
abbrev pub lacks_servers : Option Script → List Word → Bool
lacks_servers None [] = true
lacks_servers None (first ∷ words) = not (is_word first (codes "servers"))
lacks_servers (Some s) words = false

-- the requests so far and one more, if it can be read
abbrev pub with_request : Script → ℕ → ℕ → Result Request Cause → Option (List Line)
with_request s number client (Ok request) =
    Some (s.lines ++ record { number = number; phase = s.phases - 1; client = client; request = request } ∷ [])
with_request s number client (Err cause) = None

-- it asks for nothing
abbrev pub asks_nothing : Word → Bool
asks_nothing first = is_word first (codes "servers") || (is_word first (codes "net") || is_word first (codes "wait"))

-- the requests so far and that of a line, if it asks for one
abbrev pub lines_with : Option Script → ℕ → List Word → Option (List Line)
lines_with None number words = None
lines_with (Some s) number [] = None
lines_with (Some s) number (first ∷ words) =
    if asks_nothing first then None
    else if is_word first (codes "op") then with_request s number 8 (operator_request s.servers words)
    else if is_client first then with_request s number (slice_index first 0 - 97) (client_request s.servers words)
    else None

abbrev pub are_too_many : Option (List Line) → Bool
are_too_many None = false
are_too_many (Some lines) = too_many lines

abbrev pub leave_no_majority : ℕ → Option (List Line) → Bool
leave_no_majority servers None = false
leave_no_majority servers (Some lines) = no_majority servers lines

abbrev pub servers_in : Option Script → ℕ
servers_in None = 0
servers_in (Some s) = s.servers

-- a line after these lines has this fault
abbrev pub has_fault : Cause → Option Script → TextLine → Bool
has_fault NotAscii before line = not (list_all is_ascii line.text)
has_fault TooLong before line = nat_lt longest_line (length line.text) || nat_lt longest_script line.reach
has_fault NoServersLine before line = counts line && lacks_servers before (words_of line.text)
has_fault BadLine before line = counts line && is_none (line_positions before (words_of line.text))
has_fault BadName before line = counts line && bad_name (line_positions before (words_of line.text))
has_fault BadNumber before line = counts line && bad_number (line_positions before (words_of line.text))
has_fault BadTuple before line = counts line && bad_tuple (servers_in before) (line_positions before (words_of line.text))
has_fault TooMany before line = counts line && are_too_many (lines_with before line.number (words_of line.text))
has_fault NoMajority before line = counts line && leave_no_majority (servers_in before) (lines_with before line.number (words_of line.text))

-- the order in which faults are looked for
abbrev pub in_order : List Cause
in_order = NotAscii ∷ TooLong ∷ NoServersLine ∷ BadLine ∷ BadName ∷ BadNumber ∷ BadTuple ∷ TooMany ∷ NoMajority ∷ []

-- why a line is refused, if it is
abbrev pub told : {X : Type 0} → Result X Cause → Option Cause
told (Ok x) = None
told (Err cause) = Some cause

-- The script of a drill: requests that are drawn from a number, while one server at a time is stopped and started again.
use Rattle.std.specs.Prelude.{ℕ, zero, suc, ◌+◌, ◌*◌, ◌/◌, ◌%◌, ◌==◌, ◌&&◌, nat_lt, List, ◌∷◌, ◌++◌, codes, decimal, if◌then◌else◌}

-- ### Draws

-- the number that is drawn after this one
abbrev pub draw : ℕ → ℕ
draw number = (number * 1103515245 + 12345) % 2147483648

-- what a number that was drawn stands for, below a bound
abbrev pub drawn : ℕ → ℕ → ℕ
drawn number below = (number / 65536) % below

-- ### Lines

-- five servers, one disk over all of them
abbrev pub first_lines : List ℕ
first_lines = codes "servers 5 slots 256\na disk vol on 0 1 2 3 4\nwait\n"

abbrev pub last_line : List ℕ
last_line = codes "wait\n"

abbrev pub stop_lines : ℕ → List ℕ
stop_lines server = codes "wait\nop stop " ++ (decimal server ++ codes "\n")

abbrev pub start_lines : ℕ → List ℕ
start_lines server = codes "wait\nop start " ++ (decimal server ++ codes "\nop settle\nwait\n")

abbrev pub read_line : (client block : ℕ) → List ℕ
read_line client block = (97 + client) ∷ (codes " read vol " ++ (decimal block ++ codes "\n"))

abbrev pub write_line : (client block byte : ℕ) → List ℕ
write_line client block byte = (97 + client) ∷ (codes " write vol " ++ (decimal block ++ (codes " fill " ++ (decimal byte ++ codes "\n"))))

-- one request in three reads
abbrev pub request_line : (kind client block byte : ℕ) → List ℕ
request_line kind client block byte = if kind == 0 then read_line client block else write_line client block byte

-- ### Turns

-- a drill so far: the number that was drawn last, the server that was stopped last, and the text
pub record Drill : Type 0 where
  pub number : ℕ
  pub stopped : ℕ
  pub text : List ℕ

-- the server that was stopped starts again
unfoldable pub starts : Drill → Drill
starts d = record d { text = d.text ++ start_lines d.stopped }

-- one of the five servers stops
unfoldable pub stops : Drill → Drill
stops d =
    let number = draw d.number in
    let server = drawn number 5 in
    record { number = number; stopped = server; text = d.text ++ stop_lines server }

-- one of eight clients asks for one of eight blocks that no other client asks for
unfoldable pub asks : Drill → Drill
asks d =
    let for_client = draw d.number in
    let for_block = draw for_client in
    let for_byte = draw for_block in
    let for_kind = draw for_byte in
    let client = drawn for_client 8 in
    let block = 8 * drawn for_block 8 + client in
    record d { number = for_kind; text = d.text ++ request_line (drawn for_kind 3) client block (drawn for_byte 255 + 1) }

-- in the middle of each sixteen turns a server stops, and after them it starts again
unfoldable pub turn : ℕ → Drill → Drill
turn i d =
    if i % 16 == 0 && nat_lt 0 i then asks (starts d)
    else if i % 16 == 8 then asks (stops d)
    else asks d

-- the drill after so many turns
unfoldable pub drill_after : (seed turns : ℕ) → Drill
drill_after seed zero = record { number = seed; stopped = 0; text = first_lines }
drill_after seed (suc i) = turn i (drill_after seed i)

-- the text whose script the drill runs
unfoldable pub drill_text : (seed count : ℕ) → List ℕ
drill_text seed count = (drill_after seed count).text ++ last_line

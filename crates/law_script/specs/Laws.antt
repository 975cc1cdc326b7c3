-- What holds of every text, in words that stand above the reading line by line.
use Rattle.std.specs.Prelude.{◌≡◌, ◌≢◌, ℕ, ◌+◌, ◌-◌, ◌<◌, List, [], ◌∷◌, ◌++◌, length, get_or, Option, None, Ok, Err, ◌⊎◌, codes, true, false}
use Rattle.std.specs.List.{AllByRecursion}
use Rattle.petal_script.specs.Text.{words_of}
use Rattle.petal_script.specs.Words.{Word, is_word}
use Rattle.petal_script.specs.Client.{client_request}
use Rattle.petal_script.specs.Operator.{operator_request}
use Rattle.script_lines.specs.declared.script.Script.{Script}
use Rattle.petal_script.specs.Script.{TextLine, Refusal, line_verdict, is_skipped, client_of, first_line, net_line, too_many, no_majority}
use Rattle.petal_script.specs.declared.cause.Cause.TheVariants.{NoServersLine}
use Rattle.script_lines.specs.declared.request.Request.{Request}
use Rattle.script_lines.specs.declared.request.Line.{Line}

-- Each of the lines is taken, from the script before them to the one after.
abbrev pub Taken : List TextLine → Option Script → Option Script → Type 0
Taken [] before after = before ≡ after
Taken (line ∷ lines) before after = (next : Option Script) × (line_verdict before line ≡ Ok next) × Taken lines next after

-- A line is the first that is refused: those before it are taken, and it isn't.
pub record IsFirstRefused (lines : List TextLine) (r : Refusal) : Type 0 where
  pub front : List TextLine
  pub line : TextLine
  pub following : List TextLine
  pub before : Option Script
  pub lies : lines ≡ front ++ line ∷ following
  pub taken : Taken front None before
  pub wrong : line_verdict before line ≡ Err r.cause
  pub number : r.line ≡ line.number

-- No line counts and none is refused.
pub record IsWithoutLines (lines : List TextLine) (r : Refusal) : Type 0 where
  pub taken : Taken lines None None
  pub line : r.line ≡ 1
  pub cause : r.cause ≡ NoServersLine

-- A line with its end: bytes that aren't LF, and then LF; the last may lack it.
pub record IsPiece (piece : List ℕ) : Type 0 where
  pub some : 0 < length piece
  pub none : (k : ℕ) → k + 1 < length piece → get_or piece k 0 ≢ 10

-- The lines of a text with their ends: each but the last ends with LF.
abbrev pub AreLines : List (List ℕ) → Type 0
AreLines [] = Unit {0}
AreLines (piece ∷ []) = IsPiece piece
AreLines (piece ∷ next ∷ more) = IsPiece piece × (get_or piece (length piece - 1) 0 ≡ 10) × AreLines (next ∷ more)

-- What stands in a request's line: `op` and an operator's request, or a client and a client's request.
abbrev pub Asks : ℕ → Word → List Word → ℕ → Request → Type 0
Asks servers first words client request =
    ((is_word first (codes "op") ≡ true) × (client ≡ 8) × (operator_request servers words ≡ Ok request))
    ⊎ ((is_word first (codes "op") ≡ false) × (client_of first ≡ Ok client) × (client_request servers words ≡ Ok request))

abbrev pub line_at : Script → ℕ → ℕ → Request → Line
line_at s number client request = record { number = number; phase = s.phases - 1; client = client; request = request }

-- What a line does that is taken after the servers line.
pub data Does (s : Script) (told : TextLine) (t : Script) : Type 0 where
  skipped : is_skipped told.text ≡ true → t ≡ s → Does s told t
  nets : (first : Word) (words : List Word) → words_of told.text ≡ first ∷ words → is_word first (codes "net") ≡ true → net_line s words ≡ Ok t → Does s told t
  waits : (first : Word) → words_of told.text ≡ first ∷ [] → is_word first (codes "wait") ≡ true → t ≡ record s { phases = s.phases + 1 } → Does s told t
  asks : (first : Word) (words : List Word) (client : ℕ) (request : Request)
      → words_of told.text ≡ first ∷ words → Asks s.servers first words client request → too_many t.lines ≡ false → no_majority t.servers t.lines ≡ false
      → t ≡ record s { lines = s.lines ++ line_at s told.number client request ∷ [] } → Does s told t

-- The lines after the servers line, one by one, from script to script.
abbrev pub Follows : Script → List TextLine → Script → Type 0
Follows s [] t = t ≡ s
Follows s (told ∷ more) t = (next : Script) × Does s told next × Follows next more t

-- Skipped lines, the servers line, and lines that follow.
pub record IsAccepted (lines : List TextLine) (s : Script) : Type 0 where
  pub front : List TextLine
  pub servers : TextLine
  pub following : List TextLine
  pub begun : Script
  pub lies : lines ≡ front ++ servers ∷ following
  pub skipped_front : AllByRecursion (λ told. is_skipped told.text ≡ true) front
  pub begins : first_line (words_of servers.text) ≡ Ok begun
  pub follows : Follows begun following s

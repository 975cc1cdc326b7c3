-- The first refused line.
use Rattle.law_script.proofs.Imports.{[], ◌++◌, ◌+◌, ◌-◌, ◌<◌, ◌↔◌, ◌∙◌, ◌∷◌, ◌≡◌, ◌≢◌, ◌⊎◌, Cause, Err, List, NoServersLine, None, Ok, Option, Refusal}
use Rattle.law_script.proofs.Imports.{Result, Script, Some, TextLine, ap, arith, cases_eq, ended, eq-eqb, get_or, goes_on, inl, inr, length, line_verdict}
use Rattle.law_script.proofs.Imports.{lines_after, ne_eqb, onto_first, pieces, refl, script_from, script_of, slice_get, suc, sym, text_lines, without_end}
use Rattle.law_script.proofs.Imports.{zero, ℕ}
use Rattle.law_script.specs.Laws.{Taken, IsFirstRefused, IsWithoutLines, IsPiece, AreLines}
pub use Rattle.petal_script.proofs.Pieces.{concat-pieces}

-- with a state before the lines
record RefusedFrom (lines : List TextLine) (start : Option Script) (r : Refusal) : Type 0 where
  front : List TextLine
  line : TextLine
  following : List TextLine
  before : Option Script
  lies : lines ≡ front ++ line ∷ following
  taken : Taken front start before
  wrong : line_verdict before line ≡ Err r.cause
  number : r.line ≡ line.number

record EndsBare (lines : List TextLine) (start : Option Script) (r : Refusal) : Type 0 where
  taken : Taken lines start None
  line : r.line ≡ 1
  cause : r.cause ≡ NoServersLine

taken_by : (line : TextLine) (lines : List TextLine) (start : Option Script) (s : Script)
    → ((next : Option Script) → script_from lines next ≡ Ok s → Taken lines next (Some s)) → (v : Result (Option Script) Cause)
    → line_verdict start line ≡ v → goes_on (script_from lines) line.number v ≡ Ok s → Taken (line ∷ lines) start (Some s)
taken_by line lines start s again (Ok next) verdict is = (next, verdict, again next is)
taken_by line lines start s again (Err cause) verdict is = absurd (cc)

script_taken : (lines : List TextLine) (start : Option Script) (s : Script) → script_from lines start ≡ Ok s → Taken lines start (Some s)
unfolding script_from
script_taken [] None s is = absurd (cc)
script_taken [] (Some t) s is = (let e : t ≡ s = cc in ap Some e)
script_taken (line ∷ lines) start s is = taken_by line lines start s (λ next e. script_taken lines next s e) (line_verdict start line) refl is

taken_script : (lines : List TextLine) (start : Option Script) (s : Script) → Taken lines start (Some s) → script_from lines start ≡ Ok s
unfolding script_from
taken_script [] start s taken = ap ended taken
taken_script (line ∷ lines) start s taken = ap (goes_on (script_from lines) line.number) taken.1 ∙ taken_script lines taken.0 s taken.2

refused_by : (line : TextLine) (lines : List TextLine) (start : Option Script) (r : Refusal)
    → ((next : Option Script) → script_from lines next ≡ Err r → RefusedFrom lines next r ⊎ EndsBare lines next r)
    → (v : Result (Option Script) Cause) → line_verdict start line ≡ v → goes_on (script_from lines) line.number v ≡ Err r
    → RefusedFrom (line ∷ lines) start r ⊎ EndsBare (line ∷ lines) start r
refused_by line lines start r again (Ok next) verdict is = elim (again next is) [
  | inl h ↦ inl (record {
    front = line ∷ h.front;
    line = h.line;
    following = h.following;
    before = h.before;
    lies = ap (λ ls. line ∷ ls) h.lies;
    taken = (next, verdict, h.taken);
    wrong = h.wrong;
    number = h.number;
  })
  | inr h ↦ inr (record { taken = (next, verdict, h.taken); line = h.line; cause = h.cause })
]
refused_by line lines start r again (Err cause) verdict is =
    let e : r ≡ record { line = line.number; cause = cause } = cc in
    inl (record {
      front = [];
      line = line;
      following = lines;
      before = start;
      lies = refl;
      taken = refl;
      wrong = verdict ∙ ap (λ x. Err x.cause) (sym e);
      number = ap (λ x. x.line) e;
    })

script_refused : (lines : List TextLine) (start : Option Script) (r : Refusal) → script_from lines start ≡ Err r
    → RefusedFrom lines start r ⊎ EndsBare lines start r
unfolding script_from
script_refused [] None r is =
    let e : r ≡ record { line = 1; cause = NoServersLine } = cc in
    inr (record { taken = refl; line = ap (λ x. x.line) e; cause = ap (λ x. x.cause) e })
script_refused [] (Some t) r is = absurd (cc)
script_refused (line ∷ lines) start r is = refused_by line lines start r (λ next e. script_refused lines next r e) (line_verdict start line) refl is

shown : (r : Refusal) (n : ℕ) (cause : Cause) → r.line ≡ n → r.cause ≡ cause → record { line = n; cause = cause } ≡ r
shown r n cause line is = ap (λ m. record { line = m; cause = cause }) (sym line) ∙ ap (λ d. record { line = r.line; cause = d }) (sym is)

refused_script : (front : List TextLine) (line : TextLine) (following : List TextLine) (start before : Option Script) (r : Refusal)
    → Taken front start before → line_verdict before line ≡ Err r.cause → r.line ≡ line.number → script_from (front ++ line ∷ following) start ≡ Err r
unfolding script_from
refused_script [] line following start before r taken wrong number =
    ap (λ b. goes_on (script_from following) line.number (line_verdict b line)) taken
    ∙ ap (goes_on (script_from following) line.number) wrong
    ∙ ap Err (shown r line.number r.cause number refl)
refused_script (first ∷ front) line following start before r taken wrong number =
    ap (goes_on (script_from (front ++ line ∷ following)) first.number) taken.1 ∙ refused_script front line following taken.0 before r taken.2 wrong number

bare_script : (lines : List TextLine) (start : Option Script) (r : Refusal) → Taken lines start None → r.line ≡ 1 → r.cause ≡ NoServersLine
    → script_from lines start ≡ Err r
unfolding script_from
bare_script [] start r taken line cause = ap ended taken ∙ ap Err (shown r 1 NoServersLine line cause)
bare_script (first ∷ lines) start r taken line cause = ap (goes_on (script_from lines) first.number) taken.1 ∙ bare_script lines taken.0 r taken.2 line cause

pub is_script : (text : List ℕ) (s : Script) → (script_of text ≡ Ok s) ↔ Taken (text_lines text) None (Some s)
unfolding script_of
is_script text s = (script_taken (text_lines text) None s, taken_script (text_lines text) None s)

at_front : (lines : List TextLine) (r : Refusal) → RefusedFrom lines None r ⊎ EndsBare lines None r → IsFirstRefused lines r ⊎ IsWithoutLines lines r
at_front lines r (inl h) =
    inl (record {
      front = h.front;
      line = h.line;
      following = h.following;
      before = h.before;
      lies = h.lies;
      taken = h.taken;
      wrong = h.wrong;
      number = h.number;
    })
at_front lines r (inr h) = inr (record { taken = h.taken; line = h.line; cause = h.cause })

from_front : (lines : List TextLine) (r : Refusal) → IsFirstRefused lines r ⊎ IsWithoutLines lines r → script_from lines None ≡ Err r
from_front lines r (inl h) = ap (λ ls. script_from ls None) h.lies ∙ refused_script h.front h.line h.following None h.before r h.taken h.wrong h.number
from_front lines r (inr h) = bare_script lines None r h.taken h.line h.cause

pub is_refused : (text : List ℕ) (r : Refusal) → (script_of text ≡ Err r) ↔ (IsFirstRefused (text_lines text) r ⊎ IsWithoutLines (text_lines text) r)
unfolding script_of
is_refused text r = (λ e. at_front (text_lines text) r (script_refused (text_lines text) None r e), from_front (text_lines text) r)

-- ### Lines

one_piece : (b : ℕ) → IsPiece (b ∷ [])
one_piece b = record { some = omega arith; none = λ k below. absurd (omega arith) }

piece_onto : (b : ℕ) (piece : List ℕ) → b ≢ 10 → IsPiece piece → IsPiece (b ∷ piece)
piece_onto b piece ne h = record { some = omega arith; none = none }
  where
    none : (k : ℕ) → k + 1 < length (b ∷ piece) → get_or (b ∷ piece) k 0 ≢ 10
    none zero below = ne
    none (suc k) below = h.none k (omega arith)

last_onto : (b : ℕ) (piece : List ℕ) → 0 < length piece → get_or (b ∷ piece) (length (b ∷ piece) - 1) 0 ≡ get_or piece (length piece - 1) 0
last_onto b [] some = absurd (omega arith)
last_onto b (c ∷ cs) some = let e : length (b ∷ c ∷ cs) - 1 ≡ suc (length (c ∷ cs) - 1) = omega arith in ap (λ n. get_or (b ∷ c ∷ cs) n 0) e

are_onto : (b : ℕ) (parts : List (List ℕ)) → b ≢ 10 → AreLines parts → AreLines (onto_first b parts)
are_onto b [] ne are = one_piece b
are_onto b (piece ∷ []) ne are = piece_onto b piece ne are
are_onto b (piece ∷ next ∷ more) ne are = (piece_onto b piece ne are.0, last_onto b piece are.0.some ∙ are.1, are.2)

are_after : (parts : List (List ℕ)) → AreLines parts → AreLines ((10 ∷ []) ∷ parts)
are_after [] are = one_piece 10
are_after (piece ∷ more) are = (one_piece 10, refl, are)

pub pieces_are : (text : List ℕ) → AreLines (pieces text)
pieces_are [] = tt
pieces_are (b ∷ bs) =
    let rest : AreLines (pieces bs) = pieces_are bs in
    elim (cases_eq b 10) [
      | inl e ↦ rw (eq-eqb b 10 e) (are_after (pieces bs) rest)
      | inr ne ↦ rw (ne_eqb b 10 ne) (are_onto b (pieces bs) ne rest)
    ]

numbered : (n reach : ℕ) (parts : List (List ℕ)) (k : ℕ) (line : TextLine) → slice_get (lines_after n reach parts) k ≡ Some line → line.number ≡ n + k + 1
unfolding lines_after
numbered n reach [] k line is = absurd (cc)
numbered n reach (piece ∷ more) zero line is = (let first : TextLine = record { number = n + 1; text = without_end piece; reach = reach + length piece } in
    let e : first ≡ line = cc in ap (λ l. l.number) (sym e) ∙ omega arith)
numbered n reach (piece ∷ more) (suc k) line is = numbered (n + 1) (reach + length piece) more k line is ∙ omega arith

pub number_at : (text : List ℕ) (k : ℕ) (line : TextLine) → slice_get (text_lines text) k ≡ Some line → line.number ≡ k + 1
number_at text k line is = numbered 0 0 (pieces text) k line is ∙ omega arith

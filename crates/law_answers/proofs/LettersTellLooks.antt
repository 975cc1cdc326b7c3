-- Which letter tells a look for a line, and what of a line's look is left.
use Rattle.law_answers.proofs.Imports.{[], if◌then◌else◌, ◌++◌, ◌<◌, ◌==◌, ◌∙◌, ◌∷◌, ◌≡◌, Actor, AreRising, Body, Bool, Event, In, Letter, Line, List, Look}
use Rattle.law_answers.proofs.Imports.{None, Option, Read, Record, Setting, Some, World, accepted, all_left, ap, arith, by_bool, false, flat_map, in-append}
use Rattle.law_answers.proofs.Imports.{in_map, inl, inr, look_by, look_for, number_itself, old_data, reads_old, refl, same_numbers, same_some, subst, sym}
use Rattle.law_answers.proofs.Imports.{true, ℕ}
use Rattle.law_answers.specs.Looks.{beside, letter_looks, look_beside, look_beside_data, of_line, record_looks}
use Rattle.petal_msg.specs.declared.body.Body.TheVariants as body

-- ### From a look to its letter

in_look : (lines : List Line) (o : Option ℕ) (bytes : List ℕ) (look : ℕ × Event) → In look (look_beside lines o bytes) → o ≡ Some look.0
unfolding In
in_look lines None bytes look i = absurd i
in_look lines (Some number) bytes look i =
    let m = in_map (λ (event : Event). (number, event)) (look_for lines (Some number) bytes) look i in
    ap Some (ap (λ (l : ℕ × Event). l.0) (sym m.2))

in_look_data : (lines : List Line) (o : Option (ℕ × List ℕ)) (look : ℕ × Event) → In look (look_beside_data lines o)
    → (given : ℕ × List ℕ) × (o ≡ Some given) × (given.0 ≡ look.0)
unfolding In
in_look_data lines None look i = absurd i
in_look_data lines (Some given) look i = (given, refl, same_some (in_look lines (Some given.0) given.1 look i))

-- a letter that tells the look: data that were not read by an old map, or what made the client ask there
pub data TellsIt (setting : Setting) (w next : World) (who : Actor) (later : List Record) (letter : Letter) (number : ℕ) : Type 0 where
  By_data : (seq : ℕ) (bytes : List ℕ) → letter.body ≡ body.Data seq bytes → reads_old setting w who ≡ false → accepted later letter ≡ Some number
      → TellsIt setting w next who later letter number
  By_turning : (seq : ℕ) (given : ℕ × List ℕ) → letter.body ≡ body.NotHere seq
      → old_data setting next later (record { letter = letter; seq = seq }) false ≡ Some given → given.0 ≡ number
      → TellsIt setting w next who later letter number

letter_tells : (setting : Setting) (w next : World) (who : Actor) (later : List Record) (letter : Letter) (what : Body) → letter.body ≡ what
    → (look : ℕ × Event) → In look (letter_looks setting w next who later letter what) → TellsIt setting w next who later letter look.0
unfolding In
letter_tells setting w next who later letter (body.Data seq bytes) is look i = by (reads_old setting w who) refl i
  where
    by : (b : Bool) → reads_old setting w who ≡ b → In look (if b then [] else look_beside setting.lines (accepted later letter) bytes)
        → TellsIt setting w next who later letter look.0
    by true e i = absurd i
    by false e i = By_data seq bytes is e (in_look setting.lines (accepted later letter) bytes look i)
letter_tells setting w next who later letter (body.NotHere seq) is look i =
    let d = in_look_data setting.lines (old_data setting next later (record { letter = letter; seq = seq }) false) look i in
    By_turning seq d.0 is d.1 d.2
letter_tells setting w next who later letter _ is look i = absurd i

-- it is one of those that the record sent
pub record IsToldBy (setting : Setting) (w next : World) (own : Record) (later : List Record) (number : ℕ) : Type 0 where
  pub letter : Letter
  pub there : In letter own.sent
  pub tells : TellsIt setting w next own.actor later letter number

pub told_by : (setting : Setting) (w next : World) (own : Record) (later : List Record) (look : ℕ × Event)
    → In look (record_looks setting w next own later) → IsToldBy setting w next own later look.0
unfolding In
told_by setting w next own later look i =
    by own.sent (λ letter j. j) i
  where
    by : (letters : List Letter) → ((letter : Letter) → In letter letters → In letter own.sent)
        → In look (flat_map (λ letter. letter_looks setting w next own.actor later letter letter.body) letters)
        → IsToldBy setting w next own later look.0
    by [] sub i = absurd i
    by (letter ∷ letters) sub i = elim (in-append look (letter_looks setting w next own.actor later letter letter.body)
        (flat_map (λ l. letter_looks setting w next own.actor later l l.body) letters) i) [
          | inl now ↦ record {
            letter = letter;
            there = sub letter (inl refl);
            tells = letter_tells setting w next own.actor later letter letter.body refl look now;
          }
          | inr on ↦ by letters (λ l j. sub l (inr j)) on
        ]

-- none of these looks is of the line
pub none_of_line : (number : ℕ) (looks : List (ℕ × Event)) → ((look : ℕ × Event) → In look looks → look.0 ≡ number → ⊥) → of_line number looks ≡ []
none_of_line number looks apart = all_left (λ (look : ℕ × Event). look.0 == number) looks
    (λ look i. by_bool (look.0 == number) (λ t. absurd (apart look i (same_numbers look.0 number t))) (λ f. f))

-- ### The look of a line

abbrev looks_in : List Line → ℕ → List ℕ → List Event
looks_in lines number bytes = look_for lines (Some number) bytes

is_above : (a b : ℕ) → a < b → (b == a) ≡ false
is_above a b lt = by_bool (b == a) (λ t. let e = same_numbers b a t in absurd (omega arith)) (λ f. f)

is_below : (a b : ℕ) → a < b → (a == b) ≡ false
is_below a b lt = by_bool (a == b) (λ t. let e = same_numbers a b t in absurd (omega arith)) (λ f. f)

none_after : (lines : List Line) (number : ℕ) (bytes : List ℕ) → ((other : Line) → In other lines → number < other.number)
    → looks_in lines number bytes ≡ []
unfolding In
none_after [] number bytes above = refl
none_after (line ∷ lines) number bytes above =
    ap (λ b. (if b then look_by line.request bytes else []) ++ looks_in lines number bytes) (is_above number line.number (above line (inl refl)))
    ∙ none_after lines number bytes (λ other i. above other (inr i))

-- a line of its own number has one look
pub line_looks : (lines : List Line) → AreRising lines → (line : Line) → In line lines → (name : List ℕ) (snap : Option (List ℕ)) (block : ℕ)
    → line.request ≡ Read name snap block → (bytes : List ℕ) → looks_in lines line.number bytes ≡ Look name snap block bytes ∷ []
unfolding In
line_looks [] rise line i name snap block asks bytes = absurd i
line_looks (first ∷ lines) rise line (inl e) name snap block asks bytes =
    let same : first.number ≡ line.number = ap (λ (l : Line). l.number) (sym e) in
    let asked : first.request ≡ Read name snap block = ap (λ (l : Line). l.request) (sym e) ∙ asks in
    let rest : looks_in lines line.number bytes ≡ [] =
    none_after lines line.number bytes (λ other i. subst (λ k. k < other.number) same (rise.0 other i)) in
    (λ i. (if same i == line.number then look_by (asked i) bytes else []) ++ rest i)
    ∙ ap (λ b. (if b then Look name snap block bytes ∷ [] else []) ++ []) (number_itself line.number)
line_looks (first ∷ lines) rise line (inr i) name snap block asks bytes =
    ap (λ b. (if b then look_by first.request bytes else []) ++ looks_in lines line.number bytes) (is_below first.number line.number (rise.0 line i))
    ∙ line_looks lines rise.1 line i name snap block asks bytes

-- beside its number it is the line's
pub beside_one : (number : ℕ) (look : Event) (events : List Event) → events ≡ look ∷ [] → of_line number (beside number events) ≡ (number, look) ∷ []
beside_one number look events e =
    ap (λ es. of_line number (beside number es)) e
    ∙ ap (λ b. if b then (number, look) ∷ [] else []) (number_itself number)

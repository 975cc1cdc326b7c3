-- The looks beside their lines are those of the events.
use Rattle.law_answers.proofs.Imports.{[], if◌then◌else◌, ◌++◌, ◌∙◌, ◌∷◌, ◌≡◌, Actor, Body, Bool, Event, Letter, Line, List, None, Option, Record, Setting}
use Rattle.law_answers.proofs.Imports.{Some, World, accepted, ap, false, flat_map, look_for, look_for_data, look_of, looks, map, old_data, reads_old, refl}
use Rattle.law_answers.proofs.Imports.{sym, true, ℕ}
use Rattle.law_answers.specs.Looks.{beside, letter_looks, look_beside, look_beside_data, record_looks}
use Rattle.petal_msg.specs.declared.body.Body.TheVariants as body

abbrev events_in : List (ℕ × Event) → List Event
events_in looks = map (λ look. look.1) looks

beside_is : (number : ℕ) (events : List Event) → events ≡ events_in (beside number events)
beside_is number [] = refl
beside_is number (event ∷ events) = ap (λ es. event ∷ es) (beside_is number events)

look_is : (lines : List Line) (o : Option ℕ) (bytes : List ℕ) → look_for lines o bytes ≡ events_in (look_beside lines o bytes)
look_is lines None bytes = refl
look_is lines (Some number) bytes = beside_is number (look_for lines (Some number) bytes)

data_is : (lines : List Line) (o : Option (ℕ × List ℕ)) → look_for_data lines o ≡ events_in (look_beside_data lines o)
data_is lines None = refl
data_is lines (Some given) = look_is lines (Some given.0) given.1

letter_is : (setting : Setting) (w next : World) (who : Actor) (later : List Record) (letter : Letter) (said : Body)
    → look_of setting w next who later letter said ≡ events_in (letter_looks setting w next who later letter said)
letter_is setting w next who later letter (body.Data seq bytes) = by (reads_old setting w who)
  where
    by : (b : Bool) → (if b then [] else look_for setting.lines (accepted later letter) bytes)
        ≡ events_in (if b then [] else look_beside setting.lines (accepted later letter) bytes)
    by true = refl
    by false = look_is setting.lines (accepted later letter) bytes
letter_is setting w next who later letter (body.NotHere seq) =
    data_is setting.lines (old_data setting next later (record { letter = letter; seq = seq }) false)
letter_is setting w next who later letter _ = refl

map_append : {A B : Type 0} (f : A → B) (xs ys : List A) → map f (xs ++ ys) ≡ map f xs ++ map f ys
map_append f [] ys = refl
map_append f (x ∷ xs) ys = ap (λ zs. f x ∷ zs) (map_append f xs ys)

pub events_of_looks : (setting : Setting) (w next : World) (own : Record) (later : List Record)
    → looks setting w next own later ≡ map (λ look. look.1) (record_looks setting w next own later)
events_of_looks setting w next own later = by own.sent
  where
    by : (letters : List Letter) → flat_map (λ letter. look_of setting w next own.actor later letter letter.body) letters
        ≡ events_in (flat_map (λ letter. letter_looks setting w next own.actor later letter letter.body) letters)
    by [] = refl
    by (letter ∷ letters) =
        (λ i. letter_is setting w next own.actor later letter letter.body i ++ by letters i)
        ∙ sym (map_append (λ (look : ℕ × Event). look.1) (letter_looks setting w next own.actor later letter letter.body)
        (flat_map (λ letter. letter_looks setting w next own.actor later letter letter.body) letters))

-- The data that a read gets by the old map: the letter that has it is found.
use Rattle.law_run.proofs.Imports.{[], if◌then◌else◌, ◌&&◌, ◌==◌, ◌∙◌, ◌∷◌, ◌≡◌, ◌⊎◌, Body, Bool, In, Letter, List, None, NotThere, Option, Record, Some}
use Rattle.law_run.proofs.Imports.{accepted, ap, both_true, by_bool, data_among, data_of, first_data, inl, inr, none_some, option_map, refl, same_actor}
use Rattle.law_run.proofs.Imports.{same_numbers, same_some, sym, ℕ}
use Rattle.law_run.proofs.LetterNames.{one_actor}
use Rattle.petal_msg.specs.declared.body.Body.TheVariants as body

-- the letter has data for the read that was told, at the same revision, and one of the records accepts it
pub record HasData (told : NotThere) (later : List Record) (letter : Letter) (given : ℕ × List ℕ) : Type 0 where
  pub says : letter.body ≡ body.Data told.seq given.1
  pub to : told.letter.to ≡ letter.to
  pub rev : told.letter.rev ≡ letter.rev
  pub accepts : accepted later letter ≡ Some given.0

mapped : (o : Option ℕ) (bytes : List ℕ) (given : ℕ × List ℕ) → option_map (λ (line : ℕ). (line, bytes)) o ≡ Some given
    → (o ≡ Some given.0) × (bytes ≡ given.1)
mapped None bytes given e = none_some refl e
mapped (Some line) bytes given e = let same : (line, bytes) ≡ given = same_some e in
    (ap (λ (g : ℕ × List ℕ). Some g.0) same, ap (λ (g : ℕ × List ℕ). g.1) same)

abbrev matches : NotThere → Letter → ℕ → Bool
matches told letter seq = same_actor told.letter.to letter.to && (told.letter.rev == letter.rev) && (told.seq == seq)

one_data : (told : NotThere) (later : List Record) (letter : Letter) (what : Body) (given : ℕ × List ℕ) → letter.body ≡ what
    → data_of told later letter what ≡ Some given → HasData told later letter given
one_data told later letter (body.Data seq bytes) given is e = by_bool (matches told letter seq)
    (λ t.
    let outer = both_true (same_actor told.letter.to letter.to && (told.letter.rev == letter.rev)) (told.seq == seq) t in
    let inner = both_true (same_actor told.letter.to letter.to) (told.letter.rev == letter.rev) outer.0 in
    let m = mapped (accepted later letter) bytes given
    (sym (ap (λ b. if b then option_map (λ (line : ℕ). (line, bytes)) (accepted later letter) else None) t) ∙ e) in
    record {
      says = is ∙ (λ i. body.Data (sym (same_numbers told.seq seq outer.1) i) (m.1 i));
      to = one_actor told.letter.to letter.to inner.0;
      rev = same_numbers told.letter.rev letter.rev inner.1;
      accepts = m.0;
    })
    (λ f. none_some (ap (λ b. if b then option_map (λ (line : ℕ). (line, bytes)) (accepted later letter) else None) f) e)
one_data told later letter _ given is e = none_some refl e

pub some_data : (one two : Option (ℕ × List ℕ)) (given : ℕ × List ℕ) → first_data one two ≡ Some given → (one ≡ Some given) ⊎ (two ≡ Some given)
some_data None two given e = inr e
some_data (Some x) two given e = inl e

-- one of the letters has it
pub record IsAmong (told : NotThere) (later : List Record) (letters : List Letter) (given : ℕ × List ℕ) : Type 0 where
  pub letter : Letter
  pub there : In letter letters
  pub has : HasData told later letter given

pub in_data : (told : NotThere) (later : List Record) (letters : List Letter) (given : ℕ × List ℕ) → data_among told later letters ≡ Some given
    → IsAmong told later letters given
unfolding In
in_data told later [] given e = none_some refl e
in_data told later (letter ∷ letters) given e = elim (some_data (data_of told later letter letter.body) (data_among told later letters) given e) [
  | inl now ↦ record { letter = letter; there = inl refl; has = one_data told later letter letter.body given refl now }
  | inr on ↦ let k = in_data told later letters given on in record { letter = k.letter; there = inr k.there; has = k.has }
]

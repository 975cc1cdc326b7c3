-- What the searches find by which looks are told: the record that accepts a letter, and the data that a read gets by the old map.
use Rattle.law_answers.proofs.Imports.{[], if◌then◌else◌, ◌&&◌, ◌++◌, ◌==◌, ◌||◌, ◌∙◌, ◌∷◌, ◌≡◌, ◌⊎◌, Actor, Answer, Bool, Deliver, HasData, In, Letter, List}
use Rattle.law_answers.proofs.Imports.{None, NotThere, Option, Record, Setting, Some, Step, World, accepted, accepts, ap, both_true, by_bool, data_among}
use Rattle.law_answers.proofs.Imports.{data_line, data_of, either_of, false, first_data, first_of, in_data, inl, inr, line_of_data, none_some, number_itself}
use Rattle.law_answers.proofs.Imports.{old_data, option_map, or_former, or_true, reads_old, refl, same_actor, same_name, same_some, some_data, some_first}
use Rattle.law_answers.proofs.Imports.{stepped, subst, sym, true, turns, world_after, ℕ}
use Rattle.petal_msg.specs.declared.letter.Actor.TheVariants as actor
use Rattle.script_lines.specs.declared.answer.Answer.TheVariants as answer

-- ### Who accepts a letter

-- the record is the delivery of a letter of this name, and answers the line with data
pub record IsAccepting (letter : Letter) (own : Record) (number : ℕ) : Type 0 where
  pub other : Letter
  pub what : own.step ≡ Deliver other
  pub same : same_name letter other ≡ true
  pub bytes : List ℕ
  pub answers : own.answer ≡ Some (number, answer.Data bytes)

line_data : (line : ℕ) (given : Answer) (number : ℕ) → line_of_data line given ≡ Some number → (bytes : List ℕ) × (line ≡ number) × (given ≡ answer.Data bytes)
line_data line (answer.Data bytes) number e = (bytes, same_some e, refl)
line_data line _ number e = none_some refl e

with_data : (o : Option (ℕ × Answer)) (number : ℕ) → data_line o ≡ Some number → (bytes : List ℕ) × (o ≡ Some (number, answer.Data bytes))
with_data None number e = none_some refl e
with_data (Some given) number e = let d = line_data given.0 given.1 number e in (d.0, λ i. Some (d.1 i, d.2 i))

accepting : (letter : Letter) (own : Record) (what : Step) (number : ℕ) → own.step ≡ what → accepts letter what own.answer ≡ Some number
    → IsAccepting letter own number
accepting letter own (Deliver other) number is e = by_bool (same_name letter other)
    (λ t.
    let d = with_data own.answer number (sym (ap (λ b. if b then data_line own.answer else None) t) ∙ e) in
    record { other = other; what = is; same = t; bytes = d.0; answers = d.1 })
    (λ f. none_some (ap (λ b. if b then data_line own.answer else None) f) e)
accepting letter own _ number is e = none_some refl e

-- one of these records does so
pub record IsAccepted (records : List Record) (letter : Letter) (number : ℕ) : Type 0 where
  pub prefix : List Record
  pub own : Record
  pub following : List Record
  pub is : records ≡ prefix ++ own ∷ following
  pub so : IsAccepting letter own number

pub accepted_in : (records : List Record) (letter : Letter) (number : ℕ) → accepted records letter ≡ Some number → IsAccepted records letter number
accepted_in [] letter number e = none_some refl e
accepted_in (own ∷ later) letter number e = elim (some_first (accepts letter own.step own.answer) (accepted later letter) number e) [
  | inl now ↦ record { prefix = []; own = own; following = later; is = refl; so = accepting letter own own.step number refl now }
  | inr on ↦
      let k = accepted_in later letter number on in
      record { prefix = own ∷ k.prefix; own = k.own; following = k.following; is = ap (λ rs. own ∷ rs) k.is; so = k.so }
]

all_true : (a b c : Bool) → a ≡ true → b ≡ true → c ≡ true → (a && b && c) ≡ true
all_true true true true e f g = refl
all_true true true false e f g = g
all_true true false c e f g = f
all_true false b c e f g = e

actor_itself : (a : Actor) → same_actor a a ≡ true
actor_itself (actor.Server n) = number_itself n
actor_itself (actor.Client c) = number_itself c

-- the name of a letter is its own
pub name_itself : (letter : Letter) → same_name letter letter ≡ true
name_itself letter = all_true (same_actor letter.from letter.from) (letter.stamp == letter.stamp) (letter.nth == letter.nth)
    (actor_itself letter.from) (number_itself letter.stamp) (number_itself letter.nth)

first_some : (one two : Option ℕ) (k : ℕ) → two ≡ Some k → (number : ℕ) × (first_of one two ≡ Some number)
first_some None two k e = (k, e)
first_some (Some n) two k e = (n, refl)

-- where a record delivers the letter and answers with data, one accepts it
pub is_accepted : (prefix : List Record) (own : Record) (following : List Record) (letter : Letter) (number : ℕ) (bytes : List ℕ)
    → own.step ≡ Deliver letter → own.answer ≡ Some (number, answer.Data bytes)
    → (k : ℕ) × (accepted (prefix ++ own ∷ following) letter ≡ Some k)
is_accepted [] own following letter number bytes what answers =
    let now : accepts letter own.step own.answer ≡ Some number =
    (λ i. accepts letter (what i) (answers i)) ∙ ap (λ b. if b then Some number else None) (name_itself letter) in
    (number, ap (λ o. first_of o (accepted following letter)) now)
is_accepted (x ∷ prefix) own following letter number bytes what answers =
    let k = is_accepted prefix own following letter number bytes what answers in
    first_some (accepts letter x.step x.answer) (accepted (prefix ++ own ∷ following) letter) k.0 k.1

-- ### The data that a read gets by the old map

module _ (setting : Setting) where
  -- with one of these records the client turns to the old map
  pub record HasTurn (w : World) (records : List Record) (letter : Letter) : Type 0 where
    pub prefix : List Record
    pub own : Record
    pub following : List Record
    pub is : records ≡ prefix ++ own ∷ following
    pub so : turns letter (world_after setting w prefix) own (stepped setting (world_after setting w prefix) own).world ≡ true

  turn_later : (w : World) (own : Record) (records : List Record) (letter : Letter) → HasTurn (stepped setting w own).world records letter
      → HasTurn w (own ∷ records) letter
  turn_later w own records letter t =
      record { prefix = own ∷ t.prefix; own = t.own; following = t.following; is = ap (λ rs. own ∷ rs) t.is; so = t.so }

  -- which letter has the data that the search found: a step sent it that read the old map, and the client had turned before
  pub record IsFound (w : World) (records : List Record) (turned : Bool) (told : NotThere) (given : ℕ × List ℕ) : Type 0 where
    pub prefix : List Record
    pub own : Record
    pub following : List Record
    pub is : records ≡ prefix ++ own ∷ following
    pub letter : Letter
    pub sent : In letter own.sent
    pub old : reads_old setting (world_after setting w prefix) own.actor ≡ true
    pub has : HasData told following letter given
    pub turn : (turned ≡ true) ⊎ HasTurn w prefix told.letter

  pub found : (w : World) (records : List Record) (turned : Bool) (told : NotThere) (given : ℕ × List ℕ)
      → old_data setting w records told turned ≡ Some given → IsFound w records turned told given
  found w [] turned told given e = none_some refl e
  found w (own ∷ later) turned told given e =
      let next = (stepped setting w own).world in
      elim (some_data (if turned && reads_old setting w own.actor then data_among told later own.sent else None)
      (old_data setting next later told (turned || turns told.letter w own next)) given e) [
        | inl now ↦ by_bool (turned && reads_old setting w own.actor)
            (λ t.
            let both = both_true turned (reads_old setting w own.actor) t in
            let k = in_data told later own.sent given
            (sym (ap (λ b. if b then data_among told later own.sent else None) t) ∙ now) in
            record {
              prefix = [];
              own = own;
              following = later;
              is = refl;
              letter = k.letter;
              sent = k.there;
              old = both.1;
              has = k.has;
              turn = inl both.0;
            })
            (λ f. none_some (ap (λ b. if b then data_among told later own.sent else None) f) now)
        | inr on ↦
            let k = found next later (turned || turns told.letter w own next) told given on in
            record {
              prefix = own ∷ k.prefix;
              own = k.own;
              following = k.following;
              is = ap (λ rs. own ∷ rs) k.is;
              letter = k.letter;
              sent = k.sent;
              old = k.old;
              has = k.has;
              turn = elim k.turn [
                | inr t ↦ inr (turn_later w own k.prefix told.letter t)
                | inl t ↦ elim (either_of turned (turns told.letter w own next) t) [
                  | inl before ↦ inl before
                  | inr now ↦ inr (record { prefix = []; own = own; following = k.prefix; is = refl; so = now })
                ]
              ];
            }
      ]

  -- ### The search finds something

  abbrev HasSome : Option (ℕ × List ℕ) → Type 0
  HasSome o = (given : ℕ × List ℕ) × (o ≡ Some given)

  first_has : (one two : Option (ℕ × List ℕ)) → HasSome one → HasSome (first_data one two)
  first_has one two h = (h.0, ap (λ o. first_data o two) h.1)

  second_has : (one two : Option (ℕ × List ℕ)) → HasSome two → HasSome (first_data one two)
  second_has None two h = h
  second_has (Some x) two h = (x, refl)

  actors_same : (a b : Actor) → a ≡ b → same_actor a b ≡ true
  actors_same a b e = ap (λ x. same_actor a x) (sym e) ∙ actor_itself a

  among_has : (told : NotThere) (later : List Record) (letters : List Letter) (letter : Letter) (given : ℕ × List ℕ) → In letter letters
      → HasData told later letter given → HasSome (data_among told later letters)
  unfolding In
  among_has told later [] letter given i d = absurd i
  among_has told later (first ∷ letters) letter given (inr i) d =
      second_has (data_of told later first first.body) (data_among told later letters) (among_has told later letters letter given i d)
  among_has told later (first ∷ letters) letter given (inl e) d =
      let is : data_of told later letter letter.body ≡ Some given =
      ap (data_of told later letter) d.says
      ∙ ap (λ b. if b then option_map (λ (line : ℕ). (line, given.1)) (accepted later letter) else None)
      (all_true (same_actor told.letter.to letter.to) (told.letter.rev == letter.rev) (told.seq == told.seq)
      (actors_same told.letter.to letter.to d.to) (ap (λ k. k == letter.rev) d.rev ∙ number_itself letter.rev) (number_itself told.seq))
      ∙ ap (option_map (λ (line : ℕ). (line, given.1))) d.accepts in
      first_has (data_of told later first first.body) (data_among told later letters)
      (subst (λ (l : Letter). HasSome (data_of told later l l.body)) e (given, is))

  -- where a step sent the data that had read the old map, after the client had turned
  pub finds : (w : World) (prefix : List Record) (own : Record) (following : List Record) (turned : Bool) (told : NotThere) (letter : Letter)
      (given : ℕ × List ℕ) → reads_old setting (world_after setting w prefix) own.actor ≡ true → In letter own.sent → HasData told following letter given
      → (turned ≡ true) ⊎ HasTurn w prefix told.letter
      → HasSome (old_data setting w (prefix ++ own ∷ following) told turned)
  finds w [] own following turned told letter given old i d turn =
      first_has (if turned && reads_old setting w own.actor then data_among told following own.sent else None) _
      (subst (λ b. HasSome (if b then data_among told following own.sent else None))
      (sym ((λ j. now turn j && old j))) (among_has told following own.sent letter given i d))
    where
      now : (turned ≡ true) ⊎ HasTurn w [] told.letter → turned ≡ true
      now (inl t) = t
      now (inr t) = absurd (none t.prefix t.is)
        where
          none : (rs : List Record) → [] ≡ rs ++ t.own ∷ t.following → ⊥
          none [] e = cc
          none (r ∷ rs) e = cc
  finds w (x ∷ prefix) own following turned told letter given old i d turn =
      let next = (stepped setting w x).world in
      second_has (if turned && reads_old setting w x.actor then data_among told (prefix ++ own ∷ following) x.sent else None)
      (old_data setting next (prefix ++ own ∷ following) told (turned || turns told.letter w x next))
      (finds next prefix own following (turned || turns told.letter w x next) told letter given old i d (on turn))
    where
      on : (turned ≡ true) ⊎ HasTurn w (x ∷ prefix) told.letter
          → ((turned || turns told.letter w x (stepped setting w x).world) ≡ true) ⊎ HasTurn (stepped setting w x).world prefix told.letter
      on (inl t) = inl (or_former turned _ t)
      on (inr t) = by t.prefix t.is t.so
        where
          by : (rs : List Record) → x ∷ prefix ≡ rs ++ t.own ∷ t.following
              → turns told.letter (world_after setting w rs) t.own (stepped setting (world_after setting w rs) t.own).world ≡ true
              → ((turned || turns told.letter w x (stepped setting w x).world) ≡ true) ⊎ HasTurn (stepped setting w x).world prefix told.letter
          by [] e so =
              let same : x ≡ t.own = cc in
              inl (or_true turned _ (subst (λ (r : Record). turns told.letter w r (stepped setting w r).world ≡ true) (sym same) so))
          by (r ∷ rs) e so =
              let same : x ≡ r = cc in
              let rest : prefix ≡ rs ++ t.own ∷ t.following = cc in
              inr (record {
                prefix = rs;
                own = t.own;
                following = t.following;
                is = rest;
                so = subst (λ (y : Record). turns told.letter (world_after setting (stepped setting w y).world rs) t.own
                    (stepped setting (world_after setting (stepped setting w y).world rs) t.own).world ≡ true) (sym same) so;
              })

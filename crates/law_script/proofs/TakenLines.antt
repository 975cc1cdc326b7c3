-- What a taken line
use Rattle.law_script.proofs.Imports.{[], ◌++◌, ◌+◌, ◌>>=◌, ◌||◌, ◌∙◌, ◌∷◌, ◌≡◌, ◌⊎◌, BadLine, Bool, Cause, Err, List, NoMajority, None, NotAscii, Ok, Option}
use Rattle.law_script.proofs.Imports.{Request, Result, Script, Some, TextLine, TooLong, TooMany, Word, adds, ap, client_of, client_request, codes, cond}
use Rattle.law_script.proofs.Imports.{false, first_line, front_word, inl, inr, is_ascii, is_skipped, is_word, later_line, length, line_by, line_verdict}
use Rattle.law_script.proofs.Imports.{list_all, longest_line, longest_script, nat_lt, no_majority, no_word, not, operator_request, refl, script_of, subst}
use Rattle.law_script.proofs.Imports.{text_lines, too_many, true, words_of, ℕ}
use Rattle.law_script.specs.Laws.{Does, skipped, nets, waits, asks, Asks, line_at, Taken, Follows, IsAccepted}
use Rattle.law_script.proofs.FirstRefusedLine.{is_script}

bind_ok : {A B : Type 0} (r : Result A Cause) (f : A → Result B Cause) (y : B) → (r >>= f) ≡ Ok y → (x : A) × (r ≡ Ok x) × (f x ≡ Ok y)
bind_ok (Ok x) f y is = (x, refl, is)
bind_ok (Err e) f y is = absurd (cc)

chosen : {A : Type 0} (b : Bool) (x y z : A) → cond b x y ≡ z → ((b ≡ true) × (x ≡ z)) ⊎ ((b ≡ false) × (y ≡ z))
chosen true x y z is = inl (refl, is)
chosen false x y z is = inr (refl, is)

passed : {A : Type 0} (b : Bool) (cause : Cause) (y : Result A Cause) (z : A) → cond b (Err cause) y ≡ Ok z → (b ≡ false) × (y ≡ Ok z)
passed true cause y z is = absurd (cc)
passed false cause y z is = (refl, is)

front_ok : (words : List Word) (x : Word × List Word) → front_word words ≡ Ok x → words ≡ x.0 ∷ x.1
front_ok [] x is = absurd (cc)
front_ok (word ∷ words) x is = let e : (word, words) ≡ x = cc in ap (λ y. y.0 ∷ y.1) e

none_ok : (words none : List Word) → no_word words ≡ Ok none → words ≡ []
none_ok [] none is = refl
none_ok (word ∷ words) none is = absurd (cc)

record Added (s t : Script) (number client : ℕ) (request : Request) : Type 0 where
  few : too_many t.lines ≡ false
  many : no_majority t.servers t.lines ≡ false
  after : t ≡ record s { lines = s.lines ++ line_at s number client request ∷ [] }

adds_ok : (s t : Script) (number client : ℕ) (request : Request) → adds s number client request ≡ Ok t → Added s t number client request
unfolding adds
adds_ok s t number client request is =
    let lines = s.lines ++ line_at s number client request ∷ [] in
    let few = passed (too_many lines) TooMany (cond (no_majority s.servers lines) (Err NoMajority) (Ok (record s { lines = lines }))) t is in
    let many = passed (no_majority s.servers lines) NoMajority (Ok (record s { lines = lines })) t few.1 in
    let after : t ≡ record s { lines = s.lines ++ line_at s number client request ∷ [] } = cc (many.1) in
    record {
      few = ap (λ u. too_many u.lines) after ∙ few.0;
      many = ap (λ u. no_majority u.servers u.lines) after ∙ many.0;
      after = after;
    }

asks_ok : (s t : Script) (told : TextLine) (first : Word) (words : List Word) (client : ℕ) (request : Request) → words_of told.text ≡ first ∷ words
    → Asks s.servers first words client request → adds s told.number client request ≡ Ok t → Does s told t
asks_ok s t told first words client request spelled asked is =
    let a = adds_ok s t told.number client request is in
    asks first words client request spelled asked a.few a.many a.after

line_ok : (s t : Script) (told : TextLine) (first : Word) (words : List Word) → words_of told.text ≡ first ∷ words
    → line_by s told.number first words ≡ Ok t → Does s told t
line_ok s t told first words spelled taken =
    let later = passed (is_word first (codes "servers")) BadLine _ t taken in
    elim (chosen (is_word first (codes "net")) _ _ (Ok t) later.1) [
      | inl net ↦ nets first words spelled net.0 net.1
      | inr a ↦ elim (chosen (is_word first (codes "wait")) _ _ (Ok t) a.1) [
        | inl wait ↦ (
            let ended = bind_ok (no_word words) (λ none. Ok (record s { phases = s.phases + 1 })) t wait.1 in
            let alone : words ≡ [] = none_ok words ended.0 ended.1 in
            let after : t ≡ record s { phases = s.phases + 1 } = cc (ended.2) in
            waits first (spelled ∙ ap (λ ws. first ∷ ws) alone) wait.0 after)
        | inr b ↦ elim (chosen (is_word first (codes "op")) _ _ (Ok t) b.1) [
          | inl op ↦ (
              let r = bind_ok (operator_request s.servers words) (adds s told.number 8) t op.1 in
              asks_ok s t told first words 8 r.0 spelled (inl (op.0, refl, r.1)) r.2)
          | inr c ↦ (
              let who = bind_ok (client_of first) (λ client. client_request s.servers words >>= adds s told.number client) t c.1 in
              let r = bind_ok (client_request s.servers words) (adds s told.number who.0) t who.2 in
              asks_ok s t told first words who.0 r.0 spelled (inr (c.0, who.1, r.1)) r.2)
        ]
      ]
    ]

later_ok : (s t : Script) (told : TextLine) → later_line s told.number (words_of told.text) ≡ Ok t → Does s told t
unfolding later_line
later_ok s t told is =
    let r = bind_ok (front_word (words_of told.text)) (λ first. line_by s told.number first.0 first.1) t is in
    line_ok s t told r.0.0 r.0.1 (front_ok (words_of told.text) r.0 r.1) r.2

pub taken_does : (s : Script) (told : TextLine) (after : Option Script) → line_verdict (Some s) told ≡ Ok after
    → (t : Script) × (after ≡ Some t) × Does s told t
unfolding line_verdict
taken_does s told after is =
    let ascii = passed (not (list_all is_ascii told.text)) NotAscii _ after is in
    let short = passed (nat_lt longest_line (length told.text) || nat_lt longest_script told.reach) TooLong _ after ascii.1 in
    elim (chosen (is_skipped told.text) _ _ (Ok after) short.1) [
      | inl h ↦ (let e : after ≡ Some s = cc (h.1) in (s, e, skipped h.0 refl))
      | inr h ↦ (
          let r = bind_ok (later_line s told.number (words_of told.text)) (λ t. Ok (Some t)) after h.1 in
          let e : after ≡ Some r.0 = cc (r.2) in
          (r.0, e, later_ok s r.0 told r.1))
    ]

follows : (lines : List TextLine) (s t : Script) → Taken lines (Some s) (Some t) → Follows s lines t
follows [] s t taken = (let e : t ≡ s = cc in e)
follows (told ∷ more) s t taken =
    let d = taken_does s told taken.0 taken.1 in
    let P : Option Script → Type 0 = λ o. Taken more o (Some t) in
    (d.0, d.2, follows more d.0 t (subst P d.1 taken.2))

begun : (told : TextLine) (after : Option Script) → line_verdict None told ≡ Ok after → ((is_skipped told.text ≡ true) × (after ≡ None))
    ⊎ ((s : Script) × (after ≡ Some s) × (first_line (words_of told.text) ≡ Ok s))
unfolding line_verdict
begun told after taken =
    let ascii = passed (not (list_all is_ascii told.text)) NotAscii _ after taken in
    let short = passed (nat_lt longest_line (length told.text) || nat_lt longest_script told.reach) TooLong _ after ascii.1 in
    elim (chosen (is_skipped told.text) _ _ (Ok after) short.1) [
      | inl h ↦ (let e : after ≡ None = cc (h.1) in inl (h.0, e))
      | inr h ↦ (
          let r = bind_ok (first_line (words_of told.text)) (λ t. Ok (Some t)) after h.1 in
          let e : after ≡ Some r.0 = cc (r.2) in
          inr (r.0, e, r.1))
    ]

accepted_from : (lines : List TextLine) (s : Script) → Taken lines None (Some s) → IsAccepted lines s
accepted_from [] s taken = absurd (cc)
accepted_from (told ∷ more) s taken =
    let P : Option Script → Type 0 = λ o. Taken more o (Some s) in
    elim (begun told taken.0 taken.1) [
      | inl h ↦ (
          let a = accepted_from more s (subst P h.1 taken.2) in
          record {
            front = told ∷ a.front;
            servers = a.servers;
            following = a.following;
            begun = a.begun;
            lies = ap (λ ls. told ∷ ls) a.lies;
            skipped_front = (h.0, a.skipped_front);
            begins = a.begins;
            follows = a.follows;
          })
      | inr h ↦ record {
        front = [];
        servers = told;
        following = more;
        begun = h.0;
        lies = refl;
        skipped_front = tt;
        begins = h.2;
        follows = follows more h.0 s (subst P h.1 taken.2);
      }
    ]

pub is_accepted : (text : List ℕ) (s : Script) → script_of text ≡ Ok s → IsAccepted (text_lines text) s
is_accepted text s taken = accepted_from (text_lines text) s ((is_script text s).0 taken)

-- In every script that is read, lines rise and are few, and phases rise with the numbers of lines.
use Rattle.std.proofs.Common.{◌≡◌, ℕ, ◌+◌, ◌-◌, ◌≤◌, ◌<◌, Bool, true, false, not, ◌&&◌, ◌==◌, List, [], ◌∷◌, ◌++◌, length, refl, sym, ap, subst}
use Rattle.std.proofs.Common.{cond, codes, arith, Some, None, is_some, Result, Ok, Err, ◌⊎◌, inl, inr}
use Rattle.petal_script.specs.Text.{pieces, without_end, words_of}
use Rattle.petal_script.specs.Words.{Word, ◌>>=◌, is_word, two_words, three_words}
use Rattle.petal_script.specs.Fields.{in_limits}
use Rattle.petal_script.specs.Script.{TextLine, text_lines, lines_after, first_line, servers_line, net_line, too_many}
use Rattle.law_script.specs.Laws.{IsAccepted, Does, skipped, nets, waits, asks, Follows, line_at}
use Rattle.petal_script.specs.declared.cause.Cause.{Cause}
use Rattle.petal_script.specs.declared.cause.Cause.TheVariants.{BadLine, NoServersLine}
use Rattle.script_lines.specs.declared.request.Line.{Line}
use Rattle.script_lines.specs.declared.script.Script.{Script}
use Rattle.std.proofs.lemmas.Bool.Decides.{nat_tests}
use Rattle.spec_rules.specs.Lists.{In}
use Rattle.spec_rules.proofs.ListLemmas.{in-append}
use Rattle.spec_history.specs.Order.{AreRising}
use Rattle.server_host.specs.Playable.{AreOrdered}

-- the lines that were read up to this number, and how many phases were begun
record Read (phases : ℕ) (lines : List Line) (n : ℕ) : Type 0 where
  begun : 0 < phases
  below : (line : Line) → In line lines → line.number ≤ n
  within : (line : Line) → In line lines → line.phase < phases
  rise : AreOrdered lines
  rising : AreRising lines
  few : length lines ≤ 1024

none_read : (n : ℕ) → Read 1 [] n
unfolding In
none_read n =
    record { begun = omega arith; below = λ line h. absurd h; within = λ line h. absurd h; rise = λ one other h. absurd h; rising = tt; few = omega arith }

later : (phases : ℕ) (lines : List Line) (n : ℕ) → Read phases lines n → Read phases lines (n + 1)
later phases lines n r =
    record { begun = r.begun; below = (λ line h. let f = r.below line h in omega arith); within = r.within; rise = r.rise; rising = r.rising; few = r.few }

waited : (phases : ℕ) (lines : List Line) (n : ℕ) → Read phases lines n → Read (phases + 1) lines n
waited phases lines n r =
    record { begun = omega arith; below = r.below; within = (λ line h. let f = r.within line h in omega arith); rise = r.rise; rising = r.rising; few = r.few }

only : (line other : Line) → In line (other ∷ []) → line ≡ other
unfolding In
only line other (inl is) = is
only line other (inr h) = absurd h

-- a greater line after lines that rise
rising_more : (lines : List Line) (new : Line) → AreRising lines → ((line : Line) → In line lines → line.number < new.number) → AreRising (lines ++ new ∷ [])
unfolding In
rising_more [] new rising below = ((λ other h. absurd h), tt)
rising_more (first ∷ lines) new rising below = (
  (λ other h. elim (in-append other lines (new ∷ []) h) [
    | inl old ↦ rising.0 other old
    | inr last ↦ subst (λ (l : Line). first.number < l.number) (sym (only other new last)) (below first (inl refl))
  ]),
  rising_more lines new rising.1 (λ line h. below line (inr h)),
)

-- one line more, of the next number and the last phase
read_more : (phases : ℕ) (lines : List Line) (n : ℕ) (new : Line) → new.number ≡ n + 1 → new.phase ≡ phases - 1 → length (lines ++ new ∷ []) ≤ 1024
    → Read phases lines n → Read phases (lines ++ new ∷ []) (n + 1)
read_more phases lines n new number phase few r = record {
  begun = r.begun;
  below = λ line h. elim (in-append line lines (new ∷ []) h) [
    | inl old ↦ (let f = r.below line old in omega arith)
    | inr last ↦ (let e : line.number ≡ new.number = ap (λ l. l.number) (only line new last) in omega arith)
  ];
  within = λ line h. elim (in-append line lines (new ∷ []) h) [
    | inl old ↦ r.within line old
    | inr last ↦ (let e : line.phase ≡ new.phase = ap (λ l. l.phase) (only line new last) in let b = r.begun in omega arith)
  ];
  rise = λ one other h k le. elim (in-append one lines (new ∷ []) h) [
    | inl old ↦ elim (in-append other lines (new ∷ []) k) [
      | inl old_too ↦ r.rise one other old old_too le
      | inr last ↦ (let f = r.within one old in let e : other.phase ≡ new.phase = ap (λ l. l.phase) (only other new last) in omega arith)
    ]
    | inr first ↦ elim (in-append other lines (new ∷ []) k) [
      | inl old ↦ (let f = r.below other old in let e : one.number ≡ new.number = ap (λ l. l.number) (only one new first) in absurd (omega arith))
      | inr last ↦ (let e : one.phase ≡ new.phase = ap (λ l. l.phase) (only one new first) in
          let d : other.phase ≡ new.phase = ap (λ l. l.phase) (only other new last) in omega arith)
    ]
  ];
  rising = rising_more lines new r.rising (λ line h. let f = r.below line h in omega arith);
  few = few;
}

-- two scripts of the same phases and lines
record Like (s t : Script) : Type 0 where
  phases : t.phases ≡ s.phases
  lines : t.lines ≡ s.lines

like : (s t : Script) (n : ℕ) → Like s t → Read s.phases s.lines n → Read t.phases t.lines n
like s t n l r = rw (l.phases, l.lines) r

-- ### What a reading that ends well has gone through

bind_ok : {A B : Type 0} (r : Result A Cause) (f : A → Result B Cause) (y : B) → (r >>= f) ≡ Ok y → (x : A) × (r ≡ Ok x) × (f x ≡ Ok y)
bind_ok (Ok x) f y is = (x, refl, is)
bind_ok (Err e) f y is = absurd (cc)

chosen : {A : Type 0} (b : Bool) (x y z : A) → cond b x y ≡ z → (x ≡ z) ⊎ (y ≡ z)
chosen true x y z is = inl is
chosen false x y z is = inr is

err_ok : {A B : Type 0} (cause : Cause) (x : A) → Err cause ≡ Ok x → B
err_ok cause x is = absurd (cc)

lose_like : (s t : Script) (word : Word) → (in_limits 2 1000000 word >>= (λ k. Ok (record s { lose = Some k }))) ≡ Ok t → Like s t
lose_like s t word is =
    let b = bind_ok (in_limits 2 1000000 word) (λ k. Ok (record s { lose = Some k })) t is in
    let e : record s { lose = Some b.0 } ≡ t = cc (b.2) in
    record { phases = ap (λ u. u.phases) (sym e); lines = ap (λ u. u.lines) (sym e) }

twice_like : (s t : Script) (word : Word) → (in_limits 2 1000000 word >>= (λ k. Ok (record s { twice = Some k }))) ≡ Ok t → Like s t
twice_like s t word is =
    let b = bind_ok (in_limits 2 1000000 word) (λ k. Ok (record s { twice = Some k })) t is in
    let e : record s { twice = Some b.0 } ≡ t = cc (b.2) in
    record { phases = ap (λ u. u.phases) (sym e); lines = ap (λ u. u.lines) (sym e) }

net_like : (s t : Script) (words : List Word) → net_line s words ≡ Ok t → Like s t
unfolding net_line
net_like s t words is =
    let parts = bind_ok (two_words words) _ t is in
    elim (chosen (not (length s.lines == 0)) _ _ (Ok t) parts.2) [
      | inl e ↦ err_ok BadLine t e
      | inr rest ↦ elim (chosen (is_word parts.0.0 (codes "lose") && not (is_some s.lose)) _ _ (Ok t) rest) [
        | inl lose ↦ lose_like s t parts.0.1 lose
        | inr other ↦ elim (chosen (is_word parts.0.0 (codes "twice") && not (is_some s.twice)) _ _ (Ok t) other) [
          | inl twice ↦ twice_like s t parts.0.1 twice
          | inr e ↦ err_ok BadLine t e
        ]
      ]
    ]

not_too_many : (lines : List Line) → too_many lines ≡ false → length lines ≤ 1024
unfolding too_many
not_too_many lines few = grind (arith, nat_tests, few)

-- a line that is taken after the servers line
does_read : (s t : Script) (told : TextLine) (n : ℕ) → told.number ≡ n + 1 → Read s.phases s.lines n → Does s told t → Read t.phases t.lines (n + 1)
does_read s t told n number r (skipped is same) = rw same (later s.phases s.lines n r)
does_read s t told n number r (nets first words spelled is net) = like s t (n + 1) (net_like s t words net) (later s.phases s.lines n r)
does_read s t told n number r (waits first spelled is same) = rw same (waited s.phases s.lines (n + 1) (later s.phases s.lines n r))
does_read s t told n number r (asks first words client request spelled asked few many same) =
    let line = line_at s told.number client request in
    let short : length (s.lines ++ line ∷ []) ≤ 1024 = subst (λ (u : Script). length u.lines ≤ 1024) same (not_too_many t.lines few) in
    rw same (read_more s.phases s.lines n line number refl short r)

-- ### Lines one after the other

record Numbered (lines : List TextLine) : Type 0 where
  number : ℕ
  reach : ℕ
  text : List (List ℕ)
  are : lines ≡ lines_after number reach text

-- what follows a line of a text are lines of it too
after_numbered : (prefix : List TextLine) (line : TextLine) (following : List TextLine) (number reach : ℕ) (text : List (List ℕ))
    → lines_after number reach text ≡ prefix ++ line ∷ following → Numbered following
unfolding lines_after
after_numbered [] line following number reach [] is = absurd (cc)
after_numbered [] line following number reach (piece ∷ more) is =
    let e : lines_after (number + 1) (reach + length piece) more ≡ following = cc in
    record { number = number + 1; reach = reach + length piece; text = more; are = sym e }
after_numbered (first ∷ prefix) line following number reach [] is = absurd (cc)
after_numbered (first ∷ prefix) line following number reach (piece ∷ more) is =
    let e : lines_after (number + 1) (reach + length piece) more ≡ prefix ++ line ∷ following = cc in
    after_numbered prefix line following (number + 1) (reach + length piece) more e

record ReadUpTo (s : Script) : Type 0 where
  number : ℕ
  read : Read s.phases s.lines number

follows_read : (text : List (List ℕ)) (number reach : ℕ) (s t : Script) → Read s.phases s.lines number
    → Follows s (lines_after number reach text) t → ReadUpTo t
unfolding lines_after
follows_read [] number reach s t r same = record { number = number; read = rw same r }
follows_read (piece ∷ more) number reach s t r goes =
    let told : TextLine = record { number = number + 1; text = without_end piece; reach = reach + length piece } in
    follows_read more (number + 1) (reach + length piece) goes.0 t (does_read s goes.0 told number refl r goes.1) goes.2

-- ### The servers line

-- no line was read, and one phase was begun
record Fresh (s : Script) : Type 0 where
  lines : s.lines ≡ []
  phases : s.phases ≡ 1

servers_no_lines : (words : List Word) (s : Script) → servers_line words ≡ Ok s → Fresh s
unfolding servers_line
servers_no_lines words s is =
    let parts = bind_ok (three_words words) _ s is in
    elim (chosen (not (is_word parts.0.1 (codes "slots"))) _ _ (Ok s) parts.2) [
      | inl e ↦ err_ok BadLine s e
      | inr rest ↦ (
          let servers = bind_ok (in_limits 2 8 parts.0.0) _ s rest in
          let slots = bind_ok (in_limits 1 1024 parts.0.2) _ s servers.2 in
          let e : s ≡ record { servers = servers.0; slots = slots.0; lose = None; twice = None; phases = 1; lines = [] } = cc (slots.2) in
          record { lines = ap (λ u. u.lines) e; phases = ap (λ u. u.phases) e })
    ]

first_no_lines : (words : List Word) (s : Script) → first_line words ≡ Ok s → Fresh s
unfolding first_line
first_no_lines [] s is = absurd (cc)
first_no_lines (first ∷ words) s is =
    elim (chosen (is_word first (codes "servers")) (servers_line words) (Err NoServersLine) (Ok s) is) [
      | inl e ↦ servers_no_lines words s e
      | inr e ↦ err_ok NoServersLine s e
    ]

-- ### The whole text

script-read : (text : List ℕ) (s : Script) → IsAccepted (text_lines text) s → ReadUpTo s
script-read text s a =
    let n = after_numbered a.front a.servers a.following 0 0 (pieces text) a.lies in
    let f = first_no_lines (words_of a.servers.text) a.begun a.begins in
    let empty : Read a.begun.phases a.begun.lines n.number = rw (f.lines, f.phases) (none_read n.number) in
    let on : Follows a.begun (lines_after n.number n.reach n.text) s = subst (λ lines. Follows a.begun lines s) n.are a.follows in
    follows_read n.text n.number n.reach a.begun s empty on

pub script-rises : (text : List ℕ) (s : Script) → IsAccepted (text_lines text) s → AreOrdered s.lines
script-rises text s a = (script-read text s a).read.rise

pub lines-rise : (text : List ℕ) (s : Script) → IsAccepted (text_lines text) s → AreRising s.lines
lines-rise text s a = (script-read text s a).read.rising

pub lines-few : (text : List ℕ) (s : Script) → IsAccepted (text_lines text) s → length s.lines ≤ 1024
lines-few text s a = (script-read text s a).read.few

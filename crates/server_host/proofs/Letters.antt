-- The letters that are found are those that were sent.
use Rattle.std.proofs.Common.{◌≡◌, ℕ, ◌+◌, ◌<◌, Bool, true, false, cond, List, [], ◌∷◌, ◌++◌, ◌⊎◌, inl, inr, Option, Some, None, refl, sym, ap, ◌∙◌, arith}
use Rattle.petal_table.specs.Table.{Table, at}
use Rattle.petal_table.proofs.Rows.{at-empty}
use Rattle.petal_msg.specs.declared.letter.Actor.{Actor}
use Rattle.petal_msg.specs.declared.letter.Actor.TheVariants as actor
use Rattle.petal_msg.specs.declared.letter.Letter.{Letter}
use Rattle.spec_rules.specs.Lists.{In}
use Rattle.spec_rules.specs.Server.{Post, Sender, letters_of}
use Rattle.spec_rules.specs.World.{stamped}
use Rattle.spec_rules.proofs.ListLemmas.{in-append, in_former, in_later}
use Rattle.server_host.specs.declared.name.LetterName.{LetterName}
use Rattle.server_host.specs.Sent.{side_of, number_of, name_cmp, name_of, with_letter, with_letters, Lists, IsNew, AreNew}
use Rattle.server_host.proofs.Names.{found, found_itself, found_other}

not_both : (o : Option Letter) (letter : Letter) → o ≡ None → o ≡ Some letter → ⊥
not_both o letter none some = cc

-- nothing was sent, and nothing is found
pub none_sent : Lists [] []
unfolding In
none_sent letter = (λ h. absurd h, λ e. absurd (not_both _ letter (at-empty name_cmp (name_of letter)) e))

is_there : (rows : Table LetterName Letter) (letters : List Letter) (letter other : Letter) (b : Bool) → Lists rows letters
    → cond b (Some letter) (at name_cmp rows (name_of other)) ≡ Some other → In other (letter ∷ letters)
unfolding In
is_there rows letters letter other true h e = inl (let k : letter ≡ other = cc in sym k)
is_there rows letters letter other false h e = inr ((h other).1 e)

was_there : (rows : Table LetterName Letter) (letters : List Letter) (letter other : Letter) → Lists rows letters → IsNew letter letters
    → In other (letter ∷ letters) → at name_cmp (with_letter rows letter) (name_of other) ≡ Some other
unfolding In
was_there rows letters letter other h new (inl e) = ap (λ (l : Letter). at name_cmp (with_letter rows letter) (name_of l)) e ∙ found_itself rows letter
    ∙ ap (λ (l : Letter). Some l) (sym e)
was_there rows letters letter other h new (inr m) = found_other rows letter (name_of other) (new other m) ∙ (h other).0 m

-- a letter with a name of its own is found as well
pub lists_one : (rows : Table LetterName Letter) (letters : List Letter) (letter : Letter) → Lists rows letters → IsNew letter letters
    → Lists (with_letter rows letter) (letter ∷ letters)
lists_one rows letters letter h new other =
    (was_there rows letters letter other h new, λ e. is_there rows letters letter other _ h (sym (found rows letter (name_of other)) ∙ e))

-- membership does not know of the order
moved_back : {A : Type 0} (x y : A) (more rest : List A) → In x (y ∷ (more ++ rest)) → In x (more ++ (y ∷ rest))
unfolding In
moved_back x y more rest (inl e) = in_later x more (y ∷ rest) (inl e)
moved_back x y more rest (inr h) = elim (in-append x more rest h) [ inl a ↦ in_former x more (y ∷ rest) a | inr b ↦ in_later x more (y ∷ rest) (inr b) ]

moved_front : {A : Type 0} (x y : A) (more rest : List A) → In x (more ++ (y ∷ rest)) → In x (y ∷ (more ++ rest))
unfolding In
moved_front x y more rest h = elim (in-append x more (y ∷ rest) h) [
  | inl a ↦ inr (in_former x more rest a)
  | inr b ↦ elim b [ inl e ↦ inl e | inr c ↦ inr (in_later x more rest c) ]
]

-- and so are all letters of a step
pub lists_all : (letters : List Letter) (rows : Table LetterName Letter) (before : List Letter) → Lists rows before → AreNew letters before
    → Lists (with_letters rows letters) (letters ++ before)
lists_all [] rows before h new = h
lists_all (letter ∷ more) rows before h new =
    let later : Lists (with_letters (with_letter rows letter) more) (more ++ (letter ∷ before)) =
    lists_all more (with_letter rows letter) (letter ∷ before) (lists_one rows before letter h new.0) new.1 in
    λ other. (λ m. (later other).0 (moved_back other letter more before m), λ e. moved_front other letter more before ((later other).1 e))

-- ### The letters of one step have names of their own

same_sender : (a b : Actor) → side_of a ≡ side_of b → number_of a ≡ number_of b → a ≡ b
same_sender (actor.Server n) (actor.Server m) s e = ap (λ k. actor.Server k) e
same_sender (actor.Client n) (actor.Client m) s e = ap (λ k. actor.Client k) e
same_sender (actor.Server n) (actor.Client m) s e = absurd (omega arith)
same_sender (actor.Client n) (actor.Server m) s e = absurd (omega arith)

-- each letter of this sender has an earlier stamp, or stands before this place in its step
abbrev pub IsPast : Actor → (stamp nth : ℕ) → List Letter → Type 0
IsPast from stamp nth letters = (other : Letter) → In other letters → other.from ≡ from → (other.stamp < stamp) ⊎ (other.nth < nth)

named_apart : (from : Actor) (stamp nth : ℕ) (letters : List Letter) (letter : Letter) → IsPast from stamp nth letters → letter.from ≡ from
    → letter.stamp ≡ stamp → letter.nth ≡ nth → IsNew letter letters
named_apart from stamp nth letters letter past is at place other m e =
    let sent : other.from ≡ letter.from = same_sender other.from letter.from (ap (λ (n : LetterName). n.side) e) (ap (λ (n : LetterName). n.number) e) in
    let stamps : other.stamp ≡ letter.stamp = ap (λ (n : LetterName). n.stamp) e in
    let places : other.nth ≡ letter.nth = ap (λ (n : LetterName). n.nth) e in
    elim (past other m (sent ∙ is)) [ inl less ↦ omega arith | inr less ↦ omega arith ]

one_more : (from : Actor) (stamp nth : ℕ) (letters : List Letter) (letter : Letter) → letter.nth ≡ nth → IsPast from stamp nth letters
    → IsPast from stamp (nth + 1) (letter ∷ letters)
unfolding In
one_more from stamp nth letters letter place past other (inl e) is = let same : other.nth ≡ letter.nth = ap (λ (l : Letter). l.nth) e in inr (omega arith)
one_more from stamp nth letters letter place past other (inr m) is = elim (past other m is) [ inl less ↦ inl less | inr less ↦ inr (omega arith) ]

pub step_letters_new : (who : Sender) (stamp nth : ℕ) (posts : List Post) (before : List Letter) → IsPast who.from stamp nth before
    → AreNew (stamped stamp (letters_of who nth posts)) before
step_letters_new who stamp nth [] before past = tt
step_letters_new who stamp nth (post ∷ posts) before past =
    let letter : Letter = record { from = who.from; inc = who.inc; to = post.to; rev = who.rev; stamp = stamp; nth = nth; body = post.body } in (
      named_apart who.from stamp nth before letter past refl refl refl,
      step_letters_new who stamp (nth + 1) posts (letter ∷ before) (one_more who.from stamp nth before letter refl past),
    )

-- a letter of a step has the step's sender and stamp
pub record IsOf (who : Actor) (stamp : ℕ) (letter : Letter) : Type 0 where
  pub from : letter.from ≡ who
  pub at : letter.stamp ≡ stamp

pub of_step : (who : Sender) (stamp nth : ℕ) (posts : List Post) (letter : Letter) → In letter (stamped stamp (letters_of who nth posts))
    → IsOf who.from stamp letter
unfolding In
of_step who stamp nth [] letter h = absurd h
of_step who stamp nth (post ∷ posts) letter (inl e) = record { from = ap (λ (l : Letter). l.from) e; at = ap (λ (l : Letter). l.stamp) e }
of_step who stamp nth (post ∷ posts) letter (inr m) = of_step who stamp (nth + 1) posts letter m

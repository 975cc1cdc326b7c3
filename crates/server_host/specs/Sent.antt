-- All letters ever sent, found by their names.
use Rattle.std.specs.Prelude.{◌≡◌, ◌≢◌, ◌↔◌, ℕ, List, [], ◌∷◌, Some}
use Rattle.std.specs.List.{fold}
use Rattle.std.specs.declared.cmp.Ordering.{Ordering}
use Rattle.std.specs.Ordering.{nat_cmp, ordering_then}
use Rattle.petal_table.specs.Table.{Table, at, put}
use Rattle.petal_msg.specs.declared.letter.Actor.{Actor}
use Rattle.petal_msg.specs.declared.letter.Actor.TheVariants as actor
use Rattle.petal_msg.specs.declared.letter.Letter.{Letter}
use Rattle.spec_rules.specs.Lists.{In}
use Rattle.server_host.specs.declared.name.LetterName.{LetterName}

abbrev pub side_of : Actor → ℕ
side_of (actor.Server n) = 0
side_of (actor.Client c) = 1

abbrev pub number_of : Actor → ℕ
number_of (actor.Server n) = n
number_of (actor.Client c) = c

-- a letter's sender, the stamp of its step and its place in it
abbrev pub name_of : Letter → LetterName
name_of letter = record { stamp = letter.stamp; nth = letter.nth; side = side_of letter.from; number = number_of letter.from }

-- names stand by stamp first
abbrev pub name_cmp : LetterName → LetterName → Ordering
name_cmp a b = ordering_then (nat_cmp a.stamp b.stamp) (ordering_then (nat_cmp a.nth b.nth) (ordering_then (nat_cmp a.side b.side) (nat_cmp a.number b.number)))

-- these letters and no others are found
abbrev pub Lists : Table LetterName Letter → List Letter → Type 0
Lists rows letters = (letter : Letter) → In letter letters ↔ (at name_cmp rows (name_of letter) ≡ Some letter)

-- no letter of the list has this one's name
abbrev pub IsNew : Letter → List Letter → Type 0
IsNew letter letters = (other : Letter) → In other letters → name_of other ≢ name_of letter

-- each has a name of its own
abbrev pub AreNew : List Letter → List Letter → Type 0
AreNew [] letters = Unit {0}
AreNew (letter ∷ more) letters = IsNew letter letters × AreNew more (letter ∷ letters)

abbrev pub with_letter : Table LetterName Letter → Letter → Table LetterName Letter
with_letter rows letter = put name_cmp rows (name_of letter) letter

-- the table with these letters too
abbrev pub with_letters : Table LetterName Letter → List Letter → Table LetterName Letter
with_letters rows letters = fold with_letter rows letters

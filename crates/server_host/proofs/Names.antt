-- The order of letters' names.
use Rattle.std.proofs.Common.{◌≡◌, ◌≢◌, ℕ, Bool, true, false, cond, Some, refl, sym, ap, ◌∙◌}
use Rattle.std.specs.declared.cmp.Ordering.{Ordering}
use Rattle.std.specs.declared.cmp.Ordering.TheVariants.{Less, Equal, Greater}
use Rattle.std.specs.Ordering.{nat_cmp, is_eq, eq_by_cmp, ordering_then}
use Rattle.std.specs.Cmp.{IsTotalOrder, nat_cmp_total, ranked, tied_itself}
use Rattle.std.proofs.lemmas.Cmp.{on_total, then_total}
use Rattle.petal_table.specs.Table.{Table, at}
use Rattle.petal_table.proofs.Rows.{at-put}
use Rattle.petal_msg.specs.declared.letter.Letter.{Letter}
use Rattle.server_host.specs.declared.name.LetterName.{LetterName}
use Rattle.server_host.specs.Sent.{name_cmp, name_of, with_letter}

pub name_cmp_total : IsTotalOrder name_cmp
name_cmp_total =
    then_total (on_total (λ (n : LetterName). n.stamp) nat_cmp_total)
    (then_total (on_total (λ (n : LetterName). n.nth) nat_cmp_total)
    (then_total (on_total (λ (n : LetterName). n.side) nat_cmp_total) (on_total (λ (n : LetterName). n.number) nat_cmp_total)))

tied : (r : Ordering) → is_eq r ≡ true → r ≡ Equal
tied Less e = cc
tied Equal e = refl
tied Greater e = cc

both_tied : (r s : Ordering) → ordering_then r s ≡ Equal → (r ≡ Equal) × (s ≡ Equal)
both_tied Less s e = cc
both_tied Equal s e = (refl, e)
both_tied Greater s e = cc

same_number : (x y : ℕ) → nat_cmp x y ≡ Equal → x ≡ y
same_number x y e = ranked x y Equal (sym e)

-- names that tie are one name
pub name_cmp_same : (a b : LetterName) → name_cmp a b ≡ Equal → a ≡ b
name_cmp_same a b e =
    let first = both_tied (nat_cmp a.stamp b.stamp) _ e in
    let second = both_tied (nat_cmp a.nth b.nth) _ first.1 in
    let third = both_tied (nat_cmp a.side b.side) _ second.1 in
    let stamp = same_number a.stamp b.stamp first.0 in
    let nth = same_number a.nth b.nth second.0 in
    let side = same_number a.side b.side third.0 in
    let number = same_number a.number b.number third.1 in
    λ i. record { stamp = stamp i; nth = nth i; side = side i; number = number i }

apart : (b : Bool) → (b ≡ true → ⊥) → b ≡ false
apart true h = absurd (h refl)
apart false h = refl

name_itself : (n : LetterName) → eq_by_cmp name_cmp n n ≡ true
name_itself n = ap is_eq (tied_itself name_cmp_total n)

other_name : (a b : LetterName) → a ≢ b → eq_by_cmp name_cmp a b ≡ false
other_name a b ne = apart (eq_by_cmp name_cmp a b) (λ e. ne (name_cmp_same a b (tied (name_cmp a b) e)))

-- what stands at a name once a letter is there too
pub found : (rows : Table LetterName Letter) (letter : Letter) (name : LetterName)
    → at name_cmp (with_letter rows letter) name ≡ cond (eq_by_cmp name_cmp name (name_of letter)) (Some letter) (at name_cmp rows name)
found rows letter name = at-put name_cmp_total rows (name_of letter) letter name

pub found_itself : (rows : Table LetterName Letter) (letter : Letter) → at name_cmp (with_letter rows letter) (name_of letter) ≡ Some letter
found_itself rows letter = found rows letter (name_of letter)
    ∙ ap (λ b. cond b (Some letter) (at name_cmp rows (name_of letter))) (name_itself (name_of letter))

pub found_other : (rows : Table LetterName Letter) (letter : Letter) (name : LetterName) → name ≢ name_of letter
    → at name_cmp (with_letter rows letter) name ≡ at name_cmp rows name
found_other rows letter name ne = found rows letter name ∙ ap (λ b. cond b (Some letter) (at name_cmp rows name)) (other_name name (name_of letter) ne)

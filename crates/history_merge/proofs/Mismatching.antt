-- Letters that come, and what is recorded of them.
use Rattle.std.proofs.Common.{◌≡◌, ◌≢◌, ℕ, ◌<◌, List, Option, Some, sym, ap, ◌∙◌, subst, length, get_or}
use Rattle.std.proofs.lemmas.List.Sorted.{All-permutation, IsPermutation-sym}
use Rattle.std.proofs.lemmas.Option.{get_or_from_slice_get, slice_get-get_or, slice_get_within}
use Rattle.std.specs.List.{All}
use Rattle.std.specs.List.Sorted.{IsPermutation}
use Rattle.petal_msg.specs.declared.letter.Letter.{Letter}
use Rattle.spec_rules.specs.Lists.{In}
use Rattle.spec_rules.specs.World.{letter_in}
use Rattle.spec_history.specs.declared.record.Record.{Record}
use Rattle.law_state.proofs.ListLookups.{get_in, in_get}
use Rattle.history_merge.proofs.Firsts.{at_place}
use Rattle.history_merge.specs.Recorded.{AreRecorded, ComesAsSent, ComesOtherwise, IsMismatch, recorded_as}

-- ### Lists with the same items

all_in : {X : Type 0} (P : X → Type 0) (xs : List X) (x : X) → All P xs → In x xs → P x
all_in P xs x all there =
    let at = get_in xs x there in
    subst P (get_or_from_slice_get xs at.0 x x at.1) (all at.0 x (slice_get_within xs at.0 x at.1))

each_in : {X : Type 0} (xs : List X) → All (λ y. In y xs) xs
each_in xs k d less = in_get xs k (get_or xs k d) (slice_get-get_or xs k d less)

in_shuffled : {X : Type 0} (xs ys : List X) (x : X) → IsPermutation xs ys → In x xs → In x ys
in_shuffled xs ys x moved there =
    all_in (λ y. In y ys) xs x (All-permutation (λ y. In y ys) ys xs (IsPermutation-sym xs ys moved) (each_in ys)) there

-- ### One letter

same_letter : (step : Option Letter) (a b : Letter) → step ≡ Some a → step ≡ Some b → a ≡ b
same_letter step a b e f = cc

pub as_sent : (records : List Record) (own : Record) (letter : Letter) → letter_in own.step ≡ Some letter → recorded_as records letter ≡ Some letter
    → ComesAsSent records own
as_sent records own letter comes has other is =
    subst (λ l. recorded_as records l ≡ Some l) (same_letter (letter_in own.step) letter other comes is) has

pub otherwise : (records : List Record) (own : Record) (letter one : Letter) (sent other : Option Letter) → letter_in own.step ≡ Some letter
    → recorded_as records letter ≡ sent → sent ≢ Some letter → one ≡ letter → other ≡ sent → ComesOtherwise records own one other
otherwise records own letter one sent other comes has differs same what = record {
  comes = comes ∙ ap Some (sym same);
  has = ap (λ l. recorded_as records l) same ∙ has ∙ sym what;
  differs = λ e. differs (sym what ∙ e ∙ ap Some same);
}

-- ### All letters

pub all_recorded : (records : List Record) → All (ComesAsSent records) records → AreRecorded records
all_recorded records all own there = all_in (ComesAsSent records) records own all there

pub mismatch_at : (records : List Record) (place : ℕ) (own : Record) (delivered : Letter) (recorded : Option Letter) → place < length records
    → own ≡ get_or records place own → ComesOtherwise records own delivered recorded → IsMismatch records delivered recorded
mismatch_at records place own delivered recorded within is so =
    record { own = own; there = in_get records place own (at_place records place own within is); so = so }

pub recorded_by : (all records : List Record) → IsPermutation all records → ((letter : Letter) → recorded_as records letter ≡ recorded_as all letter)
    → AreRecorded records → AreRecorded all
recorded_by all records moved same sent own there letter comes = sym (same letter) ∙ sent own (in_shuffled all records own moved there) letter comes

pub mismatch_by : (all records : List Record) (delivered : Letter) (recorded : Option Letter) → IsPermutation all records
    → ((letter : Letter) → recorded_as records letter ≡ recorded_as all letter) → IsMismatch records delivered recorded
    → IsMismatch all delivered recorded
mismatch_by all records delivered recorded moved same found = record {
  own = found.own;
  there = in_shuffled records all found.own (IsPermutation-sym all records moved) found.there;
  so = record { comes = found.so.comes; has = sym (same delivered) ∙ found.so.has; differs = found.so.differs };
}

-- letters that are all as sent tell of none that is not
pub never_both : (records : List Record) (delivered : Letter) (recorded : Option Letter) → IsMismatch records delivered recorded → AreRecorded records → ⊥
never_both records delivered recorded found sent =
    found.so.differs (sym found.so.has ∙ sent found.own found.there delivered found.so.comes)

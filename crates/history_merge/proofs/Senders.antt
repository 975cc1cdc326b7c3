-- Where the records stand in order, the place of a letter's sender is found.
use Rattle.std.proofs.Common.{◌≡◌, ℕ, zero, suc, ◌≤◌, ◌<◌, true, false, List, [], ◌∷◌, Some, Option, None, inl, inr}
use Rattle.std.proofs.Common.{sym, ap, ◌∙◌, subst, arith, length, get_or}
use Rattle.std.proofs.lemmas.Bool.{cases_lt}
use Rattle.std.proofs.lemmas.List.Sorted.{sorted_far}
use Rattle.std.proofs.lemmas.Option.{get_or_from_slice_get, slice_get_within}
use Rattle.std.specs.List.{AllWithin}
use Rattle.std.specs.List.Sorted.{IsPartitionedBy, IsSorted}
use Rattle.std.specs.Ordering.{is_lt, ordering_reverse}
use Rattle.std.specs.Prelude.{slice_get, take}
use Rattle.std.specs.declared.cmp.Ordering.TheVariants.{Less, Greater}
use Rattle.petal_msg.specs.declared.letter.Letter.{Letter}
unfoldable use Rattle.spec_rules.specs.Lists.{In}
use Rattle.spec_rules.proofs.Tests.{by_bool}
use Rattle.law_state.proofs.ListLookups.{in_get}
use Rattle.spec_history.specs.declared.record.Record.{Record}
use Rattle.history_merge.specs.Fronts.{IsSentIn}
use Rattle.history_merge.specs.Order.{record_cmp}
use Rattle.history_merge.specs.Recorded.{IsPlaceOf, is_sender, recorded_as, sender_cmp}
use Rattle.history_merge.proofs.Firsts.{found_first, none_first, past}
use Rattle.history_merge.proofs.Orders.{before, equal_so, greater_else, less_apart, mark, ordered, weak}

-- ### By sender

-- those that stand before a letter's sender come first
pub parted : (records : List Record) (letter : Letter) → IsSorted record_cmp records → IsPartitionedBy (λ own. is_lt (sender_cmp own letter)) records
parted records letter sorted i j d le less late = by_bool (is_lt (sender_cmp (get_or records i d) letter)) (λ is. is)
    (λ is.
    let up = sorted_far before weak records sorted i j d le less in
    let back = weak.chain (get_or records j d) (get_or records i d) (mark letter.from letter.stamp) up is in
    absurd (let k : ⊥ = cc in k))

-- one that stands after the sender's place is no sender, nor is one that does not stand before it
after_greater : (letter : Letter) (own later : Record) → sender_cmp own letter ≡ Greater → before later own ≡ false → is_sender letter later ≡ false
after_greater letter own later greater up = by_bool (is_sender letter later)
    (λ is.
    let step = mark letter.from letter.stamp in
    let less : record_cmp step own ≡ Less = ordered.antisymm step own ∙ ap ordering_reverse greater in
    let same : record_cmp later own ≡ record_cmp step own = ordered.congr later step own (equal_so (sender_cmp later letter) is) in
    let true_so : before later own ≡ true = ap is_lt (same ∙ less) in
    absurd (let k : ⊥ = cc in k))
    (λ is. is)

module _ (records : List Record) (letter : Letter) (sorted : IsSorted record_cmp records) (place : ℕ) (at : IsPlaceOf records letter place) where
  abbrev f : Record → Option Letter
  f own = slice_get own.sent letter.nth

  below : AllWithin (λ own. is_sender letter own ≡ false) records 0 place
  below k d le less = less_apart (sender_cmp (get_or records k d) letter) (at.0 k d le less)

  pub found : (own : Record) → slice_get records place ≡ Some own → is_sender letter own ≡ true → slice_get own.sent letter.nth ≡ recorded_as records letter
  found own is so = sym (found_first (is_sender letter) f records place own below is so)

  pub missing : slice_get records place ≡ None → recorded_as records letter ≡ None
  missing is =
      let end : length records ≤ place = past records place is in
      none_first (is_sender letter) f records (λ k d le less. below k d le (omega arith))

  pub other : (own : Record) → slice_get records place ≡ Some own → is_sender letter own ≡ false → recorded_as records letter ≡ None
  other own is so =
      let inside : place < length records = slice_get_within records place own is in
      let here : get_or records place own ≡ own = get_or_from_slice_get records place own own is in
      let late : is_lt (sender_cmp own letter) ≡ false =
      subst (λ r. is_lt (sender_cmp r letter) ≡ false) here (at.1 place own (omega arith) inside) in
      let greater = greater_else (sender_cmp own letter) late so in
      none_first (is_sender letter) f records (λ k d le less. elim (cases_lt k place) [
        | inl early ↦ below k d le early
        | inr from ↦
            let same : get_or records place d ≡ own = get_or_from_slice_get records place own d is in
            after_greater letter own (get_or records k d) greater
            (subst (λ r. before (get_or records k d) r ≡ false) same (sorted_far before weak records sorted place k d from less))
      ])

-- ### Among the first records

first_of : {A : Type 0} (x : A) (xs : List A) (i k : ℕ) → slice_get xs i ≡ Some x → i < k → In x (take k xs)
unfolding In
first_of x [] i k is less = absurd (let h : ⊥ = cc in h)
first_of x (y ∷ ys) i zero is less = absurd (omega arith)
first_of x (y ∷ ys) zero (suc k) is less = inl (let same : x ≡ y = cc in same)
first_of x (y ∷ ys) (suc i) (suc k) is less = inr (first_of x ys i k is (omega arith))

pub sent_in : (records : List Record) (first place : ℕ) (own : Record) (letter : Letter) → place < first → slice_get records place ≡ Some own
    → slice_get own.sent letter.nth ≡ Some letter → IsSentIn (take first records) letter
sent_in records first place own letter less at is =
    record { own = own; there = first_of own records place first at less; sent = in_get own.sent letter.nth letter is }

-- Computed runs of the definitions of groups and halves.
use Rattle.std.proofs.Common.{◌≡◌, [], ◌∷◌, true, false, refl}
use Rattle.std.specs.Prelude.{replicate}
use Rattle.block_journal.specs.Groups.{group_bytes}
use Rattle.block_journal.specs.Halves.{head_body, next_generation, first_is_later}

-- the record of a Head of generation 1
pub head_of_one : 165 ∷ head_body 1 ≡ 165 ∷ 6 ∷ 0 ∷ 0 ∷ 0 ∷ 0 ∷ 0 ∷ 0 ∷ 0 ∷ 1 ∷ replicate 54 0
head_of_one = refl

head_of_greatest : head_body 18446744073709551615 ≡ 6 ∷ 255 ∷ 255 ∷ 255 ∷ 255 ∷ 255 ∷ 255 ∷ 255 ∷ 255 ∷ replicate 54 0
head_of_greatest = refl

-- a group of two bodies, ahead of other records and at the end of a half
group_of_two : group_bytes ((1 ∷ 2 ∷ []) ∷ (3 ∷ 4 ∷ []) ∷ []) (0 ∷ []) ≡ 1 ∷ 2 ∷ 165 ∷ 3 ∷ 4 ∷ 0 ∷ []
group_of_two = refl

group_at_end : group_bytes ((1 ∷ 2 ∷ []) ∷ (3 ∷ 4 ∷ []) ∷ []) [] ≡ 1 ∷ 2 ∷ 165 ∷ 3 ∷ 4 ∷ []
group_at_end = refl

next_of_one : next_generation 1 ≡ 2
next_of_one = refl

next_of_greatest : next_generation 18446744073709551615 ≡ 0
next_of_greatest = refl

-- the next of the other is the later one, also where the numbers begin again
two_after_one : first_is_later 2 1 ≡ true
two_after_one = refl

one_before_two : first_is_later 1 2 ≡ false
one_before_two = refl

none_after_greatest : first_is_later 0 18446744073709551615 ≡ true
none_after_greatest = refl

greatest_before_none : first_is_later 18446744073709551615 0 ≡ false
greatest_before_none = refl

-- where neither is next it is the greater one, and the first of two that are equal
nine_and_four : first_is_later 9 4 ≡ true
nine_and_four = refl

four_and_nine : first_is_later 4 9 ≡ false
four_and_nine = refl

equal_generations : first_is_later 5 5 ≡ true
equal_generations = refl

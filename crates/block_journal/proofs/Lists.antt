-- Halves stand for one list.
use Rattle.std.proofs.Common.{◌≡◌, true, false, ℕ, ◌+◌, List, sym, ◌∙◌}
use Rattle.block_journal.specs.Halves.{CountIn, IsListOf}
use Rattle.block_journal.specs.Heads.{NoHeadCounts}
use Rattle.block_journal.specs.declared.half.Half.{Half}
use Rattle.block_journal.specs.declared.half.Half.TheVariants.{First, Second}
use Rattle.block_journal.proofs.Counting.{counts_once}

one_of_two : (base : ℕ) (one other : Half) (generation generation' : ℕ) (file : List ℕ) (xs ys : List (List ℕ)) → CountIn base one generation file xs
    → CountIn base other generation' file ys → xs ≡ ys
one_of_two base First First generation generation' file xs ys list list' = counts_once 64 (base + 64) 32767 file xs ys list.counts list'.counts
one_of_two base Second Second generation generation' file xs ys list list' =
    counts_once 64 (base + 2097152 + 64) 32767 file xs ys list.counts list'.counts
one_of_two base First Second generation generation' file xs ys list list' =
    let both : true ≡ false = sym (list.later generation' list'.head) ∙ list'.later generation list.head in absurd (cc)
one_of_two base Second First generation generation' file xs ys list list' =
    let both : true ≡ false = sym (list'.later generation list.head) ∙ list.later generation' list'.head in absurd (cc)

pub list_once : (base : ℕ) (file : List ℕ) (xs ys : List (List ℕ)) → IsListOf base file xs → IsListOf base file ys → xs ≡ ys
list_once base file xs ys one other = one_of_two base one.0 other.0 one.1.0 other.1.0 file xs ys one.1.1 other.1.1

-- they stand for none where no Head counts
pub no_head_no_list : (base : ℕ) (file : List ℕ) (xs : List (List ℕ)) → NoHeadCounts base file → ¬ IsListOf base file xs
no_head_no_list base file xs none list = none list.0 list.1.0 list.1.1.head

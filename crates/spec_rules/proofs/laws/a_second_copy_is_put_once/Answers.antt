-- By the number, and by how far the second server is with it.
use Rattle.std.proofs.Common.{◌≡◌, ◌≢◌, ℕ, List, Bool, true, false, ◌==◌, Option, refl, ap, ◌∙◌, arith}
use Rattle.std.proofs.lemmas.Bool.Decides.{nat_tests}
use Rattle.std.specs.Prelude.{if◌then◌else◌}
use Rattle.petal_base.specs.Cells.{cell_of}
use Rattle.petal_base.specs.Origins.{Named}
use Rattle.petal_base.specs.declared.cell.Key.{Key}
use Rattle.petal_msg.specs.declared.operation.FollowProgress.TheVariants as follow_progress
use Rattle.petal_msg.specs.declared.operation.LastOp.{LastOp}
use Rattle.spec_rules.specs.State.{is_second}
use Rattle.spec_rules.specs.Server.{PairState, JobContext, JobResult, silent}
use Rattle.spec_rules.specs.Writes.{follows_once, hears_replicate, on_replicate}
use Rattle.spec_rules.proofs.laws.a_second_copy_is_put_once.Goals as goal

apart : (a b : ℕ) → a ≢ b → (a == b) ≡ false
apart a b ne = grind (arith, nat_tests)

module _ (here : JobContext) (own : PairState) (number : ℕ) (key : Key) (origin : Option Named) (bytes : List ℕ) where
  abbrev by_last : Option LastOp → JobResult
  by_last o = if is_second here.state here.me (cell_of key) then hears_replicate here own number key origin bytes o else silent own

  kept : (second same : Bool)
      → (if second then (if same then follows_once here own number key origin bytes follow_progress.Replicated else silent own) else silent own).own ≡ own
  kept false same = refl
  kept true false = refl
  kept true true = refl

  dropped : (second same : Bool) (done : JobResult) → same ≡ false → (if second then (if same then done else silent own) else silent own) ≡ silent own
  dropped false same done e = refl
  dropped true true done e = cc
  dropped true false done e = refl

  silent_so : (second : Bool) → (if second then silent own else silent own) ≡ silent own
  silent_so true = refl
  silent_so false = refl

pub returns : goal.returns
unfolding on_replicate
returns c = record {
  again = λ here own number key origin bytes is. ap (λ o. (by_last here own number key origin bytes o).own) is
      ∙ kept here own number key origin bytes (is_second here.state here.me (cell_of key)) (number == number);
  other = λ here own number key origin bytes last is ne. ap (by_last here own number key origin bytes) is
      ∙ dropped here own number key origin bytes (is_second here.state here.me (cell_of key)) (number == last.op) _ (apart number last.op ne);
  unknown = λ here own number key origin bytes is. ap (by_last here own number key origin bytes) is
      ∙ silent_so here own number key origin bytes (is_second here.state here.me (cell_of key));
}

use Rattle.std.proofs.Common.{◌≡◌, ◌++◌, ℕ, List, take, drop, length, subst, ◌∙◌}
use Rattle.std.proofs.Math.Seq.{take-append_seam}
use Rattle.kept_chains.proofs.Kept.{content_is}
use Rattle.kept_chains.proofs.store.read_at.Goals as goal

seam : (xs ys : List ℕ) (n : ℕ) → length xs ≡ n → take n (xs ++ ys) ≡ xs
seam xs ys n is = subst (λ (m : ℕ). take m (xs ++ ys) ≡ xs) is (take-append_seam xs ys)

pub returns-clause-bytes : goal.returns-clause-bytes
returns-clause-bytes g c = λ observed.
    c.in_ok-new.ensures ∙ c.of.ensures
    ∙ seam c.read.new.into (drop (length c.read.new.into) c.in_ok-bytes.bytes.items) c.in_ok-bytes.bytes.len (c.read.auto.into ∙ c.deref_mut.ensures.len)
    ∙ c.in_ok-read.ensures.content observed
    ∙ content_is c.args.store.now.entries (record { map = c.args.cell.map; block = c.args.cell.block; epoch = c.args.epoch }) c.free.ensures.order

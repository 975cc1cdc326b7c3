use Rattle.std.proofs.Common.{◌∙◌, ℕ, ap, replicate}
use Rattle.petal_base.specs.Block.{fill_block}
use Rattle.server_store.proofs.store.write_zeros.Goals as goal

pub returns : goal.returns
unfolding fill_block
returns c = c.fill.ensures.after (λ y same. same) ∙ ap (λ (n : ℕ). replicate n 0) c.requires

use Rattle.std.proofs.Common.{◌∙◌, List, ap, map}
use Rattle.physical_map.specs.declared.entry.Entry.{Entry}
use Rattle.kept_chains.proofs.Walks.{epochs_is}
use Rattle.kept_chains.proofs.walk.epochs.Goals as goal

pub returns : goal.returns
returns g c =
    c.of.ensures ∙ c.in_ok-epochs_in.ensures
    ∙ ap (λ (es : List Entry). map (λ (e : Entry). e.key.epoch) es) (c.as_slice.ensures ∙ c.in_ok-chain.ensures)
    ∙ epochs_is c.args.store.now.entries c.args.cell c.free.ensures.order

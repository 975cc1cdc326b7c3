use Rattle.std.proofs.Common.{◌∙◌, ap, sym, option_map}
use Rattle.physical_map.specs.declared.entry.Entry.{Entry}
use Rattle.kept_chains.proofs.Walks.{nth_is, nth_within}
use Rattle.kept_chains.proofs.walk.nth.Goals as goal

pub returns-in-Some-clause-found : goal.returns-in-Some-clause-found
returns-in-Some-clause-found g c =
    ap (option_map (λ (e : Entry). (e.key.epoch, e.version))) (sym c.in-Some.is ∙ c.nth.ensures)
    ∙ nth_is c.args.store.now.entries c.args.cell c.args.place c.free.ensures.order

pub returns-in-Some-clause-within : goal.returns-in-Some-clause-within
returns-in-Some-clause-within g c =
    nth_within c.args.store.now.entries c.args.cell c.args.place c.in-Some.entry c.free.ensures.few (sym c.nth.ensures ∙ c.in-Some.is)

pub returns-in-None-clause-found : goal.returns-in-None-clause-found
returns-in-None-clause-found g c =
    ap (option_map (λ (e : Entry). (e.key.epoch, e.version))) (sym c.in-None.is ∙ c.nth.ensures)
    ∙ nth_is c.args.store.now.entries c.args.cell c.args.place c.free.ensures.order

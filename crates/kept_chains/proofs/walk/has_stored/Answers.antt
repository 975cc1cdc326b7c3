use Rattle.std.proofs.Common.{◌∙◌, sym, ap}
use Rattle.petal_base.specs.declared.cell.Cell.{Cell}
use Rattle.spec_rules.specs.Store.{bytes_of, chain_in, entry_at}
use Rattle.kept_chains.specs.Kept.{chains_of}
use Rattle.kept_chains.proofs.Walks.{same_read}
use Rattle.kept_chains.proofs.walk.has_stored.Goals as goal

pub returns-in_ok-read_at-in-Some-clause-stored : goal.returns-in_ok-read_at-in-Some-clause-stored
returns-in_ok-read_at-in-Some-clause-stored g c = λ observed.
    let es = c.args.store.now.entries in
    c.eq-in-Some.ensures
    ∙ same_read es c.args.key (record { version = c.args.version; bytes = c.args.bytes.now }) c.in-Some.found _ (sym c.in-Some.is ∙ c.version_at.ensures)
    c.if-found-version.true
    (c.in_ok-read_at-in-Some.ensures.bytes observed
    ∙ ap (λ (cell : Cell). bytes_of (entry_at (chain_in (chains_of es) cell) c.args.key.epoch)) c.cell.ensures)

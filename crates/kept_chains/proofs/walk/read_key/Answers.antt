use Rattle.std.proofs.Common.{◌∙◌, ap, sym}
use Rattle.petal_base.specs.declared.cell.Cell.{Cell}
use Rattle.spec_rules.specs.Store.{bytes_of, chain_in, entry_at}
use Rattle.kept_chains.specs.Kept.{chains_of}
use Rattle.kept_chains.proofs.Walks.{key_none, key_read}
use Rattle.kept_chains.proofs.walk.read_key.Goals as goal

pub returns-then-not-has_entry-clause-entry : goal.returns-then-not-has_entry-clause-entry
returns-then-not-has_entry-clause-entry g c = λ observed. key_none _ (sym c.has_entry.ensures ∙ c.if-not-has_entry.true)

pub returns-clause-entry : goal.returns-clause-entry
returns-clause-entry g c = λ observed.
    key_read c.args.store.now.entries c.args.key _ (sym c.has_entry.ensures ∙ c.if-not-has_entry.false)
    (c.in_ok-read_at.ensures.bytes observed
    ∙ ap (λ (cell : Cell). bytes_of (entry_at (chain_in (chains_of c.args.store.now.entries) cell) c.args.key.epoch)) c.cell.ensures)

use Rattle.server_store.specs.Holdings.{kept_in}
use Rattle.server_store.specs.Opening.{kept_found}
use Rattle.server_store.proofs.Opening.{both_kept, not_kept}
use Rattle.server_store.proofs.store.Store.keeps.Goals as goal

pub returns-then-keeps_tables : goal.returns-then-keeps_tables
returns-then-keeps_tables g c =
    both_kept (kept_in c.args.self.now) (kept_found c.args.found.now) c.keeps_rest.result (c.keeps_tables.ensures.0 c.if-keeps_tables.true) c.keeps_rest.ensures

pub returns-else-keeps_tables : goal.returns-else-keeps_tables
returns-else-keeps_tables g c =
    not_kept (kept_in c.args.self.now) (kept_found c.args.found.now) c.keeps_tables.result c.keeps_tables.ensures c.if-keeps_tables.false

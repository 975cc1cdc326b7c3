use Rattle.std.proofs.Common.{◌<◌, arith}
use Rattle.std.specs.BTreeMap.{is_at}
use Rattle.petal_base.specs.Limits.{client_limit}
use Rattle.client_rows.specs.Rows.{row_cmp}
use Rattle.client_rows.proofs.Searches.{dropped_all, dropped_none, removed_all}
use Rattle.client_rows.proofs.rows.+drop_from.Goals as goal

pub returns-then-client-eq-OPERATOR-clause-rows : goal.returns-then-client-eq-OPERATOR-clause-rows
returns-then-client-eq-OPERATOR-clause-rows t c = λ sorted all.
    dropped_none c.args.map c.args.link c.args.client c.args.rows.now.items (omega (arith, c.if-client-eq-OPERATOR.true)) all

pub returns-clause-rows : goal.returns-clause-rows
returns-clause-rows t c = λ sorted all.
    let removed = rw c.row.ensures at c.take_out.ensures.items in
    dropped_all c.args.map c.args.link c.args.client c.args.rows.now.items c.take_out.new.self.items c.drop_from.new.rows.items sorted removed
    (c.drop_from.ensures.rows c.take_out.ensures.sorted
    (removed_all (λ row. row.client < client_limit) (is_at (row_cmp c.row.result)) c.args.rows.now.items c.take_out.new.self.items
    c.take_out.ensures.items all))

pub returns-clause-clients : goal.returns-clause-clients
returns-clause-clients t c = λ all.
    c.drop_from.ensures.clients
    (removed_all (λ row. row.client < client_limit) (is_at (row_cmp c.row.result)) c.args.rows.now.items c.take_out.new.self.items
    c.take_out.ensures.items all)

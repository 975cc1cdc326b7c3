-- Two rows compare as equal exactly where they are equal.
use Rattle.std.proofs.Common.{sym, ap, ◌∙◌, true≢false}
use Rattle.spec_paxos.specs.declared.record.Row.{Row}
use Rattle.spec_paxos.specs.contracts.record.RowPartialEq.TheImpl as rows
use Rattle.state_store.proofs.Equal.{row_is, row_itself}
use Rattle.state_store.proofs.same.is_same_row.Goals as goal

pub returns-clause-same : goal.returns-clause-same
returns-clause-same c is = row_is _ _ (sym c.eq.ensures ∙ is)

pub returns-clause-apart : goal.returns-clause-apart
returns-clause-apart c apart is =
    let equal = c.eq.ensures ∙ ap (λ (other : Row). rows.ghosts.eq c.args.a.now other) (sym is) ∙ row_itself c.args.a.now in
    absurd (true≢false (sym equal ∙ apart))

use Rattle.std.proofs.Common.{◌≡◌, ◌+◌, ◌++◌, suc, List, length, ap, ◌∙◌, arith}
use Rattle.global_tables.specs.declared.link.LinkRow.{LinkRow}
use Rattle.global_tables.specs.declared.link.LinkState.TheVariants.{Both}
use Rattle.spec_rules.specs.Copies.{page_for}
use Rattle.spec_rules.specs.Server.{Post, letters_of, sender}
use Rattle.spec_rules.specs.State.{other_in}
use Rattle.pair_memory.specs.PairMemory.{own_of}
use Rattle.pair_memory.proofs.Looks.{letters_more}
use Rattle.copy_recovery.proofs.again.pages_after.Goals as goal

abbrev no_row : LinkRow
no_row = record { map = 0; link = 0; primary = 0; secondary = 0; state = Both }

pub loop-row-preserved : goal.loop-row-preserved
loop-row-preserved g c =
    let here = c.args.here.now in
    let own = own_of c.args.side.now c.args.store.now in
    let f : LinkRow → List Post = λ row. page_for here.state own row (other_in here.state here.me row) in
    let at = c.loop-row.row-index in
    let rows = c.links-row-items.result.now in
    let is : at + 1 ≡ suc at = omega arith in
    let sent = c.page_awaited-found.ensures in
    record {
      letters = letters_more (sender here) f c.args.before rows at (at + 1) no_row is c.loop-row-test.true c.loop-row.letters c.in_ok-letters.letters
          c.loop-row.invariant.letters
          (c.in_ok-letters.ensures ∙ ap (λ (ps : List Post). c.loop-row.letters ++ letters_of (sender here) (length c.loop-row.letters) ps) sent);
    }

use Rattle.std.proofs.Common.{◌≡◌, ◌+◌, ◌++◌, suc, List, Option, get_or, length, ap, ◌∙◌, arith}
use Rattle.global_tables.specs.declared.link.LinkRow.{LinkRow}
use Rattle.global_tables.specs.declared.link.LinkState.TheVariants.{Both}
use Rattle.petal_base.specs.declared.cell.Key.{Key}
use Rattle.spec_rules.specs.Fills.{fill_of, fills_row, sends_key}
use Rattle.spec_rules.specs.Server.{PairState, Post, letters_of, sender}
use Rattle.server_store.specs.Holdings.{Holdings}
use Rattle.pair_memory.specs.PairMemory.{own_of}
use Rattle.pair_memory.proofs.Looks.{letters_more, seen_then}
use Rattle.redistribute.proofs.letters.fills_after.Goals as goal

abbrev no_row : LinkRow
no_row = record { map = 0; link = 0; primary = 0; secondary = 0; state = Both }

pub loop-row-preserved : goal.loop-row-preserved
loop-row-preserved g c =
    let law = g.met.D.Disk g.world.𝓛 g.world.𝓜 g.world.𝓡 ((λ s x. x), (λ x. x), (λ x. x), λ x. x) in
    let here = c.args.here.now in
    let side = c.args.side.now in
    let first = c.args.store.now in
    let f : LinkRow → List Post = fills_row here (own_of side first) in
    let at = c.loop-row.row-index in
    let rows = c.links-row-items.result.now in
    let is : at + 1 ≡ suc at = omega arith in
    let seen = c.loop-row.invariant.seen in
    let same : own_of side c.loop-row.store ≡ own_of side first = ap (λ (s : Holdings _). own_of side s) seen.same in
    let letter = λ (observed : g.D.Disk.observable).
    c.in_ok-found.ensures.letter observed side
    ∙ ap (λ (k : Option Key). sends_key here.state (own_of side c.loop-row.store) k) c.fill_of-key.ensures
    ∙ ap (λ (own : PairState). sends_key here.state own (fill_of here.state here.me (get_or rows at no_row) own)) same in
    record {
      seen = seen_then g.D.Disk law.stays law.goes_on first c.loop-row.store c.fill_letter.new.store c.fill_letter.result seen c.fill_letter.ensures.look;
      letters = λ observed.
          letters_more (sender here) f _ rows at (at + 1) no_row is c.loop-row-test.true c.loop-row.letters c.in_ok-letters.letters
          (c.loop-row.invariant.letters observed)
          (c.in_ok-letters.ensures ∙ ap (λ (ps : List Post). c.loop-row.letters ++ letters_of (sender here) (length c.loop-row.letters) ps) (letter observed));
    }
